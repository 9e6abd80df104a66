-- A function that the tables name is a row of table 3, so the link step over tables ends. And document 01's worked objects, from their bytes.
-- Assumes nothing.
use mathlib.Core.Bool.{Bool, true, false, cond, ◌&&◌}
use mathlib.Core.Option.{Option, none, some}
use mathlib.Core.List.{List, [], ◌∷◌}
use Prim.Native.Nat.{ℕ, suc, ◌+◌, ◌*◌, ◌<◌}
use native.Mathlib.Nat.{zero-add, add-suc, suc-add}
use native.Mathlib.Omega.{arith}
use lib.IntN.{ℤ, pos, ◌+ℤ◌}
use lib.Dec.{eqb}
use lib.ListN.{length}
use Rattle.rules.specs.Object.{Insn, is_call, Named, nothing, unclear}
use Rattle.rules.specs.Link.{State, Refusal, link}
use Rattle.rules.specs.Tables.{SymbolKind, other, text, section, Symbol, Function, Relocation, Tables, first, first_row, is_at, row_of, insn_of, row_at, function_at, relocation_at, is_code, slots_on, or_missing, by_symbol, by_symbol_row, by_relocation, object_of}
use Rattle.rules.proofs.Ending.{NamesRow, Finished, never_unfinished}

abbrev Below : ℕ → Option ℕ → Type 0
Below n none = Unit {0}
Below n (some row) = row < n

first_below : {A : Type 0} (test : A → Bool) (from : ℕ) (xs : List A) → Below (from + length xs) (first_row test from xs)
first_below test from [] = tt
first_below test from (x ∷ xs) = go (test x) (rw (suc-add from (length xs), ← (add-suc from (length xs))) at (first_below test (suc from) xs))
  where
    go : (b : Bool) → Below (from + suc (length xs)) (first_row test (suc from) xs) → Below (from + suc (length xs)) (cond b (some from) (first_row test (suc from) xs))
    go true later = omega arith
    go false later = later

names_or_missing : (n : ℕ) (o : Option ℕ) → Below n o → NamesRow n (or_missing o)
names_or_missing n none l = tt
names_or_missing n (some row) l = l

module _ (tables : Tables) where
  n : ℕ
  n = length tables.functions

  function_names : (home : ℕ) (address : ℤ) → NamesRow n (function_at tables home address)
  unfolding n
  function_names home address =
      names_or_missing n (row_at tables home address) (rw (zero-add n) at (first_below (λ f. eqb f.home home && is_at f.address address) 0 tables.functions))

  -- both branches of a test
  names_cond : (b : Bool) (x y : Named) → NamesRow n x → NamesRow n y → NamesRow n (cond b x y)
  names_cond true x y l r = l
  names_cond false x y l r = r

  symbol_names : (k : SymbolKind) (home : Option ℕ) (address size : ℕ) (immediate : ℤ) → NamesRow n (by_symbol tables k home address size immediate)
  symbol_names text none address size immediate = tt
  symbol_names text (some home) address size immediate = function_names home (pos address)
  symbol_names section none address size immediate = tt
  symbol_names section (some home) address size immediate = names_cond (is_code tables home) by_size nothing sized tt
    where
      whole : Named
      whole = function_at tables home (pos address +ℤ immediate)

      rest : Named
      rest = cond (eqb size 64) whole (unclear 8)

      by_size : Named
      by_size = cond (eqb size 32) (function_at tables home (pos address +ℤ slots_on immediate)) rest

      sized : NamesRow n by_size
      sized =
          names_cond (eqb size 32) (function_at tables home (pos address +ℤ slots_on immediate)) rest
          (function_names home (pos address +ℤ slots_on immediate))
          (names_cond (eqb size 64) whole (unclear 8) (function_names home (pos address +ℤ immediate)) tt)
  symbol_names other none address size immediate = tt
  symbol_names other (some home) address size immediate = names_cond (is_code tables home) (unclear 8) nothing tt tt

  symbol_row_names : (s : Option Symbol) (size : ℕ) (immediate : ℤ) → NamesRow n (by_symbol_row tables s size immediate)
  symbol_row_names none size immediate = tt
  symbol_row_names (some s) size immediate = symbol_names s.kind s.home s.address size immediate

  relocation_names : (r : Option Relocation) (f : Function) (slot : ℕ) (i : Insn) → NamesRow n (by_relocation tables r f slot i)
  relocation_names none f slot i =
      let address = pos (f.offset + 8 * slot) +ℤ slots_on i.immediate in
      names_cond (is_call i) (function_at tables f.home address) nothing (function_names f.home address) tt
  relocation_names (some r) f slot i = symbol_row_names (first (λ s. eqb s.index r.symbol) tables.symbols) r.size i.immediate

  -- whatever a slot names is a row
  pub names_rows : (row slot : ℕ) → NamesRow (object_of tables).rows ((object_of tables).named row slot)
  unfolding object_of n
  names_rows row slot = relocation_names (relocation_at tables (row_of tables row) slot) (row_of tables row) slot (insn_of tables row slot)

  pub tables_finish : (admits : ℕ → State → Option Refusal) (rootRefusal : Option Refusal) (root : ℕ) → Finished (link (object_of tables) admits rootRefusal root)
  tables_finish admits rootRefusal root = never_unfinished (object_of tables) names_rows admits rootRefusal root
