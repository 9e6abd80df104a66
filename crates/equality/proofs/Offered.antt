-- "Valid tables in our limits" of tables that are offered as bytes: what the refusals 1, 2 and 13 let pass meets each clause of the domain that says so.
-- Assumes nothing.
use mathlib.Core.Path.{◌≡◌, refl, sym, ◌∙◌, ap, subst}
use mathlib.Core.Logic.{◌≢◌, ◌⊎◌, inl, inr}
use mathlib.Core.Bool.{Bool, true, false, cond, not, ◌&&◌, ◌||◌}
use mathlib.Core.Option.{none, some}
use mathlib.Core.List.Memᴰ
use mathlib.Core.List.{List, Memᴰ}
use Prim.Native.Nat.{ℕ, zero, suc, ◌+◌, ◌*◌, ◌/◌, ◌≤◌, ◌<◌}
use native.Mathlib.Nat.{min-le_right}
use native.Mathlib.Omega.{arith}
use native.Mathlib.Decide.{dec_lt}
use lib.Dec.{eqb}
use lib.ListN.{length, get_or-eq_default}
use borrow.Author.Tests.{eq-eqb}
use Rattle.rules.specs.declared.Table.TheVariants.{Functions, Maps, Symbols, Instructions}
use Rattle.rules.specs.Link.{run}
use Rattle.rules.specs.Bytes.{Order, little, u32_at, byte_at, Fits, half32}
use Rattle.rules.specs.Tables.{Symbol, Function, Relocation, MapRow, Tables, no_function, row_of, base, RowsRise}
use Rattle.rules.specs.Maps.{symbol_of}
use Rattle.rules.specs.Rows.{row_size, most_function_slots, whole_rows, none_number, any_from, same_map, map_symbol, map_fd, map_section, symbol_row, map_row, or_none, total, Offered, tables_of, map_step_refusal, link_refusal}
use Rattle.rules.specs.Lookups.{Sound, RisingPair, Checked}
use Rattle.rules.specs.Entries.{Outputs, room_in}
use Rattle.rules.proofs.Rounds.{u32_below}
use Rattle.rules.proofs.Writing.{decoded_length}
use Rattle.rules.proofs.Passed.{good_symbol, good_function, functions_rise, rows_rise, good_map}
use Rattle.rules.proofs.Refusing.{map_checked, root_is_row}
use Rattle.rules.proofs.Reading.{rows_are, row_is, base_is}
use Rattle.equality.specs.Domain.{2⁴⁸, Limits, RoomLimits, Once}
use Rattle.equality.specs.Demand2.{Valid}
use Rattle.equality.proofs.MapsCrate.{first_found}
use Rattle.equality.proofs.Valid.{signed_fits, decoded_plain, keys_differ, whole_table}

-- a member of a run is one of its rows
record InRun {A : Type 0} (f : ℕ → A) (x : A) (from n : ℕ) : Type 0 where
  row : ℕ
  low : from ≤ row
  high : row < from + n
  is : x ≡ f row

in_run : {A : Type 0} (f : ℕ → A) (x : A) (from n : ℕ) → Memᴰ x (run f from n) → InRun f x from n
in_run f x from zero m = absurd (Memᴰ.not-nil m)
in_run f x from (suc n) m = go (Memᴰ.cases_cons m) (λ m. in_run f x (suc from) n m)
  where
    go : (x ≡ f from) ⊎ Memᴰ x (run f (suc from) n) → (Memᴰ x (run f (suc from) n) → InRun f x (suc from) n) → InRun f x from (suc n)
    go (inl e) later = record { row = from; low = omega arith; high = omega arith; is = e }
    go (inr m) later =
        let k = later m in
        record { row = k.row; low = omega (arith, k.low); high = omega (arith, k.high); is = k.is }

-- no symbol of table 5 stands twice
none_passes : (test : ℕ → Bool) (from n : ℕ) → any_from test from n ≡ false → (j : ℕ) → from ≤ j → j < from + n → test j ≡ false
none_passes test from zero e j l m = absurd (omega arith)
none_passes test from (suc n) e j l m = go (test from) refl e (λ e k. none_passes test (suc from) n e j k (omega arith)) (dec_lt from j)
  where
    go : (b : Bool) → test from ≡ b → (b || any_from test (suc from) n) ≡ false → (any_from test (suc from) n ≡ false → suc from ≤ j → test j ≡ false)
        → Dec (from < j) → test j ≡ false
    go true f e later d = let z : ◌≡◌ {A = ℕ} 0 1 = cc in absurd (omega arith)
    go false f e later (yes k) = later e k
    go false f e later (no k) = let here : j ≡ from = omega arith in ap test here ∙ f

record IsSome (n s : ℕ) : Type 0 where
  is : n ≡ s
  is_some : eqb n none_number ≡ false

or_none_some : (n s : ℕ) → or_none n ≡ some s → IsSome n s
or_none_some n s e = go (eqb n none_number) refl e
  where
    go : (b : Bool) → eqb n none_number ≡ b → cond b none (some n) ≡ some s → IsSome n s
    go true f e = let z : ◌≡◌ {A = ℕ} 0 1 = cc in absurd (omega arith)
    go false f e = let same : n ≡ s = cc in record { is = same; is_some = f }

clash : (p q c : Bool) → p ≡ true → q ≡ false → (p && (not q || c)) ≡ false → ⊥
clash true false c e f g = let z : ◌≡◌ {A = ℕ} 0 1 = cc in omega arith
clash true true c e f g = let z : ◌≡◌ {A = ℕ} 0 1 = cc in omega arith
clash false q c e f g = let z : ◌≡◌ {A = ℕ} 0 1 = cc in omega arith

module _ (t : List ℕ) (sound : Sound Maps t) where
  apart : (j k s : ℕ) → j < k → k < whole_rows Maps t → or_none (map_symbol t j) ≡ some s → or_none (map_symbol t k) ≡ some s → ⊥
  apart j k s l m e f =
      let a = or_none_some (map_symbol t j) s e in
      let b = or_none_some (map_symbol t k) s f in
      clash (eqb (map_symbol t j) (map_symbol t k)) (eqb (map_symbol t k) none_number) (eqb (map_section t j) (map_section t k))
      (eq-eqb (map_symbol t j) (map_symbol t k) (a.is ∙ sym b.is)) b.is_some
      (none_passes (λ j. same_map t j k) 0 k (good_map t sound k m).single j (omega arith) (omega arith))

  once_run : (from n : ℕ) → from + n ≤ whole_rows Maps t → Once (run (map_row t) from n)
  once_run from zero l = tt
  once_run from (suc n) l = (λ x m s e. go x s (in_run (map_row t) x (suc from) n m) e, once_run (suc from) n (omega arith))
    where
      go : (x : MapRow) (s : ℕ) → InRun (map_row t) x (suc from) n → or_none (map_symbol t from) ≡ some s → x.symbol ≢ some s
      go x s k e = λ f. apart from k.row s (omega (arith, k.low)) (omega (arith, k.high)) e (ap (λ m. m.symbol) (sym k.is) ∙ f)

module _ (order : Order) (o : Offered) (passed : map_step_refusal o ≡ none) where
  abbrev tables : Tables
  tables = tables_of order o

  checked : Checked o
  checked = (map_checked o passed).tables

  rows : ℕ
  rows = whole_rows Functions o.functions

  -- a number that no row is has no function
  row_missing : (row : ℕ) → rows ≤ row → row_of tables row ≡ no_function
  unfolding rows
  row_missing row l = get_or-eq_default tables.functions no_function {n = row} (omega (arith, rows_are order o))

  by_row : (Good : Function → Type 0) → Good no_function → ((row : ℕ) → row < rows → Good (row_of tables row)) → (row : ℕ) → Good (row_of tables row)
  by_row Good blank good row = go (dec_lt row rows)
    where
      go : Dec (row < rows) → Good (row_of tables row)
      go (yes l) = good row l
      go (no n) = subst Good (sym (row_missing row (omega arith))) blank

  pub addresses_low : (row : ℕ) → (row_of tables row).address < 2⁴⁸
  unfolding rows
  addresses_low =
      by_row (λ f. f.address < 2⁴⁸) (omega arith)
      (λ row l. rw (row_is order o row l) (omega (arith, (good_function o.functions checked.functions row l).address)))

  pub offsets_low : (row : ℕ) → (row_of tables row).offset < 2⁴⁸
  unfolding rows
  offsets_low =
      by_row (λ f. f.offset < 2⁴⁸) (omega arith)
      (λ row l. rw (row_is order o row l) (omega (arith, (good_function o.functions checked.functions row l).offset)))

  pub slots_few : (row : ℕ) → (row_of tables row).slots ≤ most_function_slots
  unfolding rows
  slots_few =
      by_row (λ f. f.slots ≤ most_function_slots) (omega arith)
      (λ row l. rw (row_is order o row l) (omega (arith, (good_function o.functions checked.functions row l).slots_high)))

  pub symbols_low : (r : Relocation) (s : Symbol) → symbol_of tables r ≡ some s → s.address < 2⁴⁸
  unfolding tables_of
  symbols_low r s e = go (in_run (symbol_row o.symbols) s 0 (whole_rows Symbols o.symbols) (first_found (λ s. eqb s.index r.symbol) tables.symbols s e).0)
    where
      go : InRun (symbol_row o.symbols) s 0 (whole_rows Symbols o.symbols) → s.address < 2⁴⁸
      go k = subst (λ s. s.address < 2⁴⁸) (sym k.is) (omega (arith, (good_symbol o.symbols checked.symbols k.row (omega (arith, k.high))).address))

  pub offered_limits : ((k : ℕ) → byte_at o.instructions k < 256) → Limits tables
  unfolding tables_of
  offered_limits bytes = record {
    addresses = addresses_low;
    offsets = offsets_low;
    slots = slots_few;
    symbol_addresses = symbols_low;
    plain = decoded_plain order o.instructions bytes;
  }

  held : length tables.instructions ≡ base tables (length tables.functions)
  unfolding tables_of total
  held =
      decoded_length order o.instructions
      ∙ eighth (length o.instructions) (total Instructions o.functions) checked.instructions
      ∙ sym (ap (base tables) (rows_are order o) ∙ base_is order o (whole_rows Functions o.functions) (omega arith))
    where
      eighth : (n k : ℕ) → n ≡ 8 * k → n / 8 ≡ k
      eighth n k e = omega arith

  pub offered_whole : (row : ℕ) → base tables row + (row_of tables row).slots ≤ length tables.instructions
  offered_whole = whole_table tables (sym held)

  pub offered_rising : RowsRise tables.relocations
  unfolding tables_of
  offered_rising = rows_rise o.relocations checked.relocations

  pub offered_once : Once tables.maps
  unfolding tables_of
  offered_once = once_run o.maps (map_checked o passed).maps 0 (whole_rows Maps o.maps) (omega arith)

  pub offered_fds : ((k : ℕ) → byte_at o.maps k < 256) → (m : MapRow) → Memᴰ m tables.maps → Fits half32 m.fd
  unfolding tables_of map_fd
  offered_fds bytes m among = go (in_run (map_row o.maps) m 0 (whole_rows Maps o.maps) among)
    where
      fits : (k : ℕ) → Fits half32 (map_fd o.maps k)
      fits k = signed_fits (u32_at little o.maps (row_size Maps * k + 8)) (u32_below little o.maps bytes (row_size Maps * k + 8))

      go : InRun (map_row o.maps) m 0 (whole_rows Maps o.maps) → Fits half32 m.fd
      go k = subst (λ m. Fits half32 m.fd) (sym k.is) (fits k.row)

  pub offered_keys : (a b : ℕ) → a < length tables.functions → b < length tables.functions → (row_of tables a).home ≡ (row_of tables b).home
      → (row_of tables a).address ≡ (row_of tables b).address → a ≡ b
  unfolding RisingPair
  offered_keys =
      keys_differ tables (λ row l. near row (rw (rows_are order o) at l))
    where
      near : (row : ℕ) → suc row < whole_rows Functions o.functions
          → ((row_of tables row).home < (row_of tables (suc row)).home)
          ⊎ (((row_of tables row).home ≡ (row_of tables (suc row)).home) × ((row_of tables row).address < (row_of tables (suc row)).address))
      near row l =
          rw (row_is order o row (omega arith), row_is order o (suc row) l)
          (functions_rise o.functions checked.functions row (suc row) (omega arith) l)

pub offered_root : (order : Order) (o : Offered) (root : ℕ) → link_refusal o root ≡ none → root < length (tables_of order o).functions
offered_root order o root e = rw (rows_are order o) (root_is_row o root e)

-- the room that a link's outputs give is in our limits
pub offered_room : (lent : Outputs) → RoomLimits (room_in lent)
offered_room lent = record { room_slots = min-le_right _ _; room_functions = min-le_right _ _; room_lines = min-le_right _ _ }

pub offered_valid : (order : Order) (o : Offered) (lent : Outputs) (root : ℕ) → map_step_refusal o ≡ none → link_refusal o root ≡ none
    → ((k : ℕ) → byte_at o.instructions k < 256) → ((k : ℕ) → byte_at o.maps k < 256) → Valid (tables_of order o) (room_in lent) root
offered_valid order o lent root map_passes link_passes bytes map_bytes = record {
  limits = offered_limits order o map_passes bytes;
  room_limits = offered_room lent;
  whole = offered_whole order o map_passes;
  rising = offered_rising order o map_passes;
  once = offered_once order o map_passes;
  fds = offered_fds order o map_passes map_bytes;
  keys = offered_keys order o map_passes;
  root_row = offered_root order o root link_passes;
}
