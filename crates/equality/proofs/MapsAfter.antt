-- What the map step leaves: plain slots, and known symbols for the link.
-- Assumes nothing.
use mathlib.Core.Path.{◌≡◌, refl, sym, ◌∙◌, ap, subst}
use mathlib.Core.Logic.{◌≢◌, ◌⊎◌, inl, inr}
use mathlib.Core.Bool.{Bool, true, false, cond, ◌&&◌, ◌||◌}
use mathlib.Core.Option.{Option, none, some}
use mathlib.Core.List.Memᴰ
use mathlib.Core.List.{List, [], ◌∷◌, Memᴰ}
use Prim.Native.Nat.{ℕ, zero, suc, ◌+◌, ◌*◌, ◌-◌, ◌%◌, ◌≤◌, ◌<◌}
use native.Mathlib.Nat.{zero-add, eq-or-lt_of_le}
use native.Mathlib.Omega.{arith}
use native.Mathlib.Decide.{dec_lt}
use lib.IntN.{ℤ, pos, ◌+ℤ◌}
use lib.Dec.{eqb}
use lib.ListN.{length, get_or-eq_default}
use borrow.Author.Tests.{eqb-true, eq-eqb, le-leb, lt-ltb}
use Rattle.rules.specs.Object.{Insn, is_call}
use Rattle.rules.specs.Faithful.{slot_at}
use Rattle.rules.specs.Bytes.{Fits, half32, with_immediate, with_source}
use Rattle.rules.specs.Tables.{SymbolKind, other, text, section, Symbol, Relocation, MapRow, Tables, no_function, first, row_of, is_code, relocation_at}
use Rattle.rules.specs.Maps.{Task, task, Change, change, Verdict, skipped, refused, applies, only, is_symbol, has_none, fits32, inside, on_grid, or_else, map_for, by_data, by_map, by_kind, by_home, by_symbol, slot_in, is_wide, symbol_of, task_slot, judge, tasks_of, tasks, all_tasks, first_refusal, at, changed, place, rewrite, rewrite_all}
use Rattle.equality.specs.Domain.{Plain, Limits, with_instructions}
use Rattle.rules.proofs.MapsInPlace.{at_keeps}
use Rattle.equality.proofs.MapsCrate.{first_found, fits_true}
use Rattle.equality.proofs.MapsAgree.{none_refused, map_in}

-- an i32 is stored
pub record Stores (c : Change) : Type 0 where
  pub fd_fits : Fits half32 c.fd
  pub value_fits : (v : ℤ) → c.value ≡ some v → Fits half32 v

module _ (tables : Tables) (fds : (m : MapRow) → Memᴰ m tables.maps → Fits half32 m.fd) where
  abbrev Good : Verdict → Type 0
  Good skipped = Unit {0}
  Good (refused n) = Unit {0}
  Good (applies c) = Stores c

  data_good : (d : Bool) (fd sum : ℤ) → Fits half32 fd → Good (by_data tables d fd sum)
  data_good false fd sum f = record { fd_fits = f; value_fits = λ v e. let z : ◌≡◌ {A = ℕ} 0 1 = cc in absurd (omega arith) }
  data_good true fd sum f = go (fits32 sum) refl
    where
      go : (b : Bool) → fits32 sum ≡ b → Good (cond b (applies (change fd (some sum))) (refused 7))
      go true e = record { fd_fits = f; value_fits = λ v s. let same : sum ≡ v = cc in subst (Fits half32) same (fits_true sum e) }
      go false e = tt

  map_good : (o : Option MapRow) (w : Bool) (sum : ℤ) → ((m : MapRow) → o ≡ some m → Fits half32 m.fd) → Good (by_map tables o w sum)
  map_good none w sum f = tt
  map_good (some m) true sum f = data_good m.has_data m.fd sum (f m refl)
  map_good (some m) false sum f = tt

  kind_good : (k : SymbolKind) (o : Option MapRow) (w : Bool) (sum : ℤ) → ((m : MapRow) → o ≡ some m → Fits half32 m.fd) → Good (by_kind tables k o w sum)
  kind_good text o w sum f = tt
  kind_good other o w sum f = map_good o w sum f
  kind_good section o w sum f = map_good o w sum f

  found_fits : (symbol home : ℕ) (m : MapRow) → map_for tables symbol home ≡ some m → Fits half32 m.fd
  found_fits symbol home m e = go (first (λ m. is_symbol symbol m.symbol) tables.maps) refl e
    where
      go : (o : Option MapRow) → first (λ m. is_symbol symbol m.symbol) tables.maps ≡ o
          → or_else o (first (λ m. eqb m.home home && has_none m.symbol) tables.maps) ≡ some m → Fits half32 m.fd
      go (some x) f e = fds m (first_found (λ m. is_symbol symbol m.symbol) tables.maps m (f ∙ e)).0
      go none f e = fds m (first_found (λ m. eqb m.home home && has_none m.symbol) tables.maps m e).0

  home_good : (o : Option ℕ) (s : Symbol) (symbol : ℕ) (i : Insn) (w : Bool) → Good (by_home tables o s symbol i w)
  home_good none s symbol i w = tt
  home_good (some home) s symbol i w = go (is_call i || is_code tables home)
    where
      go : (b : Bool) → Good (cond b skipped (by_kind tables s.kind (map_for tables symbol home) w (i.immediate +ℤ pos s.address)))
      go true = tt
      go false = kind_good s.kind (map_for tables symbol home) w (i.immediate +ℤ pos s.address) (λ m e. found_fits symbol home m e)

  symbol_good : (o : Option Symbol) (symbol : ℕ) (i : Insn) (w : Bool) → Good (by_symbol tables o symbol i w)
  symbol_good none symbol i w = tt
  symbol_good (some s) symbol i w = home_good s.home s symbol i w

  judge_good : (image : List Insn) (t : Task) → Good (judge tables image t)
  unfolding judge
  judge_good image t = go (inside (row_of tables t.row) t.relocation) (on_grid (row_of tables t.row) t.relocation)
    where
      go : (a b : Bool) → Good (cond a (cond b (by_symbol tables (symbol_of tables t.relocation) t.relocation.symbol (slot_in tables image t.row (task_slot tables t))
          (is_wide tables image t.row (task_slot tables t))) (refused 4)) skipped)
      go true true = symbol_good (symbol_of tables t.relocation) t.relocation.symbol (slot_in tables image t.row (task_slot tables t)) (is_wide tables image t.row (task_slot tables t))
      go true false = tt
      go false b = tt

  -- what a new immediate and a new source register keep, the map step keeps
  module _ (Kept : Insn → Type 0) (by-immediate : (z : ℤ) → Fits half32 z → (i : Insn) → Kept i → Kept (with_immediate z i))
      (by-source : (n : ℕ) → n < 16 → (i : Insn) → Kept i → Kept (with_source n i)) where
    changed_kept : (here : ℕ) (fd : ℤ) (v : Option ℤ) (image : List Insn) → Stores (change fd v) → ((k : ℕ) → Kept (slot_at image k)) → (k : ℕ) → Kept (slot_at (changed here fd v image) k)
    changed_kept here fd none image st p k =
        at_keeps (λ k i. Kept i) here k (with_immediate fd) (at here (with_source 1) image) (by-immediate fd st.fd_fits)
        (at_keeps (λ k i. Kept i) here k (with_source 1) image (by-source 1 (omega arith)) (p k))
    changed_kept here fd (some v) image st p k =
        at_keeps (λ k i. Kept i) here k (with_immediate fd) (at (suc here) (with_immediate v) (at here (with_source 2) image)) (by-immediate fd st.fd_fits)
        (at_keeps (λ k i. Kept i) (suc here) k (with_immediate v) (at here (with_source 2) image) (by-immediate v (st.value_fits v refl))
        (at_keeps (λ k i. Kept i) here k (with_source 2) image (by-source 2 (omega arith)) (p k)))

    rewrite_kept : (v : Verdict) → Good v → (t : Task) (now : List Insn) → ((k : ℕ) → Kept (slot_at now k)) → (k : ℕ) → Kept (slot_at (rewrite tables v t now) k)
    rewrite_kept skipped g t now p = p
    rewrite_kept (refused n) g t now p = p
    rewrite_kept (applies c) g t now p = changed_kept (place tables t) c.fd c.value now g p

    pub all_kept : (orig : List Insn) (ts : List Task) (now : List Insn) → ((k : ℕ) → Kept (slot_at now k)) → (k : ℕ) → Kept (slot_at (rewrite_all tables orig ts now) k)
    unfolding rewrite_all
    all_kept orig [] now p = p
    all_kept orig (t ∷ ts) now p = all_kept orig ts (rewrite tables (judge tables orig t) t now) (rewrite_kept (judge tables orig t) (judge_good orig t) t now p)

  pub all_plain : (orig : List Insn) (ts : List Task) (now : List Insn) → ((k : ℕ) → Plain (slot_at now k)) → (k : ℕ) → Plain (slot_at (rewrite_all tables orig ts now) k)
  all_plain = all_kept Plain (λ z f i p. record { byte = p.byte; fits = f }) (λ n l i p. record { byte = p.byte; fits = p.fits })

pub limits_after : (tables : Tables) (image : List Insn) → Limits tables → ((k : ℕ) → Plain (slot_at image k)) → Limits (with_instructions tables image)
limits_after tables image l p = record { addresses = l.addresses; offsets = l.offsets; slots = l.slots; symbol_addresses = l.symbol_addresses; plain = p }

-- a relocation of a slot is a task
only_in : {A : Type 0} (test : A → Bool) (x : A) (xs : List A) → Memᴰ x xs → test x ≡ true → Memᴰ x (only test xs)
only_in test x [] m e = m
only_in test x (y ∷ ys) m e = go (test y) refl (Memᴰ.cases_cons m) (λ m. only_in test x ys m e)
  where
    go : (b : Bool) → test y ≡ b → (x ≡ y) ⊎ Memᴰ x ys → (Memᴰ x ys → Memᴰ x (only test ys)) → Memᴰ x (cond b (y ∷ only test ys) (only test ys))
    go true t (inl same) later = Memᴰ.head same
    go true t (inr m) later = Memᴰ.tail (later m)
    go false t (inl same) later = let z : ◌≡◌ {A = Bool} true false = sym e ∙ ap test same ∙ t in let y : ◌≡◌ {A = ℕ} 0 1 = cc in absurd (omega arith)
    go false t (inr m) later = later m

module _ (tables : Tables) where
  tasks_in : (from count row : ℕ) (t : Task) → from ≤ row → row < from + count → Memᴰ t (tasks_of tables row) → Memᴰ t (tasks tables (tasks_of tables) from count)
  tasks_in from zero row t l h m = absurd (omega arith)
  tasks_in from (suc count) row t l h m = go (eq-or-lt_of_le l) (λ l. tasks_in (suc from) count row t l (omega arith) m)
    where
      go : (from ≡ row) ⊎ (from < row) → (from < row → Memᴰ t (tasks tables (tasks_of tables) (suc from) count)) → Memᴰ t (tasks tables (tasks_of tables) from (suc count))
      go (inl same) later = Memᴰ.append_left {s = tasks_of tables from} (tasks tables (tasks_of tables) (suc from) count) (subst (λ x. Memᴰ t (tasks_of tables x)) (sym same) m)
      go (inr less) later = Memᴰ.append_right (tasks_of tables from) (later less)

  pub known_after_maps : (image : List Insn) → first_refusal tables image (all_tasks tables) ≡ none → (row slot : ℕ) (r : Relocation) → slot < (row_of tables row).slots
      → relocation_at tables (row_of tables row) slot ≡ some r → symbol_of tables r ≢ none
  unfolding judge
  known_after_maps image fine row slot r l at no_symbol =
      let f = first_found (λ r. eqb r.home (row_of tables row).home && eqb r.offset ((row_of tables row).offset + 8 * slot)) tables.relocations r at in
      let b = both (eqb r.home (row_of tables row).home) (eqb r.offset ((row_of tables row).offset + 8 * slot)) f.1 in
      none_refused tables image (all_tasks tables) fine (task row r)
      (tasks_in 0 (length tables.functions) row (task row r) (omega arith) (rw (zero-add (length tables.functions)) (a_row (dec_lt row (length tables.functions))))
      (map_in (task row) r (only (λ r. eqb r.home (row_of tables row).home) tables.relocations) (only_in (λ r. eqb r.home (row_of tables row).home) r tables.relocations f.0 b.0)))
      3 (refused_3 (eqb-true r.offset ((row_of tables row).offset + 8 * slot) b.1))
    where
      both : (a b : Bool) → (a && b) ≡ true → (a ≡ true) × (b ≡ true)
      both true b e = (refl, e)
      both false b e = let z : ◌≡◌ {A = ℕ} 0 1 = cc in absurd (omega arith)

      a_row : Dec (row < length tables.functions) → row < length tables.functions
      a_row (yes l) = l
      a_row (no n) = absurd (omega (arith, ap (λ f. f.slots) (get_or-eq_default tables.functions no_function {n = row} (omega arith))))

      refused_3 : r.offset ≡ (row_of tables row).offset + 8 * slot → judge tables image (task row r) ≡ refused 3
      refused_3 e =
          let low : (row_of tables row).offset ≤ r.offset = omega arith in
          let high : r.offset < (row_of tables row).offset + 8 * (row_of tables row).slots = omega arith in
          let grid : (r.offset - (row_of tables row).offset) % 8 ≡ 0 = omega arith in
          rw (le-leb (row_of tables row).offset r.offset low, lt-ltb r.offset ((row_of tables row).offset + 8 * (row_of tables row).slots) high, eq-eqb ((r.offset - (row_of tables row).offset) % 8) 0 grid, no_symbol) refl
