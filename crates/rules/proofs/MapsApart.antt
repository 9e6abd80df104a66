-- No two relocations of valid tables have one slot of table 6, in whatever order a section's are tried.
-- Assumes nothing.
use mathlib.Core.Path.{◌≡◌, refl, ◌∙◌, ap}
use mathlib.Core.Logic.{◌≢◌, ◌⊎◌, inl, inr}
use mathlib.Core.Bool.{Bool, true, false, cond, ◌&&◌}
use mathlib.Core.List.Memᴰ
use mathlib.Core.List.{List, [], ◌∷◌, ◌++◌, map, Memᴰ}
use Prim.Native.Nat.{ℕ, zero, suc, ◌+◌, ◌*◌, ◌-◌, ◌%◌, ◌≤◌, ◌<◌}
use native.Mathlib.Nat.{add-suc, add-zero}
use native.Mathlib.Omega.{arith}
use lib.Dec.{eqb, ltb, leb}
use lib.ListN.{get_or}
use borrow.Author.Tests.{eqb-true, ltb-true, leb-true}
use Rattle.rules.specs.Tables.{Function, Relocation, Tables, Earlier, RowsRise, no_function, before, row_of, base}
use Rattle.rules.specs.Maps.{Task, task, only, task_slot, tasks, place}
use Rattle.rules.proofs.MapsInPlace.{Live, Apart}

-- the rows' parts of table 6 stand one after another
before_suc : (row : ℕ) (fs : List Function) → before (λ f. f.slots) (suc row) fs ≡ before (λ f. f.slots) row fs + (get_or fs row no_function).slots
before_suc zero [] = refl
before_suc zero (f ∷ fs) = omega arith
before_suc (suc row) [] = refl
before_suc (suc row) (f ∷ fs) = omega (arith, before_suc row fs)

module _ (tables : Tables) where
  pub base_suc : (row : ℕ) → base tables (suc row) ≡ base tables row + (row_of tables row).slots
  base_suc row = before_suc row tables.functions

  base_far : (row d : ℕ) → base tables row + (row_of tables row).slots ≤ base tables (suc row + d)
  base_far row zero = rw (add-zero (suc row), base_suc row) (omega arith)
  base_far row (suc d) = rw (add-suc (suc row) d, base_suc (suc row + d)) (omega (arith, base_far row d))

  pub base_past : (row row' : ℕ) → row < row' → base tables row + (row_of tables row).slots ≤ base tables row'
  base_past row row' l =
      let e : suc row + (row' - suc row) ≡ row' = omega arith in
      rw e at (base_far row (row' - suc row))

  -- a live relocation's slot, and its offset back from that
  pub record Spot (t : Task) : Type 0 where
    pub slot_below : task_slot tables t < (row_of tables t.row).slots
    pub offset_is : t.relocation.offset ≡ (row_of tables t.row).offset + 8 * task_slot tables t

  pub live_spot : (t : Task) → Live tables t → Spot t
  live_spot t live = go (leb (row_of tables t.row).offset t.relocation.offset) (ltb t.relocation.offset ((row_of tables t.row).offset + 8 * (row_of tables t.row).slots)) refl refl live.in_bytes
    where
      go : (a b : Bool) → leb (row_of tables t.row).offset t.relocation.offset ≡ a
          → ltb t.relocation.offset ((row_of tables t.row).offset + 8 * (row_of tables t.row).slots) ≡ b → (a && b) ≡ true → Spot t
      go true true p q e =
          let low = leb-true (row_of tables t.row).offset t.relocation.offset p in
          let high = ltb-true t.relocation.offset ((row_of tables t.row).offset + 8 * (row_of tables t.row).slots) q in
          let grid : (t.relocation.offset - (row_of tables t.row).offset) % 8 ≡ 0 = eqb-true ((t.relocation.offset - (row_of tables t.row).offset) % 8) 0 live.on_the_grid in
          record { slot_below = omega arith; offset_is = omega arith }
      go true false p q e = let z : ◌≡◌ {A = ℕ} 0 1 = cc in absurd (omega arith)
      go false b p q e = let z : ◌≡◌ {A = ℕ} 0 1 = cc in absurd (omega arith)

-- offsets of one section
abbrev pub Distinct : List Relocation → Type 0
Distinct [] = Unit {0}
Distinct (r ∷ rs) = ((q : Relocation) → Memᴰ q rs → r.offset ≢ q.offset) × Distinct rs

pub record Found {A : Type 0} (test : A → Bool) (x : A) (xs : List A) : Type 0 where
  pub among : Memᴰ x xs
  pub passes : test x ≡ true

pub only_found : {A : Type 0} (test : A → Bool) (x : A) (xs : List A) → Memᴰ x (only test xs) → Found test x xs
only_found test x [] m = absurd (Memᴰ.not-nil m)
only_found test x (y ∷ ys) m = go (test y) refl m (λ m. only_found test x ys m)
  where
    later : Found test x ys → Found test x (y ∷ ys)
    later f = record { among = Memᴰ.tail f.among; passes = f.passes }

    go : (b : Bool) → test y ≡ b → Memᴰ x (cond b (y ∷ only test ys) (only test ys)) → (Memᴰ x (only test ys) → Found test x ys) → Found test x (y ∷ ys)
    go true e m rest = either (Memᴰ.cases_cons m)
      where
        either : (x ≡ y) ⊎ Memᴰ x (only test ys) → Found test x (y ∷ ys)
        either (inl same) = record { among = Memᴰ.head same; passes = ap test same ∙ e }
        either (inr m) = later (rest m)
    go false e m rest = later (rest m)

pub rising_distinct : (home : ℕ) (rs : List Relocation) → RowsRise rs → Distinct (only (λ r. eqb r.home home) rs)
rising_distinct home [] rising = tt
rising_distinct home (r ∷ rs) rising = go (eqb r.home home) refl (rising_distinct home rs rising.1)
  where
    apart : r.home ≡ home → (q : Relocation) → q.home ≡ home → Earlier r q → r.offset ≢ q.offset
    apart h q h' (inl less) e = omega arith
    apart h q h' (inr same) e = omega arith

    go : (b : Bool) → eqb r.home home ≡ b → Distinct (only (λ r. eqb r.home home) rs)
        → Distinct (cond b (r ∷ only (λ r. eqb r.home home) rs) (only (λ r. eqb r.home home) rs))
    go true e rest = (
      λ q m. let f = only_found (λ r. eqb r.home home) q rs m in
          apart (eqb-true r.home home e) q (eqb-true q.home home f.passes) (rising.0 q f.among),
      rest,
    )
    go false e rest = rest

-- tasks of one function, and of all
pub record Mapped {A B : Type 0} (f : A → B) (y : B) (xs : List A) : Type 0 where
  pub of : A
  pub among : Memᴰ of xs
  pub is : y ≡ f of

pub map_member : {A B : Type 0} (f : A → B) (y : B) (xs : List A) → Memᴰ y (map f xs) → Mapped f y xs
map_member f y [] m = absurd (Memᴰ.not-nil m)
map_member f y (x ∷ xs) m = go (Memᴰ.cases_cons m) (λ m. map_member f y xs m)
  where
    go : (y ≡ f x) ⊎ Memᴰ y (map f xs) → (Memᴰ y (map f xs) → Mapped f y xs) → Mapped f y (x ∷ xs)
    go (inl e) later = record { of = x; among = Memᴰ.head refl; is = e }
    go (inr m) later = let k = later m in record { of = k.of; among = Memᴰ.tail k.among; is = k.is }

module _ (tables : Tables) where
  apart_row : (row : ℕ) (rs : List Relocation) → Distinct rs → Apart tables (map (task row) rs)
  apart_row row [] d = tt
  apart_row row (r ∷ rs) d = (λ u m live live' same. clash u (map_member (task row) u rs m) live live' same, apart_row row rs d.1)
    where
      clash : (u : Task) → Mapped (task row) u rs → Live tables (task row r) → Live tables u → place tables (task row r) ≡ place tables u → ⊥
      clash u k live live' same =
          let a = live_spot tables (task row r) live in
          let b = live_spot tables (task row k.of) (rw k.is at live') in
          let same' : place tables (task row r) ≡ place tables (task row k.of) = same ∙ ap (place tables) k.is in
          d.0 k.of k.among (omega arith)

  apart_append : (xs ys : List Task) → Apart tables xs → Apart tables ys
      → ((t u : Task) → Memᴰ t xs → Memᴰ u ys → Live tables t → Live tables u → place tables t ≢ place tables u) → Apart tables (xs ++ ys)
  apart_append [] ys a b cross = b
  apart_append (t ∷ xs) ys a b cross =
      (λ u m live live'. either u live live' (Memᴰ.append_cases xs m), apart_append xs ys a.1 b (λ t u m m'. cross t u (Memᴰ.tail m) m'))
    where
      either : (u : Task) → Live tables t → Live tables u → Memᴰ u xs ⊎ Memᴰ u ys → place tables t ≢ place tables u
      either u live live' (inl m) = a.0 u m live live'
      either u live live' (inr m) = cross t u (Memᴰ.head refl) m live live'

  -- the rows of tasks
  pub task_rows : (rels : ℕ → List Relocation) (from count : ℕ) (u : Task) → Memᴰ u (tasks tables (λ row. map (task row) (rels row)) from count)
      → (from ≤ u.row) × (u.row < from + count)
  task_rows rels from zero u m = absurd (Memᴰ.not-nil m)
  task_rows rels from (suc count) u m = go (Memᴰ.append_cases (map (task from) (rels from)) m) (λ m. task_rows rels (suc from) count u m)
    where
      go : Memᴰ u (map (task from) (rels from)) ⊎ Memᴰ u (tasks tables (λ row. map (task row) (rels row)) (suc from) count)
          → (Memᴰ u (tasks tables (λ row. map (task row) (rels row)) (suc from) count) → (suc from ≤ u.row) × (u.row < suc from + count))
          → (from ≤ u.row) × (u.row < from + suc count)
      go (inl m) later =
          let k = map_member (task from) u (rels from) m in
          let e : u.row ≡ from = ap (λ t. t.row) k.is in
          (omega arith, omega arith)
      go (inr m) later = let b = later m in (omega arith, omega arith)

  pub apart_all : (rels : ℕ → List Relocation) → ((row : ℕ) → Distinct (rels row)) → (from count : ℕ) → Apart tables (tasks tables (λ row. map (task row) (rels row)) from count)
  apart_all rels d from zero = tt
  apart_all rels d from (suc count) =
      apart_append (map (task from) (rels from)) (tasks tables (λ row. map (task row) (rels row)) (suc from) count) (apart_row from (rels from) (d from))
      (apart_all rels d (suc from) count)
      (λ t u m m' live live' same. clash t u (ap (λ t. t.row) (map_member (task from) t (rels from) m).is) (task_rows rels (suc from) count u m').0 (live_spot tables t live) (live_spot tables u live') same)
    where
      clash : (t u : Task) → t.row ≡ from → suc from ≤ u.row → Spot tables t → Spot tables u → place tables t ≡ place tables u → ⊥
      clash t u e l a b same = omega (arith, base_past tables t.row u.row (omega arith), a.slot_below, same)
