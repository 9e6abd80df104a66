-- The first piece; the check that pieces tile, step by step as a loop takes it; that table 3 alone decides it; and what a list that
-- passes has.
-- Assumes nothing.
use mathlib.Core.Path.{◌≡◌, refl, sym, ap, ◌∙◌}
use mathlib.Core.Logic.{◌⊎◌, inl, inr}
use mathlib.Core.Bool.{Bool, true, false, cond, ◌&&◌}
use mathlib.Core.Option.{Option, none, some}
use mathlib.Core.List.{List, [], ◌∷◌}
use Prim.Native.Nat.{ℕ, zero, suc, ◌+◌, ◌-◌, ◌≤◌, ◌<◌}
use native.Mathlib.Nat.{eq-or-lt_of_le}
use native.Mathlib.Numerals.{add-one}
use native.Mathlib.Omega.{arith}
use borrow.Author.Tests.{eqb-true, eq-eqb, ne_eqb, ltb-true, lt-ltb, le-ltb}
use lib.Dec.{eqb, ltb}
use lib.ListN.{length}
use Rattle.rules.specs.declared.Table.TheVariants.{Functions}
use Rattle.rules.specs.Object.{Object}
use Rattle.rules.specs.Faithful.{Piece}
use Rattle.rules.specs.Link.{run}
use Rattle.rules.specs.Bytes.{little}
use Rattle.rules.specs.Answers.{Reply, reply}
use Rattle.rules.specs.Tables.{object_of}
use Rattle.rules.specs.Rows.{whole_rows, function_slots, Offered, or_else, tables_of}
use Rattle.rules.specs.Lookups.{Sound}
use Rattle.rules.specs.Pieces.{piece_size, piece_row, piece_start, piece_at, pieces_of}
use Rattle.rules.specs.Examine.{root_wrong, piece_wrong, tiles_wrong}
use Rattle.rules.proofs.Searches.{rising_near}
use Rattle.rules.proofs.Passed.{good_function}
use Rattle.rules.proofs.Reading.{rows_are, row_is}
use Rattle.pieces.specs.Tiling.{functions_only, listed, StartsRise}

abbrev object_in : Offered → Object
object_in o = object_of (tables_of little o)

-- ---- the first piece
module _ (root : ℕ) (bytes : List ℕ) where
  pub root_none : length bytes < piece_size → root_wrong root (pieces_of bytes) ≡ some (reply 35 0 0 0)
  unfolding root_wrong pieces_of
  root_none l =
      let e : listed bytes ≡ 0 = omega arith in
      ap (λ m. root_wrong root (run (piece_at bytes) 0 m)) e

  root_is : piece_size ≤ length bytes
      → root_wrong root (pieces_of bytes) ≡ cond (eqb (piece_row bytes 0) root && eqb (piece_start bytes 0) 0) none (some (reply 35 0 0 0))
  unfolding root_wrong pieces_of
  root_is l =
      let e : listed bytes ≡ suc (listed bytes - 1) = omega arith in
      ap (λ m. root_wrong root (run (piece_at bytes) 0 m)) e

  pub root_right : piece_size ≤ length bytes → (eqb (piece_row bytes 0) root && eqb (piece_start bytes 0) 0) ≡ true → root_wrong root (pieces_of bytes) ≡ none
  root_right l e = root_is l ∙ ap (λ b. cond b none (some (reply 35 0 0 0))) e

  pub root_other : piece_size ≤ length bytes → (eqb (piece_row bytes 0) root && eqb (piece_start bytes 0) 0) ≡ false → root_wrong root (pieces_of bytes) ≡ some (reply 35 0 0 0)
  root_other l e = root_is l ∙ ap (λ b. cond b none (some (reply 35 0 0 0))) e

-- ---- any other tables with this table 3 say the same
pub tiles_alike : (o : Offered) (end k at : ℕ) (ps : List Piece)
    → tiles_wrong (functions_only o.functions) end k at ps ≡ tiles_wrong (object_of (tables_of little o)) end k at ps
unfolding tiles_wrong piece_wrong object_of tables_of
tiles_alike o end k at [] = refl
tiles_alike o end k at (p ∷ ps) =
    ap (or_else (piece_wrong (object_in o) k at p)) (tiles_alike o end (suc k) (at + (object_in o).slots p.row) ps)

-- ---- one piece
module _ (object : Object) (k at : ℕ) (p : Piece) where
  piece_right : p.row < object.rows → p.start ≡ at → piece_wrong object k at p ≡ none
  unfolding piece_wrong
  piece_right l e = simp (lt-ltb p.row object.rows l, eq-eqb p.start at e)

  piece_unknown : object.rows ≤ p.row → piece_wrong object k at p ≡ some (reply 36 k p.row 0)
  unfolding piece_wrong
  piece_unknown l = simp (le-ltb p.row object.rows l)

  piece_elsewhere : p.row < object.rows → (p.start ≡ at → ⊥) → piece_wrong object k at p ≡ some (reply 37 k at 0)
  unfolding piece_wrong
  piece_elsewhere l n = simp (lt-ltb p.row object.rows l, ne_eqb p.start at n)

  -- and back
  record Right : Type 0 where
    known : p.row < object.rows
    there : p.start ≡ at

  right : piece_wrong object k at p ≡ none → Right
  unfolding piece_wrong
  right e = go (ltb p.row object.rows) (eqb p.start at) refl refl e
    where
      go : (b c : Bool) → ltb p.row object.rows ≡ b → eqb p.start at ≡ c
          → cond b (cond c none (some (reply 37 k at 0))) (some (reply 36 k p.row 0)) ≡ none → Right
      go true true s t e = record { known = ltb-true p.row object.rows s; there = eqb-true p.start at t }
      go true false s t e = let z : ◌≡◌ {A = ℕ} 0 1 = cc in absurd (omega arith)
      go false c s t e = let z : ◌≡◌ {A = ℕ} 0 1 = cc in absurd (omega arith)

-- both of two are nothing
record Neither (a b : Option Reply) : Type 0 where
  first : a ≡ none
  second : b ≡ none

neither : (a b : Option Reply) → or_else a b ≡ none → Neither a b
neither none b e = record { first = refl; second = e }
neither (some r) b e = let z : ◌≡◌ {A = ℕ} 0 1 = cc in absurd (omega arith)

module _ (o : Offered) where
  rows_of : (object_in o).rows ≡ whole_rows Functions o.functions
  unfolding object_of
  rows_of = rows_are little o

  slots_of_lem : (row : ℕ) → row < whole_rows Functions o.functions → (object_in o).slots row ≡ function_slots o.functions row
  unfolding object_of
  slots_of_lem row l = ap (λ f. f.slots) (row_is little o row l)

  -- ---- the check, with k pieces passed
  module _ (bytes : List ℕ) (end : ℕ) where
    abbrev pub Left : ℕ → ℕ → Option Reply
    Left k at = tiles_wrong (object_in o) end k at (run (piece_at bytes) k (listed bytes - k))

    pub tiles_start : tiles_wrong (object_in o) end 0 0 (pieces_of bytes) ≡ Left 0 0
    unfolding pieces_of
    tiles_start =
        let e : listed bytes ≡ listed bytes - 0 = omega arith in
        ap (λ m. tiles_wrong (object_in o) end 0 0 (run (piece_at bytes) 0 m)) e

    module _ (k at : ℕ) where
      abbrev After : Option Reply
      After = tiles_wrong (object_in o) end (suc k) (at + (object_in o).slots (piece_row bytes k)) (run (piece_at bytes) (suc k) (listed bytes - (k + 1)))

      opened : k < listed bytes → Left k at ≡ or_else (piece_wrong (object_in o) k at (piece_at bytes k)) After
      unfolding tiles_wrong
      opened l =
          let e : listed bytes - k ≡ suc (listed bytes - (k + 1)) = omega arith in
          ap (λ m. tiles_wrong (object_in o) end k at (run (piece_at bytes) k m)) e

      pub tiles_on : k < listed bytes → piece_row bytes k < whole_rows Functions o.functions → piece_start bytes k ≡ at
          → Left k at ≡ Left (k + 1) (at + function_slots o.functions (piece_row bytes k))
      tiles_on l r s =
          opened l
          ∙ ap (λ x. or_else x After) (piece_right (object_in o) k at (piece_at bytes k) (omega (arith, rows_of)) s)
          ∙ ap (λ n. tiles_wrong (object_in o) end (suc k) (at + n) (run (piece_at bytes) (suc k) (listed bytes - (k + 1)))) (slots_of_lem (piece_row bytes k) r)
          ∙ ap (λ m. tiles_wrong (object_in o) end m (at + function_slots o.functions (piece_row bytes k)) (run (piece_at bytes) m (listed bytes - (k + 1)))) (sym (add-one k))

      pub tiles_unknown : k < listed bytes → whole_rows Functions o.functions ≤ piece_row bytes k → Left k at ≡ some (reply 36 k (piece_row bytes k) 0)
      tiles_unknown l r =
          opened l
          ∙ ap (λ x. or_else x After) (piece_unknown (object_in o) k at (piece_at bytes k) (omega (arith, rows_of)))

      pub tiles_elsewhere : k < listed bytes → piece_row bytes k < whole_rows Functions o.functions → (piece_start bytes k ≡ at → ⊥) → Left k at ≡ some (reply 37 k at 0)
      tiles_elsewhere l r s =
          opened l
          ∙ ap (λ x. or_else x After) (piece_elsewhere (object_in o) k at (piece_at bytes k) (omega (arith, rows_of)) s)

      closed : listed bytes ≤ k → Left k at ≡ cond (eqb at end) none (some (reply 38 k at 0))
      unfolding tiles_wrong
      closed l =
          let e : listed bytes - k ≡ 0 = omega arith in
          ap (λ m. tiles_wrong (object_in o) end k at (run (piece_at bytes) k m)) e

      pub tiles_end : listed bytes ≤ k → at ≡ end → Left k at ≡ none
      tiles_end l e = closed l ∙ ap (λ b. cond b none (some (reply 38 k at 0))) (eq-eqb at end e)

      pub tiles_short : listed bytes ≤ k → (at ≡ end → ⊥) → Left k at ≡ some (reply 38 k at 0)
      tiles_short l n = closed l ∙ ap (λ b. cond b none (some (reply 38 k at 0))) (ne_eqb at end n)

-- ---- pieces k to k + m − 1, from `at` on, that passed
record Passed (functions bytes : List ℕ) (end k m at : ℕ) : Type 0 where
  rows : (j : ℕ) → k ≤ j → j < k + m → piece_row bytes j < whole_rows Functions functions
  first : 0 < m → piece_start bytes k ≡ at
  next : (j : ℕ) → k ≤ j → suc j < k + m → piece_start bytes (suc j) ≡ piece_start bytes j + function_slots functions (piece_row bytes j)
  inside : (j : ℕ) → k ≤ j → j < k + m → piece_start bytes j + function_slots functions (piece_row bytes j) ≤ end
  fits : at ≤ end

module _ (o : Offered) (bytes : List ℕ) (end : ℕ) where
  ended : (k at : ℕ) → cond (eqb at end) none (some (reply 38 k at 0)) ≡ none → at ≡ end
  ended k at e = go (eqb at end) refl e
    where
      go : (b : Bool) → eqb at end ≡ b → cond b none (some (reply 38 k at 0)) ≡ none → at ≡ end
      go true t e = eqb-true at end t
      go false t e = let z : ◌≡◌ {A = ℕ} 0 1 = cc in absurd (omega arith)

  -- one piece more in front
  before : (k m at : ℕ) → piece_row bytes k < whole_rows Functions o.functions → piece_start bytes k ≡ at
      → Passed o.functions bytes end (suc k) m (at + function_slots o.functions (piece_row bytes k)) → Passed o.functions bytes end k (suc m) at
  before k m at r s p = record {
    rows = λ j l h. rows_at j h (eq-or-lt_of_le l);
    first = λ h. s;
    next = λ j l h. next_at j h (eq-or-lt_of_le l);
    inside = λ j l h. inside_at j h (eq-or-lt_of_le l);
    fits = omega (arith, p.fits);
  }
    where
      rows_at : (j : ℕ) → j < k + suc m → (k ≡ j) ⊎ (k < j) → piece_row bytes j < whole_rows Functions o.functions
      rows_at j h (inl e) = rw (← e) r
      rows_at j h (inr l) = p.rows j l (omega arith)

      next_at : (j : ℕ) → suc j < k + suc m → (k ≡ j) ⊎ (k < j) → piece_start bytes (suc j) ≡ piece_start bytes j + function_slots o.functions (piece_row bytes j)
      next_at j h (inl e) = rw (← e) (p.first (omega arith) ∙ ap (λ n. n + function_slots o.functions (piece_row bytes k)) (sym s))
      next_at j h (inr l) = p.next j l (omega arith)

      inside_at : (j : ℕ) → j < k + suc m → (k ≡ j) ⊎ (k < j) → piece_start bytes j + function_slots o.functions (piece_row bytes j) ≤ end
      inside_at j h (inl e) = rw (← e) (omega (arith, p.fits))
      inside_at j h (inr l) = p.inside j l (omega arith)

  passed : (k m at : ℕ) → tiles_wrong (object_in o) end k at (run (piece_at bytes) k m) ≡ none → Passed o.functions bytes end k m at
  unfolding tiles_wrong
  passed k zero at e =
      let s : at ≡ end = ended k at e in
      record {
        rows = λ j l h. absurd (omega arith);
        first = λ h. absurd (omega arith);
        next = λ j l h. absurd (omega arith);
        inside = λ j l h. absurd (omega arith);
        fits = omega arith;
      }
  passed k (suc m) at e =
      let n = neither (piece_wrong (object_in o) k at (piece_at bytes k)) _ e in
      let f = right (object_in o) k at (piece_at bytes k) n.first in
      let r : piece_row bytes k < whole_rows Functions o.functions = omega (arith, f.known, rows_of o) in
      before k m at r f.there (rw (slots_of_lem o (piece_row bytes k) r) at (passed (suc k) m (at + (object_in o).slots (piece_row bytes k)) n.second))

-- a list that tiles an image of `end` slots
pub record Tiled (functions bytes : List ℕ) (end : ℕ) : Type 0 where
  pub rows : (k : ℕ) → k < listed bytes → piece_row bytes k < whole_rows Functions functions
  pub next : (k : ℕ) → suc k < listed bytes → piece_start bytes (suc k) ≡ piece_start bytes k + function_slots functions (piece_row bytes k)
  pub inside : (k : ℕ) → k < listed bytes → piece_start bytes k + function_slots functions (piece_row bytes k) ≤ end
  pub rise : StartsRise bytes

pub tiled : (o : Offered) (bytes : List ℕ) (end : ℕ) → Sound Functions o.functions
    → tiles_wrong (object_of (tables_of little o)) end 0 0 (pieces_of bytes) ≡ none → Tiled o.functions bytes end
unfolding pieces_of
tiled o bytes end sound e =
    let p = passed o bytes end 0 (listed bytes) 0 e in
    record {
      rows = λ k l. p.rows k (omega arith) (omega arith);
      next = λ k l. p.next k (omega arith) (omega arith);
      inside = λ k l. p.inside k (omega arith) (omega arith);
      rise = rising_near (piece_start bytes) (listed bytes)
          (λ k l. omega (arith, p.next k (omega arith) (omega arith), (good_function o.functions sound (piece_row bytes k) (p.rows k (omega arith) (omega arith))).slots_low));
    }
