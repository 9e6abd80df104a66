-- Where the relocations before a place end, by the test of one row.
-- Assumes nothing.
use mathlib.Core.Path.{◌≡◌, refl, sym}
use mathlib.Core.Logic.{inl, inr}
use mathlib.Core.Bool.{Bool, true, false, not}
use mathlib.Core.Option.{Option, none, some}
use mathlib.Core.List.{List}
use Prim.Native.Nat.{ℕ, ◌+◌, ◌-◌, ◌≤◌, ◌<◌}
use native.Mathlib.Omega.{arith}
use native.Mathlib.Decide.{dec_lt}
use borrow.Author.Tests.{eq-eqb, ne_eqb, leb-true, leb-false, lt-leb, le-leb}
use lib.Dec.{eqb, leb}
use Rattle.rules.specs.declared.Table.TheVariants.{Relocations}
use Rattle.rules.specs.Rows.{whole_rows, first_from, relocation_section, relocation_offset}
use Rattle.rules.specs.Tables.{Before}
use Rattle.rules.specs.Lookups.{Sound, or_end, relocations_before}
use Rattle.rules.proofs.Searches.{found_passes}
use Rattle.rules.proofs.Passed.{below_before, before_below}
use Rattle.rows.specs.Matches.{relocation_is_before}
use Rattle.rows.proofs.Bound.{before_bound, from_bound}

clash : {X : Type 0} {b : Bool} → b ≡ true → b ≡ false → X
clash e f = let z : ◌≡◌ {A = ℕ} 0 1 = cc in absurd (omega arith)

module _ (t : List ℕ) (sound : Sound Relocations t) (home offset : ℕ) where
  pub within : relocations_before t home offset ≤ whole_rows Relocations t
  unfolding relocations_before
  within = go (first_from (λ k. not (relocation_is_before t home offset k)) 0 (whole_rows Relocations t)) (λ k e. (found_passes (λ k. not (relocation_is_before t home offset k)) 0 (whole_rows Relocations t) k e).high)
    where
      go : (o : Option ℕ) → ((k : ℕ) → o ≡ some k → k < 0 + whole_rows Relocations t) → or_end o (whole_rows Relocations t) ≤ whole_rows Relocations t
      go none f = omega arith
      go (some k) f = omega (arith, f k refl)

  -- the test of row k, where there is one, says whether they end there or before
  module _ (k : ℕ) where
    pub at_end : k ≡ whole_rows Relocations t → leb (relocations_before t home offset) k ≡ true
    at_end e = le-leb (relocations_before t home offset) k (omega (arith, within, e))

    pub at_row : k < whole_rows Relocations t → (b : Bool) → b ≡ relocation_is_before t home offset k → not b ≡ leb (relocations_before t home offset) k
    at_row l true e = sym (lt-leb (relocations_before t home offset) k (go (dec_lt k (relocations_before t home offset))))
      where
        go : Dec (k < relocations_before t home offset) → k < relocations_before t home offset
        go (yes m) = m
        go (no n) = clash (sym e) (from_bound t sound home offset k (omega arith) l)
    at_row l false e = sym (le-leb (relocations_before t home offset) k (go (dec_lt k (relocations_before t home offset))))
      where
        go : Dec (k < relocations_before t home offset) → relocations_before t home offset ≤ k
        go (yes m) = clash (before_bound t sound home offset k m) (sym e)
        go (no n) = omega arith

-- the first row that is past, but for row 0
pub first_past : (k end : ℕ) → (k ≡ 0 → ⊥) → end ≤ k → (b : Bool) → b ≡ leb end (k - 1) → not b ≡ eqb k end
first_past k end positive past true e = let h = leb-true end (k - 1) (sym e) in sym (ne_eqb k end (λ same. positive (omega arith)))
first_past k end positive past false e = let h = leb-false end (k - 1) (sym e) in sym (eq-eqb k end (omega arith))

-- a later place has no fewer rows before it
pub rises : (t : List ℕ) (sound : Sound Relocations t) (home offset offset' : ℕ) → offset ≤ offset' → relocations_before t home offset ≤ relocations_before t home offset'
rises t sound home offset offset' l = go (dec_lt (relocations_before t home offset') (relocations_before t home offset))
  where
    farther : (j : ℕ) → Before (relocation_section t j) (relocation_offset t j) home offset → Before (relocation_section t j) (relocation_offset t j) home offset'
    farther j (inl p) = inl p
    farther j (inr p) = inr (p.0, omega (arith, p.1))

    go : Dec (relocations_before t home offset' < relocations_before t home offset) → relocations_before t home offset ≤ relocations_before t home offset'
    go (yes m) =
        let j = relocations_before t home offset' in
        clash (before_below (relocation_section t j) (relocation_offset t j) home offset' (farther j (below_before (relocation_section t j) (relocation_offset t j) home offset (before_bound t sound home offset j m))))
        (from_bound t sound home offset' j (omega arith) (omega (arith, within t sound home offset)))
    go (no n) = omega arith
