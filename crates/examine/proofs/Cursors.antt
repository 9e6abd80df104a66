-- A cursor that rises with the slots: it stands where the rows before the slot's place end, so it only moves on, and the slot's
-- relocation is where it stands or nowhere.
-- Assumes nothing.
use mathlib.Core.Path.{◌≡◌, refl, sym, ap, subst}
use mathlib.Core.Bool.{Bool, true, false, not}
use mathlib.Core.Logic.{inl, inr}
use mathlib.Core.Option.{Option, none, some}
use mathlib.Core.List.{List}
use Prim.Native.Nat.{ℕ, ◌+◌, ◌≤◌, ◌<◌}
use native.Mathlib.Omega.{arith}
use native.Mathlib.Decide.{dec_lt}
use Rattle.rules.specs.declared.Table.TheVariants.{Relocations}
use Rattle.std.specs.Prelude as prelude
use Rattle.std.specs.Prelude.{Some, None, MatchOption, unwrap_or}
use Rattle.rules.specs.Rows.{whole_rows, first_from, relocation_section, relocation_offset}
use Rattle.rules.specs.Tables.{Before}
use Rattle.rules.specs.Lookups.{Sound, found_of, or_end, relocation_with, relocations_before}
use Rattle.rules.proofs.Searches.{found_passes}
use Rattle.rules.proofs.Passed.{below_before, before_below}
use Rattle.rows.specs.Matches.{relocation_matches, relocation_is_before}
use Rattle.rows.proofs.Bound.{before_bound, from_bound}
use Rattle.rows.proofs.Cursor.{Behind, behind_first, at_end, at_row, at_later}

clash : {X : Type 0} {b : Bool} → b ≡ true → b ≡ false → X
clash e f = let z : ◌≡◌ {A = ℕ} 0 1 = cc in absurd (omega arith)

module _ (t : List ℕ) (sound : Sound Relocations t) (home place : ℕ) where
  within : relocations_before t home place ≤ whole_rows Relocations t
  unfolding relocations_before
  within = go (first_from (λ k. not (relocation_is_before t home place k)) 0 (whole_rows Relocations t)) (λ k e. (found_passes (λ k. not (relocation_is_before t home place k)) 0 (whole_rows Relocations t) k e).high)
    where
      go : (o : Option ℕ) → ((k : ℕ) → o ≡ some k → k < 0 + whole_rows Relocations t) → or_end o (whole_rows Relocations t) ≤ whole_rows Relocations t
      go none f = omega arith
      go (some k) f = omega (arith, f k refl)

  -- the first row from the cursor on that is not before the place, or the end
  pub moved : (from : ℕ) (r : prelude.Option ℕ) → from ≤ relocations_before t home place
      → MatchOption r ((k : ℕ) → from ≤ k → k < whole_rows Relocations t → relocation_is_before t home place k ≡ true)
      (λ i. (from ≤ i) × (i < whole_rows Relocations t) × (relocation_is_before t home place i ≡ false) × ((k : ℕ) → from ≤ k → k < i → relocation_is_before t home place k ≡ true))
      → unwrap_or r (whole_rows Relocations t) ≡ relocations_before t home place
  moved from None l all = go (dec_lt (relocations_before t home place) (whole_rows Relocations t))
    where
      go : Dec (relocations_before t home place < whole_rows Relocations t) → whole_rows Relocations t ≡ relocations_before t home place
      go (yes m) = clash (all (relocations_before t home place) l m) (from_bound t sound home place (relocations_before t home place) (omega arith) m)
      go (no n) = omega (arith, within)
  moved from (Some i) l h = go (dec_lt (relocations_before t home place) i) (dec_lt i (relocations_before t home place))
    where
      go : Dec (relocations_before t home place < i) → Dec (i < relocations_before t home place) → i ≡ relocations_before t home place
      go (yes m) d = clash (h.3 (relocations_before t home place) l m) (from_bound t sound home place (relocations_before t home place) (omega arith) (omega (arith, h.1)))
      go (no n) (yes m) = clash (before_bound t sound home place i m) h.2
      go (no n) (no m) = omega arith

  -- where it stands
  module _ (cursor : ℕ) (is : cursor ≡ relocations_before t home place) where
    behind : Behind t home place cursor
    behind = subst (Behind t home place) (sym is) (behind_first t home place)

    pub past_end : whole_rows Relocations t ≤ cursor → None ≡ found_of (relocation_with t home place)
    past_end l = sym (ap found_of (at_end t home place cursor behind l))

    pub there : cursor < whole_rows Relocations t → relocation_matches t home place cursor ≡ true → Some cursor ≡ found_of (relocation_with t home place)
    there l e = sym (ap found_of (at_row t home place cursor behind l e))

    pub not_there : cursor < whole_rows Relocations t → relocation_matches t home place cursor ≡ false → None ≡ found_of (relocation_with t home place)
    not_there l e = sym (ap found_of (at_later t home place cursor behind sound l (from_bound t sound home place cursor (omega arith) l) e))

-- a later place has no fewer rows before it
pub before_rises : (t : List ℕ) (sound : Sound Relocations t) (home place place' : ℕ) → place ≤ place' → relocations_before t home place ≤ relocations_before t home place'
before_rises t sound home place place' l = go (dec_lt (relocations_before t home place') (relocations_before t home place))
  where
    later : (j : ℕ) → Before (relocation_section t j) (relocation_offset t j) home place → Before (relocation_section t j) (relocation_offset t j) home place'
    later j (inl p) = inl p
    later j (inr p) = inr (p.0, omega (arith, p.1))

    go : Dec (relocations_before t home place' < relocations_before t home place) → relocations_before t home place ≤ relocations_before t home place'
    go (yes m) =
        let j = relocations_before t home place' in
        clash (before_below (relocation_section t j) (relocation_offset t j) home place' (later j (below_before (relocation_section t j) (relocation_offset t j) home place (before_bound t sound home place j m))))
        (from_bound t sound home place' j (omega arith) (omega (arith, within t sound home place)))
    go (no n) = omega arith
