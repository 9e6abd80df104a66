-- Where the rows of table 4 at or after a place begin: the rows before it stand first, since (section, offset) rises.
-- Assumes nothing.
use mathlib.Core.Path.{◌≡◌, sym, ap, ◌∙◌}
use mathlib.Core.Logic.{◌⊎◌, inl, inr}
use mathlib.Core.Bool.{true, false}
use mathlib.Core.List.{List, []}
use Prim.Native.Nat.{ℕ, ◌≤◌, ◌<◌}
use native.Mathlib.Nat.{eq-or-lt_of_le}
use native.Mathlib.Omega.{arith}
use lib.ListN.{length, get_or}
use Rattle.std.specs.Simd.{first_chunks}
use Rattle.std.specs.List.Sorted.{IsPartitionedBy, IsPartitionPoint}
use Rattle.rules.specs.declared.Table.TheVariants.{Relocations}
use Rattle.rules.specs.Rows.{row_size, whole_rows}
use Rattle.rules.specs.Lookups.{Sound, RisingPair, relocations_before}
use Rattle.rules.proofs.Searches.{before_chain}
use Rattle.rules.proofs.Passed.{below_before, before_below, relocations_rise}
use Rattle.rules.proofs.Halving as halving
use Rattle.rows.specs.Matches.{relocation_is_before}
use Rattle.rows.proofs.Chunks.{rows_length, row_is, before_row}

-- ---- the rows as partition_point looks at them, each its own bytes
abbrev pub rows_of : List ℕ → List (List ℕ)
rows_of t = first_chunks (row_size Relocations) (whole_rows Relocations t) t

before_is : (t d : List ℕ) (home offset k : ℕ) → k < whole_rows Relocations t → relocation_is_before (get_or (rows_of t) k d) home offset 0 ≡ relocation_is_before t home offset k
before_is t d home offset k l = ap (λ row. relocation_is_before row home offset 0) (row_is (row_size Relocations) (whole_rows Relocations t) k t d l) ∙ before_row t k home offset

module _ (t : List ℕ) (sound : Sound Relocations t) (home offset : ℕ) where
  falls : (i j : ℕ) → i < j → j < whole_rows Relocations t → relocation_is_before t home offset j ≡ true → relocation_is_before t home offset i ≡ true
  unfolding RisingPair
  falls i j l m e = before_below _ _ home offset (before_chain _ _ _ _ home offset (relocations_rise t sound i j l m) (below_before _ _ home offset e))

  met : (r : ℕ) → r ≤ whole_rows Relocations t → ((j : ℕ) → j < r → relocation_is_before t home offset j ≡ true)
      → ((j : ℕ) → r ≤ j → j < whole_rows Relocations t → relocation_is_before t home offset j ≡ false) → r ≡ relocations_before t home offset
  unfolding relocations_before
  met r l above under =
      halving.met (relocation_is_before t home offset) (whole_rows Relocations t) falls r r (record { meet = omega arith; inside = l; above = above; under = under }) (omega arith)

  -- what partition_point asks of the rows, and what it says of them
  pub parted : IsPartitionedBy (λ row. relocation_is_before row home offset 0) (rows_of t)
  parted i j d l h e = go (eq-or-lt_of_le l)
    where
      inside : j < whole_rows Relocations t
      inside = omega (arith, rows_length (row_size Relocations) (whole_rows Relocations t) t)

      there : relocation_is_before t home offset j ≡ true
      there = sym (before_is t d home offset j inside) ∙ e

      go : (i ≡ j) ⊎ (i < j) → relocation_is_before (get_or (rows_of t) i d) home offset 0 ≡ true
      go (inl same) = ap (λ k. relocation_is_before (get_or (rows_of t) k d) home offset 0) same ∙ e
      go (inr less) = before_is t d home offset i (omega (arith, inside)) ∙ falls i j less inside there

  pub point_is : (r : ℕ) → r ≤ length (rows_of t)
      → IsPartitionPoint (λ row. relocation_is_before row home offset 0 ≡ true) (λ row. relocation_is_before row home offset 0 ≡ false) (rows_of t) r
      → (r ≡ relocations_before t home offset) × (r ≤ whole_rows Relocations t)
  point_is r l point =
      let n = rows_length (row_size Relocations) (whole_rows Relocations t) t in
      let h : r ≤ whole_rows Relocations t = omega (arith, n) in (
        met r h
            (λ j g. sym (before_is t [] home offset j (omega (arith, g, h))) ∙ point.0 j [] (omega arith) g)
            (λ j g i. sym (before_is t [] home offset j i) ∙ point.1 j [] g (omega (arith, n))),
        h,
      )

  -- and back
  pub before_bound : (j : ℕ) → j < relocations_before t home offset → relocation_is_before t home offset j ≡ true
  unfolding relocations_before
  before_bound = halving.before_it (relocation_is_before t home offset) (whole_rows Relocations t) falls

  pub from_bound : (j : ℕ) → relocations_before t home offset ≤ j → j < whole_rows Relocations t → relocation_is_before t home offset j ≡ false
  unfolding relocations_before
  from_bound = halving.from_it (relocation_is_before t home offset) (whole_rows Relocations t) falls
