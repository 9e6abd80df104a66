-- What a caller knows of bytes that were written: a number put is read back (`read_back` of `rules`), every other one is as it was,
-- and the places that fit are where they belong.
-- Assumes nothing.
use mathlib.Core.Path.{◌≡◌, ap, ◌∙◌}
use mathlib.Core.List.{List, [], ◌∷◌, ◌++◌}
use Prim.Native.Nat.{ℕ, zero, suc, ◌+◌, ◌*◌, ◌/◌, ◌≤◌, ◌<◌}
use native.Mathlib.Omega.{arith}
use lib.IntN.{ℤ}
use lib.ListN.{length, get_or, take, length-append, length-take, length-replicate}
use lib.Seq.{get_or-append-add, get_or-take}
use mir.Syntax.{w32}
use mir.Val.{to_z, SFits}
use mir.ValLaws.{to_z-of_z}
use Rattle.rules.specs.Bytes.{Order, little, byte_at, u32_at, bytes4, splice, padded, signed, unsigned, half32}
use Rattle.rules.specs.Answers.{numbers, places_in}
use Rattle.rules.proofs.Machine.{signed32, unsigned32}
use Rattle.rules.proofs.Splices.{splice_before, splice_past}
use Rattle.rules.proofs.Writing.{read_back, u32_same}

module _ (order : Order) (d : List ℕ) (p : ℕ) (vs : List ℕ) (fits : p + length vs ≤ length d) where
  pub kept_before : (k : ℕ) → k + 4 ≤ p → u32_at order (splice d p vs) k ≡ u32_at order d k
  kept_before k h = u32_same order d (splice d p vs) k k (λ j g. splice_before d p vs fits (k + j) (omega arith))

  pub kept_after : (k : ℕ) → p + length vs ≤ k → u32_at order (splice d p vs) k ≡ u32_at order d k
  kept_after k h = u32_same order d (splice d p vs) k k (λ j g. splice_past d p vs fits (k + j) (omega arith))

-- a signed number too
pub signed_back : (order : Order) (d : List ℕ) (p : ℕ) (z : ℤ) → p + 4 ≤ length d → SFits w32 z
    → signed half32 (u32_at order (splice d p (bytes4 order (unsigned half32 z))) p) ≡ z
signed_back order d p z h f =
    ap (signed half32) (read_back d p (unsigned half32 z) h order)
    ∙ signed32 (unsigned half32 z)
    ∙ ap (to_z w32) (unsigned32 z)
    ∙ to_z-of_z w32 z f

-- ---- places
pub numbers_length : (ps : List ℕ) → length (numbers ps) ≡ 4 * length ps
numbers_length [] = omega arith
numbers_length (p ∷ ps) = omega (arith, numbers_length ps)

numbers_at : (ps rest : List ℕ) (k : ℕ) → k < length ps → u32_at little (numbers ps ++ rest) (4 * k) ≡ get_or ps k 0
unfolding u32_at
numbers_at [] rest k l = absurd (omega arith)
numbers_at (p ∷ ps) rest zero l = omega arith
numbers_at (p ∷ ps) rest (suc k) l =
    u32_same little (numbers ps ++ rest) (bytes4 little p ++ (numbers ps ++ rest)) (4 * k) (4 * suc k) (λ j g. past j)
    ∙ numbers_at ps rest k (omega arith)
  where
    past : (j : ℕ) → byte_at (bytes4 little p ++ (numbers ps ++ rest)) (4 * suc k + j) ≡ byte_at (numbers ps ++ rest) (4 * k + j)
    past j =
        let e : 4 * suc k + j ≡ 4 + (4 * k + j) = omega arith in
        ap (byte_at (bytes4 little p ++ (numbers ps ++ rest))) e
        ∙ get_or-append-add (bytes4 little p) (numbers ps ++ rest) (4 * k + j) 0

module _ (size : ℕ) (ps : List ℕ) where
  pub places_length : length (places_in size ps) ≡ size
  unfolding places_in padded
  places_length = simp (length-append, length-replicate) (omega (arith, numbers_length (take (size / 4) ps), length-take (size / 4) ps))

  pub places_at : (k : ℕ) → k < length ps → 4 * k + 4 ≤ size → u32_at little (places_in size ps) (4 * k) ≡ get_or ps k 0
  unfolding places_in padded
  places_at k l h =
      numbers_at (take (size / 4) ps) _ k (omega (arith, length-take (size / 4) ps))
      ∙ get_or-take (size / 4) ps k 0 (omega arith)
