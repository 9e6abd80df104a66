-- Places against a run of slots.
-- Assumes nothing.
use mathlib.Core.Path.{◌≡◌, refl, ap}
use mathlib.Core.Bool.{Bool, true, false, cond}
use mathlib.Core.Option.{none, some}
use Prim.Native.Nat.{ℕ, ◌<◌}
use native.Mathlib.Omega.{arith}
use lib.Dec.{ltb}
use lib.IntN.{ℤ, pos, negsuc}
use borrow.Author.Tests.{ltb-true}
use Rattle.std.specs.Prelude.{Option, None, Some}
use Rattle.std.specs.Option.{is_some}
use Rattle.rules.specs.Lookups.{found_of}
use Rattle.rules.specs.Tables as tables
use Rattle.rules.specs.Walk.{Move, stuck, within}
use Rattle.walk.specs.Moves.{in_slots}

abbrev pub slot_found : ℕ → ℤ → Option ℕ
slot_found slots at = found_of (within slots (λ n. n) at)

-- what a place is by what was found
told_none : (b : Bool) (n : ℕ) → None ≡ found_of (cond b (some n) none) → b ≡ false
told_none true n e = let z : ◌≡◌ {A = ℕ} 0 1 = cc in absurd (omega arith)
told_none false n e = refl

pub outside_test : (slots n : ℕ) → None ≡ slot_found slots (pos n) → ltb n slots ≡ false
outside_test slots n e = told_none (ltb n slots) n e

pub record Lies (slots : ℕ) (at : ℤ) (k : ℕ) : Type 0 where
  pub place : at ≡ pos k
  pub low : k < slots

told_at : (slots n k : ℕ) (b : Bool) → ltb n slots ≡ b → Some k ≡ found_of (cond b (some n) none) → Lies slots (pos n) k
told_at slots n k true t e =
    let q : n ≡ k = cc in
    record { place = ap pos q; low = omega (arith, ltb-true n slots t) }
told_at slots n k false t e = let z : ◌≡◌ {A = ℕ} 0 1 = cc in absurd (omega arith)

pub lies : (slots : ℕ) (at : ℤ) (k : ℕ) → Some k ≡ slot_found slots at → Lies slots at k
lies slots (pos n) k e = told_at slots n k (ltb n slots) refl e
lies slots (negsuc n) k e = let z : ◌≡◌ {A = ℕ} 0 1 = cc in absurd (omega arith)

-- a slot is found where one sees one, of slots of which no more is known
pub sees_found : (Place : Type 0) (slots : ℕ) (at : ℤ) → is_some (slot_found slots at) ≡ tables.is_some (in_slots {Place = Place} slots at)
sees_found Place slots (pos n) = by (ltb n slots)
  where
    by : (b : Bool) → is_some (found_of (cond b (some n) none)) ≡ tables.is_some {A = Move Place} (cond b (some stuck) none)
    by true = refl
    by false = refl
sees_found Place slots (negsuc n) = refl
