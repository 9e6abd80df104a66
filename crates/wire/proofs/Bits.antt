-- A number read from the bytes of an array is the number at that place of the list that they are a part of.
-- Assumes nothing.
use mathlib.Core.Path.{◌≡◌, ap, ◌∙◌}
use mathlib.Core.List.{List}
use Prim.Native.Nat.{ℕ, ◌+◌, ◌<◌}
use native.Mathlib.Omega.{arith}
use Rattle.std.proofs.Common.{add-zero}
use lib.ListN.{get_or, take, drop}
use lib.Seq.{get_or-take, get_or-drop}
use Rattle.std.specs.Int.{w16, w32, w64, from_le_bytes}
use Rattle.rules.specs.Bytes.{little, byte_at, u16_at, u32_at, u64_at}

module _ (s : List ℕ) (at : ℕ) where
  part : (n k : ℕ) → k < n → get_or (take n (drop at s)) k 0 ≡ byte_at s (at + k)
  part n k h = get_or-take n (drop at s) k 0 h ∙ get_or-drop at s k 0

  first : (n : ℕ) → 0 < n → get_or (take n (drop at s)) 0 0 ≡ byte_at s at
  first n h = part n 0 h ∙ ap (byte_at s) (add-zero at)

  pub read16 : from_le_bytes w16 (take 2 (drop at s)) ≡ u16_at little s at
  unfolding u16_at
  read16 = rw (first 2 (omega arith), part 2 1 (omega arith)) (omega arith)

  pub read32 : from_le_bytes w32 (take 4 (drop at s)) ≡ u32_at little s at
  unfolding u32_at
  read32 = rw (first 4 (omega arith), part 4 1 (omega arith), part 4 2 (omega arith), part 4 3 (omega arith)) (omega arith)

  pub read64 : from_le_bytes w64 (take 8 (drop at s)) ≡ u64_at little s at
  unfolding u64_at u32_at
  read64 =
      let e5 : at + 4 + 1 ≡ at + 5 = omega arith in
      let e6 : at + 4 + 2 ≡ at + 6 = omega arith in
      let e7 : at + 4 + 3 ≡ at + 7 = omega arith in
      rw (
        first 8 (omega arith),
        part 8 1 (omega arith),
        part 8 2 (omega arith),
        part 8 3 (omega arith),
        part 8 4 (omega arith),
        part 8 5 (omega arith),
        part 8 6 (omega arith),
        part 8 7 (omega arith),
        e5,
        e6,
        e7,
      ) (omega arith)
