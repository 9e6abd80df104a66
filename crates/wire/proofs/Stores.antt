-- A part of a list that is written whole is a splice.
-- Assumes nothing.
use mathlib.Core.Path.{◌≡◌, sym}
use mathlib.Core.List.{List, append_assoc}
use Prim.Native.Nat.{ℕ, ◌+◌, ◌-◌}
use native.Mathlib.Omega.{arith}
use lib.ListN.{length, take, drop}
use lib.Seq.{drop-drop}
use borrow.Rule.Slice.PartMut.{put_mid}
use Rattle.rules.specs.Bytes.{splice}

pub put_mid_splice : (d vs ys : List ℕ) (p n : ℕ) → ys ≡ vs → length vs ≡ n → put_mid p (p + n - p) d ys ≡ splice d p vs
unfolding splice
put_mid_splice d vs ys p n e l =
    let m : p + n - p ≡ length vs = omega arith in
    rw (m, e, drop-drop (length vs) p d) (sym (append_assoc (take p d) vs (drop (p + length vs) d)))
