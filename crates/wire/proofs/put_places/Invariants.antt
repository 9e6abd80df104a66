-- The invariant: the first i numbers fit, and they are put; zero after.
use mathlib.Core.Path.{◌≡◌}
use Prim.Native.Nat.{◌*◌, ◌≤◌}
use lib.ListN.{length, take}
use Rattle.rules.specs.Bytes.{padded}
use Rattle.rules.specs.Answers.{numbers}
use Rattle.wire.proofs.put_places.Given as goal

abbrev pub invariant-loop-i : goal.invariant-loop-i
invariant-loop-i l = (4 * l.i ≤ length l.fn.out) × (l.out ≡ padded (length l.fn.out) (numbers (take l.i l.n-items)))
