-- The invariant: what is written is a paste of the first i bytes; n of them are the splice.
use mathlib.Core.Path.{◌≡◌}
use lib.ListN.{length, drop}
use lib.Seq.{paste}
use Rattle.wire.proofs.copy.Given as goal

abbrev pub invariant-loop-i : goal.invariant-loop-i
invariant-loop-i l = (l.out ≡ paste l.initial.out l.at (drop l.from l.src) l.i) × (length l.out ≡ length l.initial.out)
