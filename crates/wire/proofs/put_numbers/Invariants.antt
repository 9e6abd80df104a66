-- The invariant: the first i numbers are put.
use mathlib.Core.Path.{◌≡◌}
use lib.ListN.{take}
use Rattle.rules.specs.Bytes.{splice}
use Rattle.rules.specs.Answers.{numbers}
use Rattle.wire.proofs.put_numbers.Given as goal

abbrev pub invariant-loop-i : goal.invariant-loop-i
invariant-loop-i g l = l.out ≡ splice l.fn.out l.at (numbers (take l.i l.n-items))
