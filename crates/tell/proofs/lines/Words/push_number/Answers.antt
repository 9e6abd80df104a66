-- The invariant: what adds the digits that are left adds the whole number. Assumes nothing.
use Rattle.std.proofs.Common.{◌-◌, arith}
use Rattle.std.proofs.Math.Nat.{one-le-pow}
use Rattle.tell.proofs.lines.Words.push_number.Goals as goal

pub nonzero_div-d : goal.nonzero_div-d
nonzero_div-d c = omega (arith, c.pow.ensures, one-le-pow (10 - c.loop-k.k - 1) 10 (omega arith))
