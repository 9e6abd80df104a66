-- Slots are below 2^32, so both differences are exact at 64 bits.
use native.Mathlib.Omega.{arith}
use Rattle.std.proofs.lemmas.Int.{ints}
use Rattle.rules.specs.Object.{displacement}
use Rattle.insn.proofs.displacement.Goals as goal

pub returns : goal.returns
unfolding displacement
returns c = omega (arith, ints)
