-- The place of the slot in its section is what the definition adds up, and the target is exact.
use native.Mathlib.Omega.{arith}
use Rattle.rules.proofs.Passed.{good_function}
use Rattle.resolve.proofs.by_place.Goals as goal

pub place-here-requires : goal.place-here-requires
place-here-requires c =
    omega (arith, c.function_offset-start.ensures, (good_function c.args.functions.now c.requires.0 c.args.row c.requires.1).offset)
