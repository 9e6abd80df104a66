-- The place after the function's last slot.
use native.Mathlib.Omega.{arith}
use Rattle.rules.proofs.Passed.{good_function}
use Rattle.maps.proofs.end_of.Goals as goal

pub place-requires : goal.place-requires
place-requires c =
    omega (arith, (good_function c.args.functions.now c.requires.0 c.args.row c.requires.1).offset, c.function_offset.ensures)
