-- The slot's relocation is found at its place in the section, and only a call's meaning names a callee.
use native.Mathlib.Omega.{arith}
use Rattle.rules.proofs.Passed.{good_function}
use Rattle.source.proofs.callee.Goals as goal

pub place-at-requires : goal.place-at-requires
place-at-requires c =
    omega (
      arith,
      c.function_offset.ensures,
      (good_function c.args.names.functions.now c.requires.tables.functions c.args.row c.requires.row_inside).offset,
    )
