-- The invariant: rewriting the functions that are left gives table 6 and the count.
use native.Mathlib.Omega.{arith}
use Rattle.maps.proofs.Passes.{slots_low}
use Rattle.maps.proofs.Rewriting.{rewrite_rows_start, rewrite_rows_end, rewrite_rows_next}
use Rattle.maps.proofs.rewrite_all.Goals as goal

pub loop-row-init : goal.loop-row-init
loop-row-init c = (rw c.slot_at-first.ensures (rewrite_rows_start _), omega arith)

pub after-first-requires : goal.after-first-requires
after-first-requires c =
    omega (arith, c.loop-row.invariant.0.first_is, c.function_slots.ensures, slots_low c.requires c.loop-row.row (omega (arith, c.loop-row-test.true)))

pub loop-row-preserved : goal.loop-row-preserved
loop-row-preserved c = (
  rw c.after-first.ensures (rewrite_rows_next c.requires c.loop-row.invariant.0 (omega (arith, c.loop-row-test.true)) c.rewrite_function-count.ensures _ c.function_slots.ensures),
  c.relocations_of-own.ensures.end_inside,
)

pub returns : goal.returns
returns c = rewrite_rows_end c.requires c.loop-row.invariant.0 (omega (arith, c.loop-row-test.false))
