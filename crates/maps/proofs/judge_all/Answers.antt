-- The invariant: the functions that are left give the first refusal.
use mathlib.Core.Path.{sym, ap, ◌∙◌}
use native.Mathlib.Omega.{arith}
use Rattle.std.specs.Prelude.{Err}
use Rattle.std.proofs.lemmas.Result.{err_from_is_err_and}
use Rattle.rules.specs.Answers.{refusal_in}
use Rattle.maps.proofs.Passes.{slots_low, judge_rows_start, judge_rows_end, judge_rows_refused, judge_rows_next}
use Rattle.maps.proofs.judge_all.Goals as goal

pub loop-row-init : goal.loop-row-init
loop-row-init c = (rw c.slot_at-first.ensures (judge_rows_start _), omega arith)

pub returns-in_err-judge_function : goal.returns-in_err-judge_function
returns-in_err-judge_function c =
    let p = err_from_is_err_and c.from_residual.result c.from_residual.ensures.1 in
    ap refusal_in (p.1 ∙ ap Err p.2)
    ∙ judge_rows_refused c.requires c.loop-row.invariant.0 (omega (arith, c.loop-row-test.true)) _ (sym (ap refusal_in c.in_err-judge_function.was) ∙ c.judge_function.ensures)

pub after-first-requires : goal.after-first-requires
after-first-requires c =
    omega (arith, c.loop-row.invariant.0.first_is, c.function_slots.ensures, slots_low c.requires c.loop-row.row (omega (arith, c.loop-row-test.true)))

pub loop-row-preserved : goal.loop-row-preserved
loop-row-preserved c = (
  rw c.after-first.ensures (judge_rows_next c.requires c.loop-row.invariant.0 (omega (arith, c.loop-row-test.true)) _ c.function_slots.ensures
      (sym (ap refusal_in c.in_ok-judge_function.was) ∙ c.judge_function.ensures)),
  c.relocations_of-own.ensures.end_inside,
)

pub returns : goal.returns
returns c = judge_rows_end c.requires c.loop-row.invariant.0 (omega (arith, c.loop-row-test.false))
