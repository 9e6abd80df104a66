-- What is refused, of the tables or by the first pass, touches nothing; else the second pass leaves what the map step makes of table 6.
use mathlib.Core.Path.{◌≡◌, sym, ap, ◌∙◌}
use mathlib.Core.Option.{none}
use native.Mathlib.Omega.{arith}
use Rattle.std.specs.Prelude.{Err}
use Rattle.std.proofs.lemmas.Result.{err_from_is_err_and}
use Rattle.rules.specs.Answers.{refusal_in}
use Rattle.rules.specs.Lent.{lent_maps}
use Rattle.rules.specs.Lookups.{MapChecked}
use Rattle.rules.specs.Rows.{Offered, map_step_refusal}
use Rattle.rules.proofs.Refusing.{map_checked}
use Rattle.maps.proofs.Step.{refused_steps, accepted_steps, unchecked_relocated, checked_relocated}
use Rattle.maps.proofs.relocate_maps.Goals.{In_ok-check_map_step}
use Rattle.maps.proofs.relocate_maps.Goals as goal

module _ (n : In_ok-check_map_step) where
  abbrev offered : Offered
  offered = lent_maps n.args.names n.args.maps.now n.args.instructions.now

  passes : none ≡ map_step_refusal offered
  passes = sym (ap refusal_in n.in_ok-check_map_step.was) ∙ n.check_map_step.ensures

  checked : MapChecked offered
  checked = map_checked offered (sym passes)

pub returns-in_err-check_map_step : goal.returns-in_err-check_map_step
returns-in_err-check_map_step c =
    let p = err_from_is_err_and c.from_residual.result c.from_residual.ensures.1 in
    unchecked_relocated _ _ (p.1 ∙ ap Err p.2) (sym (ap refusal_in c.in_err-check_map_step.was) ∙ c.check_map_step.ensures)

pub judge_all-requires : goal.judge_all-requires
judge_all-requires c = checked (goal.at.judge_all-requires c).In_ok-check_map_step

pub returns-in_err-judge_all : goal.returns-in_err-judge_all
returns-in_err-judge_all c =
    let n = (goal.at.returns-in_err-judge_all c).In_ok-check_map_step in
    let p = err_from_is_err_and c.from_residual-in_err-judge_all.result c.from_residual-in_err-judge_all.ensures.1 in
    checked_relocated _ (passes n) _ _ (refused_steps (checked n) _ (p.1 ∙ ap Err p.2) (sym (ap refusal_in c.in_err-judge_all.was) ∙ c.judge_all.ensures))

pub rewrite_all-count-requires : goal.rewrite_all-count-requires
rewrite_all-count-requires c = checked (goal.at.rewrite_all-count-requires c).In_ok-check_map_step

pub returns : goal.returns
returns c =
    let n = (goal.at.returns c).In_ok-check_map_step in
    checked_relocated _ (passes n) _ _
    (accepted_steps (checked n) (sym (ap refusal_in c.in_ok-judge_all.was) ∙ c.judge_all.ensures) _ _ c.rewrite_all-count.ensures (λ k. omega (arith, c.type_inv.instructions k)))
