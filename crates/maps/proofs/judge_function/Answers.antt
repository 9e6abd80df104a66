-- The invariant: the relocations that are left give the function's first refusal.
use mathlib.Core.Path.{sym, ap, ◌∙◌}
use Rattle.std.specs.Prelude.{Err}
use Rattle.std.proofs.lemmas.Result.{err_from_is_err_and}
use Rattle.rules.specs.Answers.{refusal_in}
use Rattle.maps.specs.Passes.{verdict_refusal}
use Rattle.maps.proofs.Passes.{judge_start, judge_end, judge_refused, judge_next}
use Rattle.maps.proofs.judge_function.Goals as goal

pub loop-k-init : goal.loop-k-init
loop-k-init c = rw c.into_iter-k-iterator.ensures.into_iter_gives (judge_start c.requires.0 c.requires.1)

pub loop-k-preserved : goal.loop-k-preserved
loop-k-preserved c =
    judge_next c.requires.0 c.loop-k.invariant c.in-Some.k c.next.new.self.start c.next.new.self.end c.in-Some.ensures.steps c.judge.ensures (sym (ap verdict_refusal c.in_ok-judge.was))

pub returns-in_err-judge : goal.returns-in_err-judge
returns-in_err-judge c =
    let p = err_from_is_err_and c.from_residual.result c.from_residual.ensures.1 in
    ap refusal_in (p.1 ∙ ap Err p.2)
    ∙ judge_refused c.requires.0 c.loop-k.invariant c.in-Some.k c.next.new.self.start c.next.new.self.end c.in-Some.ensures.steps c.judge.ensures _ (sym (ap verdict_refusal c.in_err-judge.was))

pub returns : goal.returns
returns c = judge_end c.requires.0 c.loop-k.invariant c.in-None.ensures.steps.1.0
