-- Each move's arm is the definition's: a jump arrives, an answer chooses, a call pushes, an exit pops.
use mathlib.Core.Path.{refl, ◌∙◌}
use borrow.Author.Tests.{eq-eqb, ne_eqb}
use native.Mathlib.Omega.{arith}
use Rattle.walk.proofs.Steps.{by_going, by_no_answer, by_choosing, by_lacking, by_entering, by_returning, by_stopping}
use Rattle.walk.proofs.step.Goals.{then-answers-taken-eq1, else-answers-taken-eq1}
use Rattle.walk.proofs.step.Goals as goal

pub returns-in-Goes : goal.returns-in-Goes
returns-in-Goes g c = by_going c.requires c.look.ensures c.in-Some.is _ c.in-Goes.is _ c.arrive.ensures

pub returns-then-taken-answers : goal.returns-then-taken-answers
returns-then-taken-answers g c = by_no_answer c.requires c.look.ensures c.in-Some.is _ _ c.in-Chooses.is c.if-taken-answers.true

pub returns-after-answers-taken-eq1 : goal.returns-after-answers-taken-eq1
returns-after-answers-taken-eq1 g c =
    by_choosing c.requires c.look.ensures c.in-Some.is _ _ _ c.in-Chooses.is c.if-taken-answers.false
    (elim c.if-answers-taken-eq1.branch [
      | then-answers-taken-eq1 w ↦ w.next-is ∙ rw (eq-eqb _ 1 w.if-answers-taken-eq1.true) refl
      | else-answers-taken-eq1 w ↦ w.next-is ∙ rw (ne_eqb _ 1 w.if-answers-taken-eq1.false) refl
    ])
    _ c.arrive-in-Chooses.ensures

pub returns-then-depth-frames : goal.returns-then-depth-frames
returns-then-depth-frames g c = by_lacking c.requires c.look.ensures c.in-Some.is _ _ c.in-Enters.is (omega (arith, c.if-depth-frames.true)) _ c.frameless.ensures

pub returns-else-depth-frames : goal.returns-else-depth-frames
returns-else-depth-frames g c = by_entering c.requires c.look.ensures c.in-Some.is _ _ c.in-Enters.is c.if-depth-frames.false _ c.arrive-in-Enters.ensures

pub returns-else-depth-eq0 : goal.returns-else-depth-eq0
returns-else-depth-eq0 g c =
    by_returning c.requires c.look.ensures c.in-Some.is c.in-Returns.is c.if-depth-eq0.false _ c.index-frames-top.is _ c.arrive-in-Returns.ensures

pub returns-in-Stuck : goal.returns-in-Stuck
returns-in-Stuck g c = by_stopping c.requires c.look.ensures c.in-Some.is c.in-Stuck.is
