-- The invariant: nothing is wrong with the records before record j, so what is left to look at gives what was asked.
use mathlib.Core.Path.{sym, ap, ◌∙◌}
use mathlib.Core.Option.{some}
use native.Mathlib.Omega.{arith}
use Rattle.rules.specs.Answers.{number_of}
use Rattle.examine.specs.Recorded.{record_wrong}
use Rattle.examine.proofs.Firsts.{wrong_step, wrong_here}
use Rattle.examine.proofs.Same.{missing, differs, same_there}
use Rattle.examine.proofs.records.check_run.Goals.{then-to-n-via-then-to-n, then-to-n-via-else-to-n+then-not-same}
use Rattle.examine.proofs.records.check_run.Goals as goal

pub returns-then-to-n : goal.returns-then-to-n
returns-then-to-n g c = λ test decides.
    let a = c.args in
    let l = c.loop-j in
    let wrong = record_wrong (number_of a.cause) a.k a.n a.at test in
    ap some c.finding.ensures
    ∙ sym (l.invariant.same test decides ∙ wrong_here wrong l.j a.count c.loop-j-test.true
    (elim c.then-to-n.branch [
      | then-to-n-via-then-to-n w ↦ missing (number_of a.cause) a.k a.n a.at test l.j w.if-to-n.true
      | then-to-n-via-else-to-n+then-not-same w ↦ differs (number_of a.cause) a.k a.n a.at test l.j w.if-to-n.false (sym (decides l.j c.loop-j-test.true w.if-to-n.false w.same.result w.same.ensures) ∙ w.if-not-same.true)
    ]))

pub loop-j-preserved : goal.loop-j-preserved
loop-j-preserved g c =
    let a = c.args in
    let l = c.loop-j in record {
      most = omega (arith, c.loop-j-test.true);
      same = λ test decides.
          let wrong = record_wrong (number_of a.cause) a.k a.n a.at test in
          l.invariant.same test decides
          ∙ wrong_step wrong l.j a.count c.loop-j-test.true
          (same_there (number_of a.cause) a.k a.n a.at test l.j c.if-to-n.false (sym (decides l.j c.loop-j-test.true c.if-to-n.false c.same.result c.same.ensures) ∙ c.if-not-same.false));
    }
