-- The invariant: what adds the rest of the text's line adds the whole. Assumes nothing.
use Rattle.std.proofs.Common.{sym, ap, ◌∙◌, [], ◌∷◌, ℕ, ◌+◌, arith, drop}
use Rattle.tell.specs.Lines.{added, marked, words_in}
use Rattle.tell.proofs.Spelled.{on_mark, on_plain}
use Rattle.tell.proofs.lines.Words.push_line.Goals as goal
use Rattle.tell.proofs.lines.Words.push_line.Goals.{in-Some, in-None}

pub loop-t-preserved : goal.loop-t-preserved
loop-t-preserved c =
    let a = c.args in
    let l = c.loop-t in
    let rest = λ (j : ℕ). words_in (drop (l.t-index + 1) a.text.now) a.numbers.now j in
    elim c.match-mark_of.branch [
      | in-Some w ↦ (
        omega arith,
        ap (λ (j : ℕ). added (rest j) c.match-mark_of.self) w.j-is
            ∙ ap (added (rest (l.j + 1))) (w.self-is ∙ w.push_marked.ensures ∙ ap (λ (n : ℕ). added (marked w.in-Some.mark n) l.self) w.number_at.ensures)
            ∙ on_mark a.text.now a.numbers.now l.t-index l.j c.loop-t-test.true l.self w.in-Some.mark c.if-t-eq-END.false (sym c.mark_of.ensures ∙ w.in-Some.is)
            ∙ l.invariant.1,
      )
      | in-None w ↦ (
        omega arith,
        ap (λ (j : ℕ). added (rest j) c.match-mark_of.self) w.j-is
            ∙ ap (added (rest l.j)) (w.self-is ∙ w.push.ensures ∙ ap (λ (b : ℕ). added (b ∷ []) l.self) w.plain.ensures)
            ∙ on_plain a.text.now a.numbers.now l.t-index l.j c.loop-t-test.true l.self c.if-t-eq-END.false (sym c.mark_of.ensures ∙ w.in-None.is)
            ∙ l.invariant.1,
      )
    ]
