-- The invariant: the lines that are left to pass lead to the one asked for. Assumes nothing.
use Rattle.std.proofs.Common.{rules, ◌≡◌, sym, ap, ◌∙◌, List, ℕ, suc, ◌+◌, ◌-◌, arith}
use Rattle.tell.specs.Lines.{line_from}
use Rattle.tell.proofs.Spelled.{from_first, from_end, from_next}
use Rattle.tell.proofs.lines.line_from.Goals as goal

pub loop-preserved : goal.loop-preserved
loop-preserved c =
    let l = c.loop in
    let m = c.args.k - (l.counter + 1) in
    let e : c.args.k - l.counter ≡ suc m = omega arith in
    ap (λ (s : List ℕ). line_from s m) c.behind-rest.ensures ∙ sym (ap (line_from l.rest.now) e ∙ from_next l.rest.now m) ∙ l.invariant

pub returns : goal.returns
returns c =
    let l = c.loop in
    let e : c.args.k - l.counter ≡ 0 = omega arith in
    sym (ap (line_from l.rest.now) e ∙ from_first l.rest.now) ∙ l.invariant

-- a text that is used up has no line further on
pub returns-then-is_empty : goal.returns-then-is_empty
returns-then-is_empty c = from_end c.loop.rest.now (c.args.k - c.loop.counter) (search rules) ∙ c.loop.invariant
