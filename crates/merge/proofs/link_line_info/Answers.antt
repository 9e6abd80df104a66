-- The invariant: the output holds the first k records, each moved by the same way as the first one, which goes to the start.
use mathlib.Core.Path.{◌≡◌, sym, ◌∙◌}
use native.Mathlib.Omega.{arith}
use Rattle.merge.proofs.Linked.{lines_none, lines_all, line_turn}
use Rattle.merge.proofs.link_line_info.Goals as goal

pub returns-then-n-eq0 : goal.returns-then-n-eq0
returns-then-n-eq0 c =
    let a = c.args in
    lines_none a.line_info.now a.part.lines 0 a.used.slots a.out.now a.used.lines
    ∙ lines_all a.line_info.now a.part.lines 0 a.used.slots a.out.now a.used.lines 0 a.more.lines (sym c.if-n-eq0.true) (λ l. absurd (omega (arith, c.if-n-eq0.true)))

pub loop-k-init : goal.loop-k-init
loop-k-init c = lines_none _ _ _ _ _ _

pub loop-k-preserved : goal.loop-k-preserved
loop-k-preserved c =
    let l = c.loop-k in
    let a = c.args in
    c.put_numbers.ensures
    ∙ line_turn a.line_info.now a.part.lines c.line_info_slot-origin.result a.used.slots a.out.now l.out a.used.lines l.k _ _ _ _ l.invariant
    c.line_info_slot.ensures c.line_info_file-file.ensures c.line_info_line-line.ensures c.line_info_column-column.ensures (omega (arith, c.requires.0.room, c.loop-k-test.true))

pub returns : goal.returns
returns c =
    let l = c.loop-k in
    let a = c.args in
    let e : l.k ≡ a.more.lines = omega (arith, l.auto.k-end, c.loop-k-test.false) in
    l.invariant ∙ lines_all a.line_info.now a.part.lines c.line_info_slot-origin.result a.used.slots a.out.now a.used.lines l.k a.more.lines e (λ l. c.line_info_slot-origin.ensures)
