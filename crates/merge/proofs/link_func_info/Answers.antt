-- The invariant: the output holds the first k records, each with the start as its slot.
use mathlib.Core.Path.{◌≡◌, ◌∙◌}
use native.Mathlib.Omega.{arith}
use Rattle.merge.proofs.Linked.{funcs_none, funcs_all, func_turn}
use Rattle.merge.proofs.link_func_info.Goals as goal

pub loop-k-init : goal.loop-k-init
loop-k-init c = funcs_none _ _ _ _ _

pub loop-k-preserved : goal.loop-k-preserved
loop-k-preserved c =
    let kind = c.func_info_type-kind in
    let l = c.loop-k in
    let a = c.args in
    c.put_numbers.ensures
    ∙ func_turn a.func_info.now a.part.funcs _ a.out.now l.out a.used.funcs l.k kind.result l.invariant kind.ensures (omega (arith, c.requires.room, c.loop-k-test.true))

pub returns : goal.returns
returns c =
    let l = c.loop-k in
    let a = c.args in
    let e : l.k ≡ a.more.funcs = omega (arith, l.auto.k-end, c.loop-k-test.false) in
    l.invariant ∙ funcs_all a.func_info.now a.part.funcs a.used.slots a.out.now a.used.funcs l.k a.more.funcs e
