-- Each number is put where those before it end.
use mathlib.Core.Path.{sym, ap, ◌∙◌}
use mathlib.Core.List.{List}
use Prim.Native.Nat.{ℕ, ◌+◌, ◌*◌}
use native.Mathlib.Omega.{arith}
use lib.ListN.{get_or, take}
use lib.Seq.{take_all}
use Rattle.rules.specs.Bytes.{little, bytes4, splice}
use Rattle.rules.specs.Answers.{numbers}
use Rattle.rules.proofs.Splices.{splice_nothing, splice_more}
use Rattle.wire.proofs.Places.{front, one_more}
use Rattle.wire.proofs.put_numbers.Goals as goal

pub loop-i-init : goal.loop-i-init
loop-i-init g c = splice_nothing c.args.out.now c.args.at

pub loop-i-preserved : goal.loop-i-preserved
loop-i-preserved g c =
    let a = c.args in
    let l = c.loop-i in
    let done = front a.list 0 l.i (omega arith) in
    c.put_u32.ensures
    ∙ ap (λ (d : List ℕ). splice d (a.at + 4 * l.i) (bytes4 little (get_or a.list l.i 0))) l.invariant
    ∙ splice_more a.out.now a.at (numbers (take l.i a.list)) (bytes4 little (get_or a.list l.i 0)) (a.at + 4 * l.i) (omega (arith, done)) (omega (arith, c.requires))
    ∙ ap (splice a.out.now a.at) (sym (one_more a.list 0 l.i (omega arith)))

pub returns : goal.returns
returns g c =
    let a = c.args in
    c.loop-i.invariant ∙ ap (λ (l : List ℕ). splice a.out.now a.at (numbers l)) (take_all c.loop-i.i a.list (omega arith))
