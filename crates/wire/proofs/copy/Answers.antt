-- The invariant: what is written is a paste of the first i bytes; n of them are the splice.
use mathlib.Core.Path.{◌≡◌, ap, ◌∙◌}
use mathlib.Core.List.{List}
use Prim.Native.Nat.{ℕ, ◌+◌}
use native.Mathlib.Omega.{arith}
use lib.ListN.{drop, get_or, set, length-set, length-drop}
use lib.Seq.{paste}
use Rattle.rules.proofs.Splices.{copy_turn, paste_splice}
use Rattle.wire.proofs.copy.Goals as goal

pub loop-i-preserved : goal.loop-i-preserved
loop-i-preserved c =
    let a = c.args in (
      ap (λ (d : List ℕ). set d (a.at + c.loop-i.i) (get_or a.src.now (a.from + c.loop-i.i) 0)) c.loop-i.invariant.0
          ∙ copy_turn a.out.now a.at a.src.now a.from c.loop-i.i (omega arith) (omega arith),
      length-set c.loop-i.out (a.at + c.loop-i.i) (get_or a.src.now (a.from + c.loop-i.i) 0) ∙ c.loop-i.invariant.1,
    )

pub returns : goal.returns
returns c =
    let a = c.args in
    let e : c.loop-i.i ≡ a.n = omega arith in
    c.loop-i.invariant.0
    ∙ ap (paste a.out.now a.at (drop a.from a.src.now)) e
    ∙ paste_splice a.out.now a.at (drop a.from a.src.now) a.n (rw length-drop (omega arith))
