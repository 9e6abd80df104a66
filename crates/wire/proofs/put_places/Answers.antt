-- Each number is put where those before it end. The return is where the next does not fit.
use mathlib.Core.Path.{ap, ◌∙◌}
use mathlib.Core.List.{List, [], ◌∷◌}
use Prim.Native.Nat.{ℕ, ◌+◌, ◌*◌, ◌≤◌}
use native.Mathlib.Omega.{arith}
use lib.ListN.{length, get_or}
use Rattle.rules.specs.Bytes.{little, bytes4, splice}
use Rattle.wire.proofs.Places.{none_put, put_next, no_room, all_put}
use Rattle.wire.proofs.put_places.Goals as goal

pub loop-i-init : goal.loop-i-init
loop-i-init c = (omega arith, c.wipe.ensures ∙ none_put (length c.args.out.now))

pub returns-then-out-end : goal.returns-then-out-end
returns-then-out-end c =
    let a = c.args in
    let n : ℕ = length a.out.now in
    c.loop-i.invariant.1
    ∙ no_room (a.a ∷ a.b ∷ a.c ∷ []) n c.loop-i.i c.loop-i.invariant.0 (omega (arith, c.loop-i.auto.out, c.wipe.auto.out, c.if-out-end.true))

pub loop-i-preserved : goal.loop-i-preserved
loop-i-preserved c =
    let a = c.args in
    let ps : List ℕ = a.a ∷ a.b ∷ a.c ∷ [] in
    let h : 4 * c.loop-i.i + 4 ≤ length a.out.now = omega (arith, c.loop-i.auto.out, c.wipe.auto.out, c.if-out-end.false) in (
      omega arith,
      c.put_u32.ensures
          ∙ ap (λ (l : List ℕ). splice l (4 * c.loop-i.i) (bytes4 little (get_or ps c.loop-i.i 0))) c.loop-i.invariant.1
          ∙ put_next ps (length a.out.now) c.loop-i.i (omega arith) h,
    )

pub returns : goal.returns
returns c =
    let a = c.args in
    c.loop-i.invariant.1 ∙ all_put (a.a ∷ a.b ∷ a.c ∷ []) (length a.out.now) c.loop-i.i (omega arith) c.loop-i.invariant.0
