-- After k steps the definition's walk stands where the numbers say; where it does not stand any more, it stays so.
use mathlib.Core.Path.{◌≡◌, refl, sym, ap, ◌∙◌}
use mathlib.Core.Option.{Option}
use mathlib.Core.List.{List}
use Prim.Native.Nat.{ℕ, ◌<◌}
use native.Mathlib.Numerals.{add-one}
use Rattle.std.proofs.Common.{rules}
use Rattle.rules.specs.Walk.{Move}
use Rattle.walk.specs.Steps.{stood_of, slice_frames, SteppedOver, RanOver}
use Rattle.walk.specs.declared.Here.{Here}
use Rattle.walk.specs.declared.Stand.{Stand}
use Rattle.walk.specs.declared.Stand.TheVariants.{Standing, Stopped, Ended, Left, NoFrame}
use Rattle.walk.proofs.Running.{Running, begins, goes_on, comes_to_rest, lacks_a_frame, leaves_at_once, arrives_last}
use Rattle.walk.proofs.Steps.{slice_laws}
use Rattle.walk.proofs.run.Goals as goal

-- where it does not stand any more
ends_there : {Place : Type 0} {look : Place → Option (Move Place)} {blank first : Place} {lent before after : List Place} {answers : List ℕ} {k : ℕ} {here : Here Place}
    → Running (slice_frames blank) look first answers lent before k here.at here.depth here.taken
    → (s : Stand Place) → SteppedOver look blank before after answers here s → ((there : Here Place) → s ≡ Standing there → ⊥)
    → (limit : ℕ) → k < limit → RanOver look blank lent after answers first limit s
ends_there r (Standing there) p stands limit h = absurd (stands there refl)
ends_there r (Stopped at depth) p stands limit h = comes_to_rest _ _ _ _ _ (slice_laws _) r p refl limit h
ends_there r (Ended at) p stands limit h = comes_to_rest _ _ _ _ _ (slice_laws _) r p refl limit h
ends_there r Left p stands limit h = comes_to_rest _ _ _ _ _ (slice_laws _) r p refl limit h
ends_there r NoFrame p stands limit h = lacks_a_frame _ _ _ _ _ (slice_laws _) r p refl limit h

pub returns-then-not-has : goal.returns-then-not-has
returns-then-not-has g c = leaves_at_once _ _ _ _ _ (sym c.has.ensures ∙ c.if-not-has.true) _

pub loop-init : goal.loop-init
loop-init g c = begins _ _ _ _ _ (sym c.has.ensures ∙ c.if-not-has.false)

pub step-next-requires : goal.step-next-requires
step-next-requires g c = record { deep = c.loop.invariant.deep; few = c.loop.invariant.few }

pub returns-in_default : goal.returns-in_default
returns-in_default g c =
    let within : c.loop.counter < c.args.limit = search rules in
    ends_there c.loop.invariant _ c.step-next.ensures c.in_default.not-Standing _ within

pub loop-preserved : goal.loop-preserved
loop-preserved g c = rw (add-one c.loop.counter) (goes_on _ _ _ _ _ (slice_laws _) c.loop.invariant c.step-next.ensures _ _ _ (ap stood_of c.in-Standing.is))

pub returns : goal.returns
returns g c =
    let all : c.loop.counter ≡ c.args.limit = search rules in
    arrives_last _ _ _ _ _ c.loop.invariant all
