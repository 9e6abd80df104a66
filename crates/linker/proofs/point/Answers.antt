-- The displacement is exact, and both slots are inside an image, so that it is an immediate.
use mathlib.Core.Path.{◌≡◌, refl, ap, ◌∙◌}
use mathlib.Core.Bool.{Bool, true, false}
use mathlib.Core.List.{List}
use Prim.Native.Nat.{ℕ}
use native.Mathlib.Omega.{arith}
use mir.Syntax.{w32, w64}
use mir.Val.{to_z, of_z, SFits}
use mir.ValLaws.{to_z-of_z}
use Rattle.rules.specs.Object.{displacement}
use Rattle.rules.specs.Bytes.{little, immediate_stored, source_stored}
use Rattle.rules.proofs.Machine.{fits32}
use Rattle.rules.proofs.Writing.{displacement_fits}
use Rattle.linker.specs.Linker.{pointed_to}
use Rattle.linker.proofs.point.Goals.{After-displacement-to, After-set_immediate, then-reference, else-reference}
use Rattle.linker.proofs.point.Goals as goal

exact : (d : After-displacement-to) → to_z w64 (of_z w64 d.displacement-to.result) ≡ displacement d.args.start.0 d.args.here.0
exact d = to_z-of_z w64 _ (record { sfits = d.displacement-to.type_inv }) ∙ d.displacement-to.ensures

fits : (d : After-displacement-to) → SFits w32 (displacement d.args.start.0 d.args.here.0)
fits d =
    fits32 _ (displacement_fits d.args.start.0 d.args.here.0 (omega (arith, d.requires.1.0)) (omega (arith, d.requires.1.1)))

-- what is stored
to_is : (d : After-displacement-to) → to_z w32 (of_z w32 (to_z w64 (of_z w64 d.displacement-to.result))) ≡ displacement d.args.start.0 d.args.here.0
to_is d = rw (exact d) (to_z-of_z w32 _ (fits d))

pub overflow_cast-to : goal.overflow_cast-to
overflow_cast-to c = rw (exact c) (fits c)

abbrev before : Bool → List ℕ → ℕ → List ℕ
before true image here = source_stored little 4 image here
before false image here = image

by_reference : (refers : Bool) (image : List ℕ) (here start : ℕ)
    → immediate_stored little (before refers image here) here (displacement start here) ≡ pointed_to refers image here start
by_reference true image here start = refl
by_reference false image here start = refl

-- what the slot held before its immediate is stored
held : (d : After-set_immediate) → d.if-reference.image ≡ before d.args.reference d.args.image.now d.args.here.0
held d =
    elim d.if-reference.branch [
      | then-reference w ↦ rw (w.image-is, w.if-reference.true) w.set_source.ensures
      | else-reference w ↦ rw (w.image-is, w.if-reference.false) refl
    ]

pub returns : goal.returns
returns c =
    let a = c.args in
    c.set_immediate.ensures
    ∙ ap (λ z. immediate_stored little c.if-reference.image a.here.0 z) (to_is (goal.at.returns c).After-displacement-to)
    ∙ ap (λ x. immediate_stored little x a.here.0 (displacement a.start.0 a.here.0)) (held (goal.at.returns c).After-set_immediate)
    ∙ by_reference a.reference a.image.now a.here.0 a.start.0
