-- The start is where it was guessed, or where halving finds it; the end is sought from there on, since the function ends no earlier than it begins.
use mathlib.Core.Path.{◌≡◌, sym, ap, ◌∙◌}
use native.Mathlib.Omega.{arith}
use borrow.Author.Tests.{eqb-true}
use Prim.Native.Nat.{◌≤◌}
use Rattle.rules.specs.declared.Table.TheVariants.{Relocations}
use Rattle.rules.specs.Lookups.{relocations_before}
use Rattle.rules.specs.Rows.{whole_rows}
use Rattle.maps.proofs.Past.{rises}
use Rattle.maps.proofs.relocations_of.Goals.{After-end_of, then-begins_at, else-begins_at}
use Rattle.maps.proofs.relocations_of.Goals as goal

start_is : (n : After-end_of) → (n.if-begins_at.start ≡ relocations_before n.args.names.relocations.now n.function_section-home.result n.function_offset-offset.result.0)
    × (n.if-begins_at.start ≤ whole_rows Relocations n.args.names.relocations.now)
start_is n =
    elim n.if-begins_at.branch [
      | then-begins_at w ↦ (w.start-is ∙ eqb-true _ _ (sym n.begins_at.ensures ∙ w.if-begins_at.true), omega (arith, w.start-is, n.requires.3))
      | else-begins_at w ↦ (w.start-is ∙ w.relocations_before-start.ensures.0, omega (arith, w.start-is, w.relocations_before-start.ensures.1))
    ]

pub relocations_until-end-requires : goal.relocations_until-end-requires
relocations_until-end-requires c =
    let n = (goal.at.relocations_until-end-requires c).After-end_of in
    let r = rises c.args.names.relocations.now c.requires.1 c.function_section-home.result c.function_offset-offset.result.0 c.end_of.result.0 (omega (arith, c.function_offset-offset.ensures, c.end_of.ensures)) in
    (c.requires.1, omega (arith, r, (start_is n).0))

pub returns : goal.returns
returns c =
    let s = start_is (goal.at.returns c).After-end_of in
    let t = c.args.names.relocations.now in
    record {
      start_is = s.0 ∙ ap (λ h. relocations_before t h c.function_offset-offset.result.0) c.function_section-home.ensures ∙ ap (relocations_before t _) c.function_offset-offset.ensures;
      end_is = c.relocations_until-end.ensures.0 ∙ ap (λ h. relocations_before t h c.end_of.result.0) c.function_section-home.ensures ∙ ap (relocations_before t _) c.end_of.ensures;
      start_inside = s.1;
      end_inside = c.relocations_until-end.ensures.1;
    }
