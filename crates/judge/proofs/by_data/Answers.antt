-- A sum outside 32 bits.
use mathlib.Core.Path.{◌≡◌, sym, ap, ◌∙◌, subst}
use lib.IntN.{pos, ◌+ℤ◌}
use Rattle.std.proofs.Common.{rules, FitsSigned}
use mir.Syntax.{w32, w64}
use mir.Val.{to_z, of_z, SFits}
use mir.ValLaws.{to_z-of_z}
use Rattle.judge.proofs.Laws.{outside_fits, outside_says}
use Rattle.judge.proofs.by_data.Goals.{After-value-sum}
use Rattle.judge.proofs.by_data.Goals as goal

sum_is : (v : After-value-sum) → to_z w64 (of_z w64 v.value-sum.result) ≡ v.args.site.imm +ℤ pos v.args.address.0
sum_is v =
    let fits : FitsSigned w32 v.args.site.imm = search rules in
    to_z-of_z w64 _ (record { sfits = v.value-sum.type_inv }) ∙ v.value-sum.ensures ∙ ap (λ z. z +ℤ pos v.args.address.0) (to_z-of_z w32 v.args.site.imm fits)

pub returns-in_default : goal.returns-in_default
returns-in_default c =
    outside_says c.args.maps.now c.args.m c.args.address.0 c.args.site (sym c.map_has_data.ensures ∙ c.if-map_has_data-ne-HAS_DATA.false)
    (outside_fits _ (λ f. c.in_default.ensures (subst (SFits w32) (sym (sum_is (goal.at.returns-in_default c).After-value-sum)) f))) _ c.refused.ensures
