-- Kind, section and table 1, tested in an order that leads to the definition's case.
use mathlib.Core.Path.{sym, ap, ◌∙◌}
use mathlib.Core.Logic.{inl, inr}
use mathlib.Core.Option.{some}
use mathlib.Core.List.{[]}
use lib.IntN.{ℤ}
use mir.Syntax.{w32, w64}
use mir.ValLaws.{to_z-of_z, to_z_pos}
use native.Mathlib.Omega.{arith}
use Rattle.rules.specs.Tables.{section, or_missing, by_code}
use Rattle.rules.specs.Lookups.{function_with}
use Rattle.resolve.specs.Means.{targets}
use Rattle.resolve.proofs.Targets.{text_at, no_code, other_code, section_code}
use Rattle.resolve.proofs.by_symbol.Goals as goal

pub returns-in-Text-kind : goal.returns-in-Text-kind
returns-in-Text-kind c =
    let a = c.args in
    rw c.in-Text-kind.is (
    c.by_address.ensures ∙ ap (λ (y : ℤ). or_missing (function_with a.functions.now a.home y)) (to_z_pos w64 a.address.0 (omega arith))
    ∙ sym (text_at a.code.now a.functions.now a.home a.address.0 a.size a.imm c.if-home-eq-NONE.false)
    )

pub returns-in-Other-kind : goal.returns-in-Other-kind
returns-in-Other-kind c =
    let a = c.args in
    rw c.in-Other-kind.is (other_code a.code.now a.functions.now a.home a.address.0 a.size a.imm c.if-home-eq-NONE.false c.if-is_code.ensures)

pub returns-in-Section : goal.returns-in-Section
returns-in-Section c =
    let a = c.args in
    rw c.in-Section.is (
    c.by_section.ensures ∙ ap (by_code (targets [] a.functions.now) section (some a.home) a.address.0 a.size) (to_z-of_z w32 a.imm c.ranges.imm)
    ∙ sym (section_code a.code.now a.functions.now a.home a.address.0 a.size a.imm c.if-home-eq-NONE.false c.if-is_code-2.ensures)
    )

pub returns-in-Other-2 : goal.returns-in-Other-2
returns-in-Other-2 c =
    let a = c.args in
    no_code a.code.now a.functions.now a.home a.address.0 a.size a.imm c.if-home-eq-NONE.false a.kind (inl c.in-Other-kind.is) c.if-is_code.ensures

pub returns-in-Other-2-2 : goal.returns-in-Other-2-2
returns-in-Other-2-2 c =
    let a = c.args in
    no_code a.code.now a.functions.now a.home a.address.0 a.size a.imm c.if-home-eq-NONE.false a.kind (inr c.in-Section.is) c.if-is_code-2.ensures
