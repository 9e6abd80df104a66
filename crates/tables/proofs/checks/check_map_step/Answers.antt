-- Each table in document 01's order: it refuses, or what is left is said by those after it.
use mathlib.Core.Path.{◌≡◌, sym, ap, ◌∙◌}
use mathlib.Core.Option.{Option, none}
use mathlib.Core.List.{[], ◌∷◌}
use Rattle.std.specs.Prelude.{Err}
use Rattle.std.proofs.lemmas.Result.{err_from_is_err_and}
use Rattle.rules.specs.declared.Table.TheVariants.{Code, Functions, Instructions, Maps, Relocations, Symbols}
use Rattle.rules.specs.Answers.{Reply}
use Rattle.rules.specs.Lent.{lent_maps}
use Rattle.rules.specs.Rows.{Offered, map_step_tables, map_step_refusal, too_many, broken, broken_in, or_else}
use Rattle.tables.proofs.Refusals.{many_each, broken_each, all_from, passed_on, handed_on, or_none_lem}
use Rattle.tables.proofs.checks.check_map_step.Goals.{After-few, In_ok-few, In_ok-few-2, In_ok-few-3, In_ok-few-4, In_ok-few-5, In_ok-few-6, In_ok-unbroken, In_ok-unbroken-2, In_ok-unbroken-3, In_ok-unbroken-4, In_ok-unbroken-5}
use Rattle.tables.proofs.checks.check_map_step.Goals as goal

abbrev o : After-few → Offered
o c = lent_maps c.args.names c.args.maps.now c.args.instructions.now

abbrev Left : (c : After-few) → Option Reply → Type 0
Left c left = map_step_refusal (o c) ≡ left

left0 : (c : After-few) → Left c (many_each (o c) (Code ∷ Symbols ∷ Functions ∷ Relocations ∷ Maps ∷ Instructions ∷ []) (broken_each (o c) map_step_tables none))
unfolding map_step_refusal
left0 c = ap (or_else (too_many (o c) map_step_tables)) (sym (or_none_lem (broken (o c) map_step_tables))) ∙ all_from (o c) map_step_tables none

left1 : (c : In_ok-few) → let b : After-few = (goal.at.In_ok-few c).After-few in Left b (many_each (o b) (Symbols ∷ Functions ∷ Relocations ∷ Maps ∷ Instructions ∷ []) (broken_each (o b) map_step_tables none))
left1 c = passed_on (left0 ((goal.at.In_ok-few c).After-few)) c.in_ok-few.ensures

left2 : (c : In_ok-few-2) → let b : After-few = (goal.at.In_ok-few-2 c).After-few in Left b (many_each (o b) (Functions ∷ Relocations ∷ Maps ∷ Instructions ∷ []) (broken_each (o b) map_step_tables none))
left2 c = passed_on (left1 ((goal.at.In_ok-few-2 c).In_ok-few)) c.in_ok-few-2.ensures

left3 : (c : In_ok-few-3) → let b : After-few = (goal.at.In_ok-few-3 c).After-few in Left b (many_each (o b) (Relocations ∷ Maps ∷ Instructions ∷ []) (broken_each (o b) map_step_tables none))
left3 c = passed_on (left2 ((goal.at.In_ok-few-3 c).In_ok-few-2)) c.in_ok-few-3.ensures

left4 : (c : In_ok-few-4) → let b : After-few = (goal.at.In_ok-few-4 c).After-few in Left b (many_each (o b) (Maps ∷ Instructions ∷ []) (broken_each (o b) map_step_tables none))
left4 c = passed_on (left3 ((goal.at.In_ok-few-4 c).In_ok-few-3)) c.in_ok-few-4.ensures

left5 : (c : In_ok-few-5) → let b : After-few = (goal.at.In_ok-few-5 c).After-few in Left b (many_each (o b) (Instructions ∷ []) (broken_each (o b) map_step_tables none))
left5 c = passed_on (left4 ((goal.at.In_ok-few-5 c).In_ok-few-4)) c.in_ok-few-5.ensures

left6 : (c : In_ok-few-6) → let b : After-few = (goal.at.In_ok-few-6 c).After-few in Left b (broken_each (o b) (Code ∷ Symbols ∷ Functions ∷ Relocations ∷ Maps ∷ Instructions ∷ []) none)
left6 c = passed_on (left5 ((goal.at.In_ok-few-6 c).In_ok-few-5)) c.in_ok-few-6.ensures

left7 : (c : In_ok-unbroken) → let b : After-few = (goal.at.In_ok-unbroken c).After-few in Left b (broken_each (o b) (Symbols ∷ Functions ∷ Relocations ∷ Maps ∷ Instructions ∷ []) none)
unfolding broken_in
left7 c = passed_on (left6 ((goal.at.In_ok-unbroken c).In_ok-few-6)) c.in_ok-unbroken.ensures

left8 : (c : In_ok-unbroken-2) → let b : After-few = (goal.at.In_ok-unbroken-2 c).After-few in Left b (broken_each (o b) (Functions ∷ Relocations ∷ Maps ∷ Instructions ∷ []) none)
unfolding broken_in
left8 c = passed_on (left7 ((goal.at.In_ok-unbroken-2 c).In_ok-unbroken)) c.in_ok-unbroken-2.ensures

left9 : (c : In_ok-unbroken-3) → let b : After-few = (goal.at.In_ok-unbroken-3 c).After-few in Left b (broken_each (o b) (Relocations ∷ Maps ∷ Instructions ∷ []) none)
unfolding broken_in
left9 c = passed_on (left8 ((goal.at.In_ok-unbroken-3 c).In_ok-unbroken-2)) c.in_ok-unbroken-3.ensures

left10 : (c : In_ok-unbroken-4) → let b : After-few = (goal.at.In_ok-unbroken-4 c).After-few in Left b (broken_each (o b) (Maps ∷ Instructions ∷ []) none)
unfolding broken_in
left10 c = passed_on (left9 ((goal.at.In_ok-unbroken-4 c).In_ok-unbroken-3)) c.in_ok-unbroken-4.ensures

left11 : (c : In_ok-unbroken-5) → let b : After-few = (goal.at.In_ok-unbroken-5 c).After-few in Left b (broken_each (o b) (Instructions ∷ []) none)
unfolding broken_in
left11 c = passed_on (left10 ((goal.at.In_ok-unbroken-5 c).In_ok-unbroken-4)) c.in_ok-unbroken-5.ensures

pub returns-in_err-few : goal.returns-in_err-few
returns-in_err-few c =
    let p = err_from_is_err_and c.from_residual.result c.from_residual.ensures.1 in
    handed_on _ (left0 (goal.at.returns-in_err-few c).After-few) c.from_residual.result _ (p.1 ∙ ap Err p.2) c.in_err-few.ensures

pub returns-in_err-few-2 : goal.returns-in_err-few-2
returns-in_err-few-2 c =
    let p = err_from_is_err_and c.from_residual-in_err-few-2.result c.from_residual-in_err-few-2.ensures.1 in
    handed_on _ (left1 (goal.at.returns-in_err-few-2 c).In_ok-few) c.from_residual-in_err-few-2.result _ (p.1 ∙ ap Err p.2) c.in_err-few-2.ensures

pub returns-in_err-few-3 : goal.returns-in_err-few-3
returns-in_err-few-3 c =
    let p = err_from_is_err_and c.from_residual-in_err-few-3.result c.from_residual-in_err-few-3.ensures.1 in
    handed_on _ (left2 (goal.at.returns-in_err-few-3 c).In_ok-few-2) c.from_residual-in_err-few-3.result _ (p.1 ∙ ap Err p.2) c.in_err-few-3.ensures

pub returns-in_err-few-4 : goal.returns-in_err-few-4
returns-in_err-few-4 c =
    let p = err_from_is_err_and c.from_residual-in_err-few-4.result c.from_residual-in_err-few-4.ensures.1 in
    handed_on _ (left3 (goal.at.returns-in_err-few-4 c).In_ok-few-3) c.from_residual-in_err-few-4.result _ (p.1 ∙ ap Err p.2) c.in_err-few-4.ensures

pub returns-in_err-few-5 : goal.returns-in_err-few-5
returns-in_err-few-5 c =
    let p = err_from_is_err_and c.from_residual-in_err-few-5.result c.from_residual-in_err-few-5.ensures.1 in
    handed_on _ (left4 (goal.at.returns-in_err-few-5 c).In_ok-few-4) c.from_residual-in_err-few-5.result _ (p.1 ∙ ap Err p.2) c.in_err-few-5.ensures

pub returns-in_err-few-6 : goal.returns-in_err-few-6
returns-in_err-few-6 c =
    let p = err_from_is_err_and c.from_residual-in_err-few-6.result c.from_residual-in_err-few-6.ensures.1 in
    handed_on _ (left5 (goal.at.returns-in_err-few-6 c).In_ok-few-5) c.from_residual-in_err-few-6.result _ (p.1 ∙ ap Err p.2) c.in_err-few-6.ensures

pub returns-in_err-unbroken : goal.returns-in_err-unbroken
unfolding broken_in
returns-in_err-unbroken c =
    let p = err_from_is_err_and c.from_residual-in_err-unbroken.result c.from_residual-in_err-unbroken.ensures.1 in
    handed_on _ (left6 (goal.at.returns-in_err-unbroken c).In_ok-few-6) c.from_residual-in_err-unbroken.result _ (p.1 ∙ ap Err p.2) c.in_err-unbroken.ensures

pub returns-in_err-unbroken-2 : goal.returns-in_err-unbroken-2
unfolding broken_in
returns-in_err-unbroken-2 c =
    let p = err_from_is_err_and c.from_residual-in_err-unbroken-2.result c.from_residual-in_err-unbroken-2.ensures.1 in
    handed_on _ (left7 (goal.at.returns-in_err-unbroken-2 c).In_ok-unbroken) c.from_residual-in_err-unbroken-2.result _ (p.1 ∙ ap Err p.2) c.in_err-unbroken-2.ensures

pub returns-in_err-unbroken-3 : goal.returns-in_err-unbroken-3
unfolding broken_in
returns-in_err-unbroken-3 c =
    let p = err_from_is_err_and c.from_residual-in_err-unbroken-3.result c.from_residual-in_err-unbroken-3.ensures.1 in
    handed_on _ (left8 (goal.at.returns-in_err-unbroken-3 c).In_ok-unbroken-2) c.from_residual-in_err-unbroken-3.result _ (p.1 ∙ ap Err p.2) c.in_err-unbroken-3.ensures

pub returns-in_err-unbroken-4 : goal.returns-in_err-unbroken-4
unfolding broken_in
returns-in_err-unbroken-4 c =
    let p = err_from_is_err_and c.from_residual-in_err-unbroken-4.result c.from_residual-in_err-unbroken-4.ensures.1 in
    handed_on _ (left9 (goal.at.returns-in_err-unbroken-4 c).In_ok-unbroken-3) c.from_residual-in_err-unbroken-4.result _ (p.1 ∙ ap Err p.2) c.in_err-unbroken-4.ensures

pub returns-in_err-unbroken-5 : goal.returns-in_err-unbroken-5
unfolding broken_in
returns-in_err-unbroken-5 c =
    let p = err_from_is_err_and c.from_residual-in_err-unbroken-5.result c.from_residual-in_err-unbroken-5.ensures.1 in
    handed_on _ (left10 (goal.at.returns-in_err-unbroken-5 c).In_ok-unbroken-4) c.from_residual-in_err-unbroken-5.result _ (p.1 ∙ ap Err p.2) c.in_err-unbroken-5.ensures

pub returns : goal.returns
unfolding broken_in
returns c = c.right_total.ensures ∙ sym (left11 (goal.at.returns c).In_ok-unbroken-5 ∙ or_none_lem _)
