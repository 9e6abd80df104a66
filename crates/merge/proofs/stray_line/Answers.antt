-- The first record that strays is the one that the definition names.
use mathlib.Core.Path.{◌≡◌, sym, ap, ◌∙◌}
use mathlib.Core.Bool.{true, false}
use Prim.Native.Nat.{◌+◌}
use native.Mathlib.Omega.{arith}
use borrow.Author.Rules.{rules}
use borrow.Author.Tests.{tests}
use Rattle.std.proofs.lemmas.Iterator.{first_from_Range}
use Rattle.rules.specs.Bytes.{little}
use Rattle.rules.specs.Lookups.{found_of}
use Rattle.rules.specs.Rows.{line_info_row}
use Rattle.merge.specs.Merge.{stays}
use Rattle.merge.proofs.Strays.{stray_found, stray_start}
use Rattle.merge.proofs.stray_line.Goals as goal

pub returns : goal.returns
returns c =
    let a = c.args in
    let slots = c.function_slots-slots.result.0 in
    let origin = c.line_info_slot-origin.result in
    let count = c.function_line_info-count.result in
    let row = line_info_row little a.line_info.now in
    stray_found slots origin row a.first count c.find.result
    (first_from_Range _ _ _ c.find.result (λ k. stays slots origin (row (a.first + k)) ≡ false) (λ k. stays slots origin (row (a.first + k)) ≡ true) c.find.ensures.ran
    (λ x q k. search (rules, tests)) (λ x q k. search (rules, tests)))
    ∙ ap found_of (sym (stray_start a.functions.now a.line_info.now a.row a.first count slots origin c.function_slots-slots.ensures c.requires.begins
    c.function_line_info-count.ensures c.line_info_slot-origin.ensures (omega (arith, c.if-count-eq0.false))))
