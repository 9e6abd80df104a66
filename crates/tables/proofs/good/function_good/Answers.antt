-- The seven tests of a function's row, in order.
use mathlib.Core.Path.{ap, ◌∙◌}
use Prim.Native.Nat.{◌%◌}
use lib.Dec.{eqb, leb}
use Rattle.rules.specs.Rows.{is_good, is_section, is_address, most_function_slots, function_section, function_address}
use Rattle.tables.proofs.Tests.{seven, pairs_rise, key_last}
use Rattle.tables.proofs.good.function_good.Goals as goal

pub returns : goal.returns
unfolding is_good
returns c =
    let s = c.function_section-section.ensures in
    let n = c.function_slots-slots.ensures in
    let d = c.function_address-address.ensures in
    let o = c.function_offset-offset.ensures in
    let l = c.saturating_sub-last.ensures in
    let a = c.args in
    seven (c.is_section.ensures ∙ ap is_section s)
    (ap (leb 1) n)
    (ap (λ x. leb x most_function_slots) n)
    (c.is_address.ensures ∙ ap is_address d)
    (c.is_address-2.ensures ∙ ap is_address o)
    (ap (λ x. eqb (x % 8) 0) o)
    (pairs_rise (function_section a.t.now) (function_address a.t.now) a.k c.is_before.ensures
    (key_last (function_section a.t.now) a.k l c.function_section.ensures)
    (key_last (function_address a.t.now) a.k l c.function_address.ensures)
    s
    d)
