-- The five tests of a relocation's row, in order.
use mathlib.Core.Path.{ap, ◌∙◌}
use mathlib.Core.Bool.{not}
use lib.Dec.{eqb}
use Rattle.rules.specs.Rows.{is_good, is_section, is_address, none_number, relocation_section, relocation_offset}
use Rattle.tables.proofs.Tests.{five, pairs_rise, key_last}
use Rattle.tables.proofs.good.relocation_good.Goals as goal

pub returns : goal.returns
unfolding is_good
returns c =
    let s = c.relocation_section-section.ensures in
    let o = c.relocation_offset-offset.ensures in
    let l = c.saturating_sub-last.ensures in
    let t = c.args.t.now in
    let k = c.args.k in
    five (c.is_section.ensures ∙ ap is_section s)
    (ap (λ x. not (eqb x none_number)) c.relocation_symbol.ensures)
    (c.is_address.ensures ∙ ap is_address o)
    c.all_zero.ensures
    (pairs_rise (relocation_section t) (relocation_offset t) k c.is_before.ensures
    (key_last (relocation_section t) k l c.relocation_section.ensures)
    (key_last (relocation_offset t) k l c.relocation_offset.ensures)
    s
    o)
