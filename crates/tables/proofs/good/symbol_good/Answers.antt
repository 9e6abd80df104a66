-- The six tests of a symbol's row, in order.
use mathlib.Core.Path.{ap, ◌∙◌}
use mathlib.Core.Bool.{not}
use lib.Dec.{eqb, leb}
use Rattle.rules.specs.Rows.{is_good, none_number, is_section_or_none, is_address, symbol_index}
use Rattle.tables.proofs.Tests.{six, keys_rise, key_last}
use Rattle.tables.proofs.good.symbol_good.Goals as goal

pub returns : goal.returns
unfolding is_good
returns c =
    let i = c.symbol_index-index.ensures in
    let l = c.saturating_sub.ensures in
    let t = c.args.t.now in
    let k = c.args.k in
    six (ap (λ x. not (eqb x none_number)) i)
    (c.is_section_or_none.ensures ∙ ap is_section_or_none c.symbol_section.ensures)
    (c.is_address.ensures ∙ ap is_address c.symbol_address.ensures)
    (ap (λ x. leb x 2) c.symbol_kind.ensures)
    c.all_zero.ensures
    (keys_rise (symbol_index t) k (key_last (symbol_index t) k l c.symbol_index-last.ensures) i)
