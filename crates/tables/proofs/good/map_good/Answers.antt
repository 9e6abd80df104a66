-- The four tests of a map's row, in order.
use mathlib.Core.Path.{ap, ◌∙◌}
use mathlib.Core.Bool.{not}
use lib.Dec.{leb}
use Rattle.rules.specs.Rows.{is_good, is_section}
use Rattle.tables.proofs.Tests.{four}
use Rattle.tables.proofs.good.map_good.Goals as goal

pub returns : goal.returns
unfolding is_good
returns c =
    four (c.is_section.ensures ∙ ap is_section c.map_section.ensures)
    (ap (λ x. leb x 1) c.map_has_data.ensures)
    c.all_zero.ensures
    (ap not c.is_doubled.ensures)
