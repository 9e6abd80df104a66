-- The first piece meets no 12; of a later one, the record that the search finds.
use mathlib.Core.Path.{sym, ◌∙◌}
use native.Mathlib.Omega.{arith}
use Rattle.rows.proofs.Laws.{found_some}
use Rattle.merge.proofs.Strays.{stray_low}
use Rattle.examine.proofs.records.check_stray.Goals as goal

pub overflow_cast-j : goal.overflow_cast-j
overflow_cast-j c =
    let a = c.args in
    omega (arith, c.requires.few, stray_low a.functions.now a.line_info.now a.piece.row _ (found_some _ _ (sym c.stray_line.ensures ∙ c.in-Some.is)))
