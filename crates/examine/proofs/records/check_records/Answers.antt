-- Line records that no 12 was found in can be moved.
use mathlib.Core.Path.{sym, ap, ◌∙◌}
use native.Mathlib.Omega.{arith}
use Rattle.rules.specs.Answers.{refusal_in}
use Rattle.examine.proofs.Recording.{movable}
use Rattle.examine.proofs.records.check_records.Goals as goal

pub check_lines-requires : goal.check_lines-requires
check_lines-requires c =
    let a = c.args in
    let p = c.requires in
    let n = c.function_line_info-lines.ensures in
    let none_strays = sym c.check_stray.ensures ∙ ap refusal_in c.in_ok-check_stray.was in record {
      inside = omega (arith, p.lines_inside, n);
      few = omega (arith, p.lines_inside, p.few_lines, n);
      low = p.lines_low;
      movable = λ j l. movable a.functions.now a.program.line_info.now a.piece.row a.piece.part.lines a.piece.start.0 p.begins.lines_are p.ends a.piece.k none_strays j (omega (arith, n));
    }
