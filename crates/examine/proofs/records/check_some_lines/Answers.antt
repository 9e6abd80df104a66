-- Records are the same where each field is; the code holds the first one's slot as `origin`.
use mathlib.Core.Path.{ap, ◌∙◌}
use mathlib.Core.Bool.{Bool}
use Prim.Native.Nat.{ℕ, ◌+◌}
use Rattle.std.proofs.Common.{rules, of_calls}
use Rattle.rules.specs.declared.Table.TheVariants.{LineInfo}
use Rattle.rules.specs.Bytes.{little}
use Rattle.rules.specs.Rows.{whole_rows, line_info_row}
use Rattle.rules.specs.Examine.{same_line_record, first_wrong}
use Rattle.examine.specs.Recorded.{line_of, record_wrong}
use Rattle.examine.proofs.Same.{same_lines}
use Rattle.examine.proofs.records.check_some_lines.Goals as goal

pub returns : goal.returns
unfolding Rattle.examine.specs.Recorded.line_wrong
returns c =
    let a = c.args in
    let p = a.piece in
    let test : ℕ → ℕ → Bool = λ origin j. same_line_record (line_info_row little a.shown.now (p.lines + j)) (line_of p.k origin p.start.0 (line_info_row little a.line_info.now (p.part.lines + j))) in
    c.check_run.ensures (test c.line_info_slot-origin.result) (λ j l t b k. search (rules, of_calls, same_lines))
    ∙ ap (λ origin. first_wrong (record_wrong 43 p.k (whole_rows LineInfo a.shown.now) p.lines (test origin)) 0 a.count) c.line_info_slot-origin.ensures
