-- The slots first, then the records, each over the tables that they need.
use mathlib.Core.Path.{sym, ap, ◌∙◌}
use native.Mathlib.Omega.{arith}
use Rattle.std.specs.Prelude.{Err}
use Rattle.std.proofs.lemmas.Result.{err_from_is_err_and}
use Rattle.rules.specs.Answers.{refusal_in}
use Rattle.examine.proofs.Whole.{few_pieces, row_sums, visits, recorded, slots_wrong_lem, slots_right}
use Rattle.examine.proofs.check_piece.Goals as goal

pub part_of-part-requires : goal.part_of-part-requires
part_of-part-requires c = row_sums c.requires c.piece_row-row.ensures

pub overflow_cast-piece : goal.overflow_cast-piece
overflow_cast-piece c = omega (arith, few_pieces c.requires)

pub check_slots-requires : goal.check_slots-requires
check_slots-requires c = visits c.requires c.piece_row-row.ensures c.piece_start-start.ensures c.part_of-part.ensures.slots_are

pub returns-in_err-check_slots : goal.returns-in_err-check_slots
returns-in_err-check_slots c =
    let p = err_from_is_err_and c.from_residual.result c.from_residual.ensures.1 in
    ap refusal_in (p.1 ∙ ap Err p.2)
    ∙ sym (slots_wrong_lem c.requires c.piece_row-row.ensures c.piece_start-start.ensures c.part_of-part.ensures
    c.check_slots.ensures (ap refusal_in c.in_err-check_slots.was))

pub check_records-requires : goal.check_records-requires
check_records-requires c = recorded c.requires c.piece_row-row.ensures c.piece_start-start.ensures c.part_of-part.ensures

pub returns : goal.returns
returns c =
    c.check_records.ensures
    ∙ sym (slots_right c.requires c.piece_row-row.ensures c.piece_start-start.ensures c.part_of-part.ensures
    c.check_slots.ensures (ap refusal_in c.in_ok-check_slots.was))
