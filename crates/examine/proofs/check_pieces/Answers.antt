-- The invariant: nothing is wrong with the pieces before piece k, whose records stand in the image.
use mathlib.Core.Path.{◌≡◌, sym, ap, ◌∙◌}
use mathlib.Core.Option.{none}
use Prim.Native.Nat.{ℕ, ◌+◌}
use native.Mathlib.Omega.{arith}
use Rattle.rules.specs.declared.Table.TheVariants.{Functions}
use Rattle.rules.specs.Bytes.{little}
use Rattle.std.specs.Prelude.{Err}
use Rattle.std.proofs.lemmas.Result.{err_from_is_err_and}
use Rattle.rules.specs.Answers.{refusal_in}
use Rattle.rules.specs.Rows.{Offered, link_offer, tables_of, function_func_info, function_line_info}
use Rattle.rules.specs.Pieces.{piece_row, piece_at}
use Rattle.rules.specs.Examine.{Shown, shown, claim_of, wrong_in}
use Rattle.rules.proofs.Passed.{whole}
use Rattle.examine.specs.Examined.{Pieced}
use Rattle.examine.proofs.Whole.{Left, pieces_start, refused_here, piece_right, pieces_end, row_in, funcs_next, lines_next, fits}
use Rattle.examine.proofs.check_pieces.Goals.{In_ok-check_piece, In-loop-k, Start}
use Rattle.examine.proofs.check_pieces.Goals as goal

abbrev tables : Start → Offered
tables s =
    let a = s.args in
    link_offer a.names.code.now a.names.symbols.now a.names.functions.now a.names.relocations.now a.program.instructions.now a.program.func_info.now a.program.line_info.now

abbrev shownAt : Start → Shown
shownAt s = let a = s.args in shown a.shown.instructions.now a.shown.func_info.now a.shown.line_info.now a.pieces.now

pieced : (c : In-loop-k) → Pieced (tables (goal.at.In-loop-k c).Start) (shownAt (goal.at.In-loop-k c).Start) c.loop-k.k c.loop-k.funcs c.loop-k.lines
pieced c = record { list = c.requires; is_piece = c.loop-k-test.true; funcs_low = c.loop-k.invariant.funcs_low; lines_low = c.loop-k.invariant.lines_low }

right : (c : In_ok-check_piece) → wrong_in (tables_of little (tables (goal.at.In_ok-check_piece c).Start)) (claim_of little (shownAt (goal.at.In_ok-check_piece c).Start)) c.loop-k.k c.loop-k.funcs c.loop-k.lines (piece_at (shownAt (goal.at.In_ok-check_piece c).Start).pieces c.loop-k.k) ≡ none
right c = sym c.check_piece.ensures ∙ ap refusal_in c.in_ok-check_piece.was

pub loop-k-init : goal.loop-k-init
loop-k-init c =
    record { most = omega arith; same = pieces_start (tables (goal.at.loop-k-init c).Start) (shownAt (goal.at.loop-k-init c).Start); funcs_low = omega arith; lines_low = omega arith }

pub returns-in_err-check_piece : goal.returns-in_err-check_piece
returns-in_err-check_piece c =
    let p = err_from_is_err_and c.from_residual.result c.from_residual.ensures.1 in
    let s = (goal.at.returns-in_err-check_piece c).Start in
    let l = c.loop-k in
    ap refusal_in (p.1 ∙ ap Err p.2) ∙ sym (ap refusal_in c.in_err-check_piece.was)
    ∙ refused_here (tables s) (shownAt s) l.k l.funcs l.lines l.invariant.same c.loop-k-test.true c.check_piece.ensures (ap refusal_in c.in_err-check_piece.was)

pub function_func_info-funcs-requires : goal.function_func_info-funcs-requires
function_func_info-funcs-requires c = omega (arith, whole Functions c.args.names.functions.now c.requires.sizes.checked.tables.functions, row_in (pieced (goal.at.function_func_info-funcs-requires c).In-loop-k) c.piece_row-row.ensures)

pub overflow_add-funcs : goal.overflow_add-funcs
overflow_add-funcs c = omega (arith, c.function_func_info-funcs.ensures, funcs_next (pieced (goal.at.overflow_add-funcs c).In-loop-k) c.piece_row-row.ensures (right (goal.at.overflow_add-funcs c).In_ok-check_piece), (fits c.requires).funcs.few)

pub function_line_info-lines-requires : goal.function_line_info-lines-requires
function_line_info-lines-requires c = omega (arith, whole Functions c.args.names.functions.now c.requires.sizes.checked.tables.functions, row_in (pieced (goal.at.function_line_info-lines-requires c).In-loop-k) c.piece_row-row.ensures)

pub overflow_add-lines : goal.overflow_add-lines
overflow_add-lines c = omega (arith, c.function_line_info-lines.ensures, lines_next (pieced (goal.at.overflow_add-lines c).In-loop-k) c.piece_row-row.ensures (right (goal.at.overflow_add-lines c).In_ok-check_piece), (fits c.requires).lines.few)

pub loop-k-preserved : goal.loop-k-preserved
loop-k-preserved c =
    let l = c.loop-k in
    let t = c.args.names.functions.now in
    let row = c.piece_row-row in
    let n = c.function_func_info-funcs.ensures ∙ ap (function_func_info t) row.ensures in
    let m = c.function_line_info-lines.ensures ∙ ap (function_line_info t) row.ensures in record {
      most = omega (arith, c.loop-k-test.true);
      same = l.invariant.same ∙ piece_right (tables (goal.at.loop-k-preserved c).Start) (shownAt (goal.at.loop-k-preserved c).Start) l.k l.funcs l.lines (pieced (goal.at.loop-k-preserved c).In-loop-k) (right (goal.at.loop-k-preserved c).In_ok-check_piece)
          ∙ ap (λ (x : ℕ). Left (tables (goal.at.loop-k-preserved c).Start) (shownAt (goal.at.loop-k-preserved c).Start) (l.k + 1) (l.funcs + x) (l.lines + function_line_info t (piece_row c.args.pieces.now l.k))) (sym n)
          ∙ ap (λ (x : ℕ). Left (tables (goal.at.loop-k-preserved c).Start) (shownAt (goal.at.loop-k-preserved c).Start) (l.k + 1) (l.funcs + c.function_func_info-funcs.result) (l.lines + x)) (sym m);
      funcs_low = omega (arith, c.function_func_info-funcs.ensures, funcs_next (pieced (goal.at.loop-k-preserved c).In-loop-k) row.ensures (right (goal.at.loop-k-preserved c).In_ok-check_piece));
      lines_low = omega (arith, c.function_line_info-lines.ensures, lines_next (pieced (goal.at.loop-k-preserved c).In-loop-k) row.ensures (right (goal.at.loop-k-preserved c).In_ok-check_piece));
    }

pub returns : goal.returns
returns c =
    let l = c.loop-k in
    c.check_over.ensures ∙ sym (l.invariant.same ∙ pieces_end (tables (goal.at.returns c).Start) (shownAt (goal.at.returns c).Start) l.k l.funcs l.lines c.loop-k-test.false)
