-- The invariant: the pieces from here on, the next of which should start at `at`, give what was asked. Those passed are few,
-- and have few slots each, so that `at` fits.
use mathlib.Core.Path.{◌≡◌, sym, ap, ◌∙◌}
use mathlib.Core.Option.{some}
use Prim.Native.Nat.{◌+◌, ◌≤◌, ◌<◌}
use native.Mathlib.Omega.{arith}
use Rattle.rules.specs.declared.Table.TheVariants.{Functions}
use Rattle.rules.specs.Answers.{reply}
use Rattle.rules.specs.Rows.{most_image_slots, most_function_slots, whole_rows, function_slots}
use Rattle.rules.specs.Pieces.{piece_row}
use Rattle.rules.proofs.Passed.{good_function}
use Rattle.pieces.specs.Tiling.{functions_offer, listed}
use Rattle.pieces.proofs.Tiling.{Left, tiles_start, tiles_on, tiles_unknown, tiles_elsewhere, tiles_end, tiles_short}
use Rattle.pieces.proofs.tiles.check_tiles.Goals.{After-function_slots-at, At-loop-k, Else-piece_start-at}
use Rattle.pieces.proofs.tiles.check_tiles.Goals as goal

row_known : (c : Else-piece_start-at) → piece_row c.args.pieces.now c.loop-k.k < whole_rows Functions c.args.functions.now
row_known c = omega (arith, c.if-rows-row.false, c.piece_row-row.ensures)

row_slots : (c : After-function_slots-at) → c.function_slots-at.result.0 ≡ function_slots c.args.functions.now (piece_row c.args.pieces.now c.loop-k.k)
row_slots c = c.function_slots-at.ensures ∙ ap (function_slots c.args.functions.now) c.piece_row-row.ensures

few_slots : (c : After-function_slots-at) → c.function_slots-at.result.0 ≤ most_function_slots
few_slots c =
    omega (arith, row_slots c, (good_function c.args.functions.now c.requires.table (piece_row c.args.pieces.now c.loop-k.k) (row_known (goal.at.After-function_slots-at c).Else-piece_start-at)).slots_high)

few_pieces : (c : At-loop-k) → c.loop-k.k ≤ most_image_slots
few_pieces c = omega (arith, c.loop-k.auto.k-end, c.requires.few)

pub loop-k-init : goal.loop-k-init
loop-k-init c =
    let a = c.args in
    record { low = omega arith; same = tiles_start (functions_offer a.functions.now) a.pieces.now a.end.0 }

pub returns-then-rows-row : goal.returns-then-rows-row
returns-then-rows-row c =
    let a = c.args in
    ap some c.refusal.ensures
    ∙ ap (λ n. some (reply 36 c.loop-k.k n 0)) c.piece_row-row.ensures
    ∙ sym (c.loop-k.invariant.same ∙ tiles_unknown (functions_offer a.functions.now) a.pieces.now a.end.0 c.loop-k.k c.loop-k.at
    c.loop-k-test.true (omega (arith, c.if-rows-row.true, c.piece_row-row.ensures)))

pub returns-then-piece_start-at : goal.returns-then-piece_start-at
returns-then-piece_start-at c =
    let a = c.args in
    ap some c.refusal-then-piece_start-at.ensures
    ∙ sym (c.loop-k.invariant.same ∙ tiles_elsewhere (functions_offer a.functions.now) a.pieces.now a.end.0 c.loop-k.k c.loop-k.at
    c.loop-k-test.true (omega (arith, c.if-rows-row.false, c.piece_row-row.ensures))
    (λ e. c.if-piece_start-at.true (c.piece_start.ensures ∙ e)))

pub overflow_add-at : goal.overflow_add-at
overflow_add-at c =
    let p = goal.at.overflow_add-at c in
    record { fits = omega (arith, few_slots p.After-function_slots-at, c.loop-k.invariant.low, few_pieces p.At-loop-k) }

pub loop-k-preserved : goal.loop-k-preserved
loop-k-preserved c =
    let a = c.args in
    let p = goal.at.loop-k-preserved c in
    record {
      low = omega (arith, few_slots p.After-function_slots-at, c.loop-k.invariant.low);
      same = c.loop-k.invariant.same
          ∙ tiles_on (functions_offer a.functions.now) a.pieces.now a.end.0 c.loop-k.k c.loop-k.at c.loop-k-test.true (row_known p.Else-piece_start-at)
          (sym c.piece_start.ensures ∙ c.if-piece_start-at.false)
          ∙ ap (λ n. Left (functions_offer a.functions.now) a.pieces.now a.end.0 (c.loop-k.k + 1) (c.loop-k.at + n)) (sym (row_slots p.After-function_slots-at));
    }

pub returns-then-at-end : goal.returns-then-at-end
returns-then-at-end c =
    let a = c.args in
    sym (c.loop-k.invariant.same ∙ tiles_end (functions_offer a.functions.now) a.pieces.now a.end.0 c.loop-k.k c.loop-k.at (omega (arith, c.loop-k-test.false)) (omega (arith, c.if-at-end.true)))

pub returns : goal.returns
returns c =
    let a = c.args in
    let e : listed a.pieces.now ≡ c.loop-k.k = omega (arith, c.loop-k-test.false, c.loop-k.auto.k-end) in
    ap some c.refusal-2.ensures
    ∙ ap (λ m. some (reply 38 m c.loop-k.at 0)) e
    ∙ sym (c.loop-k.invariant.same ∙ tiles_short (functions_offer a.functions.now) a.pieces.now a.end.0 c.loop-k.k c.loop-k.at (omega (arith, c.loop-k-test.false)) c.if-at-end.false)
