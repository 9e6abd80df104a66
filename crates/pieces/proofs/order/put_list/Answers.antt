-- The invariant: what is still to come, written behind the pieces that are there, makes the whole list.
use mathlib.Core.Path.{◌≡◌, sym, ◌∙◌}
use Prim.Native.Nat.{suc, ◌+◌, ◌*◌, ◌≤◌, ◌<◌}
use native.Mathlib.Omega.{arith}
use lib.ListN.{length}
use Rattle.std.specs.Prelude.{Some}
use Rattle.rules.specs.declared.Table.TheVariants.{Functions}
use Rattle.rules.specs.Lookups.{found_of}
use Rattle.rules.specs.Pieces.{piece_size}
use Rattle.rules.specs.Rows.{whole_rows, most_rows}
use Rattle.rules.proofs.Passed.{few_rows, good_function}
use Rattle.pieces.specs.InOrder.{row_at}
use Rattle.pieces.proofs.Listing.{row_at_position, left_next, left_ends, left_breaks, left_full, row_inside}
use Rattle.pieces.proofs.order.put_list.Goals.{After-find_start, At-loop-count, In-Some, Start}
use Rattle.pieces.proofs.order.put_list.Goals as goal

few : (c : Start) → whole_rows Functions c.args.functions.now ≤ most_rows Functions
few c = few_rows Functions c.args.functions.now c.requires.sound

room_of : (l : At-loop-count) → piece_size * suc (whole_rows Functions l.args.functions.now) ≤ length l.put_piece.new.out
room_of l = omega (arith, l.requires.room, l.put_piece.auto.out)

-- what the search says, as the definition does
searched : (c : After-find_start) → c.find_start.result ≡ found_of (row_at c.args.starts.now (whole_rows Functions c.args.functions.now) c.loop-count.at)
searched c =
    c.find_start.ensures
    ∙ row_at_position c.args.starts.now (whole_rows Functions c.args.functions.now) c.loop-count.at (omega (arith, few (goal.at.After-find_start c).Start, c.told-starts))

-- the row that is found
is_found : (c : In-Some) → found_of (row_at c.args.starts.now (whole_rows Functions c.args.functions.now) c.loop-count.at) ≡ Some c.in-Some.row
is_found c = sym (searched (goal.at.In-Some c).After-find_start) ∙ c.in-Some.is

row_in : (c : In-Some) → c.in-Some.row < whole_rows Functions c.args.functions.now
row_in c = row_inside _ _ _ _ (is_found c)

pub returns-then-at-end : goal.returns-then-at-end
returns-then-at-end c =
    left_ends _ _ _ _ (room_of (goal.at.returns-then-at-end c).At-loop-count) _ _ _ _ c.loop-count.invariant _ _ c.put_piece.ensures c.function_slots-at.ensures c.requires.room c.if-at-end.true

pub returns-in_default : goal.returns-in_default
returns-in_default c =
    left_breaks _ _ _ _ (room_of (goal.at.returns-in_default c).At-loop-count) _ _ _ _ c.loop-count.invariant _ _ c.put_piece.ensures c.function_slots-at.ensures c.requires.room
    (sym (searched (goal.at.returns-in_default c).After-find_start) ∙ c.in_default.is)

pub overflow_cast-row : goal.overflow_cast-row
overflow_cast-row c = omega (arith, row_in (goal.at.overflow_cast-row c).In-Some, few (goal.at.overflow_cast-row c).Start)

pub function_slots-at-requires-in-loop-count : goal.function_slots-at-requires-in-loop-count
function_slots-at-requires-in-loop-count c = omega (arith, row_in (goal.at.function_slots-at-requires-in-loop-count c).In-Some)

pub overflow_add-at : goal.overflow_add-at
overflow_add-at c =
    omega (arith, c.function_slots-at-in-loop-count.ensures, (good_function c.args.functions.now c.requires.sound c.in-Some.row (row_in (goal.at.overflow_add-at c).In-Some)).slots_high, c.if-at-end.false, c.requires.few)

pub loop-count-preserved : goal.loop-count-preserved
loop-count-preserved c =
    left_next _ _ _ _ (room_of (goal.at.loop-count-preserved c).At-loop-count) _ _ _ _ c.loop-count.invariant _ _ _ (omega (arith, c.loop-count-test.true)) (omega (arith, c.if-at-end.false))
    (is_found (goal.at.loop-count-preserved c).In-Some) c.put_piece-in-loop-count.ensures c.function_slots-at-in-loop-count.ensures

pub returns : goal.returns
returns c =
    let e : whole_rows Functions c.args.functions.now + 1 ≡ c.loop-count.count = omega (arith, c.loop-count-test.false, c.loop-count.auto.count-end) in
    rw e (left_full _ _ _ _ (room_of (goal.at.returns c).At-loop-count) _ _ _ _ c.loop-count.invariant _ _ c.put_piece.ensures c.function_slots-at.ensures c.requires.room (omega (arith, c.loop-count-test.false)))
