-- The invariant: nothing is wrong with the slots before slot n, and the cursor is not past the place of slot n.
use mathlib.Core.Path.{◌≡◌, sym, ap, ◌∙◌}
use mathlib.Core.Option.{Option}
use Prim.Native.Nat.{ℕ, ◌+◌, ◌*◌, ◌<◌}
use native.Mathlib.Omega.{arith}
use Rattle.std.specs.Prelude.{Err}
use Rattle.std.proofs.lemmas.Result.{err_from_is_err_and}
use Rattle.rules.specs.Answers.{Reply, refusal_in}
use Rattle.rules.specs.Rows.{Offered, function_slots, function_offset}
use Rattle.rules.proofs.Passed.{good_function}
use Rattle.resolve.specs.Resolves.{Resolves}
use Rattle.resolve.proofs.Slots.{first_low, end_inside}
use Rattle.examine.proofs.Firsts.{wrong_step, wrong_here, wrong_end}
use Rattle.examine.proofs.Meanings.{slot_test, slots_are, callable_at, judged_at, with_is}
use Rattle.examine.proofs.slots.check_slots.Invariants.{tables_in}
use Rattle.examine.proofs.slots.check_slots.Goals.{After-check, After-place, After-relocation, In-loop-n, Start}
use Rattle.examine.proofs.slots.check_slots.Goals as goal

abbrev tables : Start → Offered
tables s = let n = s.args.names in tables_in n.code.now n.symbols.now n.functions.now n.relocations.now s.args.instructions.now

abbrev wrong : Start → ℕ → Option Reply
wrong s = let a = s.args in slot_test (tables s) a.image.now a.pieces.now a.piece.k a.piece.row a.piece.start.0

-- a turn of the loop is a slot of the row, at its place
turn : (c : In-loop-n) → c.loop-n.n < function_slots c.args.names.functions.now c.args.piece.row
turn c = omega (arith, c.loop-n-test.true, c.function_slots-slots.ensures)

place_is : (c : After-place) → c.place.result.0 ≡ function_offset c.args.names.functions.now c.args.piece.row + 8 * c.loop-n.n
place_is c = omega (arith, c.place.ensures.0, c.function_offset-offset.ensures, c.slot_at-slot.ensures)

resolves : (c : After-relocation) → Resolves (tables (goal.at.After-relocation c).Start) c.args.piece.row c.args.piece.part.slots c.slot_at-slot.result.0 c.relocation.result
resolves c =
    let l = c.loop-n in
    let cursor = c.moved_to-cursor.ensures in record {
      tables = c.requires.tables;
      row_inside = c.requires.row_inside;
      slot_inside = omega (arith, turn (goal.at.After-relocation c).In-loop-n, c.slot_at-slot.ensures);
      first_is = c.requires.first_is;
      rel_is = with_is (cursor.table ∙ l.invariant.table) (cursor.place.0 ∙ l.invariant.home)
          (omega (arith, cursor.place.1, c.place.ensures.0, c.function_offset-offset.ensures)) c.relocation.ensures;
    }

judged : (c : After-check) → wrong (goal.at.After-check c).Start c.loop-n.n ≡ refusal_in c.check.result
judged c =
    let at = goal.at.After-check c in
    let m = c.meaning_of-meaning in
    judged_at c.requires c.args.piece.k c.slot_at-slot.ensures (turn at.In-loop-n) (resolves at.After-relocation) m.result m.ensures c.after-in-loop-n.ensures
    (omega (arith, c.after.ensures, c.slot_at-first.ensures)) c.check.ensures

pub place-requires : goal.place-requires
place-requires c =
    omega (arith, c.function_offset-offset.ensures, (good_function c.args.names.functions.now c.requires.tables.functions c.args.piece.row c.requires.row_inside).offset)

pub after-requires : goal.after-requires
after-requires c =
    let at = goal.at.after-requires c in
    omega (arith, c.slot_at-first.ensures, first_low (resolves at.After-relocation), (good_function c.args.names.functions.now c.requires.tables.functions c.args.piece.row c.requires.row_inside).slots_high, turn at.In-loop-n, c.slot_at-slot.ensures)

pub invariant_of-compared : goal.invariant_of-compared
invariant_of-compared c =
    let at = goal.at.invariant_of-compared c in
    let r = resolves at.After-relocation in record {
      own = omega (arith, c.after-in-loop-n.ensures, c.slot_at-slot.ensures, turn at.In-loop-n, c.requires.inside);
      source = omega (arith, c.after.ensures, c.slot_at-first.ensures, r.slot_inside, end_inside r);
      rise = c.requires.rise;
    }

pub check-requires : goal.check-requires
check-requires c =
    let at = goal.at.check-requires c in
    let m = c.meaning_of-meaning in
    callable_at c.requires c.args.piece.k c.slot_at-slot.ensures (turn at.In-loop-n) (resolves at.After-relocation) m.result m.ensures

pub returns-in_err-check : goal.returns-in_err-check
returns-in_err-check c =
    let p = err_from_is_err_and c.from_residual.result c.from_residual.ensures.1 in
    let at = goal.at.returns-in_err-check c in
    let a = c.args in
    let l = c.loop-n in
    ap refusal_in (p.1 ∙ ap Err p.2)
    ∙ sym (slots_are (tables at.Start) a.image.now a.pieces.now a.piece.k a.piece.row a.piece.start.0 c.requires.row_inside
    ∙ l.invariant.same ∙ wrong_here (wrong at.Start) l.n (function_slots a.names.functions.now a.piece.row) (turn at.In-loop-n) (judged at.After-check ∙ ap refusal_in c.in_err-check.was))

pub loop-n-preserved : goal.loop-n-preserved
loop-n-preserved c =
    let at = goal.at.loop-n-preserved c in
    let l = c.loop-n in
    let cursor = c.moved_to-cursor.ensures in record {
      most = omega (arith, turn at.In-loop-n);
      same = l.invariant.same ∙ wrong_step (wrong at.Start) l.n (function_slots c.args.names.functions.now c.args.piece.row) (turn at.In-loop-n) (judged at.After-check ∙ ap refusal_in c.in_ok-check.was);
      table = cursor.table ∙ l.invariant.table;
      home = cursor.place.0 ∙ l.invariant.home;
      low = omega (arith, cursor.place.1, place_is at.After-place);
    }

pub returns : goal.returns
returns c =
    let at = goal.at.returns c in
    let a = c.args in
    let l = c.loop-n in
    sym (slots_are (tables at.Start) a.image.now a.pieces.now a.piece.k a.piece.row a.piece.start.0 c.requires.row_inside
    ∙ l.invariant.same ∙ wrong_end (wrong at.Start) l.n (function_slots a.names.functions.now a.piece.row) (omega (arith, c.loop-n-test.false, c.function_slots-slots.ensures)))
