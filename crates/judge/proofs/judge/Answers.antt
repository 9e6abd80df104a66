-- Before the function, past its end, off the grid; else the slot is read and its symbol judges.
use mathlib.Core.Path.{◌≡◌, sym, ap, ◌∙◌}
use Prim.Native.Nat.{ℕ, ◌+◌, ◌-◌, ◌*◌, ◌%◌, ◌≤◌, ◌<◌}
use native.Mathlib.Omega.{arith}
use borrow.Author.Tests.{eqb-true, eqb-false}
use Rattle.rules.specs.declared.Cause.TheVariants.{InvalidRelocationOffset}
use Rattle.rules.specs.Answers.{reply, number_of}
use Rattle.rules.specs.Rows.{Offered, function_slots, function_offset, relocation_symbol, relocation_offset}
use Rattle.rules.specs.Lent.{lent_maps}
use Rattle.judge.specs.Verdicts.{symbol_verdict, Says}
use Rattle.judge.specs.Judged.{slot_of}
use Rattle.judge.proofs.Places.{slots_high, row_low, first_low, in_table, before_judges, past_judges, off_judges, site_judges}
use Rattle.judge.proofs.judge.Goals.{After-function_slots-slots, After-to_offset, After-to_slot-slot, Start}
use Rattle.judge.proofs.judge.Goals as goal

abbrev offered : Start → Offered
offered s = lent_maps s.args.names s.args.maps.now s.args.instructions.now

abbrev offset : After-function_slots-slots → ℕ
offset n = relocation_offset n.args.names.relocations.now n.args.k

abbrev base : After-function_slots-slots → ℕ
base n = function_offset n.args.names.functions.now n.args.row

abbrev slots : After-function_slots-slots → ℕ
slots n = function_slots n.args.names.functions.now n.args.row

module _ (n : After-to_offset) where
  abbrev read : After-function_slots-slots
  read = (goal.at.After-to_offset n).After-function_slots-slots

  starts : base read ≤ offset read
  starts = grind (arith, n.lt.ensures, n.if-lt.false, n.relocation_offset-offset.ensures, n.function_offset-start.ensures)

  far : n.offset_at-at.result.0 ≡ offset read - base read
  far = omega (arith, n.offset_at-at.ensures, n.relocation_offset-offset.ensures, n.function_offset-start.ensures)

  size : n.to_offset.result.0 ≡ 8 * slots read
  size = omega (arith, n.to_offset.ensures.0, n.function_slots-slots.ensures)

module _ (t : After-to_slot-slot) where
  abbrev sized : After-to_offset
  sized = (goal.at.After-to_slot-slot t).After-to_offset

  ends : offset (read sized) < base (read sized) + 8 * slots (read sized)
  ends = grind (arith, t.ge.ensures, t.if-ge.false, starts sized, far sized, size sized)

  slot_is : t.to_slot-slot.result.0 ≡ slot_of (offered (goal.at.After-to_slot-slot t).Start) t.args.row t.args.k
  slot_is = omega (arith, t.to_slot-slot.ensures, far sized)

pub returns-then-lt : goal.returns-then-lt
returns-then-lt c =
    before_judges c.requires (grind (arith, c.lt.ensures, c.if-lt.true, c.relocation_offset-offset.ensures, c.function_offset-start.ensures))

pub returns-then-ge : goal.returns-then-ge
returns-then-ge c =
    let n = (goal.at.returns-then-ge c).After-to_offset in
    past_judges c.requires (starts n) (grind (arith, c.ge.ensures, c.if-ge.true, far n, size n, starts n))

pub returns-then-not-is_on_grid : goal.returns-then-not-is_on_grid
returns-then-not-is_on_grid c =
    let t = (goal.at.returns-then-not-is_on_grid c).After-to_slot-slot in
    off_judges c.requires (starts (sized t)) (ends t)
    (λ e. eqb-false _ 0 (sym c.is_on_grid.ensures ∙ c.if-not-is_on_grid.true) (ap (λ (n : ℕ). n % 8) (far (sized t)) ∙ e)) _
    (c.refusal.ensures ∙ ap (λ (n : ℕ). reply (number_of InvalidRelocationOffset) c.args.row n 0) (slot_is t))

pub read-site-requires : goal.read-site-requires
read-site-requires c =
    let t = (goal.at.read-site-requires c).After-to_slot-slot in
    let slots_are = c.function_slots-slots.ensures in
    record {
      in_function = omega (arith, slot_is t, starts (sized t), ends t, slots_are);
      in_table = omega (arith, in_table c.requires, slots_are);
      low = omega (arith, first_low c.requires, row_low c.requires, slots_high c.requires, slots_are);
    }

pub returns : goal.returns
returns c =
    let t = (goal.at.returns c).After-to_slot-slot in
    let says : Says c.read-site.result
    (symbol_verdict c.args.names.code.now c.args.names.symbols.now c.args.maps.now (relocation_symbol c.args.names.relocations.now c.args.k) c.read-site.result) c.by_symbol.result =
    rw c.relocation_symbol-symbol.ensures at c.by_symbol.ensures in
    site_judges c.requires (starts (sized t)) (ends t) (ap (λ (n : ℕ). n % 8) (sym (far (sized t))) ∙ eqb-true _ 0 (sym c.is_on_grid.ensures ∙ c.if-not-is_on_grid.false)) _ _ _
    (slot_is t) c.function_slots-slots.ensures c.read-site.ensures _ says
