-- What one sees at a place of the source, by the tables' bytes.
-- Assumes nothing.
use mathlib.Core.Path.{◌≡◌, refl, sym, ap, ◌∙◌}
use mathlib.Core.Bool.{Bool, true, false, cond}
use mathlib.Core.Option.{Option, none, some}
use mathlib.Core.List.{List}
use Prim.Native.Nat.{ℕ, ◌+◌, ◌*◌, ◌<◌}
use native.Mathlib.Omega.{arith}
use lib.Dec.{ltb}
use lib.IntN.{ℤ, pos, negsuc, ◌+ℤ◌}
use lib.ListN.{get_or, get_or-eq_default}
use borrow.Author.Tests.{lt-ltb, ltb-true, ltb-false}
use Rattle.rules.specs.declared.Table.TheVariants.{Functions}
use Rattle.rules.specs.declared.Kind.{Kind}
use Rattle.rules.specs.declared.Kind.TheVariants.{Plain, WideLoad, JumpByOffset, JumpByImmediate, Conditional, CallByte, Exit, Unknown}
use Rattle.std.specs.Option.{is_some}
use Rattle.std.specs.Prelude as prelude
use Rattle.std.specs.Prelude.{None, Some}
use Rattle.rules.specs.Tables as tables
use Rattle.rules.specs.Object.{Insn, is_call, Meaning, copied, call, reference, refused, meaning}
use Rattle.rules.specs.Faithful.{slot_at}
use Rattle.rules.specs.Bytes.{little, slot_in, decoded}
use Rattle.rules.specs.Tables.{Function, no_function, object_of}
use Rattle.rules.specs.Rows.{whole_rows, function_section, function_slots, function_offset, Offered, tables_of}
use Rattle.rules.specs.Lookups.{found_of, relocation_with}
use Rattle.rules.specs.Walk.{Move, goes, chooses, enters, returns, stuck, entering, by_kind, kind, leads, SourcePlace, place, callee_of, in_source}
use Rattle.rules.proofs.Reading.{rows_are, row_is, base_is}
use Rattle.rules.proofs.Writing.{decoded_at}
use Rattle.resolve.specs.Resolves.{Resolves}
use Rattle.resolve.proofs.Slots.{end_inside}
use Rattle.walk.specs.Moves.{leads_in}
use Rattle.walk.proofs.Places.{slot_found, outside_test, Lies, lies}
use Rattle.source.specs.Moves.{object_in, Slotted, slots_in, called_by}

module _ (o : Offered) where
  abbrev functions : List ℕ
  functions = o.functions

  pub slots_are : (row : ℕ) → (object_in o).slots row ≡ slots_in functions row
  unfolding object_of
  slots_are row = by (ltb row (whole_rows Functions functions)) refl
    where
      by : (b : Bool) → ltb row (whole_rows Functions functions) ≡ b
          → (get_or (tables_of little o).functions row no_function).slots ≡ cond b (function_slots functions row) 0
      by true e = ap (λ (f : Function). f.slots) (row_is little o row (ltb-true row (whole_rows Functions functions) e))
      by false e =
          ap (λ (f : Function). f.slots)
          (get_or-eq_default (tables_of little o).functions no_function
          (omega (arith, rows_are little o, ltb-false row (whole_rows Functions functions) e)))

  pub source_outside : (row : ℕ) (at : ℤ) → None ≡ slot_found (slots_in functions row) at → in_source (object_in o) (place row at) ≡ none
  unfolding in_source
  source_outside row (pos n) e = rw (slots_are row, outside_test (slots_in functions row) n e)
  source_outside row (negsuc n) e = refl

  -- a slot of the row is a place that one sees
  sees : (row n : ℕ) → n < slots_in functions row → true ≡ tables.is_some (in_source (object_in o) (place row (pos n)))
  unfolding in_source
  sees row n h = rw (slots_are row, lt-ltb n (slots_in functions row) h)

  pub sees_found : (row : ℕ) (at : ℤ) (f : prelude.Option ℕ) → f ≡ slot_found (slots_in functions row) at
      → is_some f ≡ tables.is_some (in_source (object_in o) (place row at))
  sees_found row at None e = ap tables.is_some (sym (source_outside row at e))
  sees_found row at (Some k) e =
      let l : Lies (slots_in functions row) at k = lies (slots_in functions row) at k e in
      sees row k l.low ∙ ap (λ (z : ℤ). tables.is_some (in_source (object_in o) (place row z))) (sym l.place)

module _ {o : Offered} {row first slot : ℕ} (s : Slotted o row first slot) where
  abbrev instructions : List ℕ
  instructions = o.instructions

  pub resolves : Resolves o row first slot
      (found_of (relocation_with o.relocations (function_section o.functions row) (function_offset o.functions row + 8 * slot)))
  resolves = record { tables = s.tables; row_inside = s.row_inside; slot_inside = s.slot_inside; first_is = s.first_is; rel_is = refl }

  insn_is : (object_in o).insn row slot ≡ slot_in little instructions (first + slot)
  unfolding object_of tables_of
  insn_is =
      ap (λ (n : ℕ). slot_at (decoded little instructions) (n + slot)) (base_is little o row (omega (arith, s.row_inside)) ∙ sym s.first_is)
      ∙ decoded_at little instructions (first + slot) (omega (arith, end_inside resolves, s.slot_inside))

  slot_low : ltb slot (slots_in o.functions row) ≡ true
  slot_low = rw (lt-ltb row (whole_rows Functions o.functions) s.row_inside) (lt-ltb slot (function_slots o.functions row) s.slot_inside)

  pub source_inside : in_source (object_in o) (place row (pos slot))
      ≡ some (leads (slot_in little instructions (first + slot)) (λ d. place row (pos slot +ℤ d)) (callee_of (meaning (object_in o) row slot)))
  unfolding in_source
  source_inside =
      ap (λ (n : ℕ). cond (ltb slot n) (some (leads ((object_in o).insn row slot) (λ d. place row (pos slot +ℤ d)) (callee_of (meaning (object_in o) row slot)))) none)
      (slots_are o row)
      ∙ ap (λ (b : Bool). cond b (some (leads ((object_in o).insn row slot) (λ d. place row (pos slot +ℤ d)) (callee_of (meaning (object_in o) row slot)))) none)
      slot_low
      ∙ ap (λ (i : Insn). some (leads i (λ d. place row (pos slot +ℤ d)) (callee_of (meaning (object_in o) row slot)))) insn_is

-- where a call leads whose callee was found, or was not
abbrev pub entered_by : prelude.Option ℕ → SourcePlace → Move SourcePlace
entered_by None back = stuck
entered_by (Some row) back = enters (place row (pos 0)) back

-- the same slot's move, its callee found in the tables
abbrev pub sourced : ℕ → prelude.Option ℕ → Option (Move ℤ) → Option (Move SourcePlace)
sourced row to none = none
sourced row to (some (goes next)) = some (goes (place row next))
sourced row to (some (chooses a b)) = some (chooses (place row a) (place row b))
sourced row to (some (enters first back)) = some (entered_by to (place row back))
sourced row to (some returns) = some returns
sourced row to (some stuck) = some stuck

pub sourced_is : (i : Insn) (row slot : ℕ) (m : Meaning)
    → some (leads i (λ d. place row (pos slot +ℤ d)) (callee_of m)) ≡ sourced row (called_by m) (leads_in i slot)
unfolding leads
sourced_is i row slot m = by (kind i.opcode)
  where
    entered : (k : Meaning) → some (entering (callee_of k) (place row (pos slot +ℤ pos 1))) ≡ some (entered_by (called_by k) (place row (pos slot +ℤ pos 1)))
    entered copied = refl
    entered (call to) = refl
    entered (reference to) = refl
    entered (refused number) = refl

    called : (b : Bool)
        → some (cond b (entering (callee_of m) (place row (pos slot +ℤ pos 1))) (goes (place row (pos slot +ℤ pos 1))))
        ≡ sourced row (called_by m) (some (cond b (enters (pos slot +ℤ (pos 1 +ℤ i.immediate)) (pos slot +ℤ pos 1)) (goes (pos slot +ℤ pos 1))))
    called true = entered m
    called false = refl

    by : (k : Kind) → some (by_kind k i (λ d. place row (pos slot +ℤ d)) (callee_of m))
        ≡ sourced row (called_by m) (some (by_kind k i (λ d. pos slot +ℤ d) (some (pos slot +ℤ (pos 1 +ℤ i.immediate)))))
    by Plain = refl
    by WideLoad = refl
    by JumpByOffset = refl
    by JumpByImmediate = refl
    by Conditional = refl
    by CallByte = called (is_call i)
    by Exit = refl
    by Unknown = refl
