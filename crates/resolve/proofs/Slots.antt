-- The slots of a row of table 3 are those of table 6 from the row's first on, so what the code reads there is what the object says.
-- Assumes nothing.
use mathlib.Core.Path.{◌≡◌, refl, sym, ap, ◌∙◌}
use mathlib.Core.Bool.{Bool, true, false, ◌&&◌}
use mathlib.Core.List.{List}
use mathlib.Core.Option.{Option}
use Prim.Native.Nat.{ℕ, suc, ◌+◌, ◌*◌, ◌≤◌, ◌<◌}
use native.Mathlib.Omega.{arith}
use borrow.Author.Tests.{lt-ltb, le-ltb, ltb-true, ltb-false}
use lib.Dec.{eqb, ltb}
use lib.ListN.{length}
use Rattle.rules.specs.declared.Table.TheVariants.{Functions, Relocations}
use Rattle.std.specs.Prelude as prelude
use Rattle.std.specs.Prelude.{Some, None}
use Rattle.rules.specs.Object.{Insn, is_call, is_blank, is_wide_load, decide, meaning}
use Rattle.rules.specs.Faithful.{slot_at}
use Rattle.rules.specs.Bytes.{little, slot_size, slot_in, decoded}
use Rattle.rules.specs.Tables.{Tables, Function, Relocation, row_of, insn_of, named_of, relocation_at, by_relocation, object_of}
use Rattle.rules.specs.Rows.{most_rows, most_function_slots, whole_rows, total, function_section, function_slots, function_offset, function_row, relocation_row, Offered, tables_of}
use Rattle.rules.specs.Lookups.{found_of, relocation_with, read_row}
use Rattle.rules.proofs.Searches.{part_inside, summed_bound}
use Rattle.rules.proofs.Passed.{good_function, few_rows}
use Rattle.rules.proofs.Reading.{row_is, base_is, relocation_is}
use Rattle.rules.proofs.Writing.{decoded_at}
use Rattle.rows.proofs.Laws.{relocation_found}
use Rattle.insn.specs.Wide.{wide_load_in}
use Rattle.resolve.specs.Means.{option_of}
use Rattle.resolve.specs.Resolves.{Within, Resolves}
use Rattle.resolve.proofs.Targets.{option_found}

shifted : (a b c : ℕ) → ltb (suc b) c ≡ ltb (suc (a + b)) (a + c)
shifted a b c = go (ltb (suc b) c) refl
  where
    go : (t : Bool) → ltb (suc b) c ≡ t → t ≡ ltb (suc (a + b)) (a + c)
    go true e = sym (lt-ltb (suc (a + b)) (a + c) (omega (arith, ltb-true (suc b) c e)))
    go false e = sym (le-ltb (suc (a + b)) (a + c) (omega (arith, ltb-false (suc b) c e)))

-- the last of three tests matters only past the second
third : (a b x y : Bool) → (b ≡ true → x ≡ y) → (a && b && x) ≡ (a && b && y)
third true true x y e = e refl
third true false x y e = refl
third false b x y e = refl

module _ {o : Offered} {row first slot : ℕ} {rel : (prelude.Option ℕ)} (r : Resolves o row first slot rel) where
  abbrev tables : Tables
  tables = tables_of little o

  abbrev functions : List ℕ
  functions = o.functions

  abbrev instructions : List ℕ
  instructions = o.instructions

  abbrev relocations : List ℕ
  relocations = o.relocations

  pub row_low : row < most_rows Functions
  row_low = omega (arith, few_rows Functions functions r.tables.functions, r.row_inside)

  pub slots_low : function_slots functions row ≤ most_function_slots
  slots_low = (good_function functions r.tables.functions row r.row_inside).slots_high

  pub first_low : first ≤ most_rows Functions * most_function_slots
  first_low =
      omega (
        arith,
        r.first_is,
        row_low,
        summed_bound (function_slots functions) most_function_slots row
            (λ k l. (good_function functions r.tables.functions k (omega (arith, r.row_inside))).slots_high),
      )

  pub end_inside : slot_size * (first + function_slots functions row) ≤ length instructions
  unfolding total
  end_inside =
      omega (arith, r.first_is, r.tables.instructions, part_inside (function_slots functions) (whole_rows Functions functions) row r.row_inside)

  -- any of the row's slots
  pub insn_at : (k : ℕ) → k < function_slots functions row → insn_of tables row k ≡ slot_in little instructions (first + k)
  unfolding tables_of
  insn_at k l =
      ap (λ (n : ℕ). slot_at (decoded little instructions) (n + k)) (base_is little o row (omega (arith, r.row_inside)) ∙ sym r.first_is)
      ∙ decoded_at little instructions (first + k) (omega (arith, end_inside))

  pub wide_is : is_wide_load (object_of tables) row slot ≡ wide_load_in instructions (first + slot) (first + function_slots functions row)
  unfolding is_wide_load wide_load_in object_of
  wide_is =
      let s : suc (first + slot) ≡ first + suc slot = omega arith in
      ap (λ (i : Insn). eqb i.opcode 0x18 && ltb (suc slot) (row_of tables row).slots && is_blank (insn_of tables row (suc slot))) (insn_at slot r.slot_inside)
      ∙ ap (λ (f : Function). eqb (slot_in little instructions (first + slot)).opcode 0x18 && ltb (suc slot) f.slots && is_blank (insn_of tables row (suc slot))) (row_is little o row r.row_inside)
      ∙ third (eqb (slot_in little instructions (first + slot)).opcode 0x18) (ltb (suc slot) (function_slots functions row)) _ _
      (λ t. ap is_blank (insn_at (suc slot) (ltb-true (suc slot) (function_slots functions row) t) ∙ ap (slot_in little instructions) (sym s)))
      ∙ ap (λ (b : Bool). eqb (slot_in little instructions (first + slot)).opcode 0x18 && b && is_blank (slot_in little instructions (suc (first + slot)))) (shifted first slot (function_slots functions row))

  rel_found : relocation_with relocations (function_section functions row) (function_offset functions row + 8 * slot) ≡ option_of rel
  rel_found = sym (ap option_of r.rel_is ∙ option_found _)

  pub rel_within : Within rel (whole_rows Relocations relocations)
  rel_within = within rel r.rel_is
    where
      within : (f : (prelude.Option ℕ)) → f ≡ found_of (relocation_with relocations (function_section functions row) (function_offset functions row + 8 * slot)) → Within f (whole_rows Relocations relocations)
      within None e = tt
      within (Some k) e = (relocation_found relocations (function_section functions row) (function_offset functions row + 8 * slot) k (sym e)).inside

  named_is : named_of tables row slot
      ≡ by_relocation tables (read_row (relocation_row relocations) (option_of rel)) (function_row functions row) slot (slot_in little instructions (first + slot))
  named_is =
      ap (λ (f : Function). by_relocation tables (relocation_at tables f slot) f slot (insn_of tables row slot)) (row_is little o row r.row_inside)
      ∙ ap (by_relocation tables (relocation_at tables (function_row functions row) slot) (function_row functions row) slot) (insn_at slot r.slot_inside)
      ∙ ap (λ (o : Option Relocation). by_relocation tables o (function_row functions row) slot (slot_in little instructions (first + slot)))
      (relocation_is little o (function_row functions row) slot ∙ ap (read_row (relocation_row relocations)) rel_found)

  pub meaning_is : meaning (object_of tables) row slot
      ≡ decide (is_call (slot_in little instructions (first + slot))) (wide_load_in instructions (first + slot) (first + function_slots functions row))
      (by_relocation tables (read_row (relocation_row relocations) (option_of rel)) (function_row functions row) slot (slot_in little instructions (first + slot)))
  unfolding meaning object_of
  meaning_is =
      ap (λ (i : Insn). decide (is_call i) (is_wide_load (object_of tables) row slot) (named_of tables row slot)) (insn_at slot r.slot_inside)
      ∙ ap (λ (b : Bool). decide (is_call (slot_in little instructions (first + slot))) b (named_of tables row slot)) wide_is
      ∙ ap (decide (is_call (slot_in little instructions (first + slot))) (wide_load_in instructions (first + slot) (first + function_slots functions row))) named_is
