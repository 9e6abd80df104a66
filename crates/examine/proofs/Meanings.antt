-- A slot's judgement by the code's answer is the definitions' own; and what the loop over a piece's slots asks.
-- Assumes nothing.
use mathlib.Core.Path.{◌≡◌, refl, sym, ap, subst, ◌∙◌}
use mathlib.Core.Bool.{Bool, true, false, cond, ◌&&◌}
use mathlib.Core.Option.{Option, some}
use mathlib.Core.List.{List, []}
use Prim.Native.Nat.{ℕ, ◌+◌, ◌<◌}
use native.Mathlib.Omega.{arith}
use lib.Dec.{eqb}
use Rattle.rules.specs.declared.Table.TheVariants.{Functions}
use Rattle.std.specs.Prelude as prelude
use Rattle.std.specs.Prelude.{Some, None, Ok, Err}
use Rattle.rules.specs.Object.{Insn, reference, call, meaning}
use Rattle.rules.specs.Object as object
use Rattle.rules.specs.Bytes.{little, slot_in, decoded}
use Rattle.rules.specs.Faithful.{Piece, piece, slot_at}
use Rattle.rules.specs.Answers.{Reply}
use Rattle.rules.specs.Tables.{object_of}
use Rattle.rules.specs.Rows.{whole_rows, Offered, tables_of, function_slots}
use Rattle.rules.specs.Lookups.{found_of, relocation_with}
use Rattle.rules.specs.Pieces.{pieces_of}
use Rattle.rules.specs.Examine.{same_number, same_form, shown, claim_of, slot_wrong, slots_wrong, first_wrong}
use Rattle.rules.proofs.Passed.{few_rows}
use Rattle.rules.proofs.Reading.{row_is}
use Rattle.rules.proofs.Writing.{decoded_at}
use Rattle.rules.specs.declared.Refusal.{Refusal}
use Rattle.resolve.specs.declared.Pointer.{Pointer}
use Rattle.resolve.specs.Means.{Means}
use Rattle.resolve.specs.Resolves.{Resolves}
use Rattle.resolve.proofs.Laws.{points_inside}
use Rattle.resolve.proofs.Slots.{insn_at}
use Rattle.examine.specs.Compared.{Callable, Visits, call_wrong, reference_wrong, meant_wrong}

-- ---- what a reference may not change: opcode and destination, and the offset
module _ (i j : Insn) where
  abbrev heads : Bool
  heads = eqb i.opcode j.opcode && eqb i.destination j.destination

  form_is : same_form i j ≡ (heads && same_number i.offset j.offset)
  unfolding same_form
  form_is = go (eqb i.opcode j.opcode)
    where
      go : (b : Bool) → (b && (eqb i.destination j.destination && same_number i.offset j.offset)) ≡ ((b && eqb i.destination j.destination) && same_number i.offset j.offset)
      go true = refl
      go false = refl

  pub forms_differ : (eqb i.opcode j.opcode && eqb i.destination j.destination) ≡ false → false ≡ same_form i j
  forms_differ e = sym (form_is ∙ ap (λ b. b && same_number i.offset j.offset) e)

  pub offsets : (eqb i.opcode j.opcode && eqb i.destination j.destination) ≡ true → same_number i.offset j.offset ≡ same_form i j
  offsets e = sym (form_is ∙ ap (λ b. b && same_number i.offset j.offset) e)

-- ---- by the answer of the code
abbrev Meant : Type 0
Meant = prelude.Result (prelude.Option Pointer) Refusal

module _ (pieces : List Piece) (k row slot here : ℕ) (source i : Insn) where
  pointed : (callee : ℕ) (refers : Bool) → slot_wrong pieces k row slot here source i (cond refers (reference callee) (call callee))
      ≡ cond refers (reference_wrong pieces k slot here source i callee) (call_wrong pieces k slot here source i callee)
  unfolding slot_wrong
  pointed callee true = refl
  pointed callee false = refl

  pub meant : (m : Meant) (d : object.Meaning) → Means row slot m d
      → slot_wrong pieces k row slot here source i d ≡ meant_wrong pieces k slot here source i m
  unfolding slot_wrong
  meant (Ok None) d e = ap (slot_wrong pieces k row slot here source i) e
  meant (Ok (Some p)) d e =
      ap (slot_wrong pieces k row slot here source i) e ∙ pointed p.callee p.reference
  meant (Err r) d e = ap (slot_wrong pieces k row slot here source i) e.refusal ∙ ap some (sym e.places)

-- ---- the slots of a piece
module _ (o : Offered) (image pieces : List ℕ) (k row start : ℕ) where
  unfoldable pub slot_test : ℕ → Option Reply
  slot_test slot =
      slot_wrong (pieces_of pieces) k row slot (start + slot) ((object_of (tables_of little o)).insn row slot) (slot_at (decoded little image) (start + slot))
      (meaning (object_of (tables_of little o)) row slot)

  pub slots_are : row < whole_rows Functions o.functions
      → slots_wrong (tables_of little o) (claim_of little (shown image [] [] pieces)) k (piece row start) ≡ first_wrong slot_test 0 (function_slots o.functions row)
  unfolding slots_wrong slot_test claim_of object_of
  slots_are l = ap (λ f. first_wrong slot_test 0 f.slots) (row_is little o row l)

  module _ {first : ℕ} (v : Visits o image pieces row start first) (slot : ℕ) (turn : slot < function_slots o.functions row) where
    image_is : slot_at (decoded little image) (start + slot) ≡ slot_in little image (start + slot)
    image_is = decoded_at little image (start + slot) (omega (arith, v.inside))

    module _ {rel : (prelude.Option ℕ)} (r : Resolves o row first slot rel) where
      insn_is : (object_of (tables_of little o)).insn row slot ≡ slot_in little o.instructions (first + slot)
      unfolding object_of
      insn_is = insn_at r slot turn

      -- the code's judgement of the slot
      test_is : (m : Meant) → Means row slot m (meaning (object_of (tables_of little o)) row slot)
          → slot_test slot ≡ meant_wrong (pieces_of pieces) k slot (start + slot) (slot_in little o.instructions (first + slot)) (slot_in little image (start + slot)) m
      unfolding slot_test
      test_is m e =
          ap (λ x. slot_wrong (pieces_of pieces) k row slot (start + slot) x (slot_at (decoded little image) (start + slot)) (meaning (object_of (tables_of little o)) row slot)) insn_is
          ∙ ap (λ x. slot_wrong (pieces_of pieces) k row slot (start + slot) (slot_in little o.instructions (first + slot)) x (meaning (object_of (tables_of little o)) row slot)) image_is
          ∙ meant (pieces_of pieces) k row slot (start + slot) (slot_in little o.instructions (first + slot)) (slot_in little image (start + slot)) m
          (meaning (object_of (tables_of little o)) row slot) e

      callable : (m : Meant) → Means row slot m (meaning (object_of (tables_of little o)) row slot) → Callable m
      callable (Ok None) e = tt
      callable (Ok (Some p)) e = omega (arith, points_inside o row slot p e, few_rows Functions o.functions v.tables.functions)
      callable (Err x) e = tt

-- the same, where the code holds these numbers under names of its own
module _ {o : Offered} {image pieces : List ℕ} {row start first : ℕ} (v : Visits o image pieces row start first) (k : ℕ) {n slot : ℕ} (is : slot ≡ n)
    (turn : n < function_slots o.functions row) where
  means_at : (m : Meant) → Means row slot m (meaning (object_of (tables_of little o)) row slot) → Means row n m (meaning (object_of (tables_of little o)) row n)
  means_at m e = subst (λ s. Means row s m (meaning (object_of (tables_of little o)) row s)) is e

  module _ {rel : (prelude.Option ℕ)} (r : Resolves o row first slot rel) (m : Meant) (means : Means row slot m (meaning (object_of (tables_of little o)) row slot)) where
    at_n : Resolves o row first n rel
    at_n = subst (λ s. Resolves o row first s rel) is r

    pub callable_at : Callable m
    callable_at = callable o image pieces k row start v n turn at_n m (means_at m means)

    module _ {here at : ℕ} (here_is : here ≡ start + slot) (at_is : at ≡ first + slot) where
      pub judged_at : {x : Option Reply} → x ≡ meant_wrong (pieces_of pieces) k slot here (slot_in little o.instructions at) (slot_in little image here) m
          → slot_test o image pieces k row start n ≡ x
      judged_at {x} e =
          let h : here ≡ start + n = omega arith in
          let a : at ≡ first + n = omega arith in
          test_is o image pieces k row start v n turn at_n m (means_at m means)
          ∙ sym (ap (λ s. meant_wrong (pieces_of pieces) k s here (slot_in little o.instructions at) (slot_in little image here) m) is
          ∙ ap (λ x. meant_wrong (pieces_of pieces) k n x (slot_in little o.instructions at) (slot_in little image x) m) h
          ∙ ap (λ x. meant_wrong (pieces_of pieces) k n (start + n) (slot_in little o.instructions x) (slot_in little image (start + n)) m) a)
          ∙ sym e

-- ---- the cursor, where the code holds its table and the place under names of its own
pub with_is : {t t' : List ℕ} {home home' place place' : ℕ} → t ≡ t' → home ≡ home' → place ≡ place' → {rel : prelude.Option ℕ}
    → rel ≡ found_of (relocation_with t home place) → rel ≡ found_of (relocation_with t' home' place')
with_is {t} {t'} {home} {home'} {place} table h p e =
    e ∙ ap (λ x. found_of (relocation_with x home place)) table ∙ ap (λ x. found_of (relocation_with t' x place)) h ∙ ap (λ x. found_of (relocation_with t' home' x)) p
