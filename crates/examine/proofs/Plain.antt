-- A slot that has no relocation and is no call names nothing, so the link copies it.
-- Assumes nothing.
use mathlib.Core.Path.{◌≡◌, refl, ap, ◌∙◌}
use mathlib.Core.Bool.{Bool, true, false, cond, ◌&&◌}
use mathlib.Core.Option.{none}
use Prim.Native.Nat.{ℕ, ◌+◌, ◌*◌}
use native.Mathlib.Omega.{arith}
use borrow.Author.Tests.{not-true}
use lib.IntN.{pos, ◌+ℤ◌}
use lib.Dec.{eqb}
use Rattle.std.specs.Prelude as prelude
use Rattle.std.specs.Prelude.{Some, None}
use Rattle.rules.specs.Object.{Insn, is_zero, is_call, nothing, copied, decide, meaning}
use Rattle.rules.specs.Bytes.{little, slot_in}
use Rattle.rules.specs.Tables.{Tables, Function, slots_on, function_at, by_relocation, object_of}
use Rattle.rules.specs.Rows.{Offered, tables_of, function_slots, function_row}
use Rattle.insn.specs.Wide.{wide_load_in}
use Rattle.resolve.specs.Resolves.{Resolves}
use Rattle.resolve.proofs.Slots.{meaning_is}
use Rattle.examine.specs.Compared.{is_plain}

no_call : (i : Insn) → eqb i.opcode 0x85 ≡ false → is_call i ≡ false
unfolding is_call
no_call i e = ap (λ b. b && eqb i.destination 0 && eqb i.source 1 && is_zero i.offset) e

named_nothing : (w : Bool) → decide false w nothing ≡ copied
unfolding decide
named_nothing true = refl
named_nothing false = refl

by_none : (tables : Tables) (f : Function) (slot : ℕ) (i : Insn) → is_call i ≡ false → by_relocation tables none f slot i ≡ nothing
by_none tables f slot i e = ap (λ b. cond b (function_at tables f.home (pos (f.offset + 8 * slot) +ℤ slots_on i.immediate)) nothing) e

pub plain_copied : {o : Offered} {row first slot : ℕ} (rel : (prelude.Option ℕ)) → Resolves o row first slot rel → is_plain rel (slot_in little o.instructions (first + slot)) ≡ true
    → meaning (object_of (tables_of little o)) row slot ≡ copied
plain_copied {o} {row} {first} {slot} None r e =
    let n : is_call (slot_in little o.instructions (first + slot)) ≡ false = no_call (slot_in little o.instructions (first + slot)) (not-true (eqb (slot_in little o.instructions (first + slot)).opcode 0x85) e) in
    meaning_is r
    ∙ ap (λ b. decide b (wide_load_in o.instructions (first + slot) (first + function_slots o.functions row)) (by_relocation (tables_of little o) none (function_row o.functions row) slot (slot_in little o.instructions (first + slot)))) n
    ∙ ap (decide false (wide_load_in o.instructions (first + slot) (first + function_slots o.functions row))) (by_none (tables_of little o) (function_row o.functions row) slot (slot_in little o.instructions (first + slot)) n)
    ∙ named_nothing (wide_load_in o.instructions (first + slot) (first + function_slots o.functions row))
plain_copied (Some k) r e = let z : ◌≡◌ {A = ℕ} 0 1 = cc in absurd (omega arith)
