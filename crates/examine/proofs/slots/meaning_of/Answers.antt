-- A plain slot is copied; of any other `resolve` says what is meant.
use mathlib.Core.Path.{sym, ap, ◌∙◌}
use Prim.Native.Nat.{ℕ}
use native.Mathlib.Omega.{arith}
use Rattle.rules.specs.Bytes.{little, slot_in}
use Rattle.resolve.proofs.Slots.{first_low, slots_low, end_inside}
use Rattle.examine.specs.Compared.{is_plain}
use Rattle.examine.proofs.Plain.{plain_copied}
use Rattle.examine.proofs.slots.meaning_of.Goals as goal

pub after-requires : goal.after-requires
after-requires c =
    omega (arith, first_low c.requires, slots_low c.requires, c.requires.slot_inside)

pub is_plain-requires : goal.is_plain-requires
is_plain-requires c =
    omega (arith, end_inside c.requires, c.requires.slot_inside, c.after.ensures)

pub returns-then-is_plain : goal.returns-then-is_plain
returns-then-is_plain c =
    plain_copied c.args.rel c.requires
    (ap (λ (n : ℕ). is_plain c.args.rel (slot_in little c.args.instructions.now n)) (sym c.after.ensures) ∙ sym c.is_plain.ensures ∙ c.if-is_plain.true)
