-- Opcode and destination, and then the offset.
use mathlib.Core.Path.{◌≡◌, sym, ap, ◌∙◌}
use mathlib.Core.Bool.{◌&&◌}
use Prim.Native.Nat.{ℕ, ◌+◌, ◌*◌}
use native.Mathlib.Omega.{arith}
use borrow.Author.Tests.{eq-eqb, ne_eqb}
use lib.Dec.{eqb}
use Rattle.rules.specs.Object.{Insn}
use Rattle.rules.specs.Bytes.{little, u16_at, slot_size, slot_in}
use Rattle.examine.proofs.Words.{same_offset}
use Rattle.examine.proofs.Meanings.{forms_differ, offsets}
use Rattle.examine.proofs.slots.same_form.Goals.{Joined-opcode, then-opcode, else-opcode, Start}
use Rattle.examine.proofs.slots.same_form.Goals as goal

abbrev first : Start → Insn
first s = slot_in little s.args.a.now s.args.i.0

abbrev second : Start → Insn
second s = slot_in little s.args.b.now s.args.j.0

heads : (c : Joined-opcode) → let s = (goal.at.Joined-opcode c).Start in c.if-opcode.value ≡ (eqb (first s).opcode (second s).opcode && eqb (first s).destination (second s).destination)
heads c =
    let s = (goal.at.Joined-opcode c).Start in
    elim c.if-opcode.branch [
      | then-opcode w ↦
          w.value-is ∙ ap (λ (n : ℕ). eqb n w.destination-then-opcode.result) w.destination.ensures ∙ ap (eqb (first s).destination) w.destination-then-opcode.ensures
          ∙ sym (ap (λ b. b && eqb (first s).destination (second s).destination) (eq-eqb (first s).opcode (second s).opcode (sym c.opcode.ensures ∙ w.if-opcode.true ∙ c.opcode-2.ensures)))
      | else-opcode w ↦
          w.value-is ∙ ne_eqb c.opcode.result c.opcode-2.result w.if-opcode.false
          ∙ sym (ap (λ b. b && eqb (first s).destination (second s).destination) (ne_eqb (first s).opcode (second s).opcode (λ e. w.if-opcode.false (c.opcode.ensures ∙ e ∙ sym c.opcode-2.ensures))))
    ]

pub returns-then-destination : goal.returns-then-destination
returns-then-destination c =
    let a = c.args in
    let at = goal.at.returns-then-destination c in
    ap (λ (w : ℕ). eqb w c.u16_at-then-destination.result) (c.u16_at.ensures.0 ∙ ap (λ (n : ℕ). u16_at little a.a.now (n + 2)) c.start_of.ensures.0)
    ∙ ap (eqb (u16_at little a.a.now (slot_size * a.i.0 + 2))) (c.u16_at-then-destination.ensures.0 ∙ ap (λ (n : ℕ). u16_at little a.b.now (n + 2)) c.start_of-then-destination.ensures.0)
    ∙ same_offset a.a.now a.b.now (λ k. omega (arith, c.type_inv.a k)) (λ k. omega (arith, c.type_inv.b k))
    (slot_size * a.i.0) (slot_size * a.j.0)
    ∙ offsets (first at.Start) (second at.Start) (sym (heads at.Joined-opcode) ∙ c.if-destination.true)

pub returns-else-destination : goal.returns-else-destination
returns-else-destination c =
    let at = goal.at.returns-else-destination c in
    c.if-destination.false ∙ forms_differ (first at.Start) (second at.Start) (sym (heads at.Joined-opcode) ∙ c.if-destination.false)
