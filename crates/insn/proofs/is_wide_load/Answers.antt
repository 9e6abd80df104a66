-- Opcode, a next slot, and that slot's first four bytes, tested in this order.
use mathlib.Core.Path.{◌≡◌, sym, ap, ◌∙◌}
use mathlib.Core.Bool.{true, false}
use Prim.Native.Nat.{ℕ, ◌≤◌, ◌<◌}
use native.Mathlib.Omega.{arith}
use borrow.Author.Rules.{rules}
use Rattle.rules.specs.Object.{is_blank}
use Rattle.rules.specs.Bytes.{little, slot_in}
use Rattle.insn.proofs.WideLoads.{other_opcode, no_next, by_next}
use Rattle.insn.proofs.is_wide_load.Goals.{then-opcode-eq24, else-opcode-eq24}
use Rattle.insn.proofs.is_wide_load.Goals as goal

pub returns-then-lt : goal.returns-then-lt
returns-then-lt c =
    let a = c.args in
    elim c.if-opcode-eq24.branch [
      | then-opcode-eq24 w ↦
          let t : w.lt.result ≡ true = sym w.value-is ∙ c.if-lt.true in
          let l : c.next-second.result.0 < a.end.0 = search rules in
          c.is_blank.ensures
          ∙ ap (λ (n : ℕ). is_blank (slot_in little a.code.now n)) c.next-second.ensures
          ∙ by_next a.code.now a.slot.0 a.end.0 (sym c.opcode.ensures ∙ w.if-opcode-eq24.true) (omega arith)
      | else-opcode-eq24 w ↦ absurd (search rules)
    ]

pub returns-else-lt : goal.returns-else-lt
returns-else-lt c =
    let a = c.args in
    elim c.if-opcode-eq24.branch [
      | then-opcode-eq24 w ↦
          let t : w.lt.result ≡ false = sym w.value-is ∙ c.if-lt.false in
          let l : a.end.0 ≤ c.next-second.result.0 = search rules in
          c.if-lt.false ∙ no_next a.code.now a.slot.0 a.end.0 (sym c.opcode.ensures ∙ w.if-opcode-eq24.true) (omega arith)
      | else-opcode-eq24 w ↦ c.if-lt.false ∙ other_opcode a.code.now a.slot.0 a.end.0 (λ e. w.if-opcode-eq24.false (c.opcode.ensures ∙ e))
    ]
