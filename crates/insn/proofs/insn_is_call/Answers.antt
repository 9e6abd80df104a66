-- The word of the first four bytes is 1085 hex just where the slot is a call.
use mathlib.Core.Path.{◌∙◌, ap}
use Prim.Native.Nat.{ℕ, ◌*◌}
use native.Mathlib.Omega.{arith}
use lib.Dec.{eqb}
use Rattle.rules.specs.Bytes.{little, u32_at, slot_size}
use Rattle.insn.proofs.Words.{call_word}
use Rattle.insn.proofs.insn_is_call.Goals as goal

pub returns : goal.returns
returns c =
    let code = c.args.code.now in
    ap (λ (w : ℕ). eqb w 0x1085) (c.u32_at.ensures ∙ ap (u32_at little code) c.start_of.ensures.0)
    ∙ call_word code (slot_size * c.args.slot.0) (λ k. omega (arith, c.type_inv.code k))
