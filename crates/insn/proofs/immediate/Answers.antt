-- The immediate is the signed number from the slot's byte 4 on.
use mathlib.Core.Path.{◌∙◌, ap}
use Prim.Native.Nat.{ℕ, ◌+◌}
use mir.Syntax.{w32}
use mir.ValLaws.{to_z-of_z}
use Rattle.rules.specs.Bytes.{little, signed, half32, u32_at, decode}
use Rattle.insn.proofs.immediate.Goals as goal

pub returns : goal.returns
unfolding decode
returns c =
    to_z-of_z w32 _ (record { sfits = c.i32_at.type_inv }) ∙ c.i32_at.ensures
    ∙ ap (λ (at : ℕ). signed half32 (u32_at little c.args.code.now (at + 4))) c.start_of.ensures.0
