-- The offset is the signed number from the slot's byte 2 on.
use mathlib.Core.Path.{◌∙◌, ap}
use Prim.Native.Nat.{ℕ, ◌+◌}
use mir.Syntax.{w16}
use mir.ValLaws.{to_z-of_z}
use Rattle.rules.specs.Bytes.{little, signed, half16, u16_at, decode}
use Rattle.insn.proofs.offset.Goals as goal

pub returns : goal.returns
unfolding decode
returns c =
    to_z-of_z w16 _ (record { sfits = c.i16_at.type_inv }) ∙ c.i16_at.ensures
    ∙ ap (λ (at : ℕ). signed half16 (u16_at little c.args.code.now (at + 2))) c.start_of.ensures.0
