-- The four bytes of the immediate stand from the slot's byte 4 on.
use mathlib.Core.Path.{◌∙◌, ap}
use Prim.Native.Nat.{ℕ, ◌+◌}
use mir.Syntax.{w32}
use mir.Val.{to_z, of_z}
use mir.ValLaws.{to_z-of_z}
use Rattle.rules.specs.Bytes.{little, bytes4, unsigned, half32, splice, immediate_stored}
use Rattle.insn.proofs.set_immediate.Goals as goal

pub returns : goal.returns
unfolding immediate_stored
returns c =
    let a = c.args in
    let bits = unsigned half32 (to_z w32 (of_z w32 a.imm)) in
    c.put_i32.ensures
    ∙ ap (λ (at : ℕ). splice a.code.now (at + 4) (bytes4 little bits)) c.start_of.ensures.0
    ∙ ap (immediate_stored little a.code.now a.slot.0) (to_z-of_z w32 a.imm c.ranges.imm)
