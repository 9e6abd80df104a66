-- Two's complement of the number that stands there.
use mathlib.Core.Path.{ap, sym, ◌∙◌}
use mir.Syntax.{w32}
use mir.Val.{to_z}
use mir.ValLaws.{to_z-of_z}
use Rattle.std.specs.Int.{from_le_bytes}
use Rattle.rules.proofs.Machine.{signed32}
use Rattle.wire.proofs.Bits.{read32}
use Rattle.wire.proofs.i32_at.Goals as goal

pub returns : goal.returns
returns c =
    let a = c.args in
    to_z-of_z w32 _ (record { sfits = c.from_le_bytes.type_inv }) ∙ c.from_le_bytes.ensures
    ∙ ap (to_z w32) (ap (from_le_bytes w32) c.bytes_at.ensures ∙ read32 a.s.now a.at)
    ∙ sym (signed32 _)
