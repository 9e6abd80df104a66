-- Two's complement of the number that stands there.
use mathlib.Core.Path.{ap, sym, ◌∙◌}
use mir.Syntax.{w16}
use mir.Val.{to_z}
use mir.ValLaws.{to_z-of_z}
use Rattle.std.specs.Int.{from_le_bytes}
use Rattle.rules.proofs.Machine.{signed16}
use Rattle.wire.proofs.Bits.{read16}
use Rattle.wire.proofs.i16_at.Goals as goal

pub returns : goal.returns
returns c =
    let a = c.args in
    to_z-of_z w16 _ (record { sfits = c.from_le_bytes.type_inv }) ∙ c.from_le_bytes.ensures
    ∙ ap (to_z w16) (ap (from_le_bytes w16) c.bytes_at.ensures ∙ read16 a.s.now a.at)
    ∙ sym (signed16 _)
