-- Two's complement is what the machine's registers hold.
use mathlib.Core.Path.{sym, ap, ◌∙◌}
use mir.Syntax.{w32}
use mir.Val.{of_z}
use mir.ValLaws.{to_z-of_z}
use Rattle.rules.proofs.Machine.{unsigned32}
use Rattle.wire.proofs.bits32.Goals as goal

pub returns : goal.returns
returns c = c.cast_unsigned.ensures ∙ ap (of_z w32) (to_z-of_z w32 _ c.ranges.v) ∙ sym (unsigned32 c.args.v)
