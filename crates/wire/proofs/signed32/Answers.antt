-- Two's complement is what the machine's registers hold.
use mathlib.Core.Path.{sym, ◌∙◌}
use mir.Syntax.{w32}
use mir.ValLaws.{to_z-of_z}
use Rattle.rules.proofs.Machine as machine
use Rattle.wire.proofs.signed32.Goals as goal

pub returns : goal.returns
returns c = to_z-of_z w32 _ (record { sfits = c.cast_signed.type_inv }) ∙ c.cast_signed.ensures ∙ sym (machine.signed32 c.args.u)
