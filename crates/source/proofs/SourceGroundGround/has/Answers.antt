-- A slot is found where one sees one.
use mathlib.Core.Path.{◌≡◌, ◌∙◌}
use Rattle.std.proofs.Common.{rules}
use Rattle.rules.specs.Lent.{lent_code}
use Rattle.walk.proofs.Places.{slot_found}
use Rattle.source.specs.Moves.{slots_in}
use Rattle.source.proofs.Sights.{sees_found}
use Rattle.source.proofs.SourceGroundGround.has.Goals as goal

pub returns : goal.returns
returns c =
    let s = c.args.self.now in
    let at = c.args.at in
    let found : c.slot_in.result ≡ slot_found (slots_in s.names.functions.now at.row) at.slot = search rules in
    c.is_some.ensures ∙ sees_found (lent_code s.names s.instructions.now) at.row at.slot c.slot_in.result found
