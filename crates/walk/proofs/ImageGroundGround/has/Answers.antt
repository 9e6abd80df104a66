-- A slot is found where one sees one.
use mathlib.Core.Path.{◌≡◌, ap, ◌∙◌}
use Rattle.std.proofs.Common.{rules}
use Rattle.rules.specs.Tables.{is_some}
use Rattle.walk.proofs.Leads.{sees, sees_some}
use Rattle.walk.proofs.Places.{slot_found}
use Rattle.walk.proofs.ImageGroundGround.has.Goals as goal

pub returns : goal.returns
returns c =
    let a = c.args in
    let found : c.slot_in.result ≡ slot_found a.self.now.slots a.at = search rules in
    c.is_some.ensures ∙ sees_some a.self.now.ground c.slot_in.result ∙ ap is_some (sees a.self.now.ground a.at c.slot_in.result found)
