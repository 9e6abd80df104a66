-- A slot is found where one sees one.
use mathlib.Core.Path.{◌≡◌, ap, ◌∙◌}
use lib.IntN.{ℤ}
use Rattle.std.proofs.Common.{rules}
use Rattle.std.specs.Option.{is_some}
use Rattle.walk.proofs.Places.{slot_found, sees_found}
use Rattle.walk.proofs.SlotsGround.has.Goals as goal

pub returns : goal.returns
returns c =
    let a = c.args in
    let found : c.slot_in.result ≡ slot_found a.self.now.0 a.at = search rules in
    c.is_some.ensures ∙ ap is_some found ∙ sees_found ℤ a.self.now.0 a.at
