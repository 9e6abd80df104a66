-- A slot is found where one sees one.
use mathlib.Core.Path.{◌≡◌, ap, ◌∙◌}
use Rattle.std.proofs.Common.{rules}
use Rattle.std.specs.Option.{is_some}
use Rattle.rules.specs.Walk.{SourcePlace}
use Rattle.source.specs.Moves.{slots_in}
use Rattle.walk.proofs.Places.{slot_found, sees_found}
use Rattle.source.proofs.RowSlotsGround.has.Goals as goal

pub returns : goal.returns
returns c =
    let functions = c.args.self.now.functions.now in
    let at = c.args.at in
    let found : c.slot_in.result ≡ slot_found (slots_in functions at.row) at.slot = search rules in
    c.is_some.ensures ∙ ap is_some found ∙ sees_found SourcePlace (slots_in functions at.row) at.slot
