-- No piece starts at a negative number. Of the others, the first piece that does not start before it is the only one that may start there.
use mathlib.Core.Path.{◌≡◌, sym, ap, ◌∙◌}
use borrow.Author.Tests.{le-ltb}
use lib.IntN.{pos}
use mir.Syntax.{w64}
use mir.Val.{to_z, of_z}
use mir.ValLaws.{to_z-of_z}
use Rattle.std.proofs.Common.{rules}
use Rattle.rules.specs.Pieces.{pieces_of}
use Rattle.pieces.proofs.Targets.{unfit, place_is, negative, past_all, at_most_one}
use Rattle.pieces.proofs.tiles.starts_at.Goals.{Start, In-Ok}
use Rattle.pieces.proofs.tiles.starts_at.Goals as goal

itself : (c : Start) → to_z w64 (of_z w64 c.args.target) ≡ c.args.target
itself c = to_z-of_z w64 c.args.target c.ranges.target

there : (c : In-Ok) → c.args.target ≡ pos c.in-Ok.place
there c =
    let e = rw (itself (goal.at.In-Ok c).Start) at c.in-Ok.ensures in
    place_is c.args.target e.0 ∙ ap pos (sym e.1)

pub returns-in_default : goal.returns-in_default
returns-in_default c =
    sym (negative c.args.target c.args.row (pieces_of c.args.pieces.now)
    (unfit c.args.target c.ranges.target (rw (itself (goal.at.returns-in_default c).Start) at c.in_default.ensures)))

pub returns-then-k-pieces : goal.returns-then-k-pieces
returns-then-k-pieces c =
    c.is_piece.ensures
    ∙ sym (at_most_one c.args.pieces.now c.requires c.in-Ok.place c.args.target (there (goal.at.returns-then-k-pieces c).In-Ok) c.args.row
    _ (search rules) c.if-k-pieces.true)

pub returns-else-k-pieces : goal.returns-else-k-pieces
returns-else-k-pieces c =
    le-ltb _ _ c.if-k-pieces.false
    ∙ sym (past_all c.args.pieces.now c.requires c.in-Ok.place c.args.target (there (goal.at.returns-else-k-pieces c).In-Ok) c.args.row
    (search rules))
