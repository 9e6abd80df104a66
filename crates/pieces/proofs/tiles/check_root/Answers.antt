-- No first piece, or one that is compared with the root at 0.
use mathlib.Core.Path.{sym, ap, ◌∙◌}
use mathlib.Core.Option.{some}
use Rattle.pieces.proofs.Tiling.{root_none, root_right, root_other}
use Rattle.pieces.proofs.tiles.check_root.Goals.{else-pieces-ge-PIECE_SIZE-via-then-pieces-ge-PIECE_SIZE+else-is_piece, else-pieces-ge-PIECE_SIZE-via-else-pieces-ge-PIECE_SIZE}
use Rattle.pieces.proofs.tiles.check_root.Goals as goal

pub returns-then-is_piece : goal.returns-then-is_piece
returns-then-is_piece c =
    sym (root_right c.args.root c.args.pieces.now c.if-pieces-ge-PIECE_SIZE.true (sym c.is_piece.ensures ∙ c.if-is_piece.true))

pub returns : goal.returns
returns c =
    let a = c.args in
    ap some c.refusal.ensures
    ∙ sym (elim c.else-pieces-ge-PIECE_SIZE.branch [
      | else-pieces-ge-PIECE_SIZE-via-then-pieces-ge-PIECE_SIZE+else-is_piece w ↦
          root_other a.root a.pieces.now w.if-pieces-ge-PIECE_SIZE.true (sym w.is_piece.ensures ∙ w.if-is_piece.false)
      | else-pieces-ge-PIECE_SIZE-via-else-pieces-ge-PIECE_SIZE w ↦ root_none a.root a.pieces.now w.if-pieces-ge-PIECE_SIZE.false
    ])
