-- A number of four bytes, where its row starts.
use borrow.Author.Rules.{rules}
use Rattle.rules.specs.Pieces.{piece_row}
use Rattle.pieces.proofs.fields.piece_row.Goals as goal

pub returns : goal.returns
unfolding piece_row
returns c = search rules
