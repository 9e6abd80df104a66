-- A number of four bytes, 4 bytes into its row.
use borrow.Author.Rules.{rules}
use Rattle.rules.specs.Pieces.{piece_start}
use Rattle.pieces.proofs.fields.piece_start.Goals as goal

pub returns : goal.returns
unfolding piece_start
returns c = search rules
