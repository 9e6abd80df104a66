-- Two numbers, one after the other.
use Rattle.pieces.specs.InOrder.{piece_bytes}
use Rattle.pieces.proofs.order.put_piece.Goals as goal

pub returns : goal.returns
unfolding piece_bytes
returns c = c.put_numbers.ensures
