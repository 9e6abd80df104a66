-- The invariant: what is still to come, written behind the pieces that are there, makes the whole list.
use Rattle.pieces.proofs.Listing.{Left}
use Rattle.pieces.proofs.order.put_list.Given as goal

abbrev pub invariant-loop-count : goal.invariant-loop-count
invariant-loop-count l = Left l.functions l.starts l.end l.initial.out l.initial.at l.out l.count l.at
