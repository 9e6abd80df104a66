-- The invariant: rewriting the relocations that are left gives the function's slots and count.
use Rattle.rules.specs.Lent.{lent_maps}
use Rattle.maps.proofs.Rewriting.{RewriteScan}
use Rattle.maps.proofs.rewrite_function.Given as goal

abbrev pub invariant-loop-k : goal.invariant-loop-k
invariant-loop-k l =
    RewriteScan (lent_maps l.names l.maps l.initial.instructions) l.instructions l.row l.k-iterator.start l.k-iterator.end l.count
