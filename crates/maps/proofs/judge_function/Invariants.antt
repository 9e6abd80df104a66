-- The invariant: the relocations that are left give the function's first refusal.
use Rattle.rules.specs.Lent.{lent_maps}
use Rattle.maps.proofs.Passes.{JudgeScan}
use Rattle.maps.proofs.judge_function.Given as goal

abbrev pub invariant-loop-k : goal.invariant-loop-k
invariant-loop-k l = JudgeScan (lent_maps l.names l.maps l.instructions) l.row l.k-iterator.start l.k-iterator.end
