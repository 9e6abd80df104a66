-- The invariant: what was added up is the sum over the first k rows, which is at most the sum over all rows before this one.
use Rattle.merge.specs.Merge.{PartBegins}
use Rattle.merge.proofs.part_of.Given as goal

abbrev pub invariant-loop-k : goal.invariant-loop-k
invariant-loop-k l = PartBegins l.functions l.k l.part
