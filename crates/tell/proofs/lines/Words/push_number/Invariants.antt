-- The invariant: what adds the digits that are left adds the whole number. Assumes nothing.
use Rattle.std.proofs.Common.{◌≡◌, ◌-◌}
use Rattle.tell.specs.Lines.{added, numeral, decimal}
use Rattle.tell.proofs.lines.Words.push_number.Given as goal

abbrev pub invariant-loop-k : goal.invariant-loop-k
invariant-loop-k l = added (numeral (10 - l.k) l.begun l.width l.n) l.self ≡ added (decimal l.width l.n) l.fn.self
