-- The invariant: what was added up is the sum over the first k rows, each with no more slots than a function may have.
use mathlib.Core.Path.{◌≡◌}
use Rattle.rules.specs.Rows.{function_slots, summed}
use Rattle.source.proofs.first_slot.Given as goal

abbrev pub invariant-loop-k : goal.invariant-loop-k
invariant-loop-k l = l.first ≡ summed (function_slots l.functions) 0 l.k
