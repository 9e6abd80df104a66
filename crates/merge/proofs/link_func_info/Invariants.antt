-- The invariant: the output holds the first k records, each with the start as its slot.
use mathlib.Core.Path.{◌≡◌}
use Rattle.merge.proofs.Linked.{funcs_put}
use Rattle.merge.proofs.link_func_info.Given as goal

abbrev pub invariant-loop-k : goal.invariant-loop-k
invariant-loop-k l = l.out ≡ funcs_put l.func_info l.from l.slot l.initial.out l.to l.k
