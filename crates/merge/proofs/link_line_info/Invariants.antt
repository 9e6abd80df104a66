-- The invariant: the output holds the first k records, each moved by the same way as the first one, which goes to the start.
use mathlib.Core.Path.{◌≡◌}
use Rattle.merge.proofs.Linked.{lines_put}
use Rattle.merge.proofs.link_line_info.Given as goal

abbrev pub invariant-loop-k : goal.invariant-loop-k
invariant-loop-k l = l.out ≡ lines_put l.line_info l.from l.origin l.start l.initial.out l.to l.k
