-- The invariant: the lines that are left to pass lead to the one asked for. Assumes nothing.
use Rattle.std.proofs.Common.{◌≡◌, ◌-◌}
use Rattle.tell.specs.Lines.{line_from}
use Rattle.tell.proofs.lines.line_from.Given as goal

abbrev pub invariant-loop : goal.invariant-loop
invariant-loop l = line_from l.rest (l.k - l.counter) ≡ line_from l.text l.k
