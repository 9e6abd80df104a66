-- At most as many rows as table 3 may have, of less than 2^32 slots each.
use Rattle.std.proofs.Common.{◌*◌, ◌≤◌}
use Rattle.paths.proofs.first_of.Given as goal

abbrev pub invariant-loop-k : goal.invariant-loop-k
invariant-loop-k l = l.first ≤ 0xFFFF_FFFF * l.k
