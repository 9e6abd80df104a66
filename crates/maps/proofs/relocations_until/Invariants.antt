-- The invariant: no row so far is past the place.
use Prim.Native.Nat.{◌≤◌}
use Rattle.rules.specs.Lookups.{relocations_before}
use Rattle.maps.proofs.relocations_until.Given as goal

abbrev pub invariant-loop-k : goal.invariant-loop-k
invariant-loop-k l = l.k ≤ relocations_before l.relocations l.home l.offset.0
