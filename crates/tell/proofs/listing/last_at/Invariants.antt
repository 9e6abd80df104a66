-- The invariant: the records that are left to look at hold the one asked for. Assumes nothing.
use mathlib.Core.Path.{◌≡◌}
use Prim.Native.Nat.{◌-◌, ◌≤◌}
use Rattle.tell.specs.Listing.{last_at}
use Rattle.tell.proofs.listing.last_at.Given as goal

abbrev pub invariant-loop-k : goal.invariant-loop-k
invariant-loop-k l = (l.k ≤ l.end) × (last_at l.records l.size l.key l.from l.slot (l.end - l.from) ≡ last_at l.records l.size l.key l.from l.slot (l.k - l.from))

abbrev pub decreases-loop-k : goal.decreases-loop-k
decreases-loop-k l = l.k
