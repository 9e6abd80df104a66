use mathlib.Core.Path.{◌≡◌}
use Prim.Native.Nat.{◌+◌, ◌*◌, ◌-◌, ◌≤◌}
use Rattle.tell.specs.Files.{start_of}
use Rattle.tell.proofs.files.start_of.Given as goal

abbrev pub invariant-loop-k : goal.invariant-loop-k
invariant-loop-k l = (l.k ≤ l.i) × ((l.start ≡ start_of l.file l.k) × (l.start ≤ 32 + 0xFFFF_FFFF * l.k))

abbrev pub decreases-loop-k : goal.decreases-loop-k
decreases-loop-k l = l.i - l.k
