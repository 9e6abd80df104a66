-- The sum over the bytes so far.
use Rattle.std.proofs.Common.{◌≡◌, take}
use Rattle.replay.specs.Shown.{checksum}
use Rattle.replay.proofs.show.checksum.Given as goal

abbrev pub invariant-loop-b : goal.invariant-loop-b
invariant-loop-b l = l.sum ≡ checksum (take l.b-index l.bytes)
