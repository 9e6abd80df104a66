-- The invariant: after k steps the definition's walk stands where the numbers say, and the frames hold its stack.
use Rattle.walk.specs.Steps.{slice_frames}
use Rattle.walk.proofs.Running.{Running}
use Rattle.walk.proofs.run.Given as goal

abbrev pub invariant-loop : goal.invariant-loop
invariant-loop g l =
    Running (slice_frames g.G.Ground.blank) (g.G.Ground.sight l.ground) l.fn.first l.answers l.fn.frames l.frames l.counter l.here.at l.here.depth l.here.taken
