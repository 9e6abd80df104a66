-- The invariant: rewriting the relocations that are left gives the function's slots and count.
use Rattle.maps.proofs.Rewriting.{rewrite_start, rewrite_end, rewrite_next}
use Rattle.maps.proofs.rewrite_function.Goals as goal

pub loop-k-init : goal.loop-k-init
loop-k-init c = rw c.into_iter-k-iterator.ensures.into_iter_gives (rewrite_start c.requires.0 c.requires.1)

pub loop-k-preserved : goal.loop-k-preserved
loop-k-preserved c =
    rewrite_next c.requires.0 c.loop-k.invariant c.in-Some.k c.next.new.self.start c.next.new.self.end c.in-Some.ensures.steps c.rewrite_one-count.ensures

pub returns : goal.returns
returns c = rewrite_end c.requires.0 c.loop-k.invariant c.in-None.ensures.steps.1.0
