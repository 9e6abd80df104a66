-- The invariant: the records that are left to look at hold the one asked for. Assumes nothing.
use mathlib.Core.Path.{subst, ◌∙◌}
use Prim.Native.Nat.{ℕ, ◌<◌}
use native.Mathlib.Omega.{arith}
use Rattle.tell.proofs.Laws.{last_on}
use Rattle.tell.proofs.listing.last_at.Goals as goal

pub loop-k-preserved : goal.loop-k-preserved
loop-k-preserved c =
    let s = c.args in
    let l = c.loop-k in
    (omega arith, l.invariant.1 ∙ last_on s.records.now s.size s.key s.from s.slot l.k (omega arith) (subst (λ (x : ℕ). s.slot < x) c.u32_at.ensures c.if-u32_at-slot.false))
