-- The word of the first four bytes is the same just where all but the immediate is.
use mathlib.Core.Path.{ap, ◌∙◌}
use Prim.Native.Nat.{ℕ, ◌*◌}
use native.Mathlib.Omega.{arith}
use lib.Dec.{eqb}
use Rattle.rules.specs.Bytes.{little, u32_at, slot_size}
use Rattle.examine.proofs.Words.{same_head_lem}
use Rattle.examine.proofs.slots.same_head.Goals as goal

pub returns : goal.returns
returns c =
    let a = c.args in
    ap (λ (w : ℕ). eqb w c.u32_at-2.result) (c.u32_at.ensures ∙ ap (u32_at little a.a.now) c.start_of.ensures.0)
    ∙ ap (eqb (u32_at little a.a.now (slot_size * a.i.0))) (c.u32_at-2.ensures ∙ ap (u32_at little a.b.now) c.start_of-2.ensures.0)
    ∙ same_head_lem a.a.now a.b.now (λ k. omega (arith, c.type_inv.a k)) (λ k. omega (arith, c.type_inv.b k))
    (slot_size * a.i.0) (slot_size * a.j.0)
