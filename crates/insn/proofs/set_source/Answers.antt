-- One store, which is a splice of one byte, of the register byte with the low half kept.
use mathlib.Core.Path.{◌∙◌, ap}
use Prim.Native.Nat.{ℕ, ◌+◌, ◌*◌, ◌%◌}
use mathlib.Core.List.{[], ◌∷◌}
use native.Mathlib.Omega.{arith}
use Rattle.rules.specs.Bytes.{splice, byte_at, source_stored}
use Rattle.rules.proofs.Splices.{one_put}
use Rattle.insn.proofs.set_source.Goals as goal

pub returns : goal.returns
unfolding source_stored
returns c =
    let a = c.args in
    let at = c.start_of-at.result in
    one_put a.code.now (at + 1) _ (omega arith)
    ∙ ap (λ (k : ℕ). splice a.code.now (k + 1) ((byte_at a.code.now (k + 1) % 16 + 16 * a.r) ∷ [])) c.start_of-at.ensures.0
