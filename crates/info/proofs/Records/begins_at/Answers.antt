-- The number is read where the record begins in the data.
use mathlib.Core.Path.{ap, ◌∙◌}
use Prim.Native.Nat.{ℕ, ◌*◌, ◌%◌}
use native.Mathlib.Omega.{arith}
use lib.Dec.{eqb}
use Rattle.rules.specs.Bytes.{little}
use Rattle.info.proofs.Chunks.{u32_from}
use Rattle.info.proofs.Records.begins_at.Goals as goal

pub returns : goal.returns
returns c = c.begins_on_slot.ensures ∙ ap (λ (n : ℕ). eqb (n % 8) 0) (u32_from little c.args.self.bytes.now (c.args.self.size * c.args.k) _ (omega (arith, c.requires)))
