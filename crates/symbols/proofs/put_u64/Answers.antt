-- The part that is written is the number's bytes.
use mathlib.Core.Path.{refl, ◌∙◌}
use native.Mathlib.Omega.{arith}
use Rattle.symbols.specs.Symbols.{bytes8}
use Rattle.wire.proofs.Stores.{put_mid_splice}
use Rattle.symbols.proofs.Laws.{eight_bytes}
use Rattle.symbols.proofs.put_u64.Goals as goal

pub returns : goal.returns
returns c =
    let a = c.args in
    put_mid_splice a.out.now (bytes8 a.v) c.copy_from_slice.new.self a.at 8 (c.copy_from_slice.ensures.after ∙ c.to_le_bytes.ensures ∙ eight_bytes a.v (omega (arith, c.ranges.v))) refl
