-- The number of the four bytes is the one that stands there.
use borrow.Author.Rules.{rules}
use Rattle.rules.specs.Bytes.{u32_at}
use Rattle.wire.proofs.Bits.{read32}
use Rattle.wire.proofs.u32_at.Goals as goal

pub returns : goal.returns
unfolding u32_at
returns c = search (rules, read32 c.args.s.now c.args.at)
