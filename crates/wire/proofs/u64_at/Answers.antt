-- The number of the eight bytes is the one that stands there.
use borrow.Author.Rules.{rules}
use Rattle.wire.proofs.Bits.{read64}
use Rattle.wire.proofs.u64_at.Goals as goal

pub returns : goal.returns
returns c = search (rules, read64 c.args.s.now c.args.at)
