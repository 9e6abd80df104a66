-- The number of the two bytes is the one that stands there.
use borrow.Author.Rules.{rules}
use native.Mathlib.Omega.{arith}
use Rattle.wire.proofs.Bits.{read16}
use Rattle.wire.proofs.u16_at.Goals as goal

pub returns : goal.returns
returns c = (search (rules, read16 c.args.s.now c.args.at), omega arith)
