-- The destination is the low half of the register byte.
use borrow.Author.Rules.{rules}
use Rattle.rules.specs.Bytes.{decode}
use Rattle.insn.proofs.destination.Goals as goal

pub returns : goal.returns
unfolding decode
returns c = search rules
