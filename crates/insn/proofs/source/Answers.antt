-- The source is the high half of the register byte.
use borrow.Author.Rules.{rules}
use Rattle.rules.specs.Bytes.{decode}
use Rattle.insn.proofs.source.Goals as goal

pub returns : goal.returns
unfolding decode
returns c = search rules
