-- The opcode is the byte at the slot's start.
use borrow.Author.Rules.{rules}
use Rattle.rules.specs.Bytes.{decode}
use Rattle.insn.proofs.opcode.Goals as goal

pub returns : goal.returns
unfolding decode
returns c = search rules
