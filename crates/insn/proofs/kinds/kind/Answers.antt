-- The table is the list of the rule's values, which antt computes: the rule is tested at all 256 opcodes here.
use native.Mathlib.Omega.{arith}
use Rattle.rules.specs.declared.Kind.TheVariants.{Plain}
use Rattle.rules.specs.Walk.{kind}
use Rattle.insn.specs.Kinds.{codes}
use Rattle.insn.proofs.KindTable.{kinds, kind_of_code, kinds_at}
use Rattle.insn.proofs.kinds.kind.Goals as goal

pub returns-clause-is : goal.returns-clause-is
unfolding kinds codes kind
returns-clause-is c = kinds_at c.args.op Plain (omega arith)

pub returns-clause-coded : goal.returns-clause-coded
unfolding kinds codes kind
returns-clause-coded c = kind_of_code c.args.op Plain (omega arith)
