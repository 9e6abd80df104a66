-- A number of four bytes, where its row starts.
use borrow.Author.Rules.{rules}
use Rattle.rules.specs.Rows.{code_section}
use Rattle.rows.proofs.fields.code_section.Goals as goal

pub returns : goal.returns
unfolding code_section
returns c = search rules
