-- A number of four bytes, where its row starts.
use borrow.Author.Rules.{rules}
use Rattle.rules.specs.Rows.{function_section}
use Rattle.rows.proofs.fields.function_section.Goals as goal

pub returns : goal.returns
unfolding function_section
returns c = search rules
