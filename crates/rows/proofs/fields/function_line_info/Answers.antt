-- A number of four bytes, 28 bytes into its row.
use borrow.Author.Rules.{rules}
use Rattle.rules.specs.Rows.{function_line_info}
use Rattle.rows.proofs.fields.function_line_info.Goals as goal

pub returns : goal.returns
unfolding function_line_info
returns c = search rules
