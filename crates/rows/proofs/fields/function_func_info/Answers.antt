-- A number of four bytes, 24 bytes into its row.
use borrow.Author.Rules.{rules}
use Rattle.rules.specs.Rows.{function_func_info}
use Rattle.rows.proofs.fields.function_func_info.Goals as goal

pub returns : goal.returns
unfolding function_func_info
returns c = search rules
