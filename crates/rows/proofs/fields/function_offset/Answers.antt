-- A number of eight bytes, 16 bytes into its row.
use borrow.Author.Rules.{rules}
use Rattle.rules.specs.Rows.{function_offset}
use Rattle.rows.proofs.fields.function_offset.Goals as goal

pub returns : goal.returns
unfolding function_offset
returns c = search rules
