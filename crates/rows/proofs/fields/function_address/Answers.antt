-- A number of eight bytes, 8 bytes into its row.
use borrow.Author.Rules.{rules}
use Rattle.rules.specs.Rows.{function_address}
use Rattle.rows.proofs.fields.function_address.Goals as goal

pub returns : goal.returns
unfolding function_address
returns c = search rules
