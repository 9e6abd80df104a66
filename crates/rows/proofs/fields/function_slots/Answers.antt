-- A number of four bytes, 4 bytes into its row.
use borrow.Author.Rules.{rules}
use Rattle.rules.specs.Rows.{function_slots}
use Rattle.rows.proofs.fields.function_slots.Goals as goal

pub returns : goal.returns
unfolding function_slots
returns c = search rules
