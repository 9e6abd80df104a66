-- A byte, 12 bytes into its row.
use borrow.Author.Rules.{rules}
use Rattle.rules.specs.Rows.{map_has_data}
use Rattle.rows.proofs.fields.map_has_data.Goals as goal

pub returns : goal.returns
unfolding map_has_data
returns c = search rules
