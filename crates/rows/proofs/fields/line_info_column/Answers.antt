-- A number of four bytes, 12 bytes into its row.
use borrow.Author.Rules.{rules}
use Rattle.rules.specs.Rows.{record_column}
use Rattle.rows.proofs.fields.line_info_column.Goals as goal

pub returns : goal.returns
unfolding record_column
returns c = search rules
