-- A number of four bytes, 8 bytes into its row.
use borrow.Author.Rules.{rules}
use Rattle.rules.specs.Rows.{record_line}
use Rattle.rows.proofs.fields.line_info_line.Goals as goal

pub returns : goal.returns
unfolding record_line
returns c = search rules
