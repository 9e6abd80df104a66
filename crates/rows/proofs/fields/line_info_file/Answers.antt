-- A number of four bytes, 4 bytes into its row.
use borrow.Author.Rules.{rules}
use Rattle.rules.specs.Rows.{record_file}
use Rattle.rows.proofs.fields.line_info_file.Goals as goal

pub returns : goal.returns
unfolding record_file
returns c = search rules
