-- A number of four bytes, 4 bytes into its row.
use borrow.Author.Rules.{rules}
use Rattle.rules.specs.Rows.{record_type}
use Rattle.rows.proofs.fields.func_info_type.Goals as goal

pub returns : goal.returns
unfolding record_type
returns c = search rules
