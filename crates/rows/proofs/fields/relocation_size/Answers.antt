-- A byte, 16 bytes into its row.
use borrow.Author.Rules.{rules}
use Rattle.rules.specs.Rows.{relocation_size}
use Rattle.rows.proofs.fields.relocation_size.Goals as goal

pub returns : goal.returns
unfolding relocation_size
returns c = search rules
