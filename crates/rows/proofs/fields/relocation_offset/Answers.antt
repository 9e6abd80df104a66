-- A number of eight bytes, 8 bytes into its row.
use borrow.Author.Rules.{rules}
use Rattle.rules.specs.Rows.{relocation_offset}
use Rattle.rows.proofs.fields.relocation_offset.Goals as goal

pub returns : goal.returns
unfolding relocation_offset
returns c = search rules
