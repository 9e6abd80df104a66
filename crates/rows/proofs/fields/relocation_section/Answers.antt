-- A number of four bytes, where its row starts.
use borrow.Author.Rules.{rules}
use Rattle.rules.specs.Rows.{relocation_section}
use Rattle.rows.proofs.fields.relocation_section.Goals as goal

pub returns : goal.returns
unfolding relocation_section
returns c = search rules
