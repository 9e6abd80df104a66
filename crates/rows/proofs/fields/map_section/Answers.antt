-- A number of four bytes, where its row starts.
use borrow.Author.Rules.{rules}
use Rattle.rules.specs.Rows.{map_section}
use Rattle.rows.proofs.fields.map_section.Goals as goal

pub returns : goal.returns
unfolding map_section
returns c = search rules
