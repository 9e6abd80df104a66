-- A number of four bytes, 4 bytes into its row.
use borrow.Author.Rules.{rules}
use Rattle.rules.specs.Rows.{symbol_section}
use Rattle.rows.proofs.fields.symbol_section.Goals as goal

pub returns : goal.returns
unfolding symbol_section
returns c = search rules
