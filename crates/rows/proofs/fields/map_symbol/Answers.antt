-- A number of four bytes, 4 bytes into its row.
use borrow.Author.Rules.{rules}
use Rattle.rules.specs.Rows.{map_symbol}
use Rattle.rows.proofs.fields.map_symbol.Goals as goal

pub returns : goal.returns
unfolding map_symbol
returns c = search rules
