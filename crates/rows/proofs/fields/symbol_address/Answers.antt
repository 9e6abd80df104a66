-- A number of eight bytes, 8 bytes into its row.
use borrow.Author.Rules.{rules}
use Rattle.rules.specs.Rows.{symbol_address}
use Rattle.rows.proofs.fields.symbol_address.Goals as goal

pub returns : goal.returns
unfolding symbol_address
returns c = search rules
