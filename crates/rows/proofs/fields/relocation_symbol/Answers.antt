-- A number of four bytes, 4 bytes into its row.
use borrow.Author.Rules.{rules}
use Rattle.rules.specs.Rows.{relocation_symbol}
use Rattle.rows.proofs.fields.relocation_symbol.Goals as goal

pub returns : goal.returns
unfolding relocation_symbol
returns c = search rules
