-- A number of four bytes, where its row starts.
use borrow.Author.Rules.{rules}
use Rattle.rules.specs.Rows.{symbol_index}
use Rattle.rows.proofs.fields.symbol_index.Goals as goal

pub returns : goal.returns
unfolding symbol_index
returns c = search rules
