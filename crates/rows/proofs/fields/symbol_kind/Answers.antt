-- A byte, 16 bytes into its row.
use borrow.Author.Rules.{rules}
use Rattle.rules.specs.Rows.{symbol_kind}
use Rattle.rows.proofs.fields.symbol_kind.Goals as goal

pub returns : goal.returns
unfolding symbol_kind
returns c = search rules
