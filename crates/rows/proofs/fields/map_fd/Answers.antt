-- A signed number of four bytes, 8 bytes into its row.
use borrow.Author.Rules.{rules}
use Rattle.rules.specs.Rows.{map_fd}
use Rattle.rows.proofs.fields.map_fd.Goals as goal

pub returns : goal.returns
unfolding map_fd
returns c = search rules
