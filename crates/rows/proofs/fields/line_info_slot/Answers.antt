-- A number of four bytes, where its row starts.
use borrow.Author.Rules.{rules}
use Rattle.rules.specs.Rows.{record_slot}
use Rattle.rows.proofs.fields.line_info_slot.Goals as goal

pub returns : goal.returns
unfolding record_slot
returns c = search rules
