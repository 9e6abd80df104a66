-- By the table: its own test, or good.
use Rattle.tables.proofs.Rows.{all_good}
use Rattle.tables.proofs.good.is_good.Goals as goal

pub returns-in-Instructions : goal.returns-in-Instructions
returns-in-Instructions c = all_good c.args.table c.in-Instructions.in-Instructions-own.keys6 c.args.t.now c.args.k
