-- A section in range, above the one before.
use Rattle.rules.specs.Rows.{is_good}
use Rattle.tables.proofs.good.code_good.Goals as goal

pub returns : goal.returns
unfolding is_good
returns c = cc
