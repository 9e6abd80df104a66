-- The part from n on, wiped.
use Rattle.rules.proofs.Splices.{wiped_rest}
use Rattle.wire.proofs.wipe_after.Goals as goal

pub returns : goal.returns
returns c =
    let a = c.args in
    wiped_rest a.n a.out.now c.wipe.new.out c.requires c.wipe.ensures
