-- The companion's answer tells whether there is such a record.
use Rattle.info.specs.Promises.{table_in, info_in}
use Rattle.barkruffle.proofs.Telling.{stands}
use Rattle.barkruffle.proofs.barkruffle_record.Goals as goal

pub returns : goal.returns
returns c =
    let r = c.args.records in
    stands c.record_number.result (table_in r) (info_in r) c.args.k _ _ c.record_number.ensures c.part_of.ensures
