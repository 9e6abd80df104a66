-- The part that is written is as long as the bytes: it is one splice.
use Rattle.wire.proofs.Stores.{put_mid_splice}
use borrow.Author.Rules.{rules}
use Rattle.wire.proofs.put_bytes.Goals as goal

pub returns : goal.returns
returns g c =
    let a = c.args in
    put_mid_splice a.out.now a.bytes c.copy_from_slice.new.self a.at g.row.N c.copy_from_slice.ensures.after (search rules)
