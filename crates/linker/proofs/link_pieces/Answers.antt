-- Too little room is told before everything; after a link, the starts give the list (proofs/Listing).
use Prim.Native.Nat.{◌≤◌}
use native.Mathlib.Omega.{arith}
use lib.ListN.{length, length-replicate}
use mathlib.Core.Path.{◌≡◌, ap, ◌∙◌}
use Rattle.std.proofs.lemmas.Result.{err_from_is_err_and}
use Rattle.rules.specs.Entries.{list_room}
use Rattle.rules.specs.Lent.{lent, lent_image}
use Rattle.linker.proofs.Listing as listing
use Rattle.linker.proofs.link_pieces.Goals.{After-wipe, Else-pieces-rows}
use Rattle.linker.proofs.link_pieces.Goals as goal

wiped_length : (c : After-wipe) → length c.wipe.new.out ≡ length c.args.pieces.now
wiped_length c = ap length c.wipe.ensures ∙ length-replicate (length c.args.pieces.now) 0

-- the list has room
long : (c : Else-pieces-rows) → list_room (lent c.args.names c.args.program) ≤ length c.args.pieces.now
long c = omega (arith, c.if-pieces-rows.false, wiped_length (goal.at.Else-pieces-rows c).After-wipe)

pub returns-then-pieces-rows-clause-outcomes : goal.returns-then-pieces-rows-clause-outcomes
returns-then-pieces-rows-clause-outcomes c =
    listing.no_room (lent c.args.names c.args.program) c.args.root (lent_image c.args.image.now) (length c.args.pieces.now) c.wipe_all.ensures.wiped c.wipe.ensures
    _ c.refusal.ensures (omega (arith, c.if-pieces-rows.true, wiped_length (goal.at.returns-then-pieces-rows-clause-outcomes c).After-wipe))

pub returns-in_err-linked-clause-outcomes : goal.returns-in_err-linked-clause-outcomes
returns-in_err-linked-clause-outcomes c =
    let p = err_from_is_err_and c.from_residual.result c.from_residual.ensures.1 in
    rw (p.1, p.2)
    (listing.list_refused_lem (lent c.args.names c.args.program) c.args.root (lent_image c.args.image.now) (length c.args.pieces.now) (long (goal.at.returns-in_err-linked-clause-outcomes c).Else-pieces-rows)
    c.in_err-linked.ensures.outcomes c.wipe.ensures)

pub put_list-count-requires : goal.put_list-count-requires
put_list-count-requires c =
    listing.lists (lent c.args.names c.args.program) c.args.root (lent_image c.args.image.now) (length c.args.pieces.now) (long (goal.at.put_list-count-requires c).Else-pieces-rows)
    c.in_ok-linked.ensures.outcomes c.wipe.ensures

pub returns-clause-outcomes : goal.returns-clause-outcomes
returns-clause-outcomes c =
    listing.list_done (lent c.args.names c.args.program) c.args.root (lent_image c.args.image.now) (length c.args.pieces.now) (long (goal.at.returns-clause-outcomes c).Else-pieces-rows)
    c.in_ok-linked.ensures.outcomes c.wipe.ensures c.put_list-count.ensures
