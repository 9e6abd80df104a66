-- The root begins the image and the visit ends it: proofs/Whole has each way out.
use mathlib.Core.Path.{◌≡◌, sym, ap, ◌∙◌}
use mathlib.Core.Bool.{Bool, true, false}
use Prim.Native.Nat.{ℕ}
use lib.ListN.{length}
use Rattle.std.proofs.Common.{rules}
use Rattle.std.proofs.lemmas.Result.{err_from_is_err_and}
use Rattle.merge.specs.Merge.{room_bytes, unused}
use Rattle.linker.proofs.Ways as ways
use Rattle.linker.proofs.Whole as whole
use Rattle.linker.proofs.link_checked.Goals.{After-has_room}
use Rattle.linker.proofs.link_checked.Goals as goal

-- nothing is used yet
asked : (c : After-has_room) → c.has_room.result ≡ room_bytes c.args.names.functions.now (length c.args.slots.now) (length c.args.func_info.now) (length c.args.line_info.now) unused c.args.root
asked c = c.has_room.ensures ∙ ap (λ u. room_bytes c.args.names.functions.now (length c.args.slots.now) (length c.args.func_info.now) (length c.args.line_info.now) u c.args.root) none_used
  where
    none_used : c.default.result ≡ unused
    none_used = let e = c.default.ensures in λ j. record { slots = e.0 j; funcs = e.1.0 j; lines = e.1.1 j }

pub returns-then-not-has_room : goal.returns-then-not-has_room
returns-then-not-has_room c = whole.root_refused c.requires (sym (asked (goal.at.returns-then-not-has_room c).After-has_room) ∙ c.if-not-has_room.true) _ c.refusal.ensures

pub part_of-part-requires : goal.part_of-part-requires
part_of-part-requires c = ways.row_sums c.requires.checked c.requires.root_in

pub begin-used-requires : goal.begin-used-requires
begin-used-requires c = whole.begins c.requires (sym (asked (goal.at.begin-used-requires c).After-has_room) ∙ c.if-not-has_room.false) c.part_of-part.ensures

pub relocate-requires : goal.relocate-requires
relocate-requires c = whole.begun_visits c.requires (sym (asked (goal.at.relocate-requires c).After-has_room) ∙ c.if-not-has_room.false) c.begin-used.ensures.written c.slot_at.ensures (c.slot_at-2.ensures ∙ c.part_of-part.ensures.slots_are)

pub returns-in_err-end : goal.returns-in_err-end
returns-in_err-end c =
    let p = err_from_is_err_and c.from_residual.result c.from_residual.ensures.1 in
    rw (p.1, p.2)
    (whole.begun_refused c.requires (sym (asked (goal.at.returns-in_err-end c).After-has_room) ∙ c.if-not-has_room.false) c.begin-used.ensures.written c.slot_at.ensures c.in_err-end.ensures.visited (search rules) (search rules) (search rules))

pub returns : goal.returns
returns c =
    whole.begun_done c.requires (sym (asked (goal.at.returns c).After-has_room) ∙ c.if-not-has_room.false) c.begin-used.ensures.written c.slot_at.ensures c.in_ok-end.ensures.visited
    (λ k. (c.type_inv.slots k).fits) (search rules) (search rules) (search rules)
