-- The root first, then the tiling, then the pieces: each stands on what passed before it.
use mathlib.Core.Path.{◌≡◌, sym, ap, ◌∙◌}
use mathlib.Core.Option.{none}
use Prim.Native.Nat.{◌/◌}
use native.Mathlib.Omega.{arith}
use lib.ListN.{length}
use Rattle.rules.specs.Answers.{refusal_in}
use Rattle.rules.specs.Rows.{Offered, link_offer}
use Rattle.rules.specs.Pieces.{pieces_of}
use Rattle.rules.specs.Examine.{Shown, shown, root_wrong, tiles_wrong}
use Rattle.pieces.specs.Tiling.{functions_only}
use Rattle.examine.proofs.Whole.{tileable, image_few, listed_so, end_at}
use Rattle.examine.proofs.check_claim.Goals.{After-check_tiles, In_ok-check_root, Start}
use Rattle.examine.proofs.check_claim.Goals as goal

abbrev tables : Start → Offered
tables s =
    let a = s.args in
    link_offer a.names.code.now a.names.symbols.now a.names.functions.now a.names.relocations.now a.program.instructions.now a.program.func_info.now a.program.line_info.now

abbrev shownAt : Start → Shown
shownAt s = let a = s.args in shown a.shown.instructions.now a.shown.func_info.now a.shown.line_info.now a.pieces.now

root_first : (c : In_ok-check_root) → root_wrong c.args.root (pieces_of c.args.pieces.now) ≡ none
root_first c = sym c.check_root.ensures ∙ ap refusal_in c.in_ok-check_root.was

tiles_are : (c : After-check_tiles) → tiles_wrong (functions_only c.args.names.functions.now) (length c.args.shown.instructions.now / 8) 0 0 (pieces_of c.args.pieces.now) ≡ refusal_in c.check_tiles.result
tiles_are c = end_at c.args.names.functions.now c.args.pieces.now c.slot_at.ensures c.check_tiles.ensures

pub overflow_cast-end : goal.overflow_cast-end
overflow_cast-end c = omega (arith, image_few c.requires)

pub check_tiles-requires : goal.check_tiles-requires
check_tiles-requires c = tileable c.requires

pub check_pieces-requires : goal.check_pieces-requires
check_pieces-requires c = listed_so c.requires (tiles_are (goal.at.check_pieces-requires c).After-check_tiles ∙ ap refusal_in c.in_ok-check_tiles.was)
