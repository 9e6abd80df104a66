-- The tables and the root, the sizes, the claim: the first that is wrong, or yes.
use mathlib.Core.Path.{◌≡◌, sym, ap, ◌∙◌}
use mathlib.Core.Option.{none}
use native.Mathlib.Omega.{arith}
use Rattle.rules.specs.Answers.{refusal_in}
use Rattle.rules.specs.Rows.{Offered, link_offer, link_refusal}
use Rattle.rules.specs.Examine.{Shown, shown, sizes_wrong}
use Rattle.examine.proofs.Whole.{sized, pieces_few}
use Rattle.examine.proofs.examine.Goals.{In_ok-check_link, In_ok-check_sizes, Start}
use Rattle.examine.proofs.examine.Goals as goal

abbrev tables : Start → Offered
tables s =
    let a = s.args in
    link_offer a.names.code.now a.names.symbols.now a.names.functions.now a.names.relocations.now a.program.instructions.now a.program.func_info.now a.program.line_info.now

abbrev shown_at : Start → Shown
shown_at s = let a = s.args in shown a.shown.instructions.now a.shown.func_info.now a.shown.line_info.now a.pieces.now

passed : (c : In_ok-check_link) → link_refusal (tables (goal.at.In_ok-check_link c).Start) c.args.root ≡ none
passed c = sym c.check_link.ensures ∙ ap refusal_in c.in_ok-check_link.was

fitting : (c : In_ok-check_sizes) → sizes_wrong (shown_at (goal.at.In_ok-check_sizes c).Start) ≡ none
fitting c = sym c.check_sizes.ensures ∙ ap refusal_in c.in_ok-check_sizes.was

pub check_claim-requires : goal.check_claim-requires
check_claim-requires c =
    let at = goal.at.check_claim-requires c in
    sized (tables at.Start) c.args.root (shown_at at.Start) (passed at.In_ok-check_link) (fitting c)

pub overflow_cast-result : goal.overflow_cast-result
overflow_cast-result c =
    let at = goal.at.overflow_cast-result c in
    omega (arith, pieces_few (tables at.Start) c.args.root (shown_at at.Start) (passed at.In_ok-check_link) (fitting at.In_ok-check_sizes))
