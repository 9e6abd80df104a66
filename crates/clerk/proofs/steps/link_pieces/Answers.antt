-- What the link answers to the tables that were lent, it answers to those that the file holds; the list fits its buffer. Assumes nothing.
use Rattle.std.proofs.Common.{◌≡◌, sym, ap, ◌∙◌, ℕ, ◌*◌, arith, Err}
use Rattle.std.proofs.lemmas.Result.{err_from_is_err_and}
use Rattle.rules.specs.Lent.{lent}
use Rattle.rules.specs.Pieces.{piece_size}
use Rattle.linker.specs.Linker.{list_answer, list_count}
use Rattle.clerk.specs.Steps.{held_offer, made_answer, made_bytes}
use Rattle.clerk.proofs.Offers.{lent_held}
use Rattle.clerk.proofs.Lists.{fits, made, listed_held}
use Rattle.clerk.proofs.steps.link_pieces.Goals.{After-link_pieces}
use Rattle.clerk.proofs.steps.link_pieces.Goals as goal

held : (c : After-link_pieces) → lent c.names.result c.program.result ≡ held_offer c.args.held.file.now c.args.held.instructions.now
held c =
    let n = c.names.ensures in
    let p = c.program.ensures in
    lent_held c.names.result c.program.result _ _ n.code n.symbols n.functions n.relocations p.instructions p.func_info p.line_info

pub overflow_mul-result : goal.overflow_mul-result
overflow_mul-result c =
    omega (arith, fits _ _ _ _ _ _ _ c.link_pieces.ensures.outcomes, ap list_count c.in_ok-listed.was, c.well_formed.1.1.1.0)

pub returns-in_err-listed-clause-made : goal.returns-in_err-listed-clause-made
returns-in_err-listed-clause-made c =
    let p = err_from_is_err_and c.from_residual.result c.from_residual.ensures.1 in
    let e = p.1 ∙ ap Err p.2 in
    let z = ap (λ (n : ℕ). piece_size * n) (ap list_count c.in_err-listed.was) in
    made _ _ _ _ _ _ _ _
    (listed_held _ _ _ _ _ _ (held (goal.at.returns-in_err-listed-clause-made c).After-link_pieces) c.link_pieces.ensures.outcomes)
    (ap list_answer c.in_err-listed.was ∙ sym (ap made_answer e))
    (ap made_bytes e ∙ sym z)

pub returns-clause-made : goal.returns-clause-made
returns-clause-made c =
    let z = ap (λ (n : ℕ). piece_size * n) (ap list_count c.in_ok-listed.was) in
    made _ _ _ _ _ _ _ _
    (listed_held _ _ _ _ _ _ (held (goal.at.returns-clause-made c).After-link_pieces) c.link_pieces.ensures.outcomes)
    (ap list_answer c.in_ok-listed.was)
    (sym z)
