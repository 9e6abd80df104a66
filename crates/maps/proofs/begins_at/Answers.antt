-- The rows before the place end at k: there, and not a row earlier.
use mathlib.Core.Path.{sym, ◌∙◌}
use native.Mathlib.Omega.{arith}
use borrow.Author.Tests.{leb-true, leb-false, eq-eqb, ne_eqb}
use Rattle.maps.proofs.Past.{first_past}
use Rattle.maps.proofs.begins_at.Goals as goal

pub returns-then-k-eq0 : goal.returns-then-k-eq0
returns-then-k-eq0 c =
    let past = leb-true _ c.args.k (sym c.is_past.ensures ∙ c.if-is_past.true) in
    eq-eqb _ _ c.if-k-eq0.true ∙ sym (eq-eqb c.args.k _ (omega (arith, past, c.if-k-eq0.true)))

pub returns-else-k-eq0 : goal.returns-else-k-eq0
returns-else-k-eq0 c =
    first_past c.args.k _ c.if-k-eq0.false (leb-true _ _ (sym c.is_past.ensures ∙ c.if-is_past.true)) _ c.is_past-else-k-eq0.ensures

pub returns-else-is_past : goal.returns-else-is_past
returns-else-is_past c =
    let before = leb-false _ c.args.k (sym c.is_past.ensures ∙ c.if-is_past.false) in
    c.if-is_past.false ∙ sym (ne_eqb c.args.k _ (λ e. omega (arith, before, e)))
