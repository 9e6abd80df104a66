-- The first row that has the index, or none: no row before has it.
use mathlib.Core.Path.{sym, ap, ◌∙◌}
use native.Mathlib.Omega.{arith}
use borrow.Author.Tests.{eq-eqb, ne_eqb}
use Rattle.std.proofs.Common.{below_more}
use Rattle.rules.specs.Lookups.{found_of, symbol_with}
use Rattle.rules.proofs.Searches.{first_at, first_nothing}
use Rattle.rows.proofs.find.find_symbol.Goals as goal

pub returns-then-symbol_index-index : goal.returns-then-symbol_index-index
unfolding symbol_with
returns-then-symbol_index-index c =
    sym (ap found_of (first_at _ _ c.loop-k.k (omega arith) (eq-eqb _ _ (sym c.symbol_index.ensures ∙ c.if-symbol_index-index.true)) c.loop-k.invariant))

pub loop-k-preserved : goal.loop-k-preserved
loop-k-preserved c =
    below_more _ _ c.loop-k.invariant (ne_eqb _ _ (λ e. c.if-symbol_index-index.false (c.symbol_index.ensures ∙ e)))

pub returns : goal.returns
unfolding symbol_with
returns c = sym (ap found_of (first_nothing _ _ (λ j l. c.loop-k.invariant j (omega (arith, l)))))
