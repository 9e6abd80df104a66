-- The invariant: no row so far is past the place.
use mathlib.Core.Path.{sym, ◌∙◌}
use native.Mathlib.Omega.{arith}
use borrow.Author.Tests.{leb-true, leb-false}
use Rattle.maps.proofs.Past.{within}
use Rattle.maps.proofs.relocations_until.Goals as goal

pub loop-k-init : goal.loop-k-init
loop-k-init c = c.requires.1

pub returns-then-is_past : goal.returns-then-is_past
returns-then-is_past c =
    (omega (arith, c.loop-k.invariant, leb-true _ _ (sym c.is_past.ensures ∙ c.if-is_past.true)), omega (arith, c.loop-k-test.true))

pub loop-k-preserved : goal.loop-k-preserved
loop-k-preserved c = omega (arith, leb-false _ _ (sym c.is_past.ensures ∙ c.if-is_past.false))

pub returns : goal.returns
returns c =
    let w = within c.args.relocations.now c.requires.0 c.args.home c.args.offset.0 in
    (omega (arith, w, c.loop-k.invariant, c.loop-k-test.false), omega arith)
