-- The end, or the test of row k.
use mathlib.Core.Path.{sym, ◌∙◌}
use native.Mathlib.Omega.{arith}
use borrow.Author.Tests.{eq-eqb}
use Rattle.maps.proofs.Past.{at_end, at_row}
use Rattle.maps.proofs.is_past.Goals as goal

pub returns-then-k-relocations : goal.returns-then-k-relocations
returns-then-k-relocations c =
    let a = c.args in
    eq-eqb _ _ c.if-k-relocations.true ∙ sym (at_end a.relocations.now c.requires.0 a.home a.offset.0 a.k c.if-k-relocations.true)

pub returns-else-k-relocations : goal.returns-else-k-relocations
returns-else-k-relocations c =
    let a = c.args in
    at_row a.relocations.now c.requires.0 a.home a.offset.0 a.k (omega (arith, c.requires.1, c.if-k-relocations.false)) _ c.is_relocation_before.ensures
