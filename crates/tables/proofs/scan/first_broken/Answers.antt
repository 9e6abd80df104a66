-- The first broken row of all; else a partial row, which is the last.
use mathlib.Core.Path.{◌≡◌, ap₂, ◌∙◌}
use mathlib.Core.Bool.{true, false}
use Prim.Native.Nat.{◌/◌}
use borrow.Author.Rules.{rules}
use borrow.Author.Tests.{tests}
use lib.ListN.{length}
use Rattle.std.specs.Option.{option_or}
use Rattle.std.proofs.lemmas.Iterator.{first_from_Range}
use Rattle.rows.proofs.Scan.{first_is}
use Rattle.tables.proofs.Rows.{is_bad, or_last}
use Rattle.tables.proofs.scan.first_broken.Goals as goal

pub returns : goal.returns
returns c =
    let a = c.args in
    let test = is_bad a.table a.t.now in
    let size = c.row_size-size.result in
    c.or.ensures
    ∙ ap₂ option_or
    (first_is test (length a.t.now / size) c.find.result
    (first_from_Range _ _ _ c.find.result (λ k. true ≡ test k) (λ k. false ≡ test k) c.find.ensures.ran (λ x q k. search (rules, tests)) (λ x q k. search (rules, tests))))
    c.then_some.ensures
    ∙ or_last a.table a.t.now size c.row_size-size.ensures.0
