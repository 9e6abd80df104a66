-- Whether a row below k may not stand with row k.
use mathlib.Core.Path.{refl, ◌∙◌}
use Prim.Native.Nat.{ℕ}
use native.Mathlib.Omega.{arith}
use borrow.Author.Rules.{rules}
use borrow.Author.Tests.{tests}
use Rattle.std.proofs.lemmas.Iterator.{YieldsList-from_range}
use Rattle.std.proofs.lemmas.Iterator.Search.{any_from_yields_List}
use Rattle.rules.specs.Rows.{same_map}
use Rattle.rows.proofs.Scan.{any_is}
use Rattle.tables.proofs.good.is_doubled.Goals as goal

pub returns : goal.returns
returns c =
    let k = c.args.k in
    let test = λ (j : ℕ). same_map c.args.t.now j k in
    any_from_yields_List test _ _ c.any.result c.any.ensures.ran (YieldsList-from_range 0 k k refl (omega arith)) (λ x b q r. search (rules, tests))
    ∙ any_is test 0 k
