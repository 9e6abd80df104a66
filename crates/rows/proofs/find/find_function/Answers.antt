-- The first row that passes the test of one row.
use mathlib.Core.Path.{◌∙◌}
use mathlib.Core.Bool.{Bool}
use mathlib.Core.List.{List}
use Prim.Native.Nat.{ℕ}
use borrow.Author.Rules.{rules}
use borrow.Author.Tests.{tests}
use Rattle.std.proofs.lemmas.Iterator.{YieldsList-from_slice}
use Rattle.std.proofs.lemmas.Iterator.Adapters.{position_from-zero}
use Rattle.std.proofs.lemmas.Iterator.Search.{position_from_yields_List}
use Rattle.rules.specs.declared.Table.TheVariants.{Functions}
use Rattle.rules.specs.Rows.{row_size, whole_rows}
use Rattle.rules.specs.Lookups.{function_with}
use Rattle.rows.specs.Matches.{function_matches}
use Rattle.rows.proofs.Chunks.{position_is, function_row}
use Rattle.rows.proofs.find.find_function.Goals as goal

pub returns : goal.returns
unfolding function_with
returns c =
    let a = c.args in
    let n = whole_rows Functions a.t.now in
    let test : List ℕ → Bool = λ row. function_matches row a.home a.address 0 in
    position_from_yields_List test _ _ c.position.result c.position.ensures.ran (YieldsList-from_slice _ (c.iter.ensures.rest ∙ c.as_chunks.ensures.front)) (λ x b q k. search (rules, tests))
    ∙ position_from-zero test _
    ∙ position_is (row_size Functions) test (function_matches a.t.now a.home a.address) n a.t.now (λ j. function_row a.t.now j a.home a.address)
