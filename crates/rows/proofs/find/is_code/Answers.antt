-- Whether a row passes the test of one row.
use mathlib.Core.Path.{◌∙◌}
use mathlib.Core.Bool.{Bool}
use mathlib.Core.List.{List}
use Prim.Native.Nat.{ℕ}
use borrow.Author.Rules.{rules}
use borrow.Author.Tests.{tests}
use Rattle.std.proofs.lemmas.Iterator.{YieldsList-from_slice}
use Rattle.std.proofs.lemmas.Iterator.Search.{any_from_yields_List}
use Rattle.rules.specs.declared.Table.TheVariants.{Code}
use Rattle.rules.specs.Rows.{row_size, whole_rows}
use Rattle.rules.specs.Lookups.{is_code_section}
use Rattle.rows.specs.Matches.{code_matches}
use Rattle.rows.proofs.Chunks.{any_is, code_row}
use Rattle.rows.proofs.Scan.{some_is}
use Rattle.rows.proofs.find.is_code.Goals as goal

pub returns : goal.returns
unfolding is_code_section
returns c =
    let a = c.args in
    let n = whole_rows Code a.t.now in
    let test : List ℕ → Bool = λ row. code_matches row a.home 0 in
    any_from_yields_List test _ _ c.any.result c.any.ensures.ran (YieldsList-from_slice _ (c.iter.ensures.rest ∙ c.as_chunks.ensures.front)) (λ x b q k. search (rules, tests))
    ∙ any_is (row_size Code) test (code_matches a.t.now a.home) n a.t.now (λ j. code_row a.t.now j a.home)
    ∙ some_is (code_matches a.t.now a.home) 0 n
