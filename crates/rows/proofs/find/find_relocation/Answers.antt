-- The first row that passes the test of one row.
use mathlib.Core.Path.{◌∙◌}
use mathlib.Core.Bool.{Bool}
use mathlib.Core.List.{List}
use Prim.Native.Nat.{ℕ}
use borrow.Author.Rules.{rules}
use borrow.Author.Tests.{tests}
use Rattle.std.proofs.lemmas.Iterator.{YieldsList-from_slice}
use Rattle.std.proofs.lemmas.Iterator.Adapters.{position_from-zero}
use Rattle.std.proofs.lemmas.Iterator.Search.{position_from_yields_List}
use Rattle.rules.specs.declared.Table.TheVariants.{Relocations}
use Rattle.rules.specs.Rows.{row_size, whole_rows}
use Rattle.rules.specs.Lookups.{relocation_with}
use Rattle.rows.specs.Matches.{relocation_matches}
use Rattle.rows.proofs.Chunks.{position_is, relocation_row}
use Rattle.rows.proofs.find.find_relocation.Goals as goal

pub returns : goal.returns
unfolding relocation_with
returns c =
    let a = c.args in
    let n = whole_rows Relocations a.t.now in
    let test : List ℕ → Bool = λ row. relocation_matches row a.home a.offset.0 0 in
    position_from_yields_List test _ _ c.position.result c.position.ensures.ran (YieldsList-from_slice _ (c.iter.ensures.rest ∙ c.as_chunks.ensures.front)) (λ x b q k. search (rules, tests))
    ∙ position_from-zero test _
    ∙ position_is (row_size Relocations) test (relocation_matches a.t.now a.home a.offset.0) n a.t.now (λ j. relocation_row a.t.now j a.home a.offset.0)
