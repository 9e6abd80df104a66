-- A row's index is that of its bytes, so that both searches end at the same row.
use Rattle.std.proofs.Common.{rules, ap, ◌∙◌}
use native.Mathlib.Nat.{zero-add}
use lib.Dec.{eqb}
use Rattle.std.proofs.lemmas.Iterator.{YieldsList-from_slice}
use Rattle.std.proofs.lemmas.Iterator.Adapters.{position_from-zero}
use Rattle.std.proofs.lemmas.Iterator.Search.{position_from_yields_List}
use Rattle.rules.specs.Lookups.{found_of}
use Rattle.rows.specs.Matches.{symbol_matches}
use Rattle.symbols.specs.declared.Symbol.{Symbol}
use Rattle.symbols.specs.Symbols.{bytes_of}
use Rattle.symbols.proofs.Laws.{matches_at, looked_up, place_first}
use Rattle.symbols.proofs.find_rows.Goals as goal

pub returns : goal.returns
returns c =
    let rows = c.args.rows.now in
    let index = c.args.index in
    position_from_yields_List (λ (s : Symbol). eqb s.index index) _ _ c.position.result c.position.ensures.ran (YieldsList-from_slice rows c.iter.ensures.rest) (λ x b q h. search rules)
    ∙ position_from-zero (λ (s : Symbol). eqb s.index index) rows
    ∙ place_first (λ (s : Symbol). eqb s.index index) (symbol_matches (bytes_of rows) index) 0 rows
    (λ j l. ap (symbol_matches (bytes_of rows) index) (zero-add j) ∙ matches_at rows index j l)
    ∙ ap found_of (looked_up rows index)
