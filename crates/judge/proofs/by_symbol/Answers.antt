-- A symbol that is not there, or its row.
use mathlib.Core.Path.{◌≡◌, sym, ◌∙◌}
use mathlib.Core.Option.{Option}
use Prim.Native.Nat.{ℕ}
use Rattle.std.specs.Prelude.{Some}
use Rattle.rules.specs.Lookups.{found_of, symbol_with}
use Rattle.rows.proofs.Laws.{found_none, symbol_found}
use Rattle.judge.proofs.Laws.{unknown_says}
use Rattle.judge.proofs.by_symbol.Goals.{After-find_symbol, In-Some}
use Rattle.judge.proofs.by_symbol.Goals as goal

abbrev looked : After-find_symbol → Option ℕ
looked n = symbol_with n.args.names.symbols.now n.args.symbol

found : (t : In-Some) → found_of (looked (goal.at.In-Some t).After-find_symbol) ≡ Some t.in-Some.s
found t = sym t.find_symbol.ensures ∙ t.in-Some.is

pub returns-in_default : goal.returns-in_default
returns-in_default c =
    let a = c.args in
    unknown_says a.names.code.now a.names.symbols.now a.maps.now a.symbol a.site
    (found_none (looked (goal.at.returns-in_default c).After-find_symbol) (sym c.find_symbol.ensures ∙ c.in_default.is)) _ c.refused.ensures

pub by_row-requires : goal.by_row-requires
by_row-requires c =
    (c.requires, (symbol_found c.args.names.symbols.now c.args.symbol _ (found c)).inside)
