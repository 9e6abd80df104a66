-- A way out for each test, in document 01's order; past them the map decides.
use mathlib.Core.Path.{◌≡◌, sym, ap, ◌∙◌}
use mathlib.Core.Bool.{false}
use native.Mathlib.Omega.{arith}
use Rattle.rules.specs.Rows.{kind_in, kind_of, symbol_kind}
use Rattle.rules.specs.Lookups.{is_code_section}
use Rattle.rules.proofs.Passed.{good_symbol}
use Rattle.judge.proofs.Laws.{is_text, text_says}
use Rattle.judge.proofs.by_row.Goals.{After-eq}
use Rattle.judge.proofs.by_row.Goals as goal

module _ (n : After-eq) where
  no_code : is_code_section n.args.names.code.now n.symbol_section-home.result ≡ false
  no_code = sym n.is_code.ensures ∙ n.if-is_code.false

  kind_is : kind_in n.from.result ≡ kind_of (symbol_kind n.args.names.symbols.now n.args.s)
  kind_is = n.from.ensures ∙ ap kind_of n.symbol_kind.ensures

pub returns-then-eq : goal.returns-then-eq
returns-then-eq c =
    let a = c.args in
    let n = (goal.at.returns-then-eq c).After-eq in
    text_says a.names.code.now a.names.symbols.now a.maps.now a.s a.symbol a.site _ c.symbol_section-home.ensures c.if-home.false c.if-site.false (no_code n)
    (is_text (symbol_kind a.names.symbols.now a.s) c.from.result (kind_is n) (sym c.eq.ensures ∙ c.if-eq.true)) _ c.refused.ensures

pub by_map-requires : goal.by_map-requires
by_map-requires c =
    (c.requires.0.maps_sound, omega (arith, c.symbol_address-address.ensures, (good_symbol c.args.names.symbols.now c.requires.0.symbols_sound c.args.s c.requires.1).address))
