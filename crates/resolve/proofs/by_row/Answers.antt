-- The symbol found gives its fields to the judgement; none found is the refusal 3.
use mathlib.Core.Path.{◌≡◌, sym, ap, ◌∙◌}
use Prim.Native.Nat.{ℕ, ◌+◌, ◌*◌, ◌≤◌}
use native.Mathlib.Omega.{arith}
use lib.ListN.{length}
use Rattle.rules.specs.declared.Table.TheVariants.{Symbols}
use Rattle.rules.specs.Rows.{row_size, relocation_symbol}
use Rattle.rules.specs.Lookups.{found_of, symbol_with}
use Rattle.rules.proofs.Passed.{whole, good_symbol}
use Rattle.rows.proofs.Laws.{SymbolFound, symbol_found}
use Rattle.resolve.proofs.by_row.Goals.{After-find_symbol, In-Some}
use Rattle.resolve.proofs.by_row.Goals as goal

abbrev index : After-find_symbol → ℕ
index c = relocation_symbol c.args.names.relocations.now c.args.k

found-is : (c : After-find_symbol) → c.find_symbol.result ≡ found_of (symbol_with c.args.names.symbols.now (index c))
found-is c = c.find_symbol.ensures ∙ ap (λ (n : ℕ). found_of (symbol_with c.args.names.symbols.now n)) c.relocation_symbol-symbol.ensures

row : (c : In-Some) → SymbolFound c.args.names.symbols.now (index (goal.at.In-Some c).After-find_symbol) c.in-Some.s
row c =
    symbol_found c.args.names.symbols.now (index (goal.at.In-Some c).After-find_symbol) c.in-Some.s (sym (found-is (goal.at.In-Some c).After-find_symbol) ∙ c.in-Some.is)

inside : (c : In-Some) → row_size Symbols * c.in-Some.s + row_size Symbols ≤ length c.args.names.symbols.now
inside c =
    omega (arith, (row c).inside, whole Symbols c.args.names.symbols.now c.requires.symbols_sound)

pub symbol_kind-requires : goal.symbol_kind-requires
symbol_kind-requires c = inside (goal.at.symbol_kind-requires c).In-Some

pub symbol_section-requires : goal.symbol_section-requires
symbol_section-requires c = inside (goal.at.symbol_section-requires c).In-Some

pub symbol_address-requires : goal.symbol_address-requires
symbol_address-requires c = inside (goal.at.symbol_address-requires c).In-Some

pub by_symbol-requires : goal.by_symbol-requires
by_symbol-requires c =
    record {
      code_sound = c.requires.code_sound;
      functions_sound = c.requires.functions_sound;
      low = omega (arith, c.symbol_address.ensures, (good_symbol c.args.names.symbols.now c.requires.symbols_sound c.in-Some.s (row (goal.at.by_symbol-requires c).In-Some).inside).address);
    }
