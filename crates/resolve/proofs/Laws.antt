-- What a slot means, and what it asks, is the same whatever tables 5, 7 and 8 hold; and a callee is a row of table 3.
-- Assumes nothing.
use mathlib.Core.Path.{◌≡◌, refl, sym, ap, ◌∙◌, subst}
use mathlib.Core.Bool.{Bool, true, false, cond}
use mathlib.Core.Option.{Option, none, some}
use mathlib.Core.List.{[]}
use Prim.Native.Nat.{ℕ, ◌<◌}
use lib.IntN.{ℤ}
use lib.Dec.{eqb}
use Rattle.rules.specs.declared.Table.TheVariants.{Functions}
use Rattle.rules.specs.Object.{Insn, reference, call, is_call, is_wide_load, decide, meaning}
use Rattle.rules.specs.Bytes.{little}
use Rattle.rules.specs.Tables.{SymbolKind, other, text, section, Symbol, Relocation, Function, by_symbol, by_symbol_row, by_relocation, first, object_of, relocation_at, row_of, insn_of}
use Rattle.rules.specs.Rows.{whole_rows, Offered, map_step_offer, tables_of}
use Rattle.rules.specs.Lookups.{Checked}
use Rattle.rules.proofs.Ending.{MeansRow, means_row}
use Rattle.rules.proofs.Lookups.{names_rows}
use Rattle.rules.proofs.Reading.{rows_are}
use Rattle.std.specs.Prelude as prelude
use Rattle.resolve.specs.declared.Pointer.{Pointer}
use Rattle.resolve.specs.Means.{Means, targets}

-- the tables that say what a slot names, alone
abbrev pub only_code : Offered → Offered
only_code o = map_step_offer o.code o.symbols o.functions o.relocations [] o.instructions

module _ (o : Offered) where
  -- a symbol's target is looked up in tables 1 and 3 alone
  pub symbol_alike : (kind : SymbolKind) (home : Option ℕ) (address size : ℕ) (immediate : ℤ)
      → by_symbol (tables_of little o) kind home address size immediate ≡ by_symbol (targets o.code o.functions) kind home address size immediate
  unfolding tables_of
  symbol_alike text none address size immediate = refl
  symbol_alike text (some home) address size immediate = refl
  symbol_alike section none address size immediate = refl
  symbol_alike section (some home) address size immediate = refl
  symbol_alike other none address size immediate = refl
  symbol_alike other (some home) address size immediate = refl

  pub symbol_row_alike : (s : Option Symbol) (size : ℕ) (immediate : ℤ)
      → by_symbol_row (tables_of little o) s size immediate ≡ by_symbol_row (targets o.code o.functions) s size immediate
  symbol_row_alike none size immediate = refl
  symbol_row_alike (some s) size immediate = symbol_alike s.kind s.home s.address size immediate

module _ (o : Offered) where
  pub relocation_alike : (r : Option Relocation) (f : Function) (slot : ℕ) (i : Insn)
      → by_relocation (tables_of little o) r f slot i ≡ by_relocation (tables_of little (only_code o)) r f slot i
  unfolding tables_of
  relocation_alike none f slot i = refl
  relocation_alike (some r) f slot i =
      let s = first (λ s. eqb s.index r.symbol) (tables_of little o).symbols in
      symbol_row_alike o s r.size i.immediate ∙ sym (symbol_row_alike (only_code o) s r.size i.immediate)

  pub meaning_alike : (row slot : ℕ) → meaning (object_of (tables_of little o)) row slot ≡ meaning (object_of (tables_of little (only_code o))) row slot
  unfolding meaning is_wide_load object_of tables_of
  meaning_alike row slot =
      let t = tables_of little o in
      ap (decide (is_call (insn_of t row slot)) (is_wide_load (object_of t) row slot))
      (relocation_alike (relocation_at t (row_of t row) slot) (row_of t row) slot (insn_of t row slot))

  pub checked_alike : Checked o → Checked (only_code o)
  checked_alike c = record {
    code = c.code;
    symbols = c.symbols;
    functions = c.functions;
    relocations = c.relocations;
    few = c.few;
    instructions = c.instructions;
  }

  row_meant : (row slot : ℕ) → MeansRow (whole_rows Functions o.functions) (meaning (object_of (tables_of little o)) row slot)
  unfolding meaning object_of
  row_meant row slot =
      let t = tables_of little o in
      subst (λ n. MeansRow n (meaning (object_of t) row slot)) (rows_are little o)
      (means_row (object_of t).rows _ _ ((object_of t).named row slot) (names_rows t row slot))

  -- what a slot points to is a row of table 3
  pub points_inside : (row slot : ℕ) (p : Pointer) → Means row slot (prelude.Ok (prelude.Some p)) (meaning (object_of (tables_of little o)) row slot)
      → p.callee < whole_rows Functions o.functions
  points_inside row slot p e = either p.reference (subst (MeansRow (whole_rows Functions o.functions)) e (row_meant row slot))
    where
      either : (refers : Bool) → MeansRow (whole_rows Functions o.functions) (cond refers (reference p.callee) (call p.callee)) → p.callee < whole_rows Functions o.functions
      either true m = m
      either false m = m
