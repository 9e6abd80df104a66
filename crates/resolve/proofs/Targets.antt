-- Where a symbol leads, case by case, and a target as the code holds it.
-- Assumes nothing.
use mathlib.Core.Path.{◌≡◌, refl, sym, ap, ◌∙◌}
use mathlib.Core.Logic.{◌⊎◌, inl, inr}
use mathlib.Core.Bool.{Bool, true, false}
use mathlib.Core.Option.{Option, none, some}
use mathlib.Core.List.{List, []}
use Prim.Native.Nat.{ℕ, ◌+◌, ◌*◌}
use borrow.Author.Tests.{ne_eqb}
use lib.IntN.{ℤ, pos, ◌+ℤ◌}
use mir.Syntax.{w32, w64}
use mir.Val.{to_z, of_z, SFits}
use mir.ValLaws.{to_z-of_z}
use Rattle.rules.specs.Object.{Insn, is_call, Named, nothing, unclear, copied, decide}
use Rattle.rules.specs.Bytes.{little}
use Rattle.rules.specs.declared.SymbolKind as coded
use Rattle.rules.specs.declared.SymbolKind.TheVariants.{Other, Text, Section}
use Rattle.rules.specs.Tables.{section, function_at, is_code, by_code, by_symbol, by_symbol_row, by_relocation, or_missing, slots_on}
use Rattle.rules.specs.Rows.{none_number, kind_in, or_none, Offered, map_step_offer, tables_of, function_section, function_offset, function_row, relocation_symbol, relocation_size, relocation_row, symbol_row}
use Rattle.rules.specs.Lookups.{found_of, function_with, symbol_with, is_code_section, read_row}
use Rattle.rules.proofs.Reading.{code_is, symbol_is, function_is}
use Rattle.resolve.specs.Means.{option_of, targets}
use Rattle.resolve.proofs.Laws.{symbol_row_alike}

-- a target as its bits are passed on
pub passed_on : (functions : List ℕ) (home : ℕ) {z target : ℤ} → SFits w64 z → z ≡ target
    → or_missing (function_with functions home (to_z w64 (of_z w64 z))) ≡ or_missing (function_with functions home target)
passed_on functions home {z} f e = ap (λ (y : ℤ). or_missing (function_with functions home y)) (to_z-of_z w64 z f ∙ e)

-- from an address, for an immediate as its bits are passed on
pub slots_from : {a b : ℕ} {z : ℤ} → SFits w32 z → a ≡ b → pos a +ℤ slots_on (to_z w32 (of_z w32 z)) ≡ pos b +ℤ slots_on z
slots_from {z = z} f e = rw (to_z-of_z w32 z f, e)

pub bytes_from : {a b : ℕ} {z : ℤ} → SFits w32 z → a ≡ b → pos a +ℤ to_z w32 (of_z w32 z) ≡ pos b +ℤ z
bytes_from {z = z} f e = rw (to_z-of_z w32 z f, e)

pub option_found : (o : Option ℕ) → option_of (found_of o) ≡ o
option_found none = refl
option_found (some k) = refl

-- what names nothing is copied, if it is no call
pub not_called : (wide : Bool) → decide false wide nothing ≡ copied
unfolding decide
not_called true = refl
not_called false = refl

module _ (code functions : List ℕ) where
  pub at_is : (home : ℕ) (address : ℤ) → function_at (targets code functions) home address ≡ or_missing (function_with functions home address)
  at_is home address = ap or_missing (function_is little (map_step_offer code [] functions [] [] []) home address)

  module _ (home address size : ℕ) (immediate : ℤ) (somewhere : home ≡ none_number → ⊥) where
    abbrev named : coded.SymbolKind → Named
    named kind = by_symbol (targets code functions) (kind_in kind) (or_none home) address size immediate

    pub text_at : named Text ≡ or_missing (function_with functions home (pos address))
    text_at = rw (ne_eqb home none_number somewhere) (at_is home (pos address))

    is_code_lem : {b : Bool} → is_code_section code home ≡ b → is_code (targets code functions) home ≡ b
    is_code_lem e = code_is little (map_step_offer code [] functions [] [] []) home ∙ e

    -- any kind but Text
    pub no_code : (kind : coded.SymbolKind) → (kind ≡ Other) ⊎ (kind ≡ Section) → false ≡ is_code_section code home → nothing ≡ named kind
    no_code kind (inl k) e = rw (k, ne_eqb home none_number somewhere, is_code_lem (sym e)) refl
    no_code kind (inr k) e = rw (k, ne_eqb home none_number somewhere, is_code_lem (sym e)) refl

    pub other_code : true ≡ is_code_section code home → unclear 8 ≡ named Other
    other_code e = rw (ne_eqb home none_number somewhere, is_code_lem (sym e)) refl

    pub section_code : true ≡ is_code_section code home → named Section ≡ by_code (targets [] functions) section (some home) address size immediate
    unfolding tables_of
    section_code e = rw (ne_eqb home none_number somewhere, is_code_lem (sym e))

-- what a slot names, by its relocation
module _ (o : Offered) (row slot : ℕ) (i : Insn) where
  abbrev by_row : Option ℕ → Named
  by_row k = by_relocation (tables_of little o) (read_row (relocation_row o.relocations) k) (function_row o.functions row) slot i

  pub own_call_lem : is_call i ≡ true
      → by_row none
      ≡ or_missing (function_with o.functions (function_section o.functions row) (pos (function_offset o.functions row + 8 * slot) +ℤ slots_on i.immediate))
  own_call_lem e =
      rw e (ap or_missing (function_is little o (function_section o.functions row) (pos (function_offset o.functions row + 8 * slot) +ℤ slots_on i.immediate)))

  pub not_call : is_call i ≡ false → by_row none ≡ nothing
  not_call e = rw e

  pub related : (k : ℕ)
      → by_row (some k)
      ≡ by_symbol_row (targets o.code o.functions) (read_row (symbol_row o.symbols) (symbol_with o.symbols (relocation_symbol o.relocations k)))
      (relocation_size o.relocations k) i.immediate
  related k =
      let index = relocation_symbol o.relocations k in
      let size = relocation_size o.relocations k in
      ap (λ s. by_symbol_row (tables_of little o) s size i.immediate) (symbol_is little o index)
      ∙ symbol_row_alike o (read_row (symbol_row o.symbols) (symbol_with o.symbols index)) size i.immediate
