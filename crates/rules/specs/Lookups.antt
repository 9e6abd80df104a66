-- The lookups of document 01 over the tables' bytes, by row number: what a search of a checked table answers.
-- Assumes nothing.
use Rattle.std.specs.Prelude.{◌≡◌, Bool, false, not, ◌&&◌, List, ℕ, ◌*◌, ◌<◌, ℤ, eqb, length}
use Rattle.std.proofs.Math.Option.{Option, none, some}
use Rattle.rules.specs.declared.Table.{Table}
use Rattle.rules.specs.declared.Table.TheVariants.{Code, Symbols, Functions, Relocations, Maps, Instructions, FuncInfo, LineInfo}
use Rattle.std.specs.Prelude as prelude
use Rattle.rules.specs.Tables.{is_at, is_some, Before}
use Rattle.rules.specs.Maps.{is_symbol, has_none}
use Rattle.rules.specs.Rows.{row_size, Offered, total, below, whole_rows, is_too_many, first_broken, first_from, code_section, symbol_index, function_section, function_address, relocation_section, relocation_offset, map_section, map_symbol, or_none}

-- as code has it
abbrev pub found_of : Option ℕ → prelude.Option ℕ
found_of none = prelude.None
found_of (some k) = prelude.Some k

-- the row that a lookup found, read
abbrev pub read_row {ℓ} : {A : Type ℓ} → (ℕ → A) → Option ℕ → Option A
read_row row none = none
read_row row (some k) = some (row k)

-- a table that neither 1 nor 2 refuses
pub record Sound (table : Table) (t : List ℕ) : Type 0 where
  pub few : is_too_many table t ≡ false
  pub unbroken : first_broken table t ≡ none

-- tables that both steps stand on, checked
pub record Checked (o : Offered) : Type 0 where
  pub code : Sound Code o.code
  pub symbols : Sound Symbols o.symbols
  pub functions : Sound Functions o.functions
  pub relocations : Sound Relocations o.relocations
  pub few : is_too_many Instructions o.instructions ≡ false
  pub instructions : length o.instructions ≡ row_size Instructions * total Instructions o.functions

-- what the map step, and the link, have checked
pub record MapChecked (o : Offered) : Type 0 where
  pub tables : Checked o
  pub maps : Sound Maps o.maps

pub record LinkChecked (o : Offered) : Type 0 where
  pub tables : Checked o
  pub few_functions : is_too_many FuncInfo o.func_info ≡ false
  pub few_lines : is_too_many LineInfo o.line_info ≡ false
  pub func_info : length o.func_info ≡ row_size FuncInfo * total FuncInfo o.functions
  pub line_info : length o.line_info ≡ row_size LineInfo * total LineInfo o.functions

-- is a section in table 1
unfoldable pub is_code_section : List ℕ → ℕ → Bool
is_code_section t home = is_some (first_from (λ k. eqb home (code_section t k)) 0 (whole_rows Code t))

-- the symbol with that index
unfoldable pub symbol_with : List ℕ → ℕ → Option ℕ
symbol_with t index = first_from (λ k. eqb (symbol_index t k) index) 0 (whole_rows Symbols t)

-- the function with that section and exactly that address
unfoldable pub function_with : List ℕ → ℕ → ℤ → Option ℕ
function_with t home address = first_from (λ k. eqb (function_section t k) home && is_at (function_address t k) address) 0 (whole_rows Functions t)

-- the relocation of that section at that offset
unfoldable pub relocation_with : List ℕ → ℕ → ℕ → Option ℕ
relocation_with t home offset = first_from (λ k. eqb (relocation_section t k) home && eqb (relocation_offset t k) offset) 0 (whole_rows Relocations t)

-- how many of n rows come before the first that fails a test
abbrev pub or_end : Option ℕ → ℕ → ℕ
or_end none end = end
or_end (some k) end = k

abbrev pub how_many : (ℕ → Bool) → ℕ → ℕ
how_many test n = or_end (first_from (λ k. not (test k)) 0 n) n

-- how many relocations stand before (home, offset)
unfoldable pub relocations_before : List ℕ → ℕ → ℕ → ℕ
relocations_before t home offset = how_many (λ k. below (relocation_section t k) (relocation_offset t k) home offset) (whole_rows Relocations t)

-- "the map with that symbol, else the map of that section without a symbol"
unfoldable pub map_with_symbol : List ℕ → ℕ → Option ℕ
map_with_symbol t symbol = first_from (λ k. is_symbol symbol (or_none (map_symbol t k))) 0 (whole_rows Maps t)

unfoldable pub map_of_section : List ℕ → ℕ → Option ℕ
map_of_section t home = first_from (λ k. eqb (map_section t k) home && has_none (or_none (map_symbol t k))) 0 (whole_rows Maps t)

-- keys that rise strictly over the first n rows, one number or a pair
unfoldable pub Rising : (ℕ → ℕ) → ℕ → Type 0
Rising key n = (i j : ℕ) → i < j → j < n → key i < key j

unfoldable pub RisingPair : (ℕ → ℕ) → (ℕ → ℕ) → ℕ → Type 0
RisingPair first second n = (i j : ℕ) → i < j → j < n → Before (first i) (second i) (first j) (second j)
