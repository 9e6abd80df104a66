-- The tables' rows meet their bytes here, once: each lookup of the definitions is the lookup by row number that code promises.
-- Assumes nothing.
use mathlib.Core.Path.{◌≡◌, refl, ap, ◌∙◌}
use mathlib.Core.Bool.{◌&&◌}
use mathlib.Core.Option.{Option, none, some}
use mathlib.Core.List.{◌∷◌}
use Prim.Native.Nat.{ℕ, zero, suc, ◌+◌, ◌*◌, ◌-◌, ◌≤◌, ◌<◌}
use native.Mathlib.Nat.{zero-add}
use native.Mathlib.Omega.{arith}
use lib.IntN.{ℤ}
use lib.Dec.{eqb}
use lib.ListN.{length, take, drop}
use Rattle.rules.specs.declared.Table.TheVariants.{Code, Symbols, Functions, Relocations, Maps, FuncInfo, LineInfo}
use Rattle.rules.specs.Link.{run}
use Rattle.rules.specs.Bytes.{Order}
use Rattle.rules.specs.Tables.{Function, first, is_some, is_at, no_function, before, row_of, base, function_records_of, lines_of, row_at, is_code, relocation_at}
use Rattle.rules.specs.Maps as Maps
use Rattle.rules.specs.Maps.{is_symbol, has_none, map_for}
use Rattle.rules.specs.Rows.{whole_rows, first_from, summed, Offered, code_section, symbol_row, function_row, function_slots, function_func_info, function_line_info, relocation_row, map_row, func_info_row, line_info_row, tables_of}
use Rattle.rules.specs.Lookups.{read_row, is_code_section, symbol_with, function_with, relocation_with, map_with_symbol, map_of_section}
use Rattle.rules.proofs.Linking.{length_run, run_at}
use Rattle.rules.proofs.Searches.{first_run, row_run, before_run}

some_read : {A : Type 0} (f : ℕ → A) (o : Option ℕ) → is_some (read_row f o) ≡ is_some o
some_read f none = refl
some_read f (some k) = refl

-- a part of a run
pub drop_run {ℓ} : {A : Type ℓ} (f : ℕ → A) (k from n : ℕ) → drop k (run f from n) ≡ run f (from + k) (n - k)
drop_run f zero from n = let e : n ≡ n - 0 = omega arith in let e₀ : from ≡ from + 0 = omega arith in ap (run f from) e ∙ ap (λ m. run f m (n - 0)) e₀
drop_run f (suc k) from zero = let e : 0 ≡ 0 - suc k = omega arith in ap (run f (from + suc k)) e
drop_run f (suc k) from (suc n) =
    let e : suc from + k ≡ from + suc k = omega arith in
    let d : n - k ≡ suc n - suc k = omega arith in
    drop_run f k (suc from) n ∙ ap (λ m. run f m (n - k)) e ∙ ap (run f (from + suc k)) d

pub take_run {ℓ} : {A : Type ℓ} (f : ℕ → A) (k from n : ℕ) → k ≤ n → take k (run f from n) ≡ run f from k
take_run f zero from n l = refl
take_run f (suc k) from zero l = absurd (omega arith)
take_run f (suc k) from (suc n) l = ap (λ x. f from ∷ x) (take_run f k (suc from) n (omega arith))

module _ (order : Order) (o : Offered) where
  pub rows_are : length (tables_of order o).functions ≡ whole_rows Functions o.functions
  unfolding tables_of
  rows_are = length_run (function_row o.functions) 0 (whole_rows Functions o.functions)

  pub row_is : (row : ℕ) → row < whole_rows Functions o.functions → row_of (tables_of order o) row ≡ function_row o.functions row
  unfolding tables_of
  row_is row l = run_at (function_row o.functions) 0 (whole_rows Functions o.functions) row no_function l ∙ ap (function_row o.functions) (zero-add row)

  -- where a row's slots, function records and line records begin
  pub base_is : (row : ℕ) → row ≤ whole_rows Functions o.functions → base (tables_of order o) row ≡ summed (function_slots o.functions) 0 row
  unfolding tables_of
  base_is row l = before_run (function_row o.functions) (λ f. f.slots) 0 (whole_rows Functions o.functions) row l

  functions_before : (row : ℕ) → row ≤ whole_rows Functions o.functions
      → before (λ f. f.functions) row (tables_of order o).functions ≡ summed (function_func_info o.functions) 0 row
  unfolding tables_of
  functions_before row l = before_run (function_row o.functions) (λ f. f.functions) 0 (whole_rows Functions o.functions) row l

  lines_before : (row : ℕ) → row ≤ whole_rows Functions o.functions
      → before (λ f. f.lines) row (tables_of order o).functions ≡ summed (function_line_info o.functions) 0 row
  unfolding tables_of
  lines_before row l = before_run (function_row o.functions) (λ f. f.lines) 0 (whole_rows Functions o.functions) row l

  -- lookups
  pub code_is : (home : ℕ) → is_code (tables_of order o) home ≡ is_code_section o.code home
  unfolding tables_of is_code_section
  code_is home = ap is_some (first_run (code_section o.code) (eqb home) 0 (whole_rows Code o.code)) ∙ some_read (code_section o.code) (first_from (λ k. eqb home (code_section o.code k)) 0 (whole_rows Code o.code))

  pub symbol_is : (index : ℕ) → first (λ s. eqb s.index index) (tables_of order o).symbols ≡ read_row (symbol_row o.symbols) (symbol_with o.symbols index)
  unfolding tables_of symbol_with
  symbol_is index = first_run (symbol_row o.symbols) (λ s. eqb s.index index) 0 (whole_rows Symbols o.symbols)

  pub function_is : (home : ℕ) (address : ℤ) → row_at (tables_of order o) home address ≡ function_with o.functions home address
  unfolding tables_of function_with
  function_is home address = row_run (function_row o.functions) (λ f. eqb f.home home && is_at f.address address) 0 (whole_rows Functions o.functions)

  pub relocation_is : (f : Function) (slot : ℕ)
      → relocation_at (tables_of order o) f slot ≡ read_row (relocation_row o.relocations) (relocation_with o.relocations f.home (f.offset + 8 * slot))
  unfolding tables_of relocation_with
  relocation_is f slot = first_run (relocation_row o.relocations) (λ r. eqb r.home f.home && eqb r.offset (f.offset + 8 * slot)) 0 (whole_rows Relocations o.relocations)

  pub map_is : (symbol home : ℕ) → map_for (tables_of order o) symbol home
      ≡ Maps.or_else (read_row (map_row o.maps) (map_with_symbol o.maps symbol)) (read_row (map_row o.maps) (map_of_section o.maps home))
  unfolding tables_of map_with_symbol map_of_section
  map_is symbol home =
      ap (λ x. Maps.or_else x (first (λ m. eqb m.home home && has_none m.symbol) (tables_of order o).maps))
      (first_run (map_row o.maps) (λ m. is_symbol symbol m.symbol) 0 (whole_rows Maps o.maps))
      ∙ ap (Maps.or_else (read_row (map_row o.maps) (map_with_symbol o.maps symbol)))
      (first_run (map_row o.maps) (λ m. eqb m.home home && has_none m.symbol) 0 (whole_rows Maps o.maps))

  -- a row's records are a part of tables 7 and 8
  part_run : {A : Type 0} (f : ℕ → A) (n start count : ℕ) → start + count ≤ n → take count (drop start (run f 0 n)) ≡ run f start count
  part_run f n start count l =
      let e : 0 + start ≡ start = omega arith in
      ap (take count) (drop_run f start 0 n ∙ ap (λ m. run f m (n - start)) e) ∙ take_run f count start (n - start) (omega arith)

  module _ (row : ℕ) (inside : row < whole_rows Functions o.functions) where
    pub functions_are : summed (function_func_info o.functions) 0 row + function_func_info o.functions row ≤ whole_rows FuncInfo o.func_info
        → function_records_of (tables_of order o) row ≡ run (func_info_row order o.func_info) (summed (function_func_info o.functions) 0 row) (function_func_info o.functions row)
    unfolding tables_of
    functions_are fits =
        rw (functions_before row (omega arith), row_is row inside)
        (part_run (func_info_row order o.func_info) (whole_rows FuncInfo o.func_info) (summed (function_func_info o.functions) 0 row) (function_func_info o.functions row) fits)

    pub lines_are : summed (function_line_info o.functions) 0 row + function_line_info o.functions row ≤ whole_rows LineInfo o.line_info
        → lines_of (tables_of order o) row ≡ run (line_info_row order o.line_info) (summed (function_line_info o.functions) 0 row) (function_line_info o.functions row)
    unfolding tables_of
    lines_are fits =
        rw (lines_before row (omega arith), row_is row inside)
        (part_run (line_info_row order o.line_info) (whole_rows LineInfo o.line_info) (summed (function_line_info o.functions) 0 row) (function_line_info o.functions row) fits)
