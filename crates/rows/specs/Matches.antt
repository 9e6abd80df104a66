-- The tests of the lookups on one row.
-- Assumes nothing.
use Rattle.std.specs.Prelude.{Bool, ◌&&◌, List, ℕ, ℤ, eqb}
use Rattle.rules.specs.Tables.{is_at}
use Rattle.rules.specs.Maps.{is_symbol, has_none}
use Rattle.rules.specs.Rows.{or_none, below, code_section, symbol_index, function_section, function_address, relocation_section, relocation_offset, map_section, map_symbol}

abbrev pub code_matches : List ℕ → ℕ → ℕ → Bool
code_matches t home k = eqb home (code_section t k)

abbrev pub symbol_matches : List ℕ → ℕ → ℕ → Bool
symbol_matches t index k = eqb (symbol_index t k) index

abbrev pub function_matches : List ℕ → ℕ → ℤ → ℕ → Bool
function_matches t home address k = eqb (function_section t k) home && is_at (function_address t k) address

abbrev pub relocation_matches : List ℕ → ℕ → ℕ → ℕ → Bool
relocation_matches t home offset k = eqb (relocation_section t k) home && eqb (relocation_offset t k) offset

abbrev pub relocation_is_before : List ℕ → ℕ → ℕ → ℕ → Bool
relocation_is_before t home offset k = below (relocation_section t k) (relocation_offset t k) home offset

abbrev pub map_symbol_matches : List ℕ → ℕ → ℕ → Bool
map_symbol_matches t symbol k = is_symbol symbol (or_none (map_symbol t k))

abbrev pub map_section_matches : List ℕ → ℕ → ℕ → Bool
map_section_matches t home k = eqb (map_section t k) home && has_none (or_none (map_symbol t k))
