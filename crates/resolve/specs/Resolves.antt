-- What the judgement of a slot asks: checked tables, and numbers that are theirs.
-- Assumes nothing.
use Rattle.std.specs.Prelude.{◌≡◌, List, ℕ, ◌+◌, ◌*◌, ◌≤◌, ◌<◌, length}
use Rattle.rules.specs.declared.Table.TheVariants.{Code, Symbols, Functions, Relocations}
use Rattle.std.specs.Prelude as prelude
use Rattle.std.specs.Prelude.{Some, None}
use Rattle.rules.specs.Bytes.{slot_size}
use Rattle.rules.specs.Rows.{whole_rows, most_address, Offered, summed, function_section, function_slots, function_offset}
use Rattle.rules.specs.Lookups.{Sound, Checked, found_of, relocation_with}

-- a symbol's own fields, with the tables that its target is looked up in
pub record Symbolic (code functions : List ℕ) (address : ℕ) : Type 0 where
  pub code_sound : Sound Code code
  pub functions_sound : Sound Functions functions
  pub low : address ≤ most_address

-- a row of table 4, with the tables that its symbol leads to
pub record Related (code symbols functions relocations : List ℕ) (k : ℕ) : Type 0 where
  pub code_sound : Sound Code code
  pub symbols_sound : Sound Symbols symbols
  pub functions_sound : Sound Functions functions
  pub relocations_sound : Sound Relocations relocations
  pub inside : k < whole_rows Relocations relocations

abbrev pub Within : (prelude.Option ℕ) → ℕ → Type 0
Within None n = Unit {0}
Within (Some k) n = k < n

-- a row of table 3, a slot of table 6, and a row of table 4 or none
pub record Asked (o : Offered) (row at : ℕ) (rel : (prelude.Option ℕ)) : Type 0 where
  pub tables : Checked o
  pub row_inside : row < whole_rows Functions o.functions
  pub slot_inside : slot_size * at + slot_size ≤ length o.instructions
  pub rel_inside : Within rel (whole_rows Relocations o.relocations)

-- a slot of a row whose first slot in table 6 is `first`, with the slot's relocation
pub record Resolves (o : Offered) (row first slot : ℕ) (rel : (prelude.Option ℕ)) : Type 0 where
  pub tables : Checked o
  pub row_inside : row < whole_rows Functions o.functions
  pub slot_inside : slot < function_slots o.functions row
  pub first_is : first ≡ summed (function_slots o.functions) 0 row
  pub rel_is : rel
      ≡ found_of (relocation_with o.relocations (function_section o.functions row) (function_offset o.functions row + 8 * slot))
