-- What the code finds at a place of the source, as the definitions' own.
-- Assumes nothing.
use Rattle.std.specs.Prelude as prelude
use Rattle.std.specs.Prelude.{◌≡◌, cond, List, ℕ, ◌<◌, ltb}
use Rattle.rules.specs.declared.Table.TheVariants.{Functions}
use Rattle.rules.specs.Object.{Object, Meaning, copied, call, reference, refused}
use Rattle.rules.specs.Bytes.{little}
use Rattle.rules.specs.Tables.{object_of}
use Rattle.rules.specs.Rows.{whole_rows, Offered, tables_of, summed, function_slots}
use Rattle.rules.specs.Lookups.{Checked}

-- the object of the tables offered
abbrev pub object_in : Offered → Object
object_in o = object_of (tables_of little o)

-- a slot of a row whose first slot in table 6 is `first`
pub record Slotted (o : Offered) (row first slot : ℕ) : Type 0 where
  pub tables : Checked o
  pub row_inside : row < whole_rows Functions o.functions
  pub slot_inside : slot < function_slots o.functions row
  pub first_is : first ≡ summed (function_slots o.functions) 0 row

abbrev pub slots_in : List ℕ → ℕ → ℕ
slots_in functions row = cond (ltb row (whole_rows Functions functions)) (function_slots functions row) 0

-- the row that a slot of this meaning calls
abbrev pub called_by : Meaning → prelude.Option ℕ
called_by copied = prelude.None
called_by (call row) = prelude.Some row
called_by (reference row) = prelude.None
called_by (refused number) = prelude.None
