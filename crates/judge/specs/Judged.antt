-- The judgement of row k of table 4 in a function, as the map step has it.
-- Assumes nothing.
use Rattle.std.specs.Prelude.{◌≡◌, List, ℕ, suc, ◌+◌, ◌-◌, ◌*◌, ◌/◌, ◌≤◌, ◌<◌, length}
use Rattle.rules.specs.declared.Table.TheVariants.{Functions, Relocations}
use Rattle.rules.specs.Object.{Insn}
use Rattle.rules.specs.Bytes.{little, decoded, slot_size}
use Rattle.rules.specs.Tables.{Tables}
use Rattle.rules.specs.Maps as step
use Rattle.rules.specs.Maps.{Task, task}
use Rattle.rules.specs.Rows.{whole_rows, summed, Offered, tables_of, function_slots, function_offset, relocation_offset, relocation_row}
use Rattle.rules.specs.Lookups.{MapChecked}
use Rattle.judge.specs.Verdicts.{Verdict, verdict_of, PlacedAt}

-- the same tables with other bytes as table 6
abbrev pub with_instructions : Offered → List ℕ → Offered
with_instructions o bytes = record {
  code = o.code;
  symbols = o.symbols;
  functions = o.functions;
  relocations = o.relocations;
  maps = o.maps;
  instructions = bytes;
  func_info = o.func_info;
  line_info = o.line_info;
}

-- the tables read, and the slots of table 6
abbrev pub tables : Offered → Tables
tables o = tables_of little o

abbrev pub slots_of : Offered → List Insn
slots_of o = decoded little o.instructions

abbrev pub task_of : Offered → ℕ → ℕ → Task
task_of o row k = task row (relocation_row o.relocations k)

-- "slot rounded down"
abbrev pub slot_of : Offered → ℕ → ℕ → ℕ
slot_of o row k = (relocation_offset o.relocations k - function_offset o.functions row) / 8

-- checked tables, a function, and its first slot in table 6
pub record RowAsked (o : Offered) (row first : ℕ) : Type 0 where
  pub checked : MapChecked o
  pub row_inside : row < whole_rows Functions o.functions
  pub first_is : first ≡ summed (function_slots o.functions) 0 row

-- and a row of table 4
pub record Asked (o : Offered) (row first k : ℕ) : Type 0 where
  pub of_row : RowAsked o row first
  pub k_inside : k < whole_rows Relocations o.relocations

abbrev pub Inside : List ℕ → ℕ → Type 0
Inside instructions here = slot_size * here + slot_size ≤ length instructions

pub record Judges (o : Offered) (row first k : ℕ) (r : Verdict) : Type 0 where
  pub says : verdict_of r ≡ step.judge (tables o) (slots_of o) (task_of o row k)
  pub places : PlacedAt row (slot_of o row k) (first + slot_of o row k)
      (Inside o.instructions (first + slot_of o row k)) (Inside o.instructions (suc (first + slot_of o row k))) r
