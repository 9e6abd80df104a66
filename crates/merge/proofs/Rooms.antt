-- What room for a row, and a row's part inside its table, say of the places to write and to read.
-- Assumes nothing.
use mathlib.Core.Path.{◌≡◌}
use mathlib.Core.Bool.{true}
use mathlib.Core.List.{List}
use Prim.Native.Nat.{ℕ, ◌+◌, ◌/◌, ◌≤◌, min}
use native.Mathlib.Omega.{arith}
use native.Mathlib.Nat.{min-le_left, min-le_right}
use borrow.Author.Tests.{leb-true}
use lib.Dec.{leb}
use lib.ListN.{length}
use Rattle.rules.specs.declared.Table.TheVariants.{Instructions, FuncInfo, LineInfo}
use Rattle.rules.specs.Lent.{Buffers}
use Rattle.rules.specs.Rows.{Offered, row_size, most_image_slots, most_image_functions, most_image_lines, function_slots, function_func_info, function_line_info}
use Rattle.rules.proofs.Passed.{and_left, and_right}
use Rattle.merge.specs.declared.Used.{Used}
use Rattle.merge.specs.Merge.{RowCounts, PartBegins, Sums, Parts, room_of, room_bytes, Copyable}

pub record Below (n a b : ℕ) : Type 0 where
  pub left : n ≤ a
  pub right : n ≤ b

below_min : (n a b : ℕ) → leb n (min a b) ≡ true → Below n a b
below_min n a b e = record { left = omega (arith, leb-true n (min a b) e, min-le_left a b); right = omega (arith, leb-true n (min a b) e, min-le_right a b) }

pub record Roomy (functions : List ℕ) (image funcs lines : ℕ) (used : Used) (row : ℕ) : Type 0 where
  pub slots : Below (used.slots + function_slots functions row) (image / row_size Instructions) most_image_slots
  pub function_records : Below (used.funcs + function_func_info functions row) (funcs / row_size FuncInfo) most_image_functions
  pub line_records : Below (used.lines + function_line_info functions row) (lines / row_size LineInfo) most_image_lines

pub roomy : (functions : List ℕ) (image funcs lines : ℕ) (used : Used) (row : ℕ) → room_bytes functions image funcs lines used row ≡ true
    → Roomy functions image funcs lines used row
unfolding room_bytes
roomy functions image funcs lines used row e =
    let slots = leb (used.slots + function_slots functions row) (room_of image funcs lines).slots in
    let function_records = leb (used.funcs + function_func_info functions row) (room_of image funcs lines).functions in
    let later = and_right slots _ e in record {
      slots = below_min _ _ _ (and_left slots _ e);
      function_records = below_min _ _ _ (and_left function_records _ later);
      line_records = below_min _ _ _ (and_right function_records _ later);
    }

pub sums : (o : Offered) (row : ℕ) → Parts o row → Sums o.functions row
sums o row parts = record {
  in_table = omega (arith, parts.is_row);
  few_slots = omega (arith, parts.slots_inside, parts.few_slots);
  few_funcs = omega (arith, parts.funcs_inside, parts.few_funcs);
  few_lines = omega (arith, parts.lines_inside, parts.few_lines);
}

-- from where to where a row's part is copied
pub record Places (o : Offered) (b : Buffers) (used part more : Used) : Type 0 where
  pub slots : Copyable (row_size Instructions) o.instructions part.slots more.slots b.image used.slots
  pub function_records : Copyable (row_size FuncInfo) o.func_info part.funcs more.funcs b.funcs used.funcs
  pub line_records : Copyable (row_size LineInfo) o.line_info part.lines more.lines b.lines used.lines
  pub most_slots : used.slots + more.slots ≤ most_image_slots
  pub most_funcs : used.funcs + more.funcs ≤ most_image_functions
  pub most_lines : used.lines + more.lines ≤ most_image_lines

pub places : (o : Offered) (b : Buffers) (used : Used) (row : ℕ) (part more : Used)
    → Parts o row → room_bytes o.functions (length b.image) (length b.funcs) (length b.lines) used row ≡ true
    → PartBegins o.functions row part → RowCounts o.functions row more → Places o b used part more
places o b used row part more parts room begins counts =
    let r = roomy o.functions (length b.image) (length b.funcs) (length b.lines) used row room in record {
      slots = record { inside = omega (arith, parts.slots_inside, begins.slots_are, counts.slots_are); room = omega (arith, r.slots.left, counts.slots_are) };
      function_records = record { inside = omega (arith, parts.funcs_inside, begins.funcs_are, counts.funcs_are); room = omega (arith, r.function_records.left, counts.funcs_are) };
      line_records = record { inside = omega (arith, parts.lines_inside, begins.lines_are, counts.lines_are); room = omega (arith, r.line_records.left, counts.lines_are) };
      most_slots = omega (arith, r.slots.right, counts.slots_are);
      most_funcs = omega (arith, r.function_records.right, counts.funcs_are);
      most_lines = omega (arith, r.line_records.right, counts.lines_are);
    }
