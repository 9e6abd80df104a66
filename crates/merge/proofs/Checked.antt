-- A link whose tables were checked meets what is asked of each of its rows.
-- Assumes nothing.
use Prim.Native.Nat.{ℕ, ◌<◌}
use native.Mathlib.Omega.{arith}
use Rattle.rules.specs.declared.Table.TheVariants.{Functions, Instructions, FuncInfo, LineInfo}
use Rattle.rules.specs.Rows.{whole_rows, Offered, function_slots, function_func_info, function_line_info, total}
use Rattle.rules.specs.Lookups.{LinkChecked}
use Rattle.rules.proofs.Searches.{part_inside}
use Rattle.rules.proofs.Passed.{few_whole}
use Rattle.merge.specs.declared.Used.{Used}
use Rattle.merge.specs.Merge.{PartBegins, Parts, Lined}

pub checked_parts : (o : Offered) (row : ℕ) → LinkChecked o → row < whole_rows Functions o.functions
    → Parts o row
unfolding total
checked_parts o row checked is_row =
    let rows = whole_rows Functions o.functions in
    let slots = few_whole Instructions o.instructions checked.tables.few in
    let funcs = few_whole FuncInfo o.func_info checked.few_functions in
    let lines = few_whole LineInfo o.line_info checked.few_lines in record {
      is_row = is_row;
      slots_inside = omega (arith, part_inside (function_slots o.functions) rows row is_row, checked.tables.instructions);
      funcs_inside = omega (arith, part_inside (function_func_info o.functions) rows row is_row, checked.func_info);
      lines_inside = omega (arith, part_inside (function_line_info o.functions) rows row is_row, checked.line_info);
      few_slots = omega (arith, slots, checked.tables.instructions);
      few_funcs = omega (arith, funcs, checked.func_info);
      few_lines = omega (arith, lines, checked.line_info);
    }

-- where part_of says that the line records begin
pub lined : (o : Offered) (row : ℕ) (part : Used) → Parts o row → PartBegins o.functions row part → Lined o.functions o.line_info row part.lines
lined o row part parts begins = record {
  is_row = parts.is_row;
  begins = begins.lines_are;
  inside = omega (arith, parts.lines_inside, begins.lines_are);
}
