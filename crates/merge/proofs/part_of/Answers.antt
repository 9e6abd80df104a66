-- The invariant: what was added up is the sum over the first k rows, which is at most the sum over all rows before this one.
use native.Mathlib.Omega.{arith}
use Rattle.rules.specs.Rows.{function_slots, function_func_info, function_line_info}
use Rattle.rules.proofs.Searches.{summed_step, part_inside}
use Rattle.merge.proofs.part_of.Goals as goal

pub loop-k-init : goal.loop-k-init
loop-k-init c =
    let e = c.default-part.ensures in
    record { slots_are = e.0; funcs_are = e.1.0; lines_are = e.1.1 }

pub add-part-requires : goal.add-part-requires
add-part-requires c =
    let t = c.args.functions.now in
    let l = c.loop-k in
    let more = c.counts in
    record {
      few_slots = omega (arith, part_inside (function_slots t) c.args.row l.k c.loop-k-test.true, l.invariant.slots_are, c.requires.few_slots, more.ensures.slots_are);
      few_funcs = omega (arith, part_inside (function_func_info t) c.args.row l.k c.loop-k-test.true, l.invariant.funcs_are, c.requires.few_funcs, more.ensures.funcs_are);
      few_lines = omega (arith, part_inside (function_line_info t) c.args.row l.k c.loop-k-test.true, l.invariant.lines_are, c.requires.few_lines, more.ensures.lines_are);
    }

pub loop-k-preserved : goal.loop-k-preserved
loop-k-preserved c =
    let t = c.args.functions.now in
    let l = c.loop-k in
    let more = c.counts in
    rw c.add-part.ensures (record {
      slots_are = omega (arith, summed_step (function_slots t) l.k, l.invariant.slots_are, more.ensures.slots_are);
      funcs_are = omega (arith, summed_step (function_func_info t) l.k, l.invariant.funcs_are, more.ensures.funcs_are);
      lines_are = omega (arith, summed_step (function_line_info t) l.k, l.invariant.lines_are, more.ensures.lines_are);
    })
