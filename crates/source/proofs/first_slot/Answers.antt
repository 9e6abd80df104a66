-- The invariant: what was added up is the sum over the first k rows, each with no more slots than a function may have.
use native.Mathlib.Omega.{arith}
use Rattle.rules.specs.declared.Table.TheVariants.{Functions}
use Rattle.rules.specs.Rows.{most_function_slots, function_slots}
use Rattle.rules.proofs.Searches.{summed_step, summed_bound}
use Rattle.rules.proofs.Passed.{good_function, few_rows}
use Rattle.source.proofs.first_slot.Goals as goal

pub overflow_add-first : goal.overflow_add-first
overflow_add-first c =
    let t = c.args.functions.now in
    record {
      fits =
          omega (
            arith,
            c.loop-k.invariant,
            c.function_slots-slots.ensures,
            few_rows Functions t c.requires.0,
            (good_function t c.requires.0 c.loop-k.k (omega (arith, c.requires.1, c.loop-k-test.true))).slots_high,
            summed_bound (function_slots t) most_function_slots c.loop-k.k
                (λ j h. (good_function t c.requires.0 j (omega (arith, c.requires.1, c.loop-k-test.true))).slots_high),
          );
    }

pub loop-k-preserved : goal.loop-k-preserved
loop-k-preserved c = omega (arith, summed_step (function_slots c.args.functions.now) c.loop-k.k, c.loop-k.invariant, c.function_slots-slots.ensures)
