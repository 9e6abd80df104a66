-- Every call of the cycle leaves fewer functions without a start.
use Rattle.std.proofs.Common.{◌-◌, ◌+◌, ◌*◌, ◌≤◌}
use Rattle.rules.specs.declared.Table.TheVariants.{Relocations}
use Rattle.rules.specs.Lent.{lent, lent_image}
use Rattle.rules.specs.Rows.{whole_rows, function_slots, function_section, function_offset}
use Rattle.rows.proofs.Cursor.{Behind}
use Rattle.merge.specs.Merge.{SameOutputs}
use Rattle.linker.specs.Linker.{unplaced}
use Rattle.linker.proofs.Steps.{Inv}
use Rattle.linker.proofs.+link_function_placed_relocate.Given as goal

abbrev pub decreases-link_function : goal.decreases-link_function
decreases-link_function l = 3 * unplaced l.st.starts

abbrev pub decreases-placed : goal.decreases-placed
decreases-placed l = 3 * unplaced l.st.starts + 1

abbrev pub decreases-relocate : goal.decreases-relocate
decreases-relocate l = 3 * unplaced l.st.starts + 2

abbrev pub invariant-relocate-loop-cur : goal.invariant-relocate-loop-cur
invariant-relocate-loop-cur l =
    let relocations = l.names.relocations.now in
    (l.cur ≤ whole_rows Relocations relocations) × Behind relocations (function_section l.names.functions.now l.row) (function_offset l.names.functions.now l.row + 8 * l.slot) l.cur

abbrev pub decreases-relocate-loop-cur : goal.decreases-relocate-loop-cur
decreases-relocate-loop-cur l = whole_rows Relocations l.names.relocations.now - l.cur

abbrev pub invariant-relocate-loop-slot : goal.invariant-relocate-loop-slot
invariant-relocate-loop-slot l =
    let relocations = l.names.relocations.now in
    Inv (lent l.names l.program) l.initial.now (lent_image l.initial.image) l.row l.start.0 (function_slots l.names.functions.now l.row) l.now (lent_image l.image) l.slot
    × ((l.cur ≤ whole_rows Relocations relocations) × Behind relocations (function_section l.names.functions.now l.row) (function_offset l.names.functions.now l.row + 8 * l.slot) l.cur)
    × SameOutputs l.initial.image l.image

abbrev pub decreases-relocate-loop-slot : goal.decreases-relocate-loop-slot
decreases-relocate-loop-slot l = function_slots l.names.functions.now l.row - l.slot
