-- The invariant: the functions that are left give the first refusal.
use Prim.Native.Nat.{◌≤◌}
use Rattle.rules.specs.declared.Table.TheVariants.{Relocations}
use Rattle.rules.specs.Lent.{lent_maps}
use Rattle.rules.specs.Rows.{whole_rows}
use Rattle.maps.proofs.Passes.{JudgeRows}
use Rattle.maps.proofs.judge_all.Given as goal

abbrev pub invariant-loop-row : goal.invariant-loop-row
invariant-loop-row l = JudgeRows (lent_maps l.names l.maps l.instructions) l.row l.first.0 × (l.near ≤ whole_rows Relocations l.names.relocations.now)
