-- The map step as code does it: everything checked first, then judged again by the slots as they stand, and rewritten in place.
-- That it is the map step: `map_step_in_place_lem` (MapsCode). Not among the definitions that a reader has to believe.
-- Assumes nothing.
use mathlib.Core.List.{List, [], ◌∷◌}
use Prim.Native.Nat.{ℕ}
use Rattle.rules.specs.Object.{Insn}
use Rattle.rules.specs.Tables.{Tables}
use Rattle.rules.specs.Maps.{Task, counted, judge, all_tasks, first_refusal, rewrite, MapOutcome, mapped, unless_refused}

module _ (tables : Tables) where
  -- every task judged by the slots as they stand
  unfoldable pub rewrite_in_place : List Task → List Insn → List Insn
  rewrite_in_place [] image = image
  rewrite_in_place (t ∷ ts) image = rewrite_in_place ts (rewrite tables (judge tables image t) t image)

  -- and how many apply
  unfoldable pub applied_in_place : List Task → List Insn → ℕ
  applied_in_place [] image = 0
  applied_in_place (t ∷ ts) image = counted tables (judge tables image t) (applied_in_place ts (rewrite tables (judge tables image t) t image))

  unfoldable pub map_step_in_place : MapOutcome
  map_step_in_place =
      unless_refused tables (first_refusal tables tables.instructions (all_tasks tables))
      (mapped (rewrite_in_place (all_tasks tables) tables.instructions) (applied_in_place (all_tasks tables) tables.instructions))
