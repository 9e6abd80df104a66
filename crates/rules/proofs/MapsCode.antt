-- The map step as code does it, checked first and then judged again and rewritten in place, is the map step.
-- Assumes nothing.
use mathlib.Core.Path.{◌≡◌, refl, ap}
use mathlib.Core.List.{List, [], ◌∷◌}
use lib.Dec.{eqb}
use lib.ListN.{length}
use Rattle.rules.specs.Object.{Insn}
use Rattle.rules.specs.Tables.{Tables, row_of}
use Rattle.rules.specs.Maps.{Task, only, counted, judge, all_tasks, applied, rewrite, map_step}
use Rattle.rules.proofs.InPlace.{applied_in_place, map_step_in_place}
use Rattle.rules.specs.Tables.{RowsRise}
use Rattle.rules.proofs.MapsInPlace.{Apart, Kept, kept_refl, judge_same, kept_next, in_place}
use Rattle.rules.proofs.MapsApart.{rising_distinct, apart_all}

counted_in_place : (tables : Tables) (orig : List Insn) (ts : List Task) (now : List Insn) → Apart tables ts → Kept tables orig now ts
    → applied_in_place tables ts now ≡ applied tables orig ts
unfolding applied_in_place applied
counted_in_place tables orig [] now apart kept = refl
counted_in_place tables orig (t ∷ ts) now apart kept =
    rw (judge_same tables orig now t ts kept)
    (ap (counted tables (judge tables orig t))
    (counted_in_place tables orig ts (rewrite tables (judge tables orig t) t now) apart.1 (kept_next tables orig t ts now apart kept (judge tables orig t) refl)))

-- valid tables: (section, offset) strictly rising
pub map_step_in_place_lem : (tables : Tables) → RowsRise tables.relocations → map_step_in_place tables ≡ map_step tables
unfolding map_step map_step_in_place
map_step_in_place_lem tables rising =
    let ts = all_tasks tables in
    let now = tables.instructions in
    let apart = apart_all tables (λ row. only (λ r. eqb r.home (row_of tables row).home) tables.relocations)
    (λ row. rising_distinct (row_of tables row).home tables.relocations rising) 0 (length tables.functions) in
    rw (in_place tables now ts now apart (kept_refl tables now ts), counted_in_place tables now ts now apart (kept_refl tables now ts)) refl
