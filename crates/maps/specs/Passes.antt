-- What the two passes over the functions and their relocations answer and leave.
-- Assumes nothing.
use Rattle.std.specs.Prelude.{◌≡◌, List, ℕ, ◌+◌, ◌*◌, ◌≤◌, ℤ, suc, ◌<◌, ◌^◌, length, Result, Ok, Err}
use Rattle.std.proofs.Math.Option.{Option, none, some}
use Rattle.rules.specs.declared.Places.{Places}
use Rattle.rules.specs.declared.Refusal as told
use Rattle.rules.specs.declared.Table.TheVariants.{Relocations}
use Rattle.rules.specs.Link.{Refusal}
use Rattle.rules.specs.Bytes.{little, decoded}
use Rattle.rules.specs.Answers.{Reply, refused_reply, reply_of}
use Rattle.rules.specs.Maps.{changed, tasks_of, all_tasks, first_refusal, counted, judge, rewrite, map_step}
use Rattle.rules.specs.Rows.{Offered, whole_rows, function_section, function_offset, function_slots}
use Rattle.rules.specs.Lookups.{relocations_before}
use Rattle.rules.specs.Entries.{refusal_reply, MapResult, by_map_outcome}
use Rattle.rules.proofs.InPlace.{rewrite_in_place, applied_in_place}
use Rattle.judge.specs.declared.Change.{Change}
use Rattle.judge.specs.Verdicts.{Verdict, RoomFor}
use Rattle.judge.specs.Judged.{tables, slots_of, task_of, Inside}

-- ---- refusals
abbrev pub verdict_refusal : Verdict → Option Reply
verdict_refusal (Ok change) = none
verdict_refusal (Err r) = some (refused_reply r)

abbrev pub replied : Option Refusal → Option Reply
replied none = none
replied (some why) = some (refusal_reply why)

-- ---- the relocations of a function
abbrev pub end_of : List ℕ → ℕ → ℕ
end_of t row = function_offset t row + 8 * function_slots t row

-- the first row of table 4 at or after the function's start
abbrev pub first_row : List ℕ → List ℕ → ℕ → ℕ
first_row functions relocations row = relocations_before relocations (function_section functions row) (function_offset functions row)

-- the first at or after its end
abbrev pub past_row : List ℕ → List ℕ → ℕ → ℕ
past_row functions relocations row = relocations_before relocations (function_section functions row) (end_of functions row)

-- the rows from the one to the other, both counted within table 4
pub record RelocationsOf (functions relocations : List ℕ) (row start end : ℕ) : Type 0 where
  pub start_is : start ≡ first_row functions relocations row
  pub end_is : end ≡ past_row functions relocations row
  pub start_inside : start ≤ whole_rows Relocations relocations
  pub end_inside : end ≤ whole_rows Relocations relocations

-- ---- the first pass: what is refused in a function, and in all
unfoldable pub row_refusal : Offered → ℕ → Option Reply
row_refusal o row = replied (first_refusal (tables o) (slots_of o) (tasks_of (tables o) row))

unfoldable pub step_refusal : Offered → Option Reply
step_refusal o = replied (first_refusal (tables o) (slots_of o) (all_tasks (tables o)))

-- ---- the second: the slots as they stand, judged again and rewritten. `after` is then table 6
-- a change of a slot of table 6, the next one too where that gets a value
pub record ChangesInside (before : List ℕ) (change : Change) : Type 0 where
  pub inside : RoomFor (Inside before change.here.0) (Inside before (suc change.here.0)) change.value
  pub low : change.here.0 + 1 < 2 ^ 32

pub record Changed (before : List ℕ) (here : ℕ) (fd : ℤ) (value : Option ℤ) (after : List ℕ) : Type 0 where
  pub image : decoded little after ≡ changed here fd value (decoded little before)
  pub kept : length after ≡ length before

pub record OneRewritten (o : Offered) (row k r : ℕ) (after : List ℕ) : Type 0 where
  pub image : decoded little after ≡ rewrite (tables o) (judge (tables o) (slots_of o) (task_of o row k)) (task_of o row k) (slots_of o)
  pub count : (later : ℕ) → counted (tables o) (judge (tables o) (slots_of o) (task_of o row k)) later ≡ r + later
  pub kept : length after ≡ length o.instructions
  pub low : r ≤ 1

pub record RowRewritten (o : Offered) (row r : ℕ) (after : List ℕ) : Type 0 where
  pub image : decoded little after ≡ rewrite_in_place (tables o) (tasks_of (tables o) row) (slots_of o)
  pub count : r ≡ applied_in_place (tables o) (tasks_of (tables o) row) (slots_of o)
  pub kept : length after ≡ length o.instructions
  pub low : r ≤ whole_rows Relocations o.relocations

pub record AllRewritten (o : Offered) (r : ℕ) (after : List ℕ) : Type 0 where
  pub image : decoded little after ≡ rewrite_in_place (tables o) (all_tasks (tables o)) (slots_of o)
  pub count : r ≡ applied_in_place (tables o) (all_tasks (tables o)) (slots_of o)
  pub kept : length after ≡ length o.instructions

-- ---- the step
-- of checked tables
unfoldable pub step_result : Offered → MapResult
step_result o = by_map_outcome little o.instructions (map_step (tables o))

-- an answer, and what table 6 then holds
pub record Relocated (result : MapResult) (r : Result Places told.Refusal) (after : List ℕ) : Type 0 where
  pub reply : reply_of r ≡ result.reply
  pub instructions : after ≡ result.instructions
