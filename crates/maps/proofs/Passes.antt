-- The first pass, row by row and function by function: what is left to judge from here gives what was asked for.
-- Assumes nothing.
use mathlib.Core.Path.{◌≡◌, refl, sym, ap, ◌∙◌}
use mathlib.Core.Option.{Option, none, some}
use mathlib.Core.List.{[]}
use Prim.Native.Nat.{ℕ, ◌+◌, ◌-◌, ◌*◌, ◌≤◌, ◌<◌}
use native.Mathlib.Omega.{arith}
use Rattle.rules.specs.declared.Refusal as told
use Rattle.rules.specs.declared.Table.TheVariants.{Functions, Relocations}
use Rattle.rules.specs.Link.{Refusal}
use Rattle.rules.specs.Bytes.{little}
use Rattle.rules.specs.Answers.{Reply, reply, refused_reply}
use Rattle.rules.specs.Tables.{Tables}
use Rattle.rules.specs.Maps.{Task, task_slot, slot_for, tasks_of, all_tasks, or_else, refusal_by, first_refusal, place}
use Rattle.rules.specs.Rows.{most_rows, most_function_slots, Offered, whole_rows, summed, function_section, function_slots, relocation_section, relocation_row}
use Rattle.rules.specs.Lookups.{MapChecked}
use Rattle.rules.proofs.Searches.{summed_step, summed_bound, part_inside}
use Rattle.rules.proofs.Passed.{few_rows, good_function}
use Rattle.rules.proofs.Reading.{row_is, base_is}
use Rattle.std.specs.Prelude.{Ok, Err, Some, None}
use Rattle.judge.specs.Verdicts.{Verdict, verdict_of}
use Rattle.judge.specs.Judged.{tables, slots_of, task_of, slot_of, RowAsked, Asked, Judges}
use Rattle.maps.specs.Passes.{verdict_refusal, replied, RelocationsOf, first_row, past_row, row_refusal, step_refusal}
use Rattle.maps.proofs.Tasks.{refusal_joined, tasks_left, none_left, in_section, from_first, within_next, rows_left, all_rows, rows_next, rows_end}

-- ---- so many functions of so many slots
pub slots_low : {o : Offered} → MapChecked o → (row : ℕ) → row < whole_rows Functions o.functions
    → summed (function_slots o.functions) 0 row + function_slots o.functions row ≤ most_rows Functions * most_function_slots
slots_low {o} c row h =
    let bound = summed_bound (function_slots o.functions) most_function_slots (whole_rows Functions o.functions) (λ k i. (good_function o.functions c.tables.functions k i).slots_high) in
    omega (arith, bound, part_inside (function_slots o.functions) (whole_rows Functions o.functions) row h, few_rows Functions o.functions c.tables.functions)

-- ---- a refusal, with its places
module _ {o : Offered} {row first k : ℕ} (asked : Asked o row first k) where
  slot_is : task_slot (tables o) (task_of o row k) ≡ slot_of o row k
  slot_is = ap (λ f. slot_for f (relocation_row o.relocations k)) (row_is little o row asked.of_row.row_inside)

  pub place_is : place (tables o) (task_of o row k) ≡ first + slot_of o row k
  place_is =
      ap (λ n. n + task_slot (tables o) (task_of o row k)) (base_is little o row (omega (arith, asked.of_row.row_inside)) ∙ sym asked.of_row.first_is)
      ∙ ap (λ n. first + n) slot_is

  said_refusal : (v : Verdict) → Judges o row first k v → (later : Option Refusal)
      → replied (refusal_by (tables o) (verdict_of v) (task_of o row k) later) ≡ or_else (verdict_refusal v) (replied later)
  said_refusal (Ok None) j later = refl
  said_refusal (Err r) j later =
      ap (λ n. some (reply (refused_reply r).number row n 0)) slot_is ∙ ap (λ p. some (record { number = (refused_reply r).number; places = p })) (sym j.places)
  said_refusal (Ok (Some c)) j later = refl

-- ---- small steps
passed : (t : Tables) (x : Task) (v : Verdict) → verdict_refusal v ≡ none → (later : Option Refusal) → refusal_by t (verdict_of v) x later ≡ later
passed t x (Ok None) e later = refl
passed t x (Err r) e later = let z : ◌≡◌ {A = ℕ} 0 1 = cc in absurd (omega arith)
passed t x (Ok (Some c)) e later = refl

pub none_replied : (x : Option Refusal) → replied x ≡ none → x ≡ none
none_replied none e = refl
none_replied (some w) e = let z : ◌≡◌ {A = ℕ} 0 1 = cc in absurd (omega arith)

first_stands : (x y : Option Refusal) (r : Reply) → replied x ≡ some r → replied (or_else x y) ≡ some r
first_stands none y r e = let z : ◌≡◌ {A = ℕ} 0 1 = cc in absurd (omega arith)
first_stands (some w) y r e = e

-- ---- the scan of a function's relocations
-- a step of the range from k to `past`: the row n, and the range that is left
abbrev pub Steps : ℕ → ℕ → ℕ → ℕ → ℕ → Type 0
Steps k past n k' past' = (past' ≡ past) × ((0 < past - k) × (n ≡ k) × (k' ≡ k + 1))

-- from row k of table 4 on, to the row `past`
pub record JudgeScan (o : Offered) (row k past : ℕ) : Type 0 where
  pub low : first_row o.functions o.relocations row ≤ k
  pub end_is : past ≡ past_row o.functions o.relocations row
  pub end_inside : past ≤ whole_rows Relocations o.relocations
  pub left : first_refusal (tables o) (slots_of o) (tasks_of (tables o) row) ≡ first_refusal (tables o) (slots_of o) (tasks_left o row k)

module _ {o : Offered} {row first : ℕ} (asked : RowAsked o row first) where
  pub judge_start : {k past : ℕ} → RelocationsOf o.functions o.relocations row k past → JudgeScan o row k past
  judge_start {k} {past} of = record {
    low = omega (arith, of.start_is);
    end_is = of.end_is;
    end_inside = of.end_inside;
    left = (from_first o row asked.row_inside asked.checked.tables.relocations (omega (arith, of.start_is, of.start_inside))).refusals (slots_of o)
        ∙ ap (λ n. first_refusal (tables o) (slots_of o) (tasks_left o row n)) (sym of.start_is);
  }

  module _ {k past : ℕ} (scan : JudgeScan o row k past) where
    no_refusal : first_refusal (tables o) (slots_of o) [] ≡ none
    unfolding first_refusal
    no_refusal = refl

    pub judge_end : past - k ≡ 0 → none ≡ row_refusal o row
    unfolding row_refusal
    judge_end h =
        sym (ap replied (scan.left ∙ (none_left o row asked.row_inside asked.checked.tables.relocations k (omega (arith, scan.end_is, h))).refusals (slots_of o) ∙ no_refusal))

    module _ (n k' past' : ℕ) (steps : Steps k past n k' past') where
      pub asked_at : Asked o row first n
      asked_at = record { of_row = asked; k_inside = omega (arith, steps.1.0, steps.1.1, scan.end_inside) }

      in_row : relocation_section o.relocations n ≡ function_section o.functions row
      in_row = in_section o row asked.row_inside asked.checked.tables.relocations n (omega (arith, steps.1.1, scan.low)) (omega (arith, steps.1.0, steps.1.1, scan.end_is)) asked_at.k_inside

      module _ {v : Verdict} (j : Judges o row first n v) where
        rest : Option Refusal
        rest = first_refusal (tables o) (slots_of o) (tasks_left o row (n + 1))

        one_more : first_refusal (tables o) (slots_of o) (tasks_of (tables o) row) ≡ refusal_by (tables o) (verdict_of v) (task_of o row n) rest
        unfolding first_refusal rest
        one_more =
            scan.left ∙ ap (λ m. first_refusal (tables o) (slots_of o) (tasks_left o row m)) (sym steps.1.1)
            ∙ ap (first_refusal (tables o) (slots_of o)) (within_next o row n asked_at.k_inside in_row)
            ∙ ap (λ w. refusal_by (tables o) w (task_of o row n) (first_refusal (tables o) (slots_of o) (tasks_left o row (n + 1)))) (sym j.says)

        pub judge_refused : (r : told.Refusal) → some (refused_reply r) ≡ verdict_refusal v → some (refused_reply r) ≡ row_refusal o row
        unfolding row_refusal
        judge_refused r e = sym (ap replied one_more ∙ said_refusal asked_at v j rest ∙ ap (λ x. or_else x (replied rest)) (sym e))

        pub judge_next : none ≡ verdict_refusal v → JudgeScan o row k' past'
        unfolding rest
        judge_next e =
            let next : n + 1 ≡ k' = omega (arith, steps.1.1, steps.1.2) in
            record {
              low = omega (arith, scan.low, steps.1.2);
              end_is = steps.0 ∙ scan.end_is;
              end_inside = omega (arith, steps.0, scan.end_inside);
              left = one_more ∙ passed (tables o) (task_of o row n) v (sym e) rest ∙ ap (λ m. first_refusal (tables o) (slots_of o) (tasks_left o row m)) next;
            }

-- ---- the functions
pub record JudgeRows (o : Offered) (row first : ℕ) : Type 0 where
  pub high : row ≤ whole_rows Functions o.functions
  pub first_is : first ≡ summed (function_slots o.functions) 0 row
  pub left : first_refusal (tables o) (slots_of o) (all_tasks (tables o)) ≡ first_refusal (tables o) (slots_of o) (rows_left o row)

pub judge_rows_start : (o : Offered) → JudgeRows o 0 0
judge_rows_start o = record { high = omega arith; first_is = refl; left = ap (first_refusal (tables o) (slots_of o)) (all_rows o) }

module _ {o : Offered} (checked : MapChecked o) {row first : ℕ} (scan : JudgeRows o row first) where
  pub judge_rows_end : whole_rows Functions o.functions ≤ row → none ≡ step_refusal o
  unfolding first_refusal step_refusal
  judge_rows_end h = sym (ap replied (scan.left ∙ ap (first_refusal (tables o) (slots_of o)) (rows_end o row h)))

  module _ (h : row < whole_rows Functions o.functions) where
    pub judge_rows_asked : RowAsked o row first
    judge_rows_asked = record { checked = checked; row_inside = h; first_is = scan.first_is }

    one_row : first_refusal (tables o) (slots_of o) (all_tasks (tables o))
        ≡ or_else (first_refusal (tables o) (slots_of o) (tasks_of (tables o) row)) (first_refusal (tables o) (slots_of o) (rows_left o (row + 1)))
    one_row =
        scan.left ∙ ap (first_refusal (tables o) (slots_of o)) (rows_next o row h)
        ∙ refusal_joined (tables o) (slots_of o) (tasks_of (tables o) row) (rows_left o (row + 1))

    pub judge_rows_refused : (r : told.Refusal) → some (refused_reply r) ≡ row_refusal o row → some (refused_reply r) ≡ step_refusal o
    unfolding row_refusal step_refusal
    judge_rows_refused r e =
        sym (ap replied one_row
        ∙ first_stands (first_refusal (tables o) (slots_of o) (tasks_of (tables o) row)) (first_refusal (tables o) (slots_of o) (rows_left o (row + 1))) (refused_reply r) (sym e))

    pub judge_rows_next : (slots : ℕ) → slots ≡ function_slots o.functions row → none ≡ row_refusal o row → JudgeRows o (row + 1) (first + slots)
    unfolding row_refusal
    judge_rows_next slots e j = record {
      high = omega arith;
      first_is = omega (arith, scan.first_is, e, summed_step (function_slots o.functions) row);
      left = one_row
          ∙ ap (λ x. or_else x (first_refusal (tables o) (slots_of o) (rows_left o (row + 1)))) (none_replied (first_refusal (tables o) (slots_of o) (tasks_of (tables o) row)) (sym j));
    }
