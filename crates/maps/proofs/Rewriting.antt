-- The second pass, row by row and function by function: what is left to rewrite from here gives what was asked for.
-- Assumes nothing.
use mathlib.Core.Path.{◌≡◌, refl, sym, ap, ◌∙◌, subst}
use mathlib.Core.Option.{Option, none, some}
use mathlib.Core.List.{List, ◌∷◌}
use Prim.Native.Nat.{ℕ, suc, ◌+◌, ◌-◌, ◌*◌, ◌≤◌, ◌<◌, ◌^◌}
use native.Mathlib.Numerals.{add-one}
use native.Mathlib.Omega.{arith}
use lib.IntN.{ℤ}
use lib.ListN.{length}
use mir.Syntax.{w32}
use mir.Val.{to_z, of_z, SFits}
use mir.ValLaws.{to_z-of_z}
use Rattle.rules.specs.declared.Table.TheVariants.{Functions, Relocations}
use Rattle.rules.specs.Bytes.{little, slot_size, decoded, immediate_stored, source_stored}
use Rattle.rules.specs.Maps as step
use Rattle.rules.specs.Maps.{judge, tasks_of, all_tasks, counted, rewrite, place, changed, change}
use Rattle.rules.specs.Rows.{most_rows, most_function_slots, Offered, tables_of, whole_rows, summed, total, function_section, function_slots, relocation_section}
use Rattle.rules.specs.Lookups.{MapChecked}
use Rattle.rules.proofs.Searches.{summed_step, summed_bound}
use Rattle.rules.proofs.Passed.{few_rows, good_function}
use Rattle.rules.proofs.Machine.{sfits32}
use Rattle.rules.proofs.InPlace.{rewrite_in_place, applied_in_place}
use Rattle.rules.proofs.MapsBytes.{changed_stored, value_stored}
use Rattle.rules.proofs.Writing.{bytes_kept, source_kept}
use Rattle.std.specs.Prelude.{Ok, Err, Some, None}
use Rattle.judge.specs.declared.Change.{Change}
use Rattle.judge.specs.Verdicts.{Verdict, value_of, RoomFor}
use Rattle.judge.specs.Judged.{with_instructions, tables, slots_of, task_of, slot_of, RowAsked, Asked, Inside, Judges}
use Rattle.maps.specs.Passes.{RelocationsOf, first_row, past_row, ChangesInside, Changed, OneRewritten, RowRewritten, AllRewritten}
use Rattle.maps.proofs.Tasks.{rewrite_joined, count_joined, tasks_left, none_left, in_section, from_first, within_next, rows_left, all_rows, rows_next, rows_end, rewrites_other, counts_other}
use Rattle.maps.proofs.Passes.{place_is, Steps}

-- ---- the checks hold of any bytes of that length
still_checked : {o : Offered} (after : List ℕ) → length after ≡ length o.instructions → MapChecked o → MapChecked (with_instructions o after)
still_checked after e c = record {
  tables = record {
    code = c.tables.code;
    symbols = c.tables.symbols;
    functions = c.tables.functions;
    relocations = c.tables.relocations;
    few = rw e c.tables.few;
    instructions = e ∙ c.tables.instructions;
  };
  maps = c.maps;
}

-- ---- table 6 is short
pub short : {o : Offered} → MapChecked o → length o.instructions ≤ slot_size * (most_rows Functions * most_function_slots)
unfolding total
short {o} c =
    let bound = summed_bound (function_slots o.functions) most_function_slots (whole_rows Functions o.functions) (λ k h. (good_function o.functions c.tables.functions k h).slots_high) in
    omega (arith, bound, few_rows Functions o.functions c.tables.functions, c.tables.instructions)

-- ---- the stores
plain_stored : (before mid after : List ℕ) (here : ℕ) (fd : ℤ) → SFits w32 fd → Inside before here → mid ≡ source_stored little 1 before here
    → after ≡ immediate_stored little mid here (to_z w32 (of_z w32 fd)) → Changed before here fd none after
plain_stored before mid after here fd f inside e₁ e₂ =
    let fits = sfits32 fd f in
    let e : after ≡ immediate_stored little (source_stored little 1 before here) here fd = e₂ ∙ ap (immediate_stored little mid here) (to_z-of_z w32 fd f) ∙ ap (λ m. immediate_stored little m here fd) e₁ in
    let k = source_kept little 1 (omega arith) before here inside in
    record {
      image = ap (decoded little) e ∙ changed_stored little before here fd fits inside;
      kept = ap length e ∙ bytes_kept little (source_stored little 1 before here) here fd fits (omega arith) ∙ k;
    }

value_stored_at : (before first second after : List ℕ) (here next : ℕ) (fd value : ℤ) → SFits w32 fd → SFits w32 value → Inside before (suc here) → next ≡ here + 1
    → first ≡ source_stored little 2 before here → second ≡ immediate_stored little first next (to_z w32 (of_z w32 value))
    → after ≡ immediate_stored little second here (to_z w32 (of_z w32 fd)) → Changed before here fd (some value) after
value_stored_at before first second after here next fd value f v inside n e₁ e₂ e₃ =
    let fits = sfits32 fd f in
    let value_fits = sfits32 value v in
    let s : second ≡ immediate_stored little (source_stored little 2 before here) (suc here) value =
    e₂ ∙ ap (immediate_stored little first next) (to_z-of_z w32 value v) ∙ ap (λ m. immediate_stored little m next value) e₁
    ∙ ap (λ m. immediate_stored little (source_stored little 2 before here) m value) (n ∙ add-one here) in
    let e : after ≡ immediate_stored little (immediate_stored little (source_stored little 2 before here) (suc here) value) here fd =
    e₃ ∙ ap (immediate_stored little second here) (to_z-of_z w32 fd f) ∙ ap (λ m. immediate_stored little m here fd) s in
    let k : length (source_stored little 2 before here) ≡ length before = source_kept little 2 (omega arith) before here (omega arith) in
    let k₂ : length (immediate_stored little (source_stored little 2 before here) (suc here) value) ≡ length (source_stored little 2 before here) =
    bytes_kept little (source_stored little 2 before here) (suc here) value value_fits (omega arith) in
    record {
      image = ap (decoded little) e ∙ value_stored little before here fd fits value value_fits inside;
      kept = ap length e ∙ bytes_kept little (immediate_stored little (source_stored little 2 before here) (suc here) value) here fd fits (omega arith) ∙ k₂ ∙ k;
    }

pub plain_changed : (change : Change) {before mid after : List ℕ} → SFits w32 change.fd → change.value ≡ None → ChangesInside before change
    → mid ≡ source_stored little 1 before change.here.0 → after ≡ immediate_stored little mid change.here.0 (to_z w32 (of_z w32 change.fd))
    → Changed before change.here.0 change.fd (value_of change.value) after
plain_changed change {before} {mid} {after} f e i e₁ e₂ =
    rw e (plain_stored before mid after change.here.0 change.fd f (rw e at i.inside) e₁ e₂)

pub value_changed : (change : Change) {before first second after : List ℕ} {next : ℕ} {value : ℤ} → SFits w32 change.fd → SFits w32 value → change.value ≡ Some value
    → ChangesInside before change → next ≡ change.here.0 + 1 → first ≡ source_stored little 2 before change.here.0
    → second ≡ immediate_stored little first next (to_z w32 (of_z w32 value)) → after ≡ immediate_stored little second change.here.0 (to_z w32 (of_z w32 change.fd))
    → Changed before change.here.0 change.fd (value_of change.value) after
value_changed change {before} {first} {second} {after} {next} {value} f v e i n e₁ e₂ e₃ =
    rw e (value_stored_at before first second after change.here.0 next change.fd value f v (rw e at i.inside) n e₁ e₂ e₃)

-- ---- one relocation
module _ {o : Offered} {row first k : ℕ} (asked : Asked o row first k) where
  -- what changes nothing
  idle : (v : step.Verdict) → v ≡ judge (tables o) (slots_of o) (task_of o row k) → rewrite (tables o) v (task_of o row k) (slots_of o) ≡ slots_of o
      → ((later : ℕ) → counted (tables o) v later ≡ later) → OneRewritten o row k 0 o.instructions
  idle v e same None-more = record {
    image = sym (ap (λ w. rewrite (tables o) w (task_of o row k) (slots_of o)) (sym e) ∙ same);
    count = λ later. ap (λ w. counted (tables o) w later) (sym e) ∙ None-more later ∙ (let z : later ≡ 0 + later = omega arith in z);
    kept = refl;
    low = omega arith;
  }

  pub idle_rewritten : (v : Verdict) → ((change : Change) → v ≡ Ok (Some change) → ⊥) → Judges o row first k v → OneRewritten o row k 0 o.instructions
  idle_rewritten (Ok None) n j = idle step.skipped j.says refl (λ later. refl)
  idle_rewritten (Ok (Some change)) n j = absurd (n change refl)
  idle_rewritten (Err r) n j = idle (step.refused _) j.says refl (λ later. refl)

  -- what is changed at its place
  applied : (here : ℕ) (fd : ℤ) (value : Option ℤ) (after : List ℕ) → here ≡ first + slot_of o row k
      → step.applies (change fd value) ≡ judge (tables o) (slots_of o) (task_of o row k) → Changed o.instructions here fd value after → OneRewritten o row k 1 after
  applied here fd value after here_is e c = record {
    image = c.image ∙ ap (λ n. changed n fd value (slots_of o)) (here_is ∙ sym (place_is asked)) ∙ ap (λ w. rewrite (tables o) w (task_of o row k) (slots_of o)) e;
    count = λ later. ap (λ w. counted (tables o) w later) (sym e) ∙ (let z : suc later ≡ 1 + later = omega arith in z);
    kept = c.kept;
    low = omega arith;
  }

  module _ (change : Change) (j : Judges o row first k (Ok (Some change))) where
    room_low : (n : ℕ) (value : _) → RoomFor (Inside o.instructions n) (Inside o.instructions (suc n)) value → n + 1 < 2 ^ 32
    room_low n None inside = omega (arith, short asked.of_row.checked)
    room_low n (Some value) inside = omega (arith, short asked.of_row.checked)

    pub changes_inside : ChangesInside o.instructions change
    changes_inside =
        let inside = subst (λ n. RoomFor (Inside o.instructions n) (Inside o.instructions (suc n)) change.value) (sym j.places.0) j.places.1 in
        record { inside = inside; low = room_low change.here.0 change.value inside }

    pub change_rewritten : (after : List ℕ) → Changed o.instructions change.here.0 change.fd (value_of change.value) after → OneRewritten o row k 1 after
    change_rewritten after c = applied change.here.0 change.fd (value_of change.value) after j.places.0 j.says c

joined : (a b c : ℕ) → a + (b + c) ≡ a + b + c
joined a b c = omega arith

from_zero : (n : ℕ) → n ≡ 0 + n
from_zero n = omega arith

no_more : (n : ℕ) → n + 0 ≡ n
no_more n = omega arith

-- ---- the scan of a function's relocations, from row k of table 4 on to the row `past`; `now` is table 6 as it stands
pub record RewriteScan (o : Offered) (now : List ℕ) (row k past count : ℕ) : Type 0 where
  pub low : first_row o.functions o.relocations row ≤ k
  pub high : k ≤ whole_rows Relocations o.relocations
  pub end_is : past ≡ past_row o.functions o.relocations row
  pub end_inside : past ≤ whole_rows Relocations o.relocations
  pub kept : length now ≡ length o.instructions
  pub few : count ≤ k
  pub image : rewrite_in_place (tables o) (tasks_of (tables o) row) (slots_of o) ≡ rewrite_in_place (tables o) (tasks_left o row k) (decoded little now)
  pub counts : applied_in_place (tables o) (tasks_of (tables o) row) (slots_of o) ≡ count + applied_in_place (tables o) (tasks_left o row k) (decoded little now)

module _ {o : Offered} {row first : ℕ} (asked : RowAsked o row first) where
  pub rewrite_start : {k past : ℕ} → RelocationsOf o.functions o.relocations row k past → RewriteScan o o.instructions row k past 0
  rewrite_start {k} {past} of =
      let first = from_first o row asked.row_inside asked.checked.tables.relocations (omega (arith, of.start_is, of.start_inside)) in
      record {
        low = omega (arith, of.start_is);
        high = of.start_inside;
        end_is = of.end_is;
        end_inside = of.end_inside;
        kept = refl;
        few = omega arith;
        image = first.rewrites (slots_of o) ∙ ap (λ n. rewrite_in_place (tables o) (tasks_left o row n) (slots_of o)) (sym of.start_is);
        counts = first.counts (slots_of o) ∙ from_zero _ ∙ ap (λ n. 0 + applied_in_place (tables o) (tasks_left o row n) (slots_of o)) (sym of.start_is);
      }

  module _ {now : List ℕ} {k past count : ℕ} (scan : RewriteScan o now row k past count) where
    pub rewrite_end : past - k ≡ 0 → RowRewritten o row count now
    unfolding rewrite_in_place applied_in_place
    rewrite_end h =
        let None-more = none_left o row asked.row_inside asked.checked.tables.relocations k (omega (arith, scan.end_is, h)) in
        record {
          image = sym (scan.image ∙ None-more.rewrites (decoded little now));
          count = sym (scan.counts ∙ ap (λ n. count + n) (None-more.counts (decoded little now)) ∙ no_more count);
          kept = scan.kept;
          low = omega (arith, scan.few, scan.high);
        }

    module _ (n k' past' : ℕ) (steps : Steps k past n k' past') where
      inside-n : n < whole_rows Relocations o.relocations
      inside-n = omega (arith, steps.1.0, steps.1.1, scan.end_inside)

      in_row : relocation_section o.relocations n ≡ function_section o.functions row
      in_row = in_section o row asked.row_inside asked.checked.tables.relocations n (omega (arith, steps.1.1, scan.low)) (omega (arith, steps.1.0, steps.1.1, scan.end_is)) inside-n

      pub rewrite_asked : Asked (with_instructions o now) row first n
      rewrite_asked = record {
        of_row = record { checked = still_checked now scan.kept asked.checked; row_inside = asked.row_inside; first_is = asked.first_is };
        k_inside = inside-n;
      }

      module _ {r : ℕ} {after : List ℕ} (one : OneRewritten (with_instructions o now) row n r after) where
        -- only the slots as they stand are looked at
        image_after : decoded little after
            ≡ rewrite (tables o) (judge (tables o) (decoded little now) (task_of o row n)) (task_of o row n) (decoded little now)
        unfolding judge tables_of
        image_after = one.image

        count_after : (later : ℕ) → counted (tables o) (judge (tables o) (decoded little now) (task_of o row n)) later ≡ r + later
        unfolding judge tables_of
        count_after = one.count

        left_now : tasks_left o row k ≡ task_of o row n ∷ tasks_left o row k'
        left_now =
            let next : n + 1 ≡ k' = omega (arith, steps.1.1, steps.1.2) in
            ap (tasks_left o row) (sym steps.1.1) ∙ within_next o row n inside-n in_row ∙ ap (λ m. task_of o row n ∷ tasks_left o row m) next

        pub rewrite_next : RewriteScan o after row k' past' (count + r)
        unfolding rewrite_in_place applied_in_place
        rewrite_next = record {
          low = omega (arith, scan.low, steps.1.2);
          high = omega (arith, inside-n, steps.1.1, steps.1.2);
          end_is = steps.0 ∙ scan.end_is;
          end_inside = omega (arith, steps.0, scan.end_inside);
          kept = one.kept ∙ scan.kept;
          few = omega (arith, scan.few, one.low, steps.1.2);
          image = scan.image ∙ ap (λ z. rewrite_in_place (tables o) z (decoded little now)) left_now
              ∙ ap (rewrite_in_place (tables o) (tasks_left o row k')) (sym image_after);
          counts = scan.counts ∙ ap (λ z. count + applied_in_place (tables o) z (decoded little now)) left_now
              ∙ ap (λ m. count + m) (count_after _)
              ∙ ap (λ i. count + (r + applied_in_place (tables o) (tasks_left o row k') i)) (sym image_after)
              ∙ joined count r _;
        }

-- ---- the functions
pub record RewriteRows (o : Offered) (now : List ℕ) (row first count : ℕ) : Type 0 where
  pub high : row ≤ whole_rows Functions o.functions
  pub first_is : first ≡ summed (function_slots o.functions) 0 row
  pub kept : length now ≡ length o.instructions
  pub few : count ≤ most_rows Relocations * row
  pub image : rewrite_in_place (tables o) (all_tasks (tables o)) (slots_of o) ≡ rewrite_in_place (tables o) (rows_left o row) (decoded little now)
  pub counts : applied_in_place (tables o) (all_tasks (tables o)) (slots_of o) ≡ count + applied_in_place (tables o) (rows_left o row) (decoded little now)

pub rewrite_rows_start : (o : Offered) → RewriteRows o o.instructions 0 0 0
rewrite_rows_start o = record {
  high = omega arith;
  first_is = refl;
  kept = refl;
  few = omega arith;
  image = ap (λ z. rewrite_in_place (tables o) z (slots_of o)) (all_rows o);
  counts = ap (λ z. applied_in_place (tables o) z (slots_of o)) (all_rows o) ∙ from_zero _;
}

module _ {o : Offered} (checked : MapChecked o) {now : List ℕ} {row first count : ℕ} (scan : RewriteRows o now row first count) where
  pub rewrite_rows_end : whole_rows Functions o.functions ≤ row → AllRewritten o count now
  unfolding rewrite_in_place applied_in_place
  rewrite_rows_end h = record {
    image = sym (scan.image ∙ ap (λ z. rewrite_in_place (tables o) z (decoded little now)) (rows_end o row h));
    count = sym (scan.counts ∙ ap (λ z. count + applied_in_place (tables o) z (decoded little now)) (rows_end o row h) ∙ no_more count);
    kept = scan.kept;
  }

  module _ (h : row < whole_rows Functions o.functions) where
    pub rewrite_rows_asked : RowAsked (with_instructions o now) row first
    rewrite_rows_asked = record { checked = still_checked now scan.kept checked; row_inside = h; first_is = scan.first_is }

    module _ {r : ℕ} {after : List ℕ} (one : RowRewritten (with_instructions o now) row r after) (slots : ℕ) (slots_are : slots ≡ function_slots o.functions row) where
      image_then : decoded little after ≡ rewrite_in_place (tables o) (tasks_of (tables o) row) (decoded little now)
      unfolding tables_of
      image_then = one.image ∙ rewrites_other o now (tasks_of (tables o) row) (decoded little now)

      count_then : r ≡ applied_in_place (tables o) (tasks_of (tables o) row) (decoded little now)
      unfolding tables_of
      count_then = one.count ∙ counts_other o now (tasks_of (tables o) row) (decoded little now)

      pub rewrite_rows_next : RewriteRows o after (row + 1) (first + slots) (count + r)
      rewrite_rows_next = record {
        high = omega arith;
        first_is = omega (arith, scan.first_is, slots_are, summed_step (function_slots o.functions) row);
        kept = one.kept ∙ scan.kept;
        few = omega (arith, scan.few, one.low, few_rows Relocations o.relocations checked.tables.relocations);
        image = scan.image ∙ ap (λ z. rewrite_in_place (tables o) z (decoded little now)) (rows_next o row h)
            ∙ rewrite_joined (tables o) (tasks_of (tables o) row) (rows_left o (row + 1)) (decoded little now)
            ∙ ap (rewrite_in_place (tables o) (rows_left o (row + 1))) (sym image_then);
        counts = scan.counts ∙ ap (λ z. count + applied_in_place (tables o) z (decoded little now)) (rows_next o row h)
            ∙ ap (λ n. count + n) (count_joined (tables o) (tasks_of (tables o) row) (rows_left o (row + 1)) (decoded little now))
            ∙ ap (λ n. count + (n + applied_in_place (tables o) (rows_left o (row + 1)) (rewrite_in_place (tables o) (tasks_of (tables o) row) (decoded little now)))) (sym count_then)
            ∙ ap (λ i. count + (r + applied_in_place (tables o) (rows_left o (row + 1)) i)) (sym image_then)
            ∙ joined count r _;
      }
