-- Both passes together are the map step: rows rise, so judging again changes nothing; and slots give their bytes back.
-- Assumes nothing.
use mathlib.Core.Path.{◌≡◌, refl, sym, ap, ◌∙◌}
use mathlib.Core.Option.{Option, none, some}
use mathlib.Core.List.{List}
use Prim.Native.Nat.{ℕ}
use native.Mathlib.Omega.{arith}
use Rattle.std.specs.Prelude.{Result, Ok, Err}
use Rattle.rules.specs.declared.Places.{Places}
use Rattle.rules.specs.declared.Refusal as told
use Rattle.rules.specs.declared.Table.TheVariants.{Instructions}
use Rattle.rules.specs.Link.{Refusal}
use Rattle.rules.specs.Bytes.{little, encoded, AreBytes}
use Rattle.rules.specs.Answers.{refused_reply, reply}
use Rattle.rules.specs.Maps.{MapOutcome, mapped, all_tasks, first_refusal, unless_refused, map_step}
use Rattle.rules.specs.Rows.{Offered, total, tables_of, map_step_refusal}
use Rattle.rules.specs.Lookups.{MapChecked}
use Rattle.rules.specs.Entries.{refusal_reply, by_map_outcome, unless_map_refused, map_entry}
use Rattle.rules.proofs.InPlace.{rewrite_in_place, applied_in_place, map_step_in_place}
use Rattle.rules.proofs.Passed.{rows_rise}
use Rattle.rules.proofs.MapsCode.{map_step_in_place_lem}
use Rattle.rules.proofs.Rounds.{encoded_decoded}
use Rattle.judge.specs.Judged.{tables, slots_of}
use Rattle.maps.specs.Passes.{replied, step_refusal, AllRewritten, step_result, Relocated}
use Rattle.maps.proofs.Passes.{none_replied}

-- ---- checked tables
module _ {o : Offered} (checked : MapChecked o) where
  refused : Option Refusal
  refused = first_refusal (tables o) (slots_of o) (all_tasks (tables o))

  rewritten : MapOutcome
  rewritten = mapped (rewrite_in_place (tables o) (all_tasks (tables o)) (slots_of o)) (applied_in_place (tables o) (all_tasks (tables o)) (slots_of o))

  outcome : map_step (tables o) ≡ unless_refused (tables o) refused rewritten
  unfolding tables_of map_step_in_place refused rewritten
  outcome = sym (map_step_in_place_lem (tables o) (rows_rise o.relocations checked.tables.relocations))

  pub refused_steps : {r : told.Refusal} (s : Result Places told.Refusal) → s ≡ Err r → some (refused_reply r) ≡ step_refusal o → Relocated (step_result o) s o.instructions
  unfolding step_refusal step_result refused
  refused_steps {r} s said e = rw said (go refused refl e)
    where
      go : (x : Option Refusal) → refused ≡ x → some (refused_reply r) ≡ replied x → Relocated (step_result o) (Err r) o.instructions
      go none f e = let z : ◌≡◌ {A = ℕ} 0 1 = cc in absurd (omega arith)
      go (some why) f e =
          let said : refused_reply r ≡ refusal_reply why = cc in
          let step = outcome ∙ ap (λ x. unless_refused (tables o) x rewritten) f in
          record {
            reply = said ∙ sym (ap (λ x. (by_map_outcome little o.instructions x).reply) step);
            instructions = sym (ap (λ x. (by_map_outcome little o.instructions x).instructions) step);
          }

  pub accepted_steps : none ≡ step_refusal o → (count : ℕ) (after : List ℕ) → AllRewritten o count after → AreBytes after
      → Relocated (step_result o) (Ok (record { 0 = count; 1 = 0; 2 = 0 })) after
  unfolding step_refusal step_result refused rewritten
  accepted_steps e count after r bytes =
      let step = outcome ∙ ap (λ x. unless_refused (tables o) x rewritten) (none_replied refused (sym e)) in
      record {
        reply = ap (λ n. reply 0 n 0 0) r.count ∙ sym (ap (λ x. (by_map_outcome little o.instructions x).reply) step);
        instructions = sym (encoded_decoded little after bytes (total Instructions o.functions) (r.kept ∙ checked.tables.instructions))
            ∙ ap (encoded little) r.image ∙ sym (ap (λ x. (by_map_outcome little o.instructions x).instructions) step);
      }

-- ---- the tables as they come
module _ (o : Offered) where
  pub unchecked_relocated : {r : told.Refusal} (s : Result Places told.Refusal) → s ≡ Err r → some (refused_reply r) ≡ map_step_refusal o
      → Relocated (map_entry little o) s o.instructions
  unfolding map_entry
  unchecked_relocated s said e = rw said (record {
    reply = ap (λ x. (unless_map_refused little o x).reply) e;
    instructions = ap (λ x. (unless_map_refused little o x).instructions) e;
  })

  pub checked_relocated : none ≡ map_step_refusal o → (r : Result Places told.Refusal) (after : List ℕ) → Relocated (step_result o) r after → Relocated (map_entry little o) r after
  unfolding map_entry step_result
  checked_relocated e r after s = record {
    reply = s.reply ∙ ap (λ x. (unless_map_refused little o x).reply) e;
    instructions = s.instructions ∙ ap (λ x. (unless_map_refused little o x).instructions) e;
  }
