-- Demand 2. For all tables, hidden order, room and root in the domain: both steps of the crate give our image and records, or the error of our refusal's cause.
-- Assumes nothing.
use mathlib.Core.Path.{◌≡◌, refl, sym, ◌∙◌, ap, subst}
use mathlib.Core.Bool.{Bool, true, false, ◌&&◌}
use mathlib.Core.Option.{Option, none, some}
use mathlib.Core.List.{List, [], ◌∷◌}
use Prim.Native.Nat.{ℕ, zero, suc, ◌+◌, ◌<◌}
use native.Mathlib.Nat.{zero-add, add-zero, add-suc, suc-add}
use native.Mathlib.Omega.{arith}
use lib.IntN.{pos}
use lib.Dec.{eqb}
use lib.ListN.{length, get_or}
use borrow.Author.Tests.{eqb-true, eq-eqb}
use Rattle.rules.specs.Object.{Insn}
use Rattle.rules.specs.Faithful.{slot_at}
use Rattle.rules.specs.Link.{Refusal, Outcome, linked, refuses, unfinished}
use Rattle.rules.specs.Tables.{Function, Tables, no_function, first_row, is_at, row_of}
use Rattle.rules.specs.Maps as Maps
use Rattle.rules.specs.Maps.{first_refusal, all_tasks, applied, rewrite_all, MapOutcome, mapped, unless_refused, map_step}
use Rattle.rules.specs.Records.{Room, image_functions, image_lines, admits, root_admits, link_step}
use Rattle.equality.specs.Crate as Crate
use Rattle.equality.specs.Crate.{Result, err, bind, Linker, object_relocate_maps, get_function, or_unknown_program, relocate_calls}
use Rattle.equality.specs.Domain.{Hidden, crate_function, crate_of, Limits, Plain, Compared, cause_of, MapDomain, CallDomain, LinkDomain, with_instructions}
use Rattle.equality.specs.Demand2.{with_functions, both_steps, refusal, by_link, by_maps, our_steps, valid_tables, compared_only, Domain, Equal, EqualWithin, EqualMaps}
use Rattle.rules.proofs.Ending.{Finished}
use Rattle.rules.proofs.Lookups.{tables_finish}
use Rattle.equality.proofs.Clauses.{map_clauses, call_clauses}
use Rattle.equality.proofs.CrateSlots.{via_row, same_function}
use Rattle.equality.proofs.CrateLink.{Agree, link_agrees}
use Rattle.equality.proofs.MapsAgree.{maps_done, maps_refused}
use Rattle.equality.proofs.MapsAfter.{all_plain, limits_after, known_after_maps}

-- the row that passes, where none before it does
first_at : {A : Type 0} (test : A → Bool) (d : A) (xs : List A) (k from : ℕ) → k < length xs → test (get_or xs k d) ≡ true
    → ((j : ℕ) → j < k → test (get_or xs j d) ≡ false) → first_row test from xs ≡ some (from + k)
first_at test d [] k from l t before = absurd (omega arith)
first_at test d (x ∷ xs) zero from l t before = rw (t, add-zero from) refl
first_at test d (x ∷ xs) (suc k) from l t before =
    rw (before 0 (omega arith), add-suc from k, ← (suc-add from k)) (first_at test d xs k (suc from) (omega arith) t (λ j b. before (suc j) (omega arith)))

module _ (tables : Tables) (hidden : Hidden) (root : ℕ) (limits : Limits tables) (root_row : root < length tables.functions)
    (keys : (a b : ℕ) → a < length tables.functions → b < length tables.functions → (row_of tables a).home ≡ (row_of tables b).home
    → (row_of tables a).address ≡ (row_of tables b).address → a ≡ b) where
  abbrev test : Function → Bool
  test f = eqb f.home (row_of tables root).home && is_at f.address (pos (row_of tables root).address)

  earlier : (j : ℕ) → j < root → (b c : Bool) → eqb (row_of tables j).home (row_of tables root).home ≡ b → eqb (row_of tables j).address (row_of tables root).address ≡ c → (b && c) ≡ false
  earlier j l true true p q =
      let same = keys j root (omega arith) root_row (eqb-true (row_of tables j).home (row_of tables root).home p) (eqb-true (row_of tables j).address (row_of tables root).address q) in
      absurd (omega arith)
  earlier j l true false p q = refl
  earlier j l false c p q = refl

  -- the crate finds the root by its key
  root_found : get_function (crate_of tables hidden) (row_of tables root).home (row_of tables root).address ≡ some (crate_function tables hidden root)
  root_found =
      same_function tables hidden limits (row_of tables root).home (pos (row_of tables root).address) (row_of tables root).address (λ m l. refl)
      ∙ ap (via_row (crate_function tables hidden))
      (first_at test no_function tables.functions root 0 root_row
      (rw (eq-eqb (row_of tables root).home (row_of tables root).home refl, eq-eqb (row_of tables root).address (row_of tables root).address refl) refl)
      (λ j l. earlier j l (eqb (row_of tables j).home (row_of tables root).home) (eqb (row_of tables j).address (row_of tables root).address) refl refl)
      ∙ ap some (zero-add root))

module _ (tables : Tables) (hidden : Hidden) (room : Room) (root : ℕ) (domain : Domain tables hidden room root) where
  abbrev crate_run : Result (List Crate.Function) → Result Linker
  crate_run x = bind x (λ functions. relocate_calls (with_functions (crate_of tables hidden) functions) (row_of tables root).home (row_of tables root).address)

  for_maps : MapDomain tables hidden
  for_maps = record {
    limits = (domain.holds valid_tables tt).limits;
    whole = (domain.holds valid_tables tt).whole;
    rising = (domain.holds valid_tables tt).rising;
    once = (domain.holds valid_tables tt).once;
    clauses = map_clauses domain;
  }

  after : (instructions : List Insn) (count : ℕ) → map_step tables ≡ mapped instructions count → LinkDomain (with_instructions tables instructions) hidden room root
  unfolding map_step
  after instructions count e = go (first_refusal tables tables.instructions (all_tasks tables)) refl e (call_clauses domain instructions count e)
    where
      go : (o : Option Refusal) → first_refusal tables tables.instructions (all_tasks tables) ≡ o
          → unless_refused tables o (mapped (rewrite_all tables tables.instructions (all_tasks tables) tables.instructions) (applied tables tables.instructions (all_tasks tables)))
          ≡ mapped instructions count → CallDomain (with_instructions tables instructions) hidden room root → LinkDomain (with_instructions tables instructions) hidden room root
      go (some why) f e c = let z : ◌≡◌ {A = ℕ} 0 1 = cc in absurd (omega arith)
      go none f e c =
          let same : rewrite_all tables tables.instructions (all_tasks tables) tables.instructions ≡ instructions = cc in
          record {
            limits = limits_after tables instructions (domain.holds valid_tables tt).limits
                (subst (λ x. (k : ℕ) → Plain (slot_at x k)) same (all_plain tables (domain.holds valid_tables tt).fds tables.instructions (all_tasks tables) tables.instructions (domain.holds valid_tables tt).limits.plain));
            known = known_after_maps tables tables.instructions f;
            room_limits = (domain.holds valid_tables tt).room_limits;
            clauses = c;
          }

  module _ (instructions : List Insn) (count : ℕ) (e : map_step tables ≡ mapped instructions count) where
    abbrev now : Tables
    now = with_instructions tables instructions

    -- the crate's run, after an accepted map step, is its link of the tables as they are left
    crate_links : crate_run (object_relocate_maps (crate_of tables hidden) hidden.maps) ≡ Crate.link (crate_of now hidden) (crate_function now hidden root)
    unfolding crate_of relocate_calls
    crate_links =
        ap crate_run (maps_done tables hidden for_maps instructions count e)
        ∙ ap (or_unknown_program (crate_of now hidden)) (root_found now hidden root (after instructions count e).limits (domain.holds valid_tables tt).root_row (domain.holds valid_tables tt).keys)

    answer : (o : Outcome) → Agree now hidden room root o (Crate.link (crate_of now hidden) (crate_function now hidden root)) → Finished o
        → ((why : Refusal) → by_link o ≡ refusal why → Compared why.number) → Equal tables root (by_link o) (Crate.link (crate_of now hidden) (crate_function now hidden root))
    unfolding image_functions image_lines
    answer (linked final) agree f c = record {
      linker = agree.linker;
      is_ok = agree.is_ok;
      instructions = agree.same.instructions;
      functions = agree.same.functions;
      lines = agree.same.lines;
      func_num = agree.same.func_count ∙ ap length agree.same.functions;
      line_num = agree.same.line_count ∙ ap length agree.same.lines;
    }
    answer (refuses why) agree f c = let a = agree (c why refl) in a.1 ∙ ap (λ n. err (cause_of n)) (sym a.0)
    answer unfinished agree f c = f

    link_finishes : Finished (link_step now room root)
    unfolding link_step
    link_finishes = tables_finish now (admits now room root) (root_admits now room root) root

  pub demand_2 : Equal tables root (our_steps tables room root) (both_steps (crate_of tables hidden) hidden.maps (row_of tables root).home (row_of tables root).address)
  unfolding our_steps both_steps
  demand_2 = go (map_step tables) refl (domain.holds compared_only tt)
    where
      go : (o : MapOutcome) → map_step tables ≡ o → ((why : Refusal) → by_maps tables room root o ≡ refusal why → Compared why.number)
          → Equal tables root (by_maps tables room root o) (crate_run (object_relocate_maps (crate_of tables hidden) hidden.maps))
      go (mapped instructions count) e c =
          rw (crate_links instructions count e)
          (answer instructions count e (link_step (with_instructions tables instructions) room root)
          (link_agrees (with_instructions tables instructions) hidden room root (after instructions count e)) (link_finishes instructions count e) c)
      go (Maps.refuses why) e c = ap crate_run (maps_refused tables hidden for_maps why e (c why refl))

  refused_first : (why : Refusal) → map_step tables ≡ Maps.refuses why → our_steps tables room root ≡ refusal why
  unfolding our_steps
  refused_first why e = ap (by_maps tables room root) e

  pub demand_2_maps : EqualMaps tables hidden (map_step tables) (object_relocate_maps (crate_of tables hidden) hidden.maps)
  demand_2_maps = go (map_step tables) refl
    where
      go : (o : MapOutcome) → map_step tables ≡ o → EqualMaps tables hidden o (object_relocate_maps (crate_of tables hidden) hidden.maps)
      go (mapped instructions count) e = maps_done tables hidden for_maps instructions count e
      go (Maps.refuses why) e = maps_refused tables hidden for_maps why e (domain.holds compared_only tt why (refused_first why e))

-- all clauses are enough (and none is too many: proofs/Needed.antt)
pub equal_within : EqualWithin (λ c. Unit {0})
equal_within = demand_2
