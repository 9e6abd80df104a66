-- In the domain, what our two entries write is the crate's, as bytes: `demand_2` carried from tables to the bytes that are offered and lent.
-- Assumes nothing.
use mathlib.Core.Path.{◌≡◌, refl, sym, ◌∙◌, ap, subst}
use mathlib.Core.Logic.{◌≢◌, inl, inr}
use mathlib.Core.Bool.{cond}
use mathlib.Core.Option.{Option, none, some}
use mathlib.Core.List.{List}
use Prim.Native.Nat.{ℕ, ◌*◌, ◌/◌, ◌<◌}
use native.Mathlib.Omega.{arith}
use native.Mathlib.Decide.{dec_lt}
use lib.ListN.{length, get_or-eq_default}
use borrow.Author.Tests.{ne_eqb}
use Rattle.rules.specs.Object.{Insn}
use Rattle.rules.specs.Faithful.{blank, slot_at}
use Rattle.rules.specs.Link.{Refusal, Outcome, linked, refuses, unfinished}
use Rattle.rules.specs.Bytes.{Order, byte_at, decoded, encoded, padded}
use Rattle.rules.specs.Tables.{Tables, row_of}
use Rattle.rules.specs.Maps as Maps
use Rattle.rules.specs.Maps.{all_tasks, first_refusal, applied, rewrite_all, MapOutcome, mapped, unless_refused, map_step}
use Rattle.rules.specs.Records.{image_functions, image_lines, link_step}
use Rattle.rules.specs.Answers.{reply}
use Rattle.rules.specs.Rows.{too_many, broken, broken_in, Offered, tables_of, link_refusal}
use Rattle.rules.specs.Entries.{Outputs, room_in, by_map_outcome, unless_map_refused, map_entry, func_info_bytes, line_info_bytes, by_outcome, unless_link_refused, link_entry, refusal_reply}
use Rattle.rules.proofs.Rounds.{Plain, decoded_encoded, encoded_length, all_plain, decode_plain}
use Rattle.rules.proofs.Writing.{decoded_at, decoded_length}
use Rattle.rules.proofs.Refusing.{map_checked}
use Rattle.equality.specs.Crate as Crate
use Rattle.equality.specs.Crate.{Result, ok, Linker, object_relocate_maps}
use Rattle.equality.specs.Domain.{Hidden, crate_functions, crate_of, Compared, with_instructions}
use Rattle.equality.specs.Demand2.{both_steps, refusal, by_link, by_maps, our_steps, compared_only, Domain, Equal, EqualMaps}
use Rattle.equality.specs.Entries.{with_bytes, stopped, went, by_reply, our_entries, EntryDomain, EqualBytes, EqualMapBytes}
use Rattle.equality.proofs.Clauses.{with_valid}
use Rattle.equality.proofs.MapsAfter.{all_kept}
use Rattle.equality.proofs.MapsCommute.{all_length}
use Rattle.equality.proofs.Offered.{offered_valid, offered_fds}
use Rattle.equality.proofs.Demand2.{demand_2, demand_2_maps}
use Rattle.equality.proofs.Records.{same_insn_bytes, same_func_bytes, same_line_bytes}

-- the link's refusals 1, 2 and 13 look at table 6's length alone
same_refusal : (o : Offered) (root : ℕ) (bytes : List ℕ) → length bytes ≡ length o.instructions → link_refusal (with_bytes o bytes) root ≡ link_refusal o root
unfolding link_refusal too_many broken broken_in
same_refusal o root bytes e = rw e refl

not_done : (n : ℕ) → Compared n → n ≢ 0
not_done n (inl e) = λ z. omega arith
not_done n (inr (inl e)) = λ z. omega arith
not_done n (inr (inr (inl e))) = λ z. omega arith
not_done n (inr (inr (inr e))) = λ z. omega arith

decoded_fits : (order : Order) (bytes : List ℕ) → ((k : ℕ) → byte_at bytes k < 256) → (k : ℕ) → Plain (slot_at (decoded order bytes) k)
decoded_fits order bytes are k = go (dec_lt k (length bytes / 8))
  where
    go : Dec (k < length bytes / 8) → Plain (slot_at (decoded order bytes) k)
    go (yes l) = rw (decoded_at order bytes k l) (decode_plain order bytes are (8 * k))
    go (no n) =
        subst Plain (sym (get_or-eq_default (decoded order bytes) blank {n = k} (omega (arith, decoded_length order bytes))))
        (record { opcode = omega arith; destination = omega arith; source = omega arith; offset = omega arith; immediate = omega arith })

module _ (order : Order) (o : Offered) (hidden : Hidden) (lent : Outputs) (root : ℕ) (domain : EntryDomain order o hidden lent root) where
  open domain use {map_passes, link_passes, bytes, map_bytes, clauses}

  abbrev tables : Tables
  tables = tables_of order o

  module _ (instructions : List Insn) (count : ℕ) (e : map_step tables ≡ mapped instructions count) where
    is_rewritten : rewrite_all tables tables.instructions (all_tasks tables) tables.instructions ≡ instructions
    unfolding map_step
    is_rewritten = go (first_refusal tables tables.instructions (all_tasks tables)) e
      where
        go : (r : Option Refusal)
            → unless_refused tables r (mapped (rewrite_all tables tables.instructions (all_tasks tables) tables.instructions) (applied tables tables.instructions (all_tasks tables)))
            ≡ mapped instructions count → rewrite_all tables tables.instructions (all_tasks tables) tables.instructions ≡ instructions
        go none e = cc
        go (some why) e = let z : ◌≡◌ {A = ℕ} 0 1 = cc in absurd (omega arith)

    slots_plain : (k : ℕ) → Plain (slot_at instructions k)
    unfolding tables_of
    slots_plain =
        subst (λ x. (k : ℕ) → Plain (slot_at x k)) is_rewritten
        (all_kept tables (offered_fds order o map_passes map_bytes) Plain
        (λ z f i p. record { opcode = p.opcode; destination = p.destination; source = p.source; offset = p.offset; immediate = f })
        (λ n l i p. record { opcode = p.opcode; destination = p.destination; source = l; offset = p.offset; immediate = p.immediate })
        tables.instructions (all_tasks tables) tables.instructions (decoded_fits order o.instructions bytes))

    -- what the map step wrote is read back
    read_back : decoded order (encoded order instructions) ≡ instructions
    read_back = decoded_encoded order instructions (all_plain instructions (λ k l. slots_plain k))

    tables_after : tables_of order (with_bytes o (encoded order instructions)) ≡ with_instructions tables instructions
    unfolding tables_of
    tables_after = ap (with_instructions tables) read_back

    as_long : length (encoded order instructions) ≡ length o.instructions
    unfolding tables_of
    as_long =
        omega (
          arith,
          encoded_length order instructions,
          sym (ap length is_rewritten) ∙ all_length tables tables.instructions (all_tasks tables) tables.instructions,
          decoded_length order o.instructions,
          (map_checked o map_passes).tables.instructions,
        )

    link_goes : link_entry order (with_bytes o (encoded order instructions)) root lent
        ≡ by_outcome order (with_instructions tables instructions) root lent (link_step (with_instructions tables instructions) (room_in lent) root)
    unfolding link_entry
    link_goes =
        ap (unless_link_refused order (with_bytes o (encoded order instructions)) root lent) (same_refusal o root (encoded order instructions) as_long ∙ link_passes)
        ∙ ap (λ t. by_outcome order t root lent (link_step t (room_in lent) root)) tables_after

    by_outcome_lem : (c : Result Linker) (s : Outcome) → ((why : Refusal) → by_link s ≡ refusal why → Compared why.number) → Equal tables root (by_link s) c
        → EqualBytes order lent (went (by_outcome order (with_instructions tables instructions) root lent s)) c
    unfolding image_functions image_lines
    by_outcome_lem c (linked final) compared same = inl (record {
      linker = same.linker;
      is_ok = same.is_ok;
      result = by_outcome order (with_instructions tables instructions) root lent (linked final);
      is_went = refl;
      places = λ i. reply 0 (length (sym same.instructions i)) (length (sym same.functions i)) (length (sym same.lines i));
      image = ap (padded lent.image) (ap (encoded order) (sym same.instructions) ∙ same_insn_bytes order same.linker.instructions);
      func_info = ap (padded lent.func_info) (ap (func_info_bytes order) (sym same.functions) ∙ same_func_bytes order same.linker.func_info);
      line_info = ap (padded lent.line_info) (ap (line_info_bytes order) (sym same.lines) ∙ same_line_bytes order same.linker.line_info);
      func_num = same.func_num ∙ sym (ap length same.functions);
      line_num = same.line_num ∙ sym (ap length same.lines);
    })
    by_outcome_lem c (refuses why) compared same = inr (record { why = why; compared = compared why refl; refused = inr refl; is_err = same })
    by_outcome_lem c unfinished compared same = absurd same

  all : Domain tables hidden (room_in lent) root
  all = with_valid (offered_valid order o lent root map_passes link_passes bytes map_bytes) clauses

  pub demand_2_entries : EqualBytes order lent (our_entries order o root lent)
      (both_steps (crate_of tables hidden) hidden.maps (row_of tables root).home (row_of tables root).address)
  unfolding our_entries map_entry our_steps
  demand_2_entries =
      subst (λ r. EqualBytes order lent (by_reply order o root lent (unless_map_refused order o r)) crate) (sym map_passes)
      (go (map_step tables) refl (all.holds compared_only tt) (demand_2 tables hidden (room_in lent) root all))
    where
      crate : Result Linker
      crate = both_steps (crate_of tables hidden) hidden.maps (row_of tables root).home (row_of tables root).address

      go : (m : MapOutcome) → map_step tables ≡ m → ((why : Refusal) → by_maps tables (room_in lent) root m ≡ refusal why → Compared why.number)
          → Equal tables root (by_maps tables (room_in lent) root m) crate
          → EqualBytes order lent (by_reply order o root lent (by_map_outcome order o.instructions m)) crate
      go (mapped instructions count) e compared same =
          subst (λ r. EqualBytes order lent (went r) crate) (sym (link_goes instructions count e))
          (by_outcome_lem instructions count e crate (link_step (with_instructions tables instructions) (room_in lent) root) compared same)
      go (Maps.refuses why) e compared same =
          inr (record {
            why = why;
            compared = compared why refl;
            refused = inl (ap (λ b. cond b (went (link_entry order (with_bytes o o.instructions) root lent)) (stopped (refusal_reply why))) (ne_eqb why.number 0 (not_done why.number (compared why refl))));
            is_err = same;
          })

  pub demand_2_map_entry : EqualMapBytes order o hidden (map_entry order o) (object_relocate_maps (crate_of tables hidden) hidden.maps)
  unfolding map_entry our_steps
  demand_2_map_entry =
      subst (λ r. EqualMapBytes order o hidden (unless_map_refused order o r) crate) (sym map_passes)
      (go (map_step tables) refl (all.holds compared_only tt) (demand_2_maps tables hidden (room_in lent) root all))
    where
      crate : Result (List Crate.Function)
      crate = object_relocate_maps (crate_of tables hidden) hidden.maps

      go : (m : MapOutcome) → map_step tables ≡ m → ((why : Refusal) → by_maps tables (room_in lent) root m ≡ refusal why → Compared why.number)
          → EqualMaps tables hidden m crate → EqualMapBytes order o hidden (by_map_outcome order o.instructions m) crate
      go (mapped instructions count) e compared same = inl (refl, same ∙ ap (λ t. ok (crate_functions t hidden)) (sym (tables_after instructions count e)))
      go (Maps.refuses why) e compared same = inr (record { why = why; compared = compared why refl; untouched = refl; is_err = same })
