-- From zeroed outputs to the entry's answer: the root begins the image, the visit ends it, and what the buffers then hold is what the
-- definition of the entry says.
-- Assumes nothing.
use mathlib.Core.Path.{◌≡◌, refl, sym, ap, subst, ◌∙◌}
use mathlib.Core.Bool.{true, false}
use mathlib.Core.Option.{Option, none, some}
use mathlib.Core.List.{List, [], ◌++◌, append-nil}
use Prim.Native.Nat.{ℕ, ◌+◌, ◌*◌, ◌-◌, ◌≤◌, ◌<◌}
use native.Mathlib.Omega.{arith}
use native.Mathlib.Decide.{dec_lt}
use lib.ListN.{length, get_or, take, drop, replicate, length-replicate, take-append-drop, get_or-replicate, get_or-eq_default}
use lib.Seq.{length-take-le, get_or-take}
use Rattle.std.specs.Prelude.{Result, Ok, Err, IfOk, IfErr}
use Rattle.rules.specs.declared.Places.{Places}
use Rattle.rules.specs.declared.Cause.TheVariants.{NoRoom}
use Rattle.rules.specs.declared.Refusal as told
use Rattle.rules.specs.declared.Table.TheVariants.{Functions}
use Rattle.rules.specs.Bytes.{little, byte_at, splice, padded, decoded, encoded, AreBytes}
use Rattle.rules.specs.Link as Link
use Rattle.rules.specs.Link.{Refusal, refusal, Outcome, linked, refuses, unfinished, run, start_of, slots_of, root_only, unless, visit, link}
use Rattle.rules.specs.Tables.{function_records_of, lines_of, object_of}
use Rattle.rules.specs.Records.{image_functions, image_lines, root_admits, link_step}
use Rattle.rules.specs.Answers.{Reply, reply, number_of, reply_of, refused_reply}
use Rattle.rules.specs.Rows.{whole_rows, summed, Offered, function_slots, function_func_info, function_line_info, func_info_row, line_info_row, tables_of, link_refusal, most_rows}
use Rattle.rules.specs.Lookups.{LinkChecked}
use Rattle.rules.specs.Entries.{func_info_bytes, line_info_bytes, refusal_reply, room_in, refused_link, by_outcome, unless_link_refused, link_entry}
use Rattle.rules.proofs.Refusing as Refusing
use Rattle.rules.proofs.Replies as Replies
use Rattle.rules.proofs.Splices.{splice_length, splice_front}
use Rattle.rules.proofs.Rounds.{encoded_decoded}
use Rattle.rules.proofs.Linking.{length_run}
use Rattle.rules.proofs.Passed.{good_function}
use Rattle.rules.proofs.Merging.{func_bytes_length, line_bytes_length}
use Rattle.linker.specs.declared.State.{State}
use Rattle.linker.specs.declared.Linked.{Linked}
use Rattle.merge.specs.declared.Used.{Used}
use Rattle.rules.specs.Lent.{Buffers, buffers, lent_by, parts_offer}
use Rattle.linker.specs.Linker.{Valid, Holds, Agrees, visiting, Visits, Visited, Starts, Outcomes, Accounts, Wiped, Ended, step_result, StartedOutcomes}
use Rattle.merge.specs.Merge.{slot_bytes, func_rows, line_rows, room_bytes, PartBegins, unused, Begins, Begun}
use Rattle.merge.proofs.Checked.{checked_parts}
use Rattle.linker.proofs.Extending.{slots_long, slots_are, own_functions, own_lines, object_slots, rest_next, Room}
use Rattle.linker.proofs.Admitting.{room_passes, room_fails, room_of}

-- zeros everywhere
abbrev pub Zeroed : Buffers → Type 0
Zeroed b = (b.image ≡ replicate (length b.image) 0) × (b.funcs ≡ replicate (length b.funcs) 0) × (b.lines ≡ replicate (length b.lines) 0)

-- no function has a start
abbrev pub no_starts : List ℕ
no_starts = replicate (most_rows Functions) 0

zero_start : (row : ℕ) → get_or no_starts row 0 ≡ 0
zero_start row = go (dec_lt row (most_rows Functions))
  where
    go : Dec (row < most_rows Functions) → get_or no_starts row 0 ≡ 0
    go (yes l) = get_or-replicate (most_rows Functions) row 0 0 l
    go (no n) = get_or-eq_default no_starts 0 {n = row} (omega arith)

abbrev pub row_used : Offered → ℕ → Used
row_used o row = record { slots = function_slots o.functions row; funcs = function_func_info o.functions row; lines = function_line_info o.functions row }

abbrev pub first_state : Offered → ℕ → State
first_state o root = record { starts = no_starts; used = row_used o root }

abbrev pub first_buffers : Offered → ℕ → Buffers → Buffers
first_buffers o root b =
    buffers (splice b.image 0 (slot_bytes o.functions o.instructions root)) (splice b.funcs 0 (func_info_bytes little (func_rows o.functions o.func_info root)))
    (splice b.lines 0 (line_info_bytes little (line_rows o.functions o.line_info root)))

module _ {o : Offered} (checked : LinkChecked o) (root : ℕ) (root_in : root < whole_rows Functions o.functions) (b : Buffers) (zeroed : Zeroed b) (room : Room o root unused b) where
  funcs_count : length (func_info_bytes little (func_rows o.functions o.func_info root)) ≡ 8 * function_func_info o.functions root
  funcs_count = func_bytes_length little (func_rows o.functions o.func_info root) ∙ ap (λ n. 8 * n) (length_run (func_info_row little o.func_info) (summed (function_func_info o.functions) 0 root) (function_func_info o.functions root))

  lines_count : length (line_info_bytes little (line_rows o.functions o.line_info root)) ≡ 16 * function_line_info o.functions root
  lines_count = line_bytes_length little (line_rows o.functions o.line_info root) ∙ ap (λ n. 16 * n) (length_run (line_info_row little o.line_info) (summed (function_line_info o.functions) 0 root) (function_line_info o.functions root))

  image_fits : 0 + length (slot_bytes o.functions o.instructions root) ≤ length b.image
  image_fits = omega (arith, slots_long checked root root_in, room.slots)

  funcs_fit : 0 + length (func_info_bytes little (func_rows o.functions o.func_info root)) ≤ length b.funcs
  funcs_fit = omega (arith, funcs_count, room.funcs)

  lines_fit : 0 + length (line_info_bytes little (line_rows o.functions o.line_info root)) ≤ length b.lines
  lines_fit = omega (arith, lines_count, room.lines)

  pub first_lengths : lent_by (first_buffers o root b) ≡ lent_by b
  first_lengths =
      rw (
        splice_length b.image 0 (slot_bytes o.functions o.instructions root) image_fits,
        splice_length b.funcs 0 (func_info_bytes little (func_rows o.functions o.func_info root)) funcs_fit,
        splice_length b.lines 0 (line_info_bytes little (line_rows o.functions o.line_info root)) lines_fit,
      )

  all_zero_lem : (d : List ℕ) → d ≡ replicate (length d) 0 → drop 0 d ≡ replicate (length d - 0) 0
  all_zero_lem d e = let n : length d ≡ length d - 0 = omega arith in e ∙ ap (λ m. replicate m 0) n

  first_valid : Valid (first_state o root) (first_buffers o root b)
  first_valid =
      let li : length (first_buffers o root b).image ≡ length b.image = ap (λ x. x.image) first_lengths in
      let lf : length (first_buffers o root b).funcs ≡ length b.funcs = ap (λ x. x.func_info) first_lengths in
      let ll : length (first_buffers o root b).lines ≡ length b.lines = ap (λ x. x.line_info) first_lengths in
      record {
        long = refl;
        some_slot = (good_function o.functions checked.tables.functions root root_in).slots_low;
        most = omega (arith, room.most_slots);
        slots = omega (arith, li, room.slots);
        funcs = omega (arith, lf, room.funcs);
        lines = omega (arith, ll, room.lines);
        most_funcs = omega (arith, room.most_funcs);
        most_lines = omega (arith, room.most_lines);
        starts = λ row. rw (zero_start row) (omega arith);
        image_rest = rest_next b.image (slot_bytes o.functions o.instructions root) 0 _ (omega (arith, slots_long checked root root_in)) image_fits (all_zero_lem b.image zeroed.0);
        funcs_rest = rest_next b.funcs (func_info_bytes little (func_rows o.functions o.func_info root)) 0 _ (omega (arith, funcs_count)) funcs_fit (all_zero_lem b.funcs zeroed.1);
        lines_rest = rest_next b.lines (line_info_bytes little (line_rows o.functions o.line_info root)) 0 _ (omega (arith, lines_count)) lines_fit (all_zero_lem b.lines zeroed.2);
      }

  pub first_visits : (first : ℕ) → first ≡ summed (function_slots o.functions) 0 root → Visits o (first_state o root) (first_buffers o root b) root 0 first
  first_visits first begins = record { asks = record { checked = checked; valid = first_valid; row_in = root_in }; fits = omega arith; begins = begins }

  first_functions : image_functions (tables_of little o) root [] ≡ func_rows o.functions o.func_info root
  unfolding image_functions
  first_functions = append-nil (function_records_of (tables_of little o) root) ∙ own_functions checked root root_in

  first_lines : image_lines (tables_of little o) root [] ≡ line_rows o.functions o.line_info root
  unfolding image_lines
  first_lines = append-nil (lines_of (tables_of little o) root) ∙ own_lines checked root root_in

  pub first_holds : Holds o root (first_state o root) (first_buffers o root b) (root_only (object_of (tables_of little o)) root)
  first_holds = record {
    slots = sym (length_run ((object_of (tables_of little o)).insn root) 0 ((object_of (tables_of little o)).slots root) ∙ object_slots checked root root_in);
    image =
        ap (decoded little) (splice_front b.image 0 (slot_bytes o.functions o.instructions root) (8 * function_slots o.functions root) (omega (arith, slots_long checked root root_in)) (omega arith))
        ∙ slots_are checked root root_in;
    funcs_count = sym (ap length first_functions ∙ length_run (func_info_row little o.func_info) (summed (function_func_info o.functions) 0 root) (function_func_info o.functions root));
    funcs =
        splice_front b.funcs 0 (func_info_bytes little (func_rows o.functions o.func_info root)) (8 * function_func_info o.functions root) (omega (arith, funcs_count)) (omega arith)
        ∙ sym (ap (func_info_bytes little) first_functions);
    lines_count = sym (ap length first_lines ∙ length_run (line_info_row little o.line_info) (summed (function_line_info o.functions) 0 root) (function_line_info o.functions root));
    lines =
        splice_front b.lines 0 (line_info_bytes little (line_rows o.functions o.line_info root)) (16 * function_line_info o.functions root) (omega (arith, lines_count)) (omega arith)
        ∙ sym (ap (line_info_bytes little) first_lines);
    starts = λ row l. zero_start row;
    positive = λ row start e. let z : ◌≡◌ {A = ℕ} 0 1 = cc in absurd (omega arith);
  }

-- ---- what the buffers hold at the end
front_rest : (d : List ℕ) (n : ℕ) (xs : List ℕ) → n ≤ length d → take n d ≡ xs → drop n d ≡ replicate (length d - n) 0 → d ≡ padded (length d) xs
unfolding padded
front_rest d n xs l e r =
    let k : length xs ≡ n = ap length (sym e) ∙ length-take-le n d l in
    sym (take-append-drop n d) ∙ ap (λ x. x ++ drop n d) e ∙ ap (λ x. xs ++ x) (r ∙ ap (λ m. replicate (length d - m) 0) (sym k))

module _ {o : Offered} {root : ℕ} {st : State} {b : Buffers} {s : Link.State} (valid : Valid st b) (h : Holds o root st b s) (are : AreBytes b.image) where
  front_bytes : AreBytes (take (8 * st.used.slots) b.image)
  front_bytes k = go (dec_lt k (8 * st.used.slots))
    where
      go : Dec (k < 8 * st.used.slots) → byte_at (take (8 * st.used.slots) b.image) k < 256
      go (yes l) = rw (get_or-take (8 * st.used.slots) b.image k 0 l) (are k)
      go (no n) =
          rw (get_or-eq_default (take (8 * st.used.slots) b.image) 0 {n = k} (omega (arith, length-take-le (8 * st.used.slots) b.image valid.slots))) (omega arith)

  pub image_holds : b.image ≡ padded (length b.image) (encoded little s.image)
  image_holds =
      front_rest b.image (8 * st.used.slots) (encoded little s.image) valid.slots
      (sym (encoded_decoded little (take (8 * st.used.slots) b.image) front_bytes st.used.slots (length-take-le (8 * st.used.slots) b.image valid.slots)) ∙ ap (encoded little) h.image)
      valid.image_rest

  pub funcs_hold : b.funcs ≡ padded (length b.funcs) (func_info_bytes little (image_functions (tables_of little o) root s.placed))
  funcs_hold = front_rest b.funcs (8 * st.used.funcs) _ valid.funcs h.funcs valid.funcs_rest

  pub lines_hold : b.lines ≡ padded (length b.lines) (line_info_bytes little (image_lines (tables_of little o) root s.placed))
  lines_hold = front_rest b.lines (16 * st.used.lines) _ valid.lines h.lines valid.lines_rest

-- ---- the entry's answer
some_not_none : {A : Type 0} {a : A} {X : Type 0} → some a ≡ none → X
some_not_none e = let z : ◌≡◌ {A = ℕ} 0 1 = cc in absurd (omega arith)

abbrev placed_at : Used → Places
placed_at used = record { 0 = used.slots; 1 = used.funcs; 2 = used.lines }

abbrev links : State → Linked
links st = record { places = placed_at st.used; starts = st.starts }

module _ {o : Offered} {root : ℕ} {b : Buffers} (pre : Starts o root b) where
  zeroes : Zeroed b
  zeroes = (pre.image, pre.funcs, pre.lines)

  step_by : (x : Option Refusal) → root_admits (tables_of little o) (room_in (lent_by b)) root ≡ x
      → link_step (tables_of little o) (room_in (lent_by b)) root ≡ unless x (visiting o (lent_by b) root root 0 (function_slots o.functions root) 0 (root_only (object_of (tables_of little o)) root))
  unfolding link_step link
  step_by x e =
      ap (λ y. unless y (visiting o (lent_by b) root root 0 ((object_of (tables_of little o)).slots root) 0 (root_only (object_of (tables_of little o)) root))) e
      ∙ ap (λ n. unless x (visiting o (lent_by b) root root 0 n 0 (root_only (object_of (tables_of little o)) root))) (object_slots pre.checked root pre.root_in)

  -- 11: the root has no room
  pub root_refused : room_bytes o.functions (length b.image) (length b.funcs) (length b.lines) unused root ≡ false
      → (r : told.Refusal) → refused_reply r ≡ reply (number_of NoRoom) root 0 0 → Ended o root b b (Err r)
  root_refused e r is = record {
    lengths = refl;
    done = tt;
    refused = ap (by_outcome little (tables_of little o) root (lent_by b)) (step_by (some (refusal 11 root 0)) (room_fails pre.checked root pre.root_in (lent_by b) unused e)) ∙ ap (refused_link (lent_by b)) (sym is);
    accounts = tt;
  }

  module _ (enough : room_bytes o.functions (length b.image) (length b.funcs) (length b.lines) unused root ≡ true) where
    pub root_room : Room o root unused b
    root_room = room_of pre.checked root pre.root_in unused b enough

    pub root_visits : (first : ℕ) → first ≡ summed (function_slots o.functions) 0 root → Visits o (first_state o root) (first_buffers o root b) root 0 first
    root_visits = first_visits pre.checked root pre.root_in b zeroes root_room

    lens : lent_by (first_buffers o root b) ≡ lent_by b
    lens = first_lengths pre.checked root pre.root_in b zeroes root_room

    module _ (r : Result State told.Refusal) (b' : Buffers) (v : Visited o (first_state o root) (first_buffers o root b) root 0 r b') where
      visited : Agrees o root r b' (link_step (tables_of little o) (room_in (lent_by b)) root)
      visited =
          subst (Agrees o root r b') (sym (step_by none (room_passes pre.checked root pre.root_in (lent_by b) unused enough)))
          (subst (λ lent. Agrees o root r b' (visiting o lent root root 0 (function_slots o.functions root) 0 (root_only (object_of (tables_of little o)) root))) lens
          (v.agrees root (root_only (object_of (tables_of little o)) root) (first_holds pre.checked root pre.root_in b zeroes root_room)))

      pub all_lengths : lent_by b' ≡ lent_by b
      all_lengths = v.lengths ∙ lens

    pub link_refused : (why : told.Refusal) (b' : Buffers) → Visited o (first_state o root) (first_buffers o root b) root 0 (Err why) b' → Ended o root b b' (Err why)
    link_refused why b' v = record {
      lengths = all_lengths (Err why) b' v;
      done = tt;
      refused = go (link_step (tables_of little o) (room_in (lent_by b)) root) (visited (Err why) b' v);
      accounts = tt;
    }
      where
        go : (out : Outcome) → Agrees o root (Err why) b' out → by_outcome little (tables_of little o) root (lent_by b) out ≡ refused_link (lent_by b) (refused_reply why)
        go (linked s) a = absurd a
        go (refuses it) e = ap (refused_link (lent_by b)) (sym e)
        go unfinished a = absurd a

    module _ (st : State) (b' : Buffers) (v : Visited o (first_state o root) (first_buffers o root b) root 0 (Ok st) b') (are : AreBytes b'.image) where
      accounted : (s : Link.State) → Agrees o root (Ok st) b' (linked s) → Accounts o s st.starts
      accounted s h = record { starts_are = h.starts; few = omega (arith, h.slots, v.valid.most) }

      pub link_done : Ended o root b b' (Ok (links st))
      link_done = record {
        lengths = all_lengths (Ok st) b' v;
        done = go (link_step (tables_of little o) (room_in (lent_by b)) root) (visited (Ok st) b' v);
        refused = tt;
        accounts = λ s e. accounted s (subst (Agrees o root (Ok st) b') e (visited (Ok st) b' v));
      }
        where
          go : (out : Outcome) → Agrees o root (Ok st) b' out
              → Outcomes b' (Ok (placed_at st.used)) (by_outcome little (tables_of little o) root (lent_by b) out)
          go (linked s) h =
              let kept : lent_by b' ≡ lent_by b = all_lengths (Ok st) b' v in
              record {
                reply = rw (h.slots, h.funcs_count, h.lines_count);
                image = image_holds v.valid h are ∙ ap (λ n. padded n (encoded little s.image)) (ap (λ x. x.image) kept);
                funcs = funcs_hold v.valid h are ∙ ap (λ n. padded n (func_info_bytes little (image_functions (tables_of little o) root s.placed))) (ap (λ x. x.func_info) kept);
                lines = lines_hold v.valid h are ∙ ap (λ n. padded n (line_info_bytes little (image_lines (tables_of little o) root s.placed))) (ap (λ x. x.line_info) kept);
              }
          go (refuses why) e = absurd e
          go unfinished a = absurd a

-- ---- with the check before it and the wiping after
pub zeros_padded : (n : ℕ) → replicate n 0 ≡ padded n []
unfolding padded
zeros_padded n = let e : n ≡ n - 0 = omega arith in ap (λ m. replicate m 0) e

module _ (o : Offered) (root : ℕ) (b b' : Buffers) (w : Wiped b b') where
  pub wiped : (r : Reply) (a : Result Places told.Refusal) → reply_of a ≡ r → Outcomes b' a (refused_link (lent_by b) r)
  wiped r a e = record {
    reply = e;
    image = w.image ∙ zeros_padded (length b.image);
    funcs = w.funcs ∙ zeros_padded (length b.funcs);
    lines = w.lines ∙ zeros_padded (length b.lines);
  }

  -- refused by the check
  pub check_refused : (a : Result Places told.Refusal) → link_refusal o root ≡ some (reply_of a) → Outcomes b' a (link_entry little o root (lent_by b))
  unfolding link_entry
  check_refused a e = subst (Outcomes b' a) (sym (ap (unless_link_refused little o root (lent_by b)) e)) (wiped (reply_of a) a refl)

  -- refused by the step
  pub step_refused : (a : Result Places told.Refusal) → link_refusal o root ≡ none → step_result o root (lent_by b) ≡ refused_link (lent_by b) (reply_of a) → Outcomes b' a (link_entry little o root (lent_by b))
  unfolding link_entry
  step_refused a e f = subst (Outcomes b' a) (sym (ap (unless_link_refused little o root (lent_by b)) e ∙ f)) (wiped (reply_of a) a refl)

pub step_done : (o : Offered) (root : ℕ) (b b' : Buffers) (a : Result Places told.Refusal) → link_refusal o root ≡ none → Outcomes b' a (step_result o root (lent_by b)) → Outcomes b' a (link_entry little o root (lent_by b))
unfolding link_entry
step_done o root b b' a e f = subst (Outcomes b' a) (sym (ap (unless_link_refused little o root (lent_by b)) e)) f

-- ---- the root as `begin` leaves it
module _ {o : Offered} {root : ℕ} {b : Buffers} (pre : Starts o root b) (enough : room_bytes o.functions (length b.image) (length b.funcs) (length b.lines) unused root ≡ true) where
  pub begins : {part : Used} → PartBegins o.functions root part → Begins (parts_offer o.functions o.instructions o.func_info o.line_info) b root part
  begins part-begins =
      let parts = checked_parts o root pre.checked pre.root_in in record {
        parts = record {
          is_row = parts.is_row;
          slots_inside = parts.slots_inside;
          funcs_inside = parts.funcs_inside;
          lines_inside = parts.lines_inside;
          few_slots = parts.few_slots;
          few_funcs = parts.few_funcs;
          few_lines = parts.few_lines;
        };
        begins = part-begins;
        room = enough;
      }

  module _ {i f l : List ℕ} {u : Used} (x : Begun (parts_offer o.functions o.instructions o.func_info o.line_info) b (buffers i f l) root u) where
    state_is : first_state o root ≡ record { starts = no_starts; used = u }
    state_is = λ j. record { starts = no_starts; used = record { slots = sym x.counts.slots_are j; funcs = sym x.counts.funcs_are j; lines = sym x.counts.lines_are j } }

    buffers_are : first_buffers o root b ≡ buffers i f l
    buffers_are = λ j. record { image = sym x.image_is j; funcs = sym x.funcs_is j; lines = sym x.lines_is j }

    pub begun_visits : {start first : ℕ} → start ≡ 0 → first ≡ summed (function_slots o.functions) 0 root
        → Visits o (record { starts = no_starts; used = u }) (buffers i f l) root start first
    begun_visits {start} {first} at e =
        subst (λ n. Visits o (record { starts = no_starts; used = u }) (buffers i f l) root n first) (sym at)
        (subst (λ y. Visits o y (buffers i f l) root 0 first) state_is (subst (λ y. Visits o (first_state o root) y root 0 first) buffers_are (root_visits pre enough first e)))

    module _ {r : Result State told.Refusal} {b' : Buffers} {start : ℕ} (at : start ≡ 0) (v : Visited o (record { starts = no_starts; used = u }) (buffers i f l) root start r b') where
      back : Visited o (first_state o root) (first_buffers o root b) root 0 r b'
      back = subst (λ y. Visited o (first_state o root) y root 0 r b') (sym buffers_are) (subst (λ y. Visited o y (buffers i f l) root 0 r b') (sym state_is)
          (subst (λ n. Visited o (record { starts = no_starts; used = u }) (buffers i f l) root n r b') at v))

    -- the buffers that the caller sees at the end are those that the visit left
    module _ {start : ℕ} {i' f' l' : List ℕ} (at : start ≡ 0) where
      pub begun_refused : {why : told.Refusal} {b' : Buffers} → Visited o (record { starts = no_starts; used = u }) (buffers i f l) root start (Err why) b'
          → i' ≡ b'.image → f' ≡ b'.funcs → l' ≡ b'.lines → Ended o root b (buffers i' f' l') (Err why)
      begun_refused {why} {b'} v ei ef el =
          subst (λ x. Ended o root b x (Err why)) (λ j. record { image = sym ei j; funcs = sym ef j; lines = sym el j }) (link_refused pre enough why b' (back at v))

      pub begun_done : {st : State} {b' : Buffers} → Visited o (record { starts = no_starts; used = u }) (buffers i f l) root start (Ok st) b' → AreBytes i'
          → i' ≡ b'.image → f' ≡ b'.funcs → l' ≡ b'.lines → Ended o root b (buffers i' f' l') (Ok (links st))
      begun_done {st} {b'} v are ei ef el =
          subst (λ x. Ended o root b x (Ok (links st))) (λ j. record { image = sym ei j; funcs = sym ef j; lines = sym el j })
          (link_done pre enough st b' (back at v) (subst AreBytes ei are))

-- ---- the entry, by what its callees promise
again : (n : ℕ) (d : List ℕ) → d ≡ replicate n 0 → length d ≡ n
again n d e = ap length e ∙ length-replicate n 0

zero_again : (n : ℕ) (d : List ℕ) → d ≡ replicate n 0 → d ≡ replicate (length d) 0
zero_again n d e = e ∙ ap (λ m. replicate m 0) (sym (again n d e))

module _ (o : Offered) (root : ℕ) {b z : Buffers} (w : Wiped b z) where
  pub entry_refused : (why : told.Refusal) → some (refused_reply why) ≡ link_refusal o root → StartedOutcomes o root (lent_by b) z (Err why)
  entry_refused why said = record { outcomes = check_refused o root b z w (Err why) (sym said); accounts = tt }

  module _ (passed : link_refusal o root ≡ none) where
    pub entry_starts : Starts o root z
    entry_starts = record {
      checked = Refusing.link_checked o root passed;
      root_in = Refusing.root_is_row o root passed;
      image = zero_again (length b.image) z.image w.image;
      funcs = zero_again (length b.funcs) z.funcs w.funcs;
      lines = zero_again (length b.lines) z.lines w.lines;
    }

    same_lent : lent_by z ≡ lent_by b
    same_lent = rw (again (length b.image) z.image w.image, again (length b.funcs) z.funcs w.funcs, again (length b.lines) z.lines w.lines)

    pub entry_done : {l : Linked} {e : Buffers} → Ended o root z e (Ok l) → StartedOutcomes o root (lent_by b) e (Ok l)
    entry_done {l} {e} ended = record {
      outcomes = step_done o root b e (Ok l.places) passed (subst (λ lent. Outcomes e (Ok l.places) (step_result o root lent)) same_lent ended.done);
      accounts = λ p s is. ended.accounts s (subst (λ lent. link_step (tables_of little o) (room_in lent) root ≡ linked s) (sym same_lent) is);
    }

    pub entry_wiped : {why : told.Refusal} {e z' : Buffers} → Ended o root z e (Err why) → Wiped e z' → StartedOutcomes o root (lent_by b) z' (Err why)
    entry_wiped {why} {e} {z'} ended again =
        let kept : lent_by e ≡ lent_by b = ended.lengths ∙ same_lent in
        record {
          outcomes = step_refused o root b z'
              (record {
                image = again.image ∙ ap (λ x. replicate x.image 0) kept;
                funcs = again.funcs ∙ ap (λ x. replicate x.func_info 0) kept;
                lines = again.lines ∙ ap (λ x. replicate x.line_info 0) kept;
              })
              (Err why) passed (subst (λ lent. step_result o root lent ≡ refused_link lent (refused_reply why)) same_lent ended.refused);
          accounts = tt;
        }
