-- The ways out of link_function and relocate, over what their callees promise.
-- Assumes nothing.
use mathlib.Core.Path.{◌≡◌, sym, ap, subst, ◌∙◌}
use mathlib.Core.Logic.{⊎_elim}
use mathlib.Core.Bool.{Bool, true, false, ◌&&◌}
use mathlib.Core.Option.{none, some}
use mathlib.Core.List.{List}
use Prim.Native.Nat.{ℕ, ◌+◌, ◌*◌, ◌≤◌, ◌<◌}
use native.Mathlib.Omega.{arith}
use native.Mathlib.Nat.{eq-or-lt_of_le}
use lib.Dec.{eqb}
use lib.ListN.{length, get_or, set}
use Rattle.rules.specs.declared.Refusal as told
use Rattle.rules.specs.declared.Cause.TheVariants.{NoRoom, LineOutside}
use Rattle.std.specs.Prelude as prelude
use Rattle.std.specs.Prelude.{Result, Ok, Err, Some, None}
use Rattle.rules.specs.declared.Table.TheVariants.{Functions, Relocations, LineInfo}
use Rattle.rules.specs.Object.{meaning}
use Rattle.rules.specs.Bytes.{little}
use Rattle.rules.specs.Link.{refusal}
use Rattle.rules.specs.Tables.{object_of}
use Rattle.rules.specs.Answers.{reply, number_of, refused_reply}
use Rattle.rules.specs.Rows.{row_size, most_rows, most_address, most_image_slots, most_function_slots, whole_rows, below, summed, Offered, tables_of, function_slots, function_section, function_offset, relocation_section, relocation_offset}
use Rattle.rules.specs.Lookups.{found_of, relocation_with, relocations_before, LinkChecked}
use Rattle.rules.proofs.Passed.{whole, few_rows, good_function}
use Rattle.merge.specs.declared.Used.{Used}
use Rattle.merge.specs.Merge.{stray_in, Sums, Parts, Lined, PartBegins, room_bytes, Extends, Extended}
use Rattle.merge.proofs.Rooms.{sums}
use Rattle.merge.proofs.Checked.{checked_parts, lined}
use Rattle.merge.proofs.Strays.{stray_low}
use Rattle.resolve.specs.Means.{Means}
use Rattle.resolve.specs.Resolves.{Resolves}
use Rattle.resolve.specs.declared.Pointer.{Pointer}
use Rattle.resolve.proofs.Laws.{only_code, meaning_alike, checked_alike, points_inside}
use Rattle.linker.specs.declared.State.{State}
use Rattle.rules.specs.Lent.{Buffers, buffers, parts_offer}
use Rattle.linker.specs.Linker.{unplaced, Asks, Adds, Added, Placed, Visits, Visited, pointed_to}
use Rattle.linker.proofs.Extending.{state_more, buffers_more}
use Rattle.linker.proofs.Admitting.{room_of, no_room, strays, admitted}
use Rattle.rows.proofs.Cursor.{Behind, behind_on, behind_first, behind_more, at_end, at_row, at_later}
use Rattle.linker.proofs.Steps.{Inv, add_refused, add_visits, add_falls, add_done, visit_begins, visit_copied, visit_out, visit_asks, visit_refused, visit_pointed, to_low, room_here, still_in}

-- a row of a checked table 3
pub row_inside : {o : Offered} (checked : LinkChecked o) {row : ℕ} → row < whole_rows Functions o.functions → row_size Functions * row + row_size Functions ≤ length o.functions
row_inside {o} checked l = omega (arith, whole Functions o.functions checked.tables.functions)

pub row_small : {o : Offered} (checked : LinkChecked o) {row : ℕ} → row < whole_rows Functions o.functions → row < most_rows Functions
row_small {o} checked l = omega (arith, l, few_rows Functions o.functions checked.tables.functions)

pub row_sums : {o : Offered} (checked : LinkChecked o) {row : ℕ} → row < whole_rows Functions o.functions → Sums o.functions row
row_sums {o} checked {row} l = sums o row (checked_parts o row checked l)

-- ---- numbers
pub lt_of : {a b : ℕ} → a ≤ b → (a ≡ b → ⊥) → a < b
lt_of {a} {b} l n = ⊎_elim (λ (e : a ≡ b). absurd (n e)) (λ (m : a < b). m) (eq-or-lt_of_le l)

pub ge_of : {a b : ℕ} → a ≡ b → b ≤ a
ge_of e = omega arith

pub at_is : {offset n slot at place : ℕ} → offset ≡ n → at ≡ slot → place ≡ offset + 8 * at → place ≡ n + 8 * slot
at_is e₁ e₂ e₃ = omega arith

-- ---- link_function
module _ {o : Offered} {st : State} {b : Buffers} {row : ℕ} (pre : Adds o st b row) where
  parts : Parts o row
  parts = checked_parts o row pre.asks.checked pre.asks.row_in

  pub stray_small : (k : ℕ) → stray_in o.functions o.line_info row ≡ some k → k < most_rows LineInfo
  stray_small k e = omega (arith, stray_low o.functions o.line_info row k e, parts.lines_inside, parts.few_lines)

  pub add_lined : (part : Used) → PartBegins o.functions row part → Lined o.functions o.line_info row part.lines
  add_lined part begins = lined o row part parts begins

  pub out_of_room : room_bytes o.functions (length b.image) (length b.funcs) (length b.lines) st.used row ≡ false
      → (r : told.Refusal) → refused_reply r ≡ reply (number_of NoRoom) row 0 0 → Added o st b row (Err r) b
  out_of_room e r is = add_refused pre r (refusal 11 row 0) is (λ root s h. no_room pre.asks.checked row pre.asks.row_in h e)

  module _ (room : room_bytes o.functions (length b.image) (length b.funcs) (length b.lines) st.used row ≡ true) where
    -- the function has a slot, so its start is below the limit
    pub start_fits : st.used.slots < most_image_slots
    start_fits =
        omega (
          arith,
          (room_of pre.asks.checked row pre.asks.row_in st.used b room).most_slots,
          (good_function o.functions pre.asks.checked.tables.functions row pre.asks.row_in).slots_low,
        )

    pub line_strays : (k : ℕ) → stray_in o.functions o.line_info row ≡ some k
        → (r : told.Refusal) → refused_reply r ≡ reply (number_of LineOutside) row k 0 → Added o st b row (Err r) b
    line_strays k e r is = add_refused pre r (refusal 12 row k) is (λ root s h. strays pre.asks.checked row pre.asks.row_in h k room e)

    module _ (none_strays : stray_in o.functions o.line_info row ≡ none) where
      abbrev partly : Offered
      partly = parts_offer o.functions o.instructions o.func_info o.line_info

      pub add_extends : {part : Used} → PartBegins o.functions row part → Extends (parts_offer o.functions o.instructions o.func_info o.line_info) b st.used row part
      add_extends begins = record {
        parts = record {
          is_row = parts.is_row;
          slots_inside = parts.slots_inside;
          funcs_inside = parts.funcs_inside;
          lines_inside = parts.lines_inside;
          few_slots = parts.few_slots;
          few_funcs = parts.few_funcs;
          few_lines = parts.few_lines;
        };
        begins = begins;
        room = room;
        no_stray = none_strays;
      }

      module _ {i f l : List ℕ} {more : Used} (x : Extended (parts_offer o.functions o.instructions o.func_info o.line_info) b (buffers i f l) st.used row more) where
        next : State
        next = record { starts = set st.starts row st.used.slots; used = more }

        state_is : state_more o row st ≡ record { starts = set st.starts row st.used.slots; used = more }
        state_is = λ j. record { starts = set st.starts row st.used.slots; used = record { slots = sym x.counts.slots_are j; funcs = sym x.counts.funcs_are j; lines = sym x.counts.lines_are j } }

        buffers_are : buffers_more o row st.used b ≡ buffers i f l
        buffers_are = λ j. record { image = sym x.image_is j; funcs = sym x.funcs_is j; lines = sym x.lines_is j }

        pub next_visits : {start first : ℕ} → start ≡ st.used.slots → first ≡ summed (function_slots o.functions) 0 row
            → Visits o (record { starts = set st.starts row st.used.slots; used = more }) (buffers i f l) row start first
        next_visits {start} {first} at begins =
            subst (λ n. Visits o (record { starts = set st.starts row st.used.slots; used = more }) (buffers i f l) row n first) (sym at)
            (subst (λ y. Visits o y (buffers i f l) row st.used.slots first) state_is
            (subst (λ y. Visits o (state_more o row st) y row st.used.slots first) buffers_are
            (add_visits pre (room_of pre.asks.checked row pre.asks.row_in st.used b room) (λ root s h. admitted pre.asks.checked row pre.asks.row_in h room none_strays) first begins)))

        pub next_falls : unplaced (set st.starts row st.used.slots) < unplaced st.starts
        next_falls = add_falls pre (room_of pre.asks.checked row pre.asks.row_in st.used b room) (λ root s h. admitted pre.asks.checked row pre.asks.row_in h room none_strays)

        pub next_done : (r : Result State told.Refusal) (b' : Buffers) {start : ℕ} → start ≡ st.used.slots
            → Visited o (record { starts = set st.starts row st.used.slots; used = more }) (buffers i f l) row start r b' → Added o st b row r b'
        next_done r b' at v =
            add_done pre (room_of pre.asks.checked row pre.asks.row_in st.used b room) (λ root s h. admitted pre.asks.checked row pre.asks.row_in h room none_strays) r b'
            (subst (λ y. Visited o (state_more o row st) y row st.used.slots r b') (sym buffers_are)
            (subst (λ y. Visited o y (buffers i f l) row st.used.slots r b') (sym state_is)
            (subst (λ n. Visited o (record { starts = set st.starts row st.used.slots; used = more }) (buffers i f l) row n r b') at v)))

-- ---- relocate
module _ {o : Offered} {st : State} {b : Buffers} {row start first : ℕ} (pre : Visits o st b row start first) where
  abbrev Held : State → Buffers → ℕ → ℕ → Type 0
  Held now b' slot cur =
      Inv o st b row start (function_slots o.functions row) now b' slot × ((cur ≤ whole_rows Relocations o.relocations) × Behind o.relocations (function_section o.functions row) (function_offset o.functions row + 8 * slot) cur)

  pub begins : (cur : ℕ) → cur ≤ whole_rows Relocations o.relocations → Behind o.relocations (function_section o.functions row) (function_offset o.functions row) cur → Held st b 0 cur
  begins cur l behind = (visit_begins pre, (l, behind_on o.relocations (function_section o.functions row) (function_offset o.functions row) (function_offset o.functions row + 8 * 0) cur (omega arith) behind))

  pub begins_at : (home offset cur : ℕ) → home ≡ function_section o.functions row → offset ≡ function_offset o.functions row → cur ≡ relocations_before o.relocations home offset → cur ≤ whole_rows Relocations o.relocations → Held st b 0 cur
  begins_at home offset cur h q e l =
      begins cur l (subst (λ n. Behind o.relocations (function_section o.functions row) (function_offset o.functions row) n) (sym (e ∙ ap (λ x. relocations_before o.relocations x offset) h ∙ ap (relocations_before o.relocations (function_section o.functions row)) q)) (behind_first o.relocations (function_section o.functions row) (function_offset o.functions row)))

  pub behind_next : (slot cur : ℕ) → Behind o.relocations (function_section o.functions row) (function_offset o.functions row + 8 * slot) cur → Behind o.relocations (function_section o.functions row) (function_offset o.functions row + 8 * (slot + 1)) cur
  behind_next slot cur behind = behind_on o.relocations (function_section o.functions row) (function_offset o.functions row + 8 * slot) (function_offset o.functions row + 8 * (slot + 1)) cur (omega arith) behind

  module _ {home at place : ℕ} (cur : ℕ) (is_home : home ≡ function_section o.functions row) (is-place : at ≡ place) (behind : Behind o.relocations (function_section o.functions row) place cur) where
    belows : {x : Bool} → x ≡ below (relocation_section o.relocations cur) (relocation_offset o.relocations cur) home at → x ≡ below (relocation_section o.relocations cur) (relocation_offset o.relocations cur) (function_section o.functions row) place
    belows e = e ∙ ap (λ h. below (relocation_section o.relocations cur) (relocation_offset o.relocations cur) h at) is_home ∙ ap (below (relocation_section o.relocations cur) (relocation_offset o.relocations cur) (function_section o.functions row)) is-place

    heres : {x : Bool} → x ≡ (eqb (relocation_section o.relocations cur) home && eqb (relocation_offset o.relocations cur) at) → x ≡ (eqb (relocation_section o.relocations cur) (function_section o.functions row) && eqb (relocation_offset o.relocations cur) place)
    heres e = e ∙ ap (λ h. eqb (relocation_section o.relocations cur) h && eqb (relocation_offset o.relocations cur) at) is_home ∙ ap (λ n. eqb (relocation_section o.relocations cur) (function_section o.functions row) && eqb (relocation_offset o.relocations cur) n) is-place

    pub goes_on : {x : Bool} → x ≡ below (relocation_section o.relocations cur) (relocation_offset o.relocations cur) home at → x ≡ true → Behind o.relocations (function_section o.functions row) place (cur + 1)
    goes_on e t = behind_more o.relocations (function_section o.functions row) place cur behind (sym (belows e) ∙ t)

    pub found_row' : cur < whole_rows Relocations o.relocations → {x : Bool} → x ≡ (eqb (relocation_section o.relocations cur) home && eqb (relocation_offset o.relocations cur) at) → x ≡ true
        → Some cur ≡ found_of (relocation_with o.relocations (function_section o.functions row) place)
    found_row' l e t = sym (ap found_of (at_row o.relocations (function_section o.functions row) place cur behind l (sym (heres e) ∙ t)))

    pub found_later' : cur < whole_rows Relocations o.relocations → {x : Bool} → x ≡ (eqb (relocation_section o.relocations cur) home && eqb (relocation_offset o.relocations cur) at) → x ≡ false
        → {y : Bool} → y ≡ below (relocation_section o.relocations cur) (relocation_offset o.relocations cur) home at → y ≡ false → None ≡ found_of (relocation_with o.relocations (function_section o.functions row) place)
    found_later' l e t d u =
        sym (ap found_of (at_later o.relocations (function_section o.functions row) place cur behind pre.asks.checked.tables.relocations l (sym (belows d) ∙ u) (sym (heres e) ∙ t)))

  module _ {now : State} {b' : Buffers} {slot : ℕ} (inv : Inv o st b row start (function_slots o.functions row) now b' slot) (turn : slot < function_slots o.functions row) where
    pub resolves : (rel : prelude.Option ℕ) → rel ≡ found_of (relocation_with o.relocations (function_section o.functions row) (function_offset o.functions row + 8 * slot))
        → Resolves (only_code o) row first slot rel
    resolves rel q = record {
      tables = checked_alike o pre.asks.checked.tables;
      row_inside = pre.asks.row_in;
      slot_inside = turn;
      first_is = pre.begins;
      rel_is = q;
    }

    same : meaning (object_of (tables_of little o)) row slot ≡ meaning (object_of (tables_of little (only_code o))) row slot
    same = meaning_alike o row slot

    -- what the judgement of a slot is, by what it came to
    pub by : {m n : Result (prelude.Option Pointer) told.Refusal} → m ≡ n → Means row slot m (meaning (object_of (tables_of little (only_code o))) row slot)
        → Means row slot n (meaning (object_of (tables_of little (only_code o))) row slot)
    by e h = subst (λ x. Means row slot x (meaning (object_of (tables_of little (only_code o))) row slot)) e h

    pub on_copied : {m : Result (prelude.Option Pointer) told.Refusal} → m ≡ Ok None → Means row slot m (meaning (object_of (tables_of little (only_code o))) row slot)
        → Inv o st b row start (function_slots o.functions row) now b' (slot + 1)
    on_copied e m = visit_copied pre inv turn (same ∙ by e m)

    pub on_refused : (a : told.Refusal) {m : Result (prelude.Option Pointer) told.Refusal} → m ≡ Err a → Means row slot m (meaning (object_of (tables_of little (only_code o))) row slot)
        → Visited o st b row start (Err a) b'
    on_refused a e m = visit_out pre inv turn a (refused_reply a).number (same ∙ (by e m).refusal) (by e m).places

    module _ (p : Pointer) (means : Means row slot (Ok (Some p)) (meaning (object_of (tables_of little (only_code o))) row slot)) where
      callee_row : p.callee < whole_rows Functions o.functions
      callee_row = points_inside (only_code o) row slot p means

      pub asks_placed : Asks o now b' p.callee
      asks_placed = visit_asks pre inv turn p.reference p.callee (same ∙ means) callee_row

      pub out_refused : {why : told.Refusal} {b'' : Buffers} → Placed o now b' p.callee (Err why) b'' → Visited o st b row start (Err why) b''
      out_refused {why} {b''} placed = visit_refused pre inv turn p.reference p.callee (same ∙ means) callee_row why b'' placed

      module _ {later : State} {b'' : Buffers} (placed : Placed o now b' p.callee (Ok later) b'') where
        pub start_low : get_or later.starts p.callee 0 < most_image_slots
        start_low = to_low pre inv turn p.reference p.callee (same ∙ means) callee_row later b'' placed

        pub here_room : 8 * (start + slot) + 8 ≤ length b''.image
        here_room = room_here pre inv turn p.reference p.callee (same ∙ means) callee_row later b'' placed

        pub here_low : start + slot < most_image_slots
        here_low = omega (arith, still_in pre inv turn p.reference p.callee (same ∙ means) callee_row later b'' placed, placed.gives.valid.most)

        pub on_pointed : {here to : ℕ} (image : List ℕ) → here ≡ start + slot → to ≡ get_or later.starts p.callee 0 → image ≡ pointed_to p.reference b''.image here to
            → Inv o st b row start (function_slots o.functions row) later (buffers image b''.funcs b''.lines) (slot + 1)
        on_pointed {here} {to} image x q e =
            subst (λ y. Inv o st b row start (function_slots o.functions row) later (buffers y b''.funcs b''.lines) (slot + 1))
            (sym (e ∙ ap (λ n. pointed_to p.reference b''.image n to) x ∙ ap (pointed_to p.reference b''.image (start + slot)) q))
            (visit_pointed pre inv turn p.reference p.callee (same ∙ means) callee_row later b'' placed)

  pub rows_of : (k : ℕ) → k < whole_rows Relocations o.relocations → row_size Relocations * k + row_size Relocations ≤ length o.relocations
  rows_of k l = omega (arith, whole Relocations o.relocations pre.asks.checked.tables.relocations)

  pub rows_few : whole_rows Relocations o.relocations ≤ most_rows Relocations
  rows_few = few_rows Relocations o.relocations pre.asks.checked.tables.relocations

  pub offset_low : function_offset o.functions row ≤ most_address
  offset_low = omega (arith, (good_function o.functions pre.asks.checked.tables.functions row pre.asks.row_in).offset)

  pub slots_low : function_slots o.functions row ≤ most_function_slots
  slots_low = (good_function o.functions pre.asks.checked.tables.functions row pre.asks.row_in).slots_high

  -- what the search found
  pub found_end : (place cur : ℕ) → Behind o.relocations (function_section o.functions row) place cur → whole_rows Relocations o.relocations ≤ cur → None ≡ found_of (relocation_with o.relocations (function_section o.functions row) place)
  found_end place cur behind l = sym (ap found_of (at_end o.relocations (function_section o.functions row) place cur behind l))
