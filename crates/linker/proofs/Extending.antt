-- A function added to the buffers is that function added to the state that they hold: its slots, its records, its start.
-- Assumes nothing.
use mathlib.Core.Path.{◌≡◌, sym, ap, ◌∙◌, subst}
use mathlib.Core.Option.{none, some}
use mathlib.Core.List.{List, [], ◌∷◌, ◌++◌, map}
use Prim.Native.Nat.{ℕ, zero, suc, ◌+◌, ◌*◌, ◌-◌, ◌≤◌, ◌<◌}
use native.Mathlib.Omega.{arith}
use native.Mathlib.Decide.{ℕ_discrete, dec_lt}
use lib.ListN.{length, get_or, take, drop, replicate, set, length-append, length-set, length-take, length-drop, length-map, get_or-eq_default}
use lib.Seq.{length-take-le, drop-drop, get_or-set_same, get_or-set_other}
use Rattle.rules.specs.declared.Table.TheVariants.{Functions}
use Rattle.rules.specs.Faithful.{Piece, piece, slot_at}
use Rattle.rules.specs.Bytes.{little, decoded, splice}
use Rattle.rules.specs.Link as Link
use Rattle.rules.specs.Link.{run, start_of, slots_of, extended}
use Rattle.rules.specs.Tables.{function_records_of, lines_of, base, object_of}
use Rattle.rules.specs.Records.{started_at, first_slot, rebased, image_functions, image_lines}
use Rattle.rules.specs.Rows.{most_image_slots, most_image_functions, most_image_lines, whole_rows, summed, total, Offered, function_slots, function_func_info, function_line_info, func_info_row, line_info_row, tables_of}
use Rattle.rules.specs.Lookups.{LinkChecked}
use Rattle.rules.specs.Entries.{func_info_bytes, line_info_bytes}
use Rattle.rules.proofs.Splices.{splice_length, splice_front, splice_rest}
use Rattle.rules.proofs.Writing.{append_decoded, part_decoded}
use Rattle.rules.proofs.Linking.{length_run}
use Rattle.rules.proofs.Searches.{part_inside}
use Rattle.rules.proofs.Reading.{row_is, base_is, functions_are, lines_are}
use Rattle.rules.proofs.Starts.{start_now, start_other}
use Rattle.rules.proofs.Merging.{image_functions_more, image_lines_more, func_bytes_append, line_bytes_append, func_bytes_length, line_bytes_length}
use Rattle.linker.specs.declared.State.{State}
use Rattle.merge.specs.declared.Used.{Used}
use Rattle.rules.specs.Lent.{Buffers, buffers, lent_by}
use Rattle.linker.specs.Linker.{start_number, Valid, Holds}
use Rattle.merge.specs.Merge.{slot_bytes, func_rows, line_rows, func_bytes, line_bytes}

-- ---- a row's parts of tables 6, 7 and 8
module _ {o : Offered} (checked : LinkChecked o) (row : ℕ) (row_in : row < whole_rows Functions o.functions) where
  pub slots_inside : 8 * (summed (function_slots o.functions) 0 row + function_slots o.functions row) ≤ length o.instructions
  unfolding total
  slots_inside = omega (arith, checked.tables.instructions, part_inside (function_slots o.functions) (whole_rows Functions o.functions) row row_in)

  pub funcs_inside : 8 * (summed (function_func_info o.functions) 0 row + function_func_info o.functions row) ≤ length o.func_info
  unfolding total
  funcs_inside = omega (arith, checked.func_info, part_inside (function_func_info o.functions) (whole_rows Functions o.functions) row row_in)

  pub lines_inside : 16 * (summed (function_line_info o.functions) 0 row + function_line_info o.functions row) ≤ length o.line_info
  unfolding total
  lines_inside = omega (arith, checked.line_info, part_inside (function_line_info o.functions) (whole_rows Functions o.functions) row row_in)

  pub slots_long : length (slot_bytes o.functions o.instructions row) ≡ 8 * function_slots o.functions row
  unfolding slot_bytes
  slots_long = simp (length-take, length-drop) (omega (arith, slots_inside))

  pub own_functions : function_records_of (tables_of little o) row ≡ func_rows o.functions o.func_info row
  own_functions = functions_are little o row row_in (omega (arith, funcs_inside))

  pub own_lines : lines_of (tables_of little o) row ≡ line_rows o.functions o.line_info row
  own_lines = lines_are little o row row_in (omega (arith, lines_inside))

  pub funcs_long : (start : ℕ) → length (func_bytes o.functions o.func_info row start) ≡ 8 * function_func_info o.functions row
  unfolding func_bytes
  funcs_long start =
      func_bytes_length little (map (started_at start) (func_rows o.functions o.func_info row))
      ∙ ap (λ n. 8 * n) (length-map (func_rows o.functions o.func_info row) (started_at start) ∙ length_run (func_info_row little o.func_info) (summed (function_func_info o.functions) 0 row) (function_func_info o.functions row))

  pub lines_long : (start : ℕ) → length (line_bytes o.functions o.line_info row start) ≡ 16 * function_line_info o.functions row
  unfolding line_bytes
  lines_long start =
      line_bytes_length little (map (rebased (first_slot (line_rows o.functions o.line_info row)) start) (line_rows o.functions o.line_info row))
      ∙ ap (λ n. 16 * n) (length-map (line_rows o.functions o.line_info row) (rebased (first_slot (line_rows o.functions o.line_info row)) start) ∙ length_run (line_info_row little o.line_info) (summed (function_line_info o.functions) 0 row) (function_line_info o.functions row))

  pub object_slots : (object_of (tables_of little o)).slots row ≡ function_slots o.functions row
  unfolding object_of
  object_slots = ap (λ f. f.slots) (row_is little o row row_in)

  -- the slots copied are the function's
  pub slots_are : decoded little (slot_bytes o.functions o.instructions row) ≡ slots_of (object_of (tables_of little o)) row
  unfolding object_of tables_of slot_bytes
  slots_are =
      part_decoded little o.instructions (summed (function_slots o.functions) 0 row) (function_slots o.functions row) slots_inside
      ∙ ap (λ b. run (λ slot. slot_at (decoded little o.instructions) (b + slot)) 0 (function_slots o.functions row)) (sym (base_is little o row (omega arith)))
      ∙ ap (λ n. run (λ slot. slot_at (decoded little o.instructions) (base (tables_of little o) row + slot)) 0 n) (sym (ap (λ f. f.slots) (row_is little o row row_in)))

-- ---- zero after what is used, with more used
drop_zeros : (k n : ℕ) → drop {A = ℕ} k (replicate n 0) ≡ replicate (n - k) 0
drop_zeros zero n = let e : n ≡ n - 0 = omega arith in ap (λ m. replicate m 0) e
drop_zeros (suc k) zero = let e : 0 ≡ 0 - suc k = omega arith in ap (λ m. replicate m 0) e
drop_zeros (suc k) (suc n) = let e : n - k ≡ suc n - suc k = omega arith in drop_zeros k n ∙ ap (λ m. replicate m 0) e

module _ (d xs : List ℕ) (at : ℕ) (fits : at + length xs ≤ length d) (rest : drop at d ≡ replicate (length d - at) 0) where
  pub rest_more : drop (at + length xs) (splice d at xs) ≡ replicate (length (splice d at xs) - (at + length xs)) 0
  rest_more =
      let e : length d - at - length xs ≡ length (splice d at xs) - (at + length xs) = omega (arith, splice_length d at xs fits) in
      splice_rest d at xs (at + length xs) (omega arith) fits
      ∙ sym (drop-drop (length xs) at d)
      ∙ ap (drop (length xs)) rest
      ∙ drop_zeros (length xs) (length d - at)
      ∙ ap (λ n. replicate n 0) e

-- the same, with the new count given
module _ (d xs : List ℕ) (at next : ℕ) (is : at + length xs ≡ next) (fits : at + length xs ≤ length d) (rest : drop at d ≡ replicate (length d - at) 0) where
  pub rest_next : drop next (splice d at xs) ≡ replicate (length (splice d at xs) - next) 0
  rest_next = subst (λ n. drop n (splice d at xs) ≡ replicate (length (splice d at xs) - n) 0) is (rest_more d xs at fits rest)

-- ---- the state and the buffers with a function more
abbrev pub used_more : Offered → ℕ → Used → Used
used_more o row u = record {
  slots = u.slots + function_slots o.functions row;
  funcs = u.funcs + function_func_info o.functions row;
  lines = u.lines + function_line_info o.functions row;
}

abbrev pub state_more : Offered → ℕ → State → State
state_more o row st = record { starts = set st.starts row st.used.slots; used = used_more o row st.used }

abbrev pub buffers_more : Offered → ℕ → Used → Buffers → Buffers
buffers_more o row u b =
    buffers (splice b.image (8 * u.slots) (slot_bytes o.functions o.instructions row))
    (splice b.funcs (8 * u.funcs) (func_bytes o.functions o.func_info row u.slots))
    (splice b.lines (16 * u.lines) (line_bytes o.functions o.line_info row u.slots))

-- room for the row
pub record Room (o : Offered) (row : ℕ) (u : Used) (b : Buffers) : Type 0 where
  pub slots : 8 * (u.slots + function_slots o.functions row) ≤ length b.image
  pub most_slots : u.slots + function_slots o.functions row ≤ most_image_slots
  pub funcs : 8 * (u.funcs + function_func_info o.functions row) ≤ length b.funcs
  pub most_funcs : u.funcs + function_func_info o.functions row ≤ most_image_functions
  pub lines : 16 * (u.lines + function_line_info o.functions row) ≤ length b.lines
  pub most_lines : u.lines + function_line_info o.functions row ≤ most_image_lines

module _ {o : Offered} (checked : LinkChecked o) (row : ℕ) (row_in : row < whole_rows Functions o.functions) (u : Used) (b : Buffers)
    (room : Room o row u b) where
  image_fits : 8 * u.slots + length (slot_bytes o.functions o.instructions row) ≤ length b.image
  image_fits = omega (arith, slots_long checked row row_in, room.slots)

  funcs_fit : 8 * u.funcs + length (func_bytes o.functions o.func_info row u.slots) ≤ length b.funcs
  funcs_fit = omega (arith, funcs_long checked row row_in u.slots, room.funcs)

  lines_fit : 16 * u.lines + length (line_bytes o.functions o.line_info row u.slots) ≤ length b.lines
  lines_fit = omega (arith, lines_long checked row row_in u.slots, room.lines)

  pub more_lengths : lent_by (buffers_more o row u b) ≡ lent_by b
  more_lengths =
      rw (
        splice_length b.image (8 * u.slots) (slot_bytes o.functions o.instructions row) image_fits,
        splice_length b.funcs (8 * u.funcs) (func_bytes o.functions o.func_info row u.slots) funcs_fit,
        splice_length b.lines (16 * u.lines) (line_bytes o.functions o.line_info row u.slots) lines_fit,
      )

  image_front : take (8 * (u.slots + function_slots o.functions row)) (splice b.image (8 * u.slots) (slot_bytes o.functions o.instructions row))
      ≡ take (8 * u.slots) b.image ++ slot_bytes o.functions o.instructions row
  image_front = splice_front b.image (8 * u.slots) (slot_bytes o.functions o.instructions row) (8 * (u.slots + function_slots o.functions row)) (omega (arith, slots_long checked row row_in)) (omega (arith, room.slots))

  funcs_front : take (8 * (u.funcs + function_func_info o.functions row)) (splice b.funcs (8 * u.funcs) (func_bytes o.functions o.func_info row u.slots))
      ≡ take (8 * u.funcs) b.funcs ++ func_bytes o.functions o.func_info row u.slots
  funcs_front = splice_front b.funcs (8 * u.funcs) (func_bytes o.functions o.func_info row u.slots) (8 * (u.funcs + function_func_info o.functions row)) (omega (arith, funcs_long checked row row_in u.slots)) (omega (arith, room.funcs))

  lines_front : take (16 * (u.lines + function_line_info o.functions row)) (splice b.lines (16 * u.lines) (line_bytes o.functions o.line_info row u.slots))
      ≡ take (16 * u.lines) b.lines ++ line_bytes o.functions o.line_info row u.slots
  lines_front = splice_front b.lines (16 * u.lines) (line_bytes o.functions o.line_info row u.slots) (16 * (u.lines + function_line_info o.functions row)) (omega (arith, lines_long checked row row_in u.slots)) (omega (arith, room.lines))

-- an array's element, whatever the place
set_small : (l : List ℕ) (i v k most : ℕ) → v < most → ((j : ℕ) → get_or l j 0 < most) → get_or (set l i v) k 0 < most
set_small l i v k most lv all = go (ℕ_discrete k i) (dec_lt i (length l))
  where
    go : Dec (k ≡ i) → Dec (i < length l) → get_or (set l i v) k 0 < most
    go (yes e) (yes inside) = rw (e, get_or-set_same l i v 0 inside) lv
    go (yes e) (no outside) =
        rw (get_or-eq_default (set l i v) 0 {n = k} (rw (length-set l i v) (omega arith))) (omega (arith, lv))
    go (no n) d = rw (get_or-set_other l i k v 0 n) (all k)

module _ {o : Offered} (checked : LinkChecked o) (row : ℕ) (row_in : row < whole_rows Functions o.functions) (has_slot : 1 ≤ function_slots o.functions row)
    (st : State) (b : Buffers) (valid : Valid st b) (room : Room o row st.used b) where
  pub more_valid : Valid (state_more o row st) (buffers_more o row st.used b)
  more_valid =
      let lens = more_lengths checked row row_in st.used b room in
      let li : length (buffers_more o row st.used b).image ≡ length b.image = ap (λ x. x.image) lens in
      let lf : length (buffers_more o row st.used b).funcs ≡ length b.funcs = ap (λ x. x.func_info) lens in
      let ll : length (buffers_more o row st.used b).lines ≡ length b.lines = ap (λ x. x.line_info) lens in
      record {
        long = length-set st.starts row st.used.slots ∙ valid.long;
        some_slot = omega (arith, valid.some_slot);
        most = room.most_slots;
        slots = omega (arith, li, room.slots);
        funcs = omega (arith, lf, room.funcs);
        lines = omega (arith, ll, room.lines);
        most_funcs = room.most_funcs;
        most_lines = room.most_lines;
        starts = λ k. set_small st.starts row st.used.slots k most_image_slots (omega (arith, room.most_slots, has_slot)) valid.starts;
        image_rest = rest_next b.image (slot_bytes o.functions o.instructions row) (8 * st.used.slots) _ (omega (arith, slots_long checked row row_in)) (image_fits checked row row_in st.used b room) valid.image_rest;
        funcs_rest = rest_next b.funcs (func_bytes o.functions o.func_info row st.used.slots) (8 * st.used.funcs) _ (omega (arith, funcs_long checked row row_in st.used.slots)) (funcs_fit checked row row_in st.used b room) valid.funcs_rest;
        lines_rest = rest_next b.lines (line_bytes o.functions o.line_info row st.used.slots) (16 * st.used.lines) _ (omega (arith, lines_long checked row row_in st.used.slots)) (lines_fit checked row row_in st.used b room) valid.lines_rest;
      }

  module _ {root : ℕ} {s : Link.State} (h : Holds o root st b s) (unplaced : start_of row s.placed ≡ none) (in_array : row < length st.starts) where
    image_more : decoded little (take (8 * (st.used.slots + function_slots o.functions row)) (buffers_more o row st.used b).image) ≡ s.image ++ slots_of (object_of (tables_of little o)) row
    image_more =
        ap (decoded little) (image_front checked row row_in st.used b room)
        ∙ append_decoded little (take (8 * st.used.slots) b.image) (slot_bytes o.functions o.instructions row) st.used.slots (length-take-le (8 * st.used.slots) b.image valid.slots)
        ∙ ap (λ x. x ++ decoded little (slot_bytes o.functions o.instructions row)) h.image
        ∙ ap (λ x. s.image ++ x) (slots_are checked row row_in)

    new_piece : Piece
    new_piece = piece row (length s.image)

    functions_now : image_functions (tables_of little o) root (s.placed ++ (piece row (length s.image) ∷ []))
        ≡ image_functions (tables_of little o) root s.placed ++ map (started_at st.used.slots) (func_rows o.functions o.func_info row)
    functions_now =
        image_functions_more (tables_of little o) root row (length s.image) s.placed
        ∙ ap (λ rs. image_functions (tables_of little o) root s.placed ++ map (started_at (length s.image)) rs) (own_functions checked row row_in)
        ∙ ap (λ n. image_functions (tables_of little o) root s.placed ++ map (started_at n) (func_rows o.functions o.func_info row)) (sym h.slots)

    lines_now : image_lines (tables_of little o) root (s.placed ++ (piece row (length s.image) ∷ []))
        ≡ image_lines (tables_of little o) root s.placed ++ map (rebased (first_slot (line_rows o.functions o.line_info row)) st.used.slots) (line_rows o.functions o.line_info row)
    lines_now =
        image_lines_more (tables_of little o) root row (length s.image) s.placed
        ∙ ap (λ rs. image_lines (tables_of little o) root s.placed ++ map (rebased (first_slot rs) (length s.image)) rs) (own_lines checked row row_in)
        ∙ ap (λ n. image_lines (tables_of little o) root s.placed ++ map (rebased (first_slot (line_rows o.functions o.line_info row)) n) (line_rows o.functions o.line_info row)) (sym h.slots)

    starts_now : (k : ℕ) → k < whole_rows Functions o.functions → get_or (set st.starts row st.used.slots) k 0 ≡ start_number (start_of k (s.placed ++ (piece row (length s.image) ∷ [])))
    starts_now k l = go (ℕ_discrete k row)
      where
        go : Dec (k ≡ row) → get_or (set st.starts row st.used.slots) k 0 ≡ start_number (start_of k (s.placed ++ (piece row (length s.image) ∷ [])))
        go (yes e) =
            rw e (get_or-set_same st.starts row st.used.slots 0 in_array ∙ h.slots ∙ sym (ap start_number (start_now row (length s.image) s.placed unplaced)))
        go (no n) =
            get_or-set_other st.starts row k st.used.slots 0 n ∙ h.starts k l
            ∙ sym (ap start_number (start_other k row (length s.image) s.placed (λ q. n (sym q))))

    positive_now : (k start : ℕ) → start_of k (s.placed ++ (piece row (length s.image) ∷ [])) ≡ some start → 1 ≤ start
    positive_now k start e = go (ℕ_discrete k row)
      where
        go : Dec (k ≡ row) → 1 ≤ start
        go (yes same) =
            let f : some (length s.image) ≡ some start = sym (start_now row (length s.image) s.placed unplaced) ∙ ap (λ r. start_of r (s.placed ++ (piece row (length s.image) ∷ []))) (sym same) ∙ e in
            let g : length s.image ≡ start = cc in
            omega (arith, h.slots, valid.some_slot)
        go (no n) = h.positive k start (sym (start_other k row (length s.image) s.placed (λ q. n (sym q))) ∙ e)

    pub more_holds : Holds o root (state_more o row st) (buffers_more o row st.used b) (extended (object_of (tables_of little o)) row s)
    unfolding func_bytes line_bytes
    more_holds = record {
      slots =
          ap (λ n. n + function_slots o.functions row) h.slots ∙ ap (λ n. length s.image + n) (sym (slots_count))
          ∙ sym (length-append s.image (slots_of (object_of (tables_of little o)) row));
      image = image_more;
      funcs_count =
          omega (
            arith,
            h.funcs_count,
            ap length functions_now,
            length-append (image_functions (tables_of little o) root s.placed) (map (started_at st.used.slots) (func_rows o.functions o.func_info row)),
            length-map (func_rows o.functions o.func_info row) (started_at st.used.slots),
            length_run (func_info_row little o.func_info) (summed (function_func_info o.functions) 0 row) (function_func_info o.functions row),
          );
      funcs =
          funcs_front checked row row_in st.used b room
          ∙ ap (λ x. x ++ func_bytes o.functions o.func_info row st.used.slots) h.funcs
          ∙ sym (func_bytes_append little (image_functions (tables_of little o) root s.placed) (map (started_at st.used.slots) (func_rows o.functions o.func_info row)))
          ∙ sym (ap (func_info_bytes little) functions_now);
      lines_count =
          omega (
            arith,
            h.lines_count,
            ap length lines_now,
            length-append (image_lines (tables_of little o) root s.placed) (map (rebased (first_slot (line_rows o.functions o.line_info row)) st.used.slots) (line_rows o.functions o.line_info row)),
            length-map (line_rows o.functions o.line_info row) (rebased (first_slot (line_rows o.functions o.line_info row)) st.used.slots),
            length_run (line_info_row little o.line_info) (summed (function_line_info o.functions) 0 row) (function_line_info o.functions row),
          );
      lines =
          lines_front checked row row_in st.used b room
          ∙ ap (λ x. x ++ line_bytes o.functions o.line_info row st.used.slots) h.lines
          ∙ sym (line_bytes_append little (image_lines (tables_of little o) root s.placed) (map (rebased (first_slot (line_rows o.functions o.line_info row)) st.used.slots) (line_rows o.functions o.line_info row)))
          ∙ sym (ap (line_info_bytes little) lines_now);
      starts = starts_now;
      positive = positive_now;
    }
      where
        slots_count : length (slots_of (object_of (tables_of little o)) row) ≡ function_slots o.functions row
        slots_count = length_run ((object_of (tables_of little o)).insn row) 0 ((object_of (tables_of little o)).slots row) ∙ object_slots checked row row_in
