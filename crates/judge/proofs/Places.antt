-- The judgement of a relocation at its place in table 6: outside its function, off the grid, or by its symbol.
-- Assumes nothing.
use mathlib.Core.Path.{◌≡◌, refl, sym, ap, ◌∙◌, subst}
use mathlib.Core.Bool.{Bool, true, false, cond, ◌&&◌, ◌||◌}
use mathlib.Core.Option.{Option, none, some}
use mathlib.Core.List.{List, [], ◌∷◌}
use Prim.Native.Nat.{ℕ, suc, ◌+◌, ◌-◌, ◌*◌, ◌%◌, ◌≤◌, ◌<◌}
use native.Mathlib.Omega.{arith}
use borrow.Author.Tests.{eq-eqb, ne_eqb, lt-ltb, le-ltb, le-leb, lt-leb, ltb-true, ltb-false}
use lib.Dec.{eqb, ltb}
use lib.IntN.{ℤ, pos, ◌+ℤ◌}
use lib.ListN.{length}
use Rattle.std.specs.Prelude as prelude
use Rattle.std.specs.Prelude.{Ok, Err, Some, None}
use Rattle.rules.specs.declared.Table.TheVariants.{Functions}
use Rattle.rules.specs.declared.Cause.TheVariants.{InvalidRelocationOffset}
use Rattle.rules.specs.declared.Refusal.{Refusal}
use Rattle.rules.specs.Object.{Insn, is_call, is_blank, is_wide_in}
use Rattle.rules.specs.Faithful.{slot_at}
use Rattle.rules.specs.Bytes.{little, slot_in, slot_size, decoded}
use Rattle.rules.specs.Answers.{Reply, reply, number_of, refused_reply}
use Rattle.rules.specs.Tables.{Function, MapRow, first as first_row, base, is_code}
use Rattle.rules.specs.Maps as step
use Rattle.rules.specs.Maps.{inside, on_grid, slot_for, or_else, map_for, by_kind, by_home, by_symbol, symbol_of, judge}
use Rattle.rules.specs.Rows.{most_rows, most_function_slots, Offered, whole_rows, or_none, kind_of, total, symbol_row, symbol_kind, symbol_section, symbol_address, function_row, function_slots, function_offset, relocation_row, relocation_symbol, relocation_offset, map_row}
use Rattle.rules.specs.Lookups.{is_code_section, symbol_with, map_with_symbol, map_of_section, read_row}
use Rattle.rules.proofs.Searches.{part_inside, summed_bound}
use Rattle.rules.proofs.Passed.{and_left, and_right, few_rows, good_function}
use Rattle.rules.proofs.Reading.{row_is, base_is, code_is, symbol_is, map_is}
use Rattle.rules.proofs.Writing.{decoded_at}
use Rattle.insn.specs.Wide.{wide_load_in}
use Rattle.judge.specs.declared.Site.{Site}
use Rattle.judge.specs.Verdicts.{Verdict, RoomFor, PlacedAt, map_found, home_verdict, found_verdict, symbol_verdict, Says, SiteAt}
use Rattle.judge.specs.Judged.{tables, slots_of, task_of, slot_of, Asked, Inside, Judges}

-- ---- tests
and_false : (a b c : Bool) → ((a && false) && b) ≡ ((a && false) && c)
and_false true b c = refl
and_false false b c = refl

ltb_shift : (n a b : ℕ) → ltb a b ≡ ltb (n + a) (n + b)
ltb_shift n a b = go (ltb a b) refl
  where
    go : (x : Bool) → ltb a b ≡ x → x ≡ ltb (n + a) (n + b)
    go true e = sym (lt-ltb (n + a) (n + b) (omega (arith, ltb-true a b e)))
    go false e = sym (le-ltb (n + a) (n + b) (omega (arith, ltb-false a b e)))

read_or : {A : Type 0} (f : ℕ → A) (a b : Option ℕ) → or_else (read_row f a) (read_row f b) ≡ read_row f (or_else a b)
read_or f none b = refl
read_or f (some k) b = refl

-- ---- a wide load, among slots and among bytes
module _ (b : List ℕ) (first slot slots : ℕ) (in_function : slot < slots) (in_table : slot_size * (first + slots) ≤ length b) where
  slot_is : (n : ℕ) → n < first + slots → slot_at (decoded little b) n ≡ slot_in little b n
  slot_is n l = decoded_at little b n (omega arith)

  wide_slot : is_wide_in (λ n. slot_at (decoded little b) (first + n)) slots slot ≡ wide_load_in b (first + slot) (first + slots)
  unfolding wide_load_in
  wide_slot =
      let e : first + suc slot ≡ suc (first + slot) = omega arith in
      rw (slot_is (first + slot) (omega arith), e, ltb_shift first (suc slot) slots, e) (go (ltb (suc (first + slot)) (first + slots)) refl)
    where
      go : (x : Bool) → ltb (suc (first + slot)) (first + slots) ≡ x
          → (eqb (slot_in little b (first + slot)).opcode 0x18 && x && is_blank (slot_at (decoded little b) (suc (first + slot))))
          ≡ (eqb (slot_in little b (first + slot)).opcode 0x18 && x && is_blank (slot_in little b (suc (first + slot))))
      go true t = ap (λ i. eqb (slot_in little b (first + slot)).opcode 0x18 && true && is_blank i) (slot_is (suc (first + slot)) (ltb-true (suc (first + slot)) (first + slots) t))
      go false t = and_false (eqb (slot_in little b (first + slot)).opcode 0x18) (is_blank (slot_at (decoded little b) (suc (first + slot)))) (is_blank (slot_in little b (suc (first + slot))))

wide_next : (b : List ℕ) (here end : ℕ) → wide_load_in b here end ≡ true → suc here < end
unfolding wide_load_in
wide_next b here end e = ltb-true (suc here) end (and_right (eqb (slot_in little b here).opcode 0x18) _ (and_left _ (is_blank (slot_in little b (suc here))) e))

-- ---- by the symbol, as the definition has it and by rows
module _ (o : Offered) (symbol : ℕ) (site : Site) (i : Insn) (call_is : site.call ≡ is_call i) (imm_is : site.imm ≡ i.immediate) where
  home_same : (s : ℕ) (h : Option ℕ) → home_verdict o.code o.symbols o.maps s symbol site (tables o) h
      ≡ by_home (tables o) h (symbol_row o.symbols s) symbol i site.wide
  home_same s none = refl
  home_same s (some home) =
      ap (λ c. shape c (is_code_section o.code home) (read_row (map_row o.maps) (map_found o.maps symbol home)) site.imm) call_is
      ∙ ap (λ c. shape (is_call i) c (read_row (map_row o.maps) (map_found o.maps symbol home)) site.imm) (sym (code_is little o home))
      ∙ ap (λ m. shape (is_call i) (is_code (tables o) home) m site.imm)
      (sym (map_is little o symbol home ∙ read_or (map_row o.maps) (map_with_symbol o.maps symbol) (map_of_section o.maps home)))
      ∙ ap (shape (is_call i) (is_code (tables o) home) (map_for (tables o) symbol home)) imm_is
    where
      shape : Bool → Bool → Option MapRow → ℤ → step.Verdict
      shape call code m imm =
          cond (call || code) step.skipped (by_kind (tables o) (kind_of (symbol_kind o.symbols s)) m site.wide (imm +ℤ pos (symbol_address o.symbols s)))

  found_same : (found : Option ℕ) → found_verdict o.code o.symbols o.maps symbol site (tables o) found
      ≡ by_symbol (tables o) (read_row (symbol_row o.symbols) found) symbol i site.wide
  found_same none = refl
  found_same (some s) = home_same s (or_none (symbol_section o.symbols s))

  symbol_same : symbol_verdict o.code o.symbols o.maps symbol site (tables o)
      ≡ by_symbol (tables o) (first_row (λ s. eqb s.index symbol) (tables o).symbols) symbol i site.wide
  symbol_same =
      found_same (symbol_with o.symbols symbol)
      ∙ ap (λ s. by_symbol (tables o) s symbol i site.wide) (sym (symbol_is little o symbol))

-- ---- a relocation in a function
module _ {o : Offered} {row first k : ℕ} (asked : Asked o row first k) where
  pub slots_high : function_slots o.functions row ≤ most_function_slots
  slots_high = (good_function o.functions asked.of_row.checked.tables.functions row asked.of_row.row_inside).slots_high

  pub row_low : row < most_rows Functions
  row_low = omega (arith, few_rows Functions o.functions asked.of_row.checked.tables.functions, asked.of_row.row_inside)

  pub first_low : first ≤ most_function_slots * row
  first_low =
      rw asked.of_row.first_is
      (summed_bound (function_slots o.functions) most_function_slots row (λ j h. (good_function o.functions asked.of_row.checked.tables.functions j (omega (arith, asked.of_row.row_inside))).slots_high))

  pub in_table : slot_size * (first + function_slots o.functions row) ≤ length o.instructions
  unfolding total
  in_table =
      omega (
        arith,
        asked.of_row.first_is,
        asked.of_row.checked.tables.instructions,
        part_inside (function_slots o.functions) (whole_rows Functions o.functions) row asked.of_row.row_inside,
      )

  -- over a function's row and its first slot
  judged : Function → ℕ → step.Verdict
  judged f from =
      cond (inside f (relocation_row o.relocations k))
      (cond (on_grid f (relocation_row o.relocations k))
      (by_symbol (tables o) (symbol_of (tables o) (relocation_row o.relocations k)) (relocation_symbol o.relocations k)
      (slot_at (slots_of o) (from + slot_for f (relocation_row o.relocations k)))
      (is_wide_in (λ n. slot_at (slots_of o) (from + n)) f.slots (slot_for f (relocation_row o.relocations k))))
      (step.refused 4))
      step.skipped

  judge_is : judge (tables o) (slots_of o) (task_of o row k) ≡ judged (function_row o.functions row) first
  unfolding judge judged
  judge_is =
      let base_first : base (tables o) row ≡ first = base_is little o row (omega (arith, asked.of_row.row_inside)) ∙ sym asked.of_row.first_is in
      ap (λ f. judged f (base (tables o) row)) (row_is little o row asked.of_row.row_inside)
      ∙ ap (judged (function_row o.functions row)) base_first

  pub before_judges : relocation_offset o.relocations k < function_offset o.functions row → Judges o row first k (Ok None)
  unfolding judged
  before_judges h = record {
    says = sym (judge_is ∙ rw (lt-leb (function_offset o.functions row) (relocation_offset o.relocations k) h));
    places = tt;
  }

  module _ (from : function_offset o.functions row ≤ relocation_offset o.relocations k) where
    pub past_judges : function_offset o.functions row + 8 * function_slots o.functions row ≤ relocation_offset o.relocations k → Judges o row first k (Ok None)
    unfolding judged
    past_judges h = record {
      says = sym (judge_is ∙ rw (
        le-leb (function_offset o.functions row) (relocation_offset o.relocations k) from,
        le-ltb (relocation_offset o.relocations k) (function_offset o.functions row + 8 * function_slots o.functions row) h,
      ));
      places = tt;
    }

    module _ (to : relocation_offset o.relocations k < function_offset o.functions row + 8 * function_slots o.functions row) where
      pub off_judges : ((relocation_offset o.relocations k - function_offset o.functions row) % 8 ≡ 0 → ⊥) → (r : Refusal) → refused_reply r ≡ reply (number_of InvalidRelocationOffset) row (slot_of o row k) 0
          → Judges o row first k (Err r)
      unfolding judged
      off_judges n r e = record {
        says = ap (λ (x : Reply). step.refused x.number) e ∙ sym (judge_is ∙ rw (
          le-leb (function_offset o.functions row) (relocation_offset o.relocations k) from,
          lt-ltb (relocation_offset o.relocations k) (function_offset o.functions row + 8 * function_slots o.functions row) to,
          ne_eqb ((relocation_offset o.relocations k - function_offset o.functions row) % 8) 0 n,
        ));
        places = ap (λ (x : Reply). x.places) e;
      }

      slot_low : slot_of o row k < function_slots o.functions row
      slot_low = omega arith

      -- on the grid: the slot as it was read
      module _ (on : (relocation_offset o.relocations k - function_offset o.functions row) % 8 ≡ 0) (site : Site) (slot slots : ℕ) (slot_same : slot ≡ slot_of o row k)
          (slots_same : slots ≡ function_slots o.functions row) (was_read : SiteAt o.instructions row slot first slots site) where
        at : SiteAt o.instructions row (slot_of o row k) first (function_slots o.functions row) site
        at = subst (λ n. SiteAt o.instructions row n first (function_slots o.functions row) site) slot_same
            (subst (λ n. SiteAt o.instructions row slot first n site) slots_same was_read)

        slot_read : slot_at (slots_of o) (first + slot_of o row k) ≡ slot_in little o.instructions (first + slot_of o row k)
        slot_read = slot_is o.instructions first (slot_of o row k) (function_slots o.functions row) slot_low in_table (first + slot_of o row k) (omega (arith, slot_low))

        by_site : symbol_verdict o.code o.symbols o.maps (relocation_symbol o.relocations k) site (tables o)
            ≡ judged (function_row o.functions row) first
        unfolding judged
        by_site =
            rw (
              le-leb (function_offset o.functions row) (relocation_offset o.relocations k) from,
              lt-ltb (relocation_offset o.relocations k) (function_offset o.functions row + 8 * function_slots o.functions row) to,
              eq-eqb ((relocation_offset o.relocations k - function_offset o.functions row) % 8) 0 on,
            )
            (symbol_same o (relocation_symbol o.relocations k) site (slot_at (slots_of o) (first + slot_of o row k))
            (at.call_is ∙ ap is_call (sym slot_read)) (at.imm_is ∙ ap (λ i. i.immediate) (sym slot_read))
            ∙ ap (by_symbol (tables o) (symbol_of (tables o) (relocation_row o.relocations k)) (relocation_symbol o.relocations k) (slot_at (slots_of o) (first + slot_of o row k)))
            (at.wide_is ∙ sym (wide_slot o.instructions first (slot_of o row k) (function_slots o.functions row) slot_low in_table)))

        room : (value : prelude.Option ℤ) → RoomFor (Unit {0}) (site.wide ≡ true) value
            → RoomFor (Inside o.instructions (first + slot_of o row k)) (Inside o.instructions (suc (first + slot_of o row k))) value
        room None wide = omega (arith, slot_low, in_table)
        room (Some value) wide =
            let next : suc (first + slot_of o row k) < first + function_slots o.functions row =
            wide_next o.instructions (first + slot_of o row k) (first + function_slots o.functions row) (sym at.wide_is ∙ wide) in
            omega (arith, in_table)

        placed : (r : Verdict) → PlacedAt site.row site.slot.0 site.here.0 (Unit {0}) (site.wide ≡ true) r
            → PlacedAt row (slot_of o row k) (first + slot_of o row k) (Inside o.instructions (first + slot_of o row k)) (Inside o.instructions (suc (first + slot_of o row k))) r
        placed (Ok None) p = tt
        placed (Err a) p = p ∙ ap (λ n. n ∷ site.slot.0 ∷ 0 ∷ []) at.row_is ∙ ap (λ n. row ∷ n ∷ 0 ∷ []) at.slot_is
        placed (Ok (Some c)) p = (p.0 ∙ at.here_is, room c.value p.1)

        pub site_judges : (r : Verdict) → Says site (symbol_verdict o.code o.symbols o.maps (relocation_symbol o.relocations k) site) r → Judges o row first k r
        site_judges r s = record { says = s.says (tables o) ∙ by_site ∙ sym judge_is; places = placed r s.places }
