-- No clause of the domain can be dropped: for each there is an input that meets all others, and on which the two answers are not equal.
-- Assumes nothing.
use mathlib.Core.Path.{◌≡◌, refl, sym, ◌∙◌, ap}
use mathlib.Core.Logic.{◌≢◌}
use mathlib.Core.Bool.{Bool, true, false, cond, not, ◌&&◌}
use mathlib.Core.Option.{none, some}
use mathlib.Core.List.{List, [], ◌∷◌, map, Memᴰ}
use Prim.Native.Nat.{ℕ}
use native.Mathlib.Omega.{arith}
use lib.IntN.{ℤ, pos, negsuc}
use lib.Dec.{eqb}
use lib.ListN.{length}
use borrow.Author.Tests.{eq-eqb}
use Rattle.rules.specs.Object.{Insn, is_call, is_blank, is_wide_load, decide, meaning, displacement, calling, referring}
use Rattle.rules.specs.Link.{visit, append, link}
use Rattle.rules.specs.Bytes.{signed}
use Rattle.rules.specs.Tables.{other, Symbol, MapRow, Tables, first, row_of, object_of}
use Rattle.rules.specs.Maps.{Task, task, is_symbol, has_none, symbol_of, all_tasks, judge, first_refusal, applied, rewrite_all, map_step}
use Rattle.rules.specs.Records.{image_functions, image_lines, admits, link_step, room_for, stray_line}
use Rattle.equality.specs.Met.{visit_met, append_met, link_met}
use Rattle.equality.specs.Crate as Crate
use Rattle.equality.specs.Crate.{u32, u64, i32, add_u64, mul_u64, add_u32, sub_u32, add_i32, sub_i32, insn_is_call, Result, ok, err, panics, too_deep, Error, Linker, relocate_map, relocate_maps, relocate_functions, object_relocate_maps, slot_of, relocate_from, relocate, link_new, relocate_calls}
use Rattle.equality.specs.Domain.{crate_of, cause_of, reached}
use Rattle.equality.specs.Demand2.{both_steps, with_functions, Answer, image, refusal, endless, by_link, our_steps, Clause, valid_tables, compared_only, one_refusable, five_not_text, five_no_map, map_alone, call_below, reference_below, callees_differ, function_count, line_count, Domain, Except, Equal, EqualWithin}
use Rattle.equality.proofs.Inputs.{Input, hidden_of, full_room, symbol, relocation, map_row, unknown_symbol, two_programs, found_by_section, inputs_for}
use Rattle.equality.proofs.Checks.{allb, all_member, test_but, except_by, domain_by}

-- what an answer shows: instructions and both counts; an error; or neither
pub data Seen : Type 0 where
  gives : List Insn → ℕ → ℕ → Seen
  errs : Error → Seen
  panicked never : Seen

abbrev pub seen_ours : Tables → ℕ → Answer → Seen
seen_ours tables root (image state) = gives state.image (length (image_functions tables root state.placed)) (length (image_lines tables root state.placed))
seen_ours tables root (refusal why) = errs (cause_of why.number)
seen_ours tables root endless = never

abbrev pub seen_crate : Result Linker → Seen
seen_crate (ok linker) = gives linker.instructions linker.func_num_info linker.line_num_info
seen_crate (err e) = errs e
seen_crate panics = panicked
seen_crate too_deep = never

equal_seen : (tables : Tables) (root : ℕ) (a : Answer) (o : Result Linker) → Equal tables root a o → seen_ours tables root a ≡ seen_crate o
equal_seen tables root (image state) o same =
    (λ i. gives (sym same.instructions i) (sym same.func_num i) (sym same.line_num i)) ∙ ap seen_crate (sym same.is_ok)
equal_seen tables root (refusal why) o same = ap seen_crate (sym same)
equal_seen tables root endless o same = absurd same

-- a test that never tells one from itself
abbrev alike_numbers : ℤ → ℤ → Bool
alike_numbers (pos a) (pos b) = eqb a b
alike_numbers (negsuc a) (negsuc b) = eqb a b
alike_numbers (pos a) (negsuc b) = false
alike_numbers (negsuc a) (pos b) = false

abbrev alike_slots : List Insn → List Insn → Bool
alike_slots [] [] = true
alike_slots (i ∷ is) (j ∷ js) = eqb i.opcode j.opcode && (alike_numbers i.immediate j.immediate && alike_slots is js)
alike_slots [] (j ∷ js) = false
alike_slots (i ∷ is) [] = false

abbrev error_number : Error → ℕ
error_number Crate.unknown_symbol = 0
error_number Crate.section_not_found = 1
error_number Crate.unknown_function = 2
error_number Crate.unknown_program = 3
error_number Crate.invalid_relocation_offset = 4

abbrev alike : Seen → Seen → Bool
alike (gives is f l) (gives js g m) = alike_slots is js && (eqb f g && eqb l m)
alike (gives is f l) (errs e) = false
alike (gives is f l) panicked = false
alike (gives is f l) never = false
alike (errs e) (gives is f l) = false
alike (errs e) (errs d) = eqb (error_number e) (error_number d)
alike (errs e) panicked = false
alike (errs e) never = false
alike panicked (gives is f l) = false
alike panicked (errs e) = false
alike panicked panicked = true
alike panicked never = false
alike never (gives is f l) = false
alike never (errs e) = false
alike never panicked = false
alike never never = true

same_number : (z : ℤ) → alike_numbers z z ≡ true
same_number (pos n) = eq-eqb n n refl
same_number (negsuc n) = eq-eqb n n refl

same_slots : (is : List Insn) → alike_slots is is ≡ true
same_slots [] = refl
same_slots (i ∷ is) = rw (eq-eqb i.opcode i.opcode refl, same_number i.immediate) (same_slots is)

same_seen : (s : Seen) → alike s s ≡ true
same_seen (gives is f l) = rw (same_slots is, eq-eqb f f refl, eq-eqb l l refl) refl
same_seen (errs e) = eq-eqb (error_number e) (error_number e) refl
same_seen panicked = refl
same_seen never = refl

abbrev pub ours : Input → Seen
ours i = seen_ours i.tables i.root (our_steps i.tables i.room i.root)

abbrev pub crate : Input → Result Linker
crate i = both_steps (crate_of i.tables (hidden_of i)) i.tables.maps (row_of i.tables i.root).home (row_of i.tables i.root).address

abbrev differs : Input → Bool
differs i = not (alike (ours i) (seen_crate (crate i)))

abbrev Unequal : Input → Type 0
Unequal i = Equal i.tables i.root (our_steps i.tables i.room i.root) (crate i) → ⊥

unequal_by : (i : Input) → differs i ≡ true → Unequal i
unequal_by i e same = go (alike (ours i) (seen_crate (crate i))) e (ap (alike (ours i)) (sym (equal_seen i.tables i.root (our_steps i.tables i.room i.root) (crate i) same)) ∙ same_seen (ours i))
  where
    go : (b : Bool) → not b ≡ true → b ≡ true → ⊥
    go true e t = let z : ◌≡◌ {A = ℕ} 0 1 = cc in omega arith
    go false e t = let z : ◌≡◌ {A = ℕ} 0 1 = cc in omega arith

-- each input meets every clause but its own
others : (x : Clause) → allb (test_but x) (inputs_for x) ≡ true
unfolding is_call is_blank is_wide_load decide meaning displacement calling referring visit append link object_of judge first_refusal applied rewrite_all map_step image_functions image_lines admits room_for stray_line link_step our_steps visit_met append_met link_met reached
others valid_tables = refl
others compared_only = refl
others one_refusable = refl
others five_not_text = refl
others five_no_map = refl
others map_alone = refl
others call_below = refl
others reference_below = refl
others callees_differ = refl
others function_count = refl
others line_count = refl

-- and the two answers differ on it
apart : (x : Clause) → allb differs (inputs_for x) ≡ true
unfolding is_call is_blank is_wide_load decide meaning displacement calling referring visit append link signed object_of judge first_refusal applied rewrite_all map_step image_functions image_lines admits room_for stray_line link_step u32 u64 i32 add_u64 mul_u64 add_u32 sub_u32 add_i32 sub_i32 insn_is_call relocate_map relocate_maps relocate_functions object_relocate_maps slot_of relocate_from relocate link_new Crate.link relocate_calls crate_of both_steps our_steps
apart valid_tables = refl
apart compared_only = refl
apart one_refusable = refl
apart five_not_text = refl
apart five_no_map = refl
apart map_alone = refl
apart call_below = refl
apart reference_below = refl
apart callees_differ = refl
apart function_count = refl
apart line_count = refl

-- in the domain but for one clause, and unequal
pub record Needed (x : Clause) (i : Input) : Type 0 where
  pub within : Except x i.tables (hidden_of i) i.room i.root
  pub unequal : Unequal i

pub needed : (x : Clause) (i : Input) → Memᴰ i (inputs_for x) → Needed x i
needed x i among = record {
  within = except_by x i (all_member (test_but x) (inputs_for x) (others x) i among);
  unequal = unequal_by i (all_member differs (inputs_for x) (apart x) i among);
}

-- demand 2 without the clause x
abbrev pub Without : Clause → Type 0
Without x = EqualWithin (λ c. c ≢ x)

first_needed : (x : Clause) (i : Input) → Needed x i → Without x → ⊥
first_needed x i n theorem = n.unequal (theorem i.tables (hidden_of i) i.room i.root n.within)

-- ... is false, whichever it is
pub none_dropped : (x : Clause) → Without x → ⊥
none_dropped valid_tables = first_needed valid_tables _ (needed valid_tables _ (Memᴰ.head refl))
none_dropped compared_only = first_needed compared_only _ (needed compared_only _ (Memᴰ.head refl))
none_dropped one_refusable = first_needed one_refusable _ (needed one_refusable _ (Memᴰ.head refl))
none_dropped five_not_text = first_needed five_not_text _ (needed five_not_text _ (Memᴰ.head refl))
none_dropped five_no_map = first_needed five_no_map _ (needed five_no_map _ (Memᴰ.head refl))
none_dropped map_alone = first_needed map_alone _ (needed map_alone _ (Memᴰ.head refl))
none_dropped call_below = first_needed call_below _ (needed call_below _ (Memᴰ.head refl))
none_dropped reference_below = first_needed reference_below _ (needed reference_below _ (Memᴰ.head refl))
none_dropped callees_differ = first_needed callees_differ _ (needed callees_differ _ (Memᴰ.head refl))
none_dropped function_count = first_needed function_count _ (needed function_count _ (Memᴰ.head refl))
none_dropped line_count = first_needed line_count _ (needed line_count _ (Memᴰ.head refl))

-- "Maps first, then calls": in the domain, and the link alone is not equal. Ours is 3, the crate copies the slot
abbrev pub linked_alone : Input → Result Linker
linked_alone i = relocate_calls (crate_of i.tables (hidden_of i)) (row_of i.tables i.root).home (row_of i.tables i.root).address

pub maps_first : Domain unknown_symbol.tables (hidden_of unknown_symbol) full_room 0
    × (Equal unknown_symbol.tables 0 (by_link (link_step unknown_symbol.tables full_room 0)) (linked_alone unknown_symbol) → ⊥)
unfolding is_call is_blank is_wide_load decide meaning displacement calling referring visit append link signed object_of judge first_refusal applied rewrite_all map_step image_functions image_lines admits room_for stray_line link_step u32 u64 i32 add_u64 mul_u64 add_u32 sub_u32 add_i32 sub_i32 insn_is_call relocate_map relocate_maps relocate_functions object_relocate_maps slot_of relocate_from relocate link_new Crate.link relocate_calls crate_of both_steps our_steps visit_met append_met link_met reached
maps_first = (
  domain_by unknown_symbol refl,
  λ same. let z : ◌≡◌ {A = ℕ} 0 1 = cc in omega arith,
)

-- "the root is the only program". for (name, program) in &self.programs { .. self.functions.insert(program.function_key(), func); }: here with two
abbrev pub put_back : ℕ → ℕ → Linker → Crate.Function → Crate.Function
put_back section_index address linker f =
    cond (eqb f.section_index section_index && eqb f.address address)
    (record {
      address = f.address;
      section_index = f.section_index;
      section_offset = f.section_offset;
      instructions = linker.instructions;
      func_info = linker.func_info;
      func_num_info = linker.func_num_info;
      line_info = linker.line_info;
      line_num_info = linker.line_num_info;
    })
    f

abbrev pub two_linked : Crate.Object → ℕ → ℕ → ℕ → ℕ → Result Linker
two_linked object home address home' address' =
    Crate.bind (relocate_calls object home address)
    (λ linker. relocate_calls (with_functions object (map (put_back home address linker) object.functions)) home' address')

-- A and then the root: A's own call, which the first link rewrote, leads to no function
pub only_program : Domain two_programs.tables (hidden_of two_programs) full_room 1
    × (Equal two_programs.tables 1 (our_steps two_programs.tables full_room 1) (two_linked (crate_of two_programs.tables (hidden_of two_programs)) 1 0 1 16) → ⊥)
unfolding is_call is_blank is_wide_load decide meaning displacement calling referring visit append link signed object_of judge first_refusal applied rewrite_all map_step image_functions image_lines admits room_for stray_line link_step u32 u64 i32 add_u64 mul_u64 add_u32 sub_u32 add_i32 sub_i32 insn_is_call relocate_map relocate_maps relocate_functions object_relocate_maps slot_of relocate_from relocate link_new Crate.link relocate_calls crate_of both_steps our_steps visit_met append_met link_met reached
only_program = (
  domain_by two_programs refl,
  λ same. let e = same.is_ok in let z : ◌≡◌ {A = ℕ} 0 1 = cc in omega arith,
)

-- "no relocation finds its map by section where only maps with symbols stand"
abbrev pub BySection : Tables → Type 0
BySection tables =
    (t : Task) (s : Symbol) (home : ℕ) → Memᴰ t (all_tasks tables) → symbol_of tables t.relocation ≡ some s → s.home ≡ some home
    → first (λ m. is_symbol t.relocation.symbol m.symbol) tables.maps ≡ none
    → (m : MapRow) → Memᴰ m tables.maps → m.home ≡ home → first (λ m. eqb m.home home && has_none m.symbol) tables.maps ≢ none

-- it is not needed: this is in the domain, where `demand_2` says that the two are equal, and not in that clause
pub spare_clause : Domain found_by_section.tables (hidden_of found_by_section) full_room 0 × (BySection found_by_section.tables → ⊥)
unfolding is_call is_blank is_wide_load decide meaning displacement calling referring visit append link object_of judge first_refusal applied rewrite_all map_step image_functions image_lines admits room_for stray_line link_step our_steps visit_met append_met link_met reached
spare_clause = (
  domain_by found_by_section refl,
  λ h. h (task 1 (relocation 2 9 0 64)) (symbol 9 5 0 other) 5 (Memᴰ.tail (Memᴰ.head refl)) refl refl refl (map_row 5 (some 8) 6 false) (Memᴰ.head refl) refl refl,
)
