-- The two answers to each input of proofs/Inputs.antt, ours and then the crate's, by computation.
-- Assumes nothing.
use mathlib.Core.Path.{◌≡◌, refl}
use mathlib.Core.List.{List, [], ◌∷◌, map}
use Prim.Native.Nat.{ℕ}
use lib.IntN.{pos, negsuc}
use Rattle.rules.specs.Object.{is_call, is_blank, is_wide_load, decide, meaning, displacement, calling, referring}
use Rattle.rules.specs.Link.{visit, append, link}
use Rattle.rules.specs.Bytes.{signed}
use Rattle.rules.specs.Tables.{object_of}
use Rattle.rules.specs.Maps.{judge, first_refusal, applied, rewrite_all, map_step}
use Rattle.rules.specs.Records.{image_functions, image_lines, admits, link_step, room_for, stray_line}
use Rattle.equality.specs.Crate as Crate
use Rattle.equality.specs.Crate.{u32, u64, i32, add_u64, mul_u64, add_u32, sub_u32, add_i32, sub_i32, insn_is_call, relocate_map, relocate_maps, relocate_functions, object_relocate_maps, slot_of, relocate_from, relocate, link_new, relocate_calls}
use Rattle.equality.specs.Domain.{crate_of, cause_of}
use Rattle.equality.specs.Demand2.{both_steps, Answer, image, refusal, endless, our_steps, Clause, valid_tables, compared_only, one_refusable, five_not_text, five_no_map, map_alone, call_below, reference_below, callees_differ, function_count, line_count}
use Rattle.equality.proofs.Inputs.{Input, insn, exits, calls, next, inputs_for}
use Rattle.equality.proofs.Needed.{Seen, gives, errs, panicked, seen_crate, ours, crate}

abbrev both : Input → List Seen
both i = ours i ∷ seen_crate (crate i) ∷ []

-- a load that the map step gave a descriptor, without data and with it
abbrev loaded : ℕ → ℕ → Seen
loaded fd value = gives (insn 0x18 1 1 (pos fd) ∷ insn 0 0 0 (pos value) ∷ []) 0 0

abbrev loaded_value : ℕ → Seen
loaded_value value = gives (insn 0x18 1 2 (pos 7) ∷ insn 0 0 0 (pos value) ∷ []) 0 0

-- a root of one call, and its copy
abbrev twice : ℕ → Seen
twice lines = gives (calls (pos 0) ∷ calls (negsuc 0) ∷ []) 0 lines

abbrev answers_to : Clause → List (List Seen)
answers_to valid_tables =
    (loaded 7 0 ∷ loaded 6 0 ∷ [])
    ∷ (loaded 6 0 ∷ loaded 7 0 ∷ [])
    ∷ (gives [] 0 0 ∷ errs Crate.unknown_program ∷ [])
    ∷ (gives (exits ∷ []) 0 0 ∷ gives (next ∷ []) 0 0 ∷ [])
    ∷ (loaded_value 0 ∷ loaded_value 1 ∷ [])
    ∷ (errs Crate.unknown_function ∷ twice 0 ∷ [])
    ∷ (errs Crate.unknown_function ∷ twice 0 ∷ [])
    ∷ (gives (insn 0x185 0 1 (negsuc 0) ∷ []) 0 0 ∷ gives (insn 0x185 0 1 (pos 0) ∷ insn 0x185 0 1 (negsuc 0) ∷ []) 0 0 ∷ [])
    ∷ (errs Crate.unknown_function ∷ twice 0 ∷ [])
    ∷ []
answers_to compared_only =
    (errs (cause_of 6) ∷ gives (insn 0x95 0 1 (pos 7) ∷ []) 0 0 ∷ [])
    ∷ (errs (cause_of 6) ∷ panicked ∷ [])
    ∷ (errs (cause_of 6) ∷ gives (insn 0x95 0 4 (pos 0) ∷ insn 0x95 0 4 (negsuc 0) ∷ []) 0 0 ∷ [])
    ∷ (errs (cause_of 7) ∷ gives (insn 0x18 1 2 (pos 7) ∷ insn 0 0 0 (negsuc 0x7fff_ffff) ∷ []) 0 0 ∷ [])
    ∷ (errs (cause_of 8) ∷ panicked ∷ [])
    ∷ (errs (cause_of 9) ∷ twice 0 ∷ [])
    ∷ (errs (cause_of 11) ∷ gives (exits ∷ []) 0 0 ∷ [])
    ∷ (errs (cause_of 12) ∷ twice 4 ∷ [])
    ∷ []
answers_to one_refusable = (errs Crate.unknown_symbol ∷ errs Crate.invalid_relocation_offset ∷ []) ∷ []
answers_to five_not_text = (errs Crate.section_not_found ∷ errs Crate.unknown_function ∷ []) ∷ []
answers_to five_no_map = (errs Crate.section_not_found ∷ loaded 7 0 ∷ []) ∷ []
answers_to map_alone = (loaded 7 0 ∷ loaded 6 0 ∷ []) ∷ []
answers_to call_below = (gives (calls (pos 0) ∷ exits ∷ []) 0 0 ∷ errs Crate.unknown_function ∷ []) ∷ []
answers_to reference_below = (gives (insn 0x18 1 4 (pos 1) ∷ next ∷ exits ∷ []) 0 0 ∷ errs Crate.unknown_function ∷ []) ∷ []
answers_to callees_differ = (gives (calls (pos 1) ∷ calls (pos 1) ∷ exits ∷ exits ∷ []) 0 0 ∷ gives (calls (pos 1) ∷ calls (pos 0) ∷ exits ∷ []) 0 0 ∷ []) ∷ []
answers_to function_count = (gives (exits ∷ []) 1 0 ∷ gives (exits ∷ []) 5 0 ∷ []) ∷ []
answers_to line_count = (gives (exits ∷ []) 0 1 ∷ gives (exits ∷ []) 0 5 ∷ []) ∷ []

pub answered : (x : Clause) → map both (inputs_for x) ≡ answers_to x
unfolding is_call is_blank is_wide_load decide meaning displacement calling referring visit append link signed object_of judge first_refusal applied rewrite_all map_step image_functions image_lines admits room_for stray_line link_step u32 u64 i32 add_u64 mul_u64 add_u32 sub_u32 add_i32 sub_i32 insn_is_call relocate_map relocate_maps relocate_functions object_relocate_maps slot_of relocate_from relocate link_new Crate.link relocate_calls crate_of both_steps our_steps
answered valid_tables = refl
answered compared_only = refl
answered one_refusable = refl
answered five_not_text = refl
answered five_no_map = refl
answered map_alone = refl
answered call_below = refl
answered reference_below = refl
answered callees_differ = refl
answered function_count = refl
answered line_count = refl

-- the numbers that are not compared, each once at least
abbrev number_of : Answer → ℕ
number_of (image state) = 0
number_of (refusal why) = why.number
number_of endless = 0

pub refused_by : map (λ i. number_of (our_steps i.tables i.room i.root)) (inputs_for compared_only) ≡ 6 ∷ 6 ∷ 6 ∷ 7 ∷ 8 ∷ 9 ∷ 11 ∷ 12 ∷ []
unfolding is_call is_blank is_wide_load decide meaning displacement calling referring visit append link signed object_of judge first_refusal applied rewrite_all map_step image_functions image_lines admits room_for stray_line link_step our_steps
refused_by = refl
