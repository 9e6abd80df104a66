-- Answers of the definitions of specs/Crate.antt and specs/Entries.antt on small inputs, by computation: what each line of them that no domain
-- clause holds to is held to.
-- Assumes nothing.
use mathlib.Core.Path.{◌≡◌, refl}
use mathlib.Core.Logic.{inr}
use mathlib.Core.Bool.{false}
use mathlib.Core.Option.{some}
use mathlib.Core.List.{List, [], ◌∷◌, ◌++◌, map}
use Prim.Native.Nat.{ℕ}
use lib.IntN.{pos, negsuc}
use Rattle.rules.specs.Object.{Insn, is_call, is_blank, is_wide_load, decide, meaning, displacement, calling, referring}
use Rattle.rules.specs.Link.{refusal, visit, append, link}
use Rattle.rules.specs.Bytes.{little, bytes4, u16_at, u32_at, u64_at, signed, unsigned, decode, encode, decoded, encoded, padded}
use Rattle.rules.specs.Tables.{other, text, LineRecord, Tables, object_of}
use Rattle.rules.specs.Maps.{judge, first_refusal, applied, rewrite_all, map_step}
use Rattle.rules.specs.Records.{image_functions, image_lines, admits, room_for, stray_line, link_step}
use Rattle.rules.specs.Answers.{reply}
use Rattle.rules.specs.Rows.{code_section, symbol_index, symbol_section, symbol_address, symbol_kind, function_section, function_slots, function_address, function_offset, function_func_info, function_line_info, relocation_section, relocation_symbol, relocation_offset, relocation_size, map_section, map_symbol, map_fd, map_has_data, record_slot, record_type, record_file, record_line, record_column, is_good, total, too_many, first_broken, broken_in, broken, Offered, tables_of, map_step_refusal, link_refusal}
use Rattle.rules.specs.Entries.{Outputs, accepted_link, map_entry, link_entry}
use Rattle.equality.specs.Crate as Crate
use Rattle.equality.specs.Crate.{u32, u64, i32, add_u64, mul_u64, add_u32, sub_u32, add_i32, sub_i32, insn_is_call, Result, ok, err, panics, too_deep, section_not_found, insert, new, Linker, lines_at, relocate_map, relocate_maps, relocate_functions, object_relocate_maps, slot_of, relocate_from, relocate, link_new, relocate_calls}
use Rattle.equality.specs.Info.{insn_bytes, crate_func_info_bytes, crate_line_info_bytes}
use Rattle.equality.specs.Domain.{Hidden, crate_of}
use Rattle.equality.specs.Demand2.{both_steps}
use Rattle.equality.specs.Entries.{went, our_entries, SameBytes, SameCause}
use Rattle.equality.proofs.Inputs.{Input, hidden_of, input, symbol, function, relocation, map_row, insn, exits, calls, load, next, object}

abbrev line : ℕ → LineRecord
line slot = record { slot = slot; file = 1; line = 2; column = 3 }

-- "lines 10, 10, 11 on 2 slots at 3: 3, 3, 4"
pub lines_rebased : lines_at (line 10 ∷ line 10 ∷ line 11 ∷ []) 3 ≡ line 3 ∷ line 3 ∷ line 4 ∷ []
unfolding u32 add_u32 sub_u32
lines_rebased = refl

abbrev crate : Input → Result Linker
crate i = both_steps (crate_of i.tables (hidden_of i)) i.tables.maps 1 0

-- a load of a symbol that no map has
pub no_map : crate (input (object (1 ∷ []) (symbol 9 5 0 other ∷ []) (function 1 2 0 ∷ []) (relocation 1 9 0 64 ∷ []) [] (load (pos 0) ∷ next ∷ [])) 0) ≡ err section_not_found
unfolding signed u32 u64 i32 add_u64 mul_u64 add_u32 sub_u32 add_i32 sub_i32 insn_is_call relocate_map relocate_maps relocate_functions object_relocate_maps slot_of relocate_from relocate link_new Crate.link relocate_calls crate_of both_steps
no_map = refl

-- the map step relocates each function, reached or not: two loads from one map
abbrev slots : Result (List Crate.Function) → List (List Insn)
slots (ok functions) = map (λ f. f.instructions) functions
slots (err e) = []
slots panics = []
slots too_deep = []

abbrev two_loads : Tables
two_loads =
    object (1 ∷ 2 ∷ []) (symbol 9 5 0 other ∷ []) (function 1 2 0 ∷ function 2 2 0 ∷ []) (relocation 1 9 0 64 ∷ relocation 2 9 0 64 ∷ []) (map_row 5 (some 9) 7 false ∷ [])
    (load (pos 0) ∷ next ∷ load (pos 0) ∷ next ∷ [])

pub each_mapped : slots (object_relocate_maps (crate_of two_loads (hidden_of (input two_loads 0))) two_loads.maps)
    ≡ (insn 0x18 1 1 (pos 7) ∷ next ∷ []) ∷ (insn 0x18 1 1 (pos 7) ∷ next ∷ []) ∷ []
unfolding add_u64 insn_is_call relocate_map relocate_maps relocate_functions object_relocate_maps crate_of
each_mapped = refl

abbrev given : Result Linker → List Insn
given (ok linker) = linker.instructions
given (err e) = []
given panics = []
given too_deep = []

-- F, whose address is 16 and whose offset is 0, is called twice and appended once: `linked_functions` is by address
pub called_twice : given (crate (input (object (1 ∷ 2 ∷ []) (symbol 7 2 16 text ∷ [])
    (function 1 2 0 ∷ record { home = 2; slots = 1; address = 16; offset = 0; functions = 0; lines = 0 } ∷ [])
    (relocation 1 7 0 32 ∷ relocation 1 7 8 32 ∷ []) [] (calls (negsuc 0) ∷ calls (negsuc 0) ∷ exits ∷ [])) 0))
    ≡ calls (pos 1) ∷ calls (pos 0) ∷ exits ∷ []
unfolding signed u32 u64 i32 add_u64 mul_u64 add_u32 sub_u32 add_i32 sub_i32 insn_is_call relocate_map relocate_maps relocate_functions object_relocate_maps slot_of relocate_from relocate link_new Crate.link relocate_calls crate_of both_steps
called_twice = refl

-- a root with a record of each kind that calls itself: `num_info`, 1 before, is counted anew
abbrev counts : Result Linker → List ℕ
counts (ok linker) = linker.func_num_info ∷ linker.line_num_info ∷ []
counts (err e) = []
counts panics = []
counts too_deep = []

abbrev recorded : Tables
recorded = record {
  code = 1 ∷ [];
  symbols = [];
  functions = record { home = 1; slots = 1; address = 0; offset = 0; functions = 1; lines = 1 } ∷ [];
  relocations = [];
  maps = [];
  instructions = calls (negsuc 0) ∷ [];
  function_records = record { slot = 0; kind = 3 } ∷ [];
  line_records = line 0 ∷ [];
}

pub counted_anew : counts (both_steps (crate_of recorded (record { values = λ home. []; maps = []; func_nums = λ row. 1; line_nums = λ row. 1 })) [] 1 0) ≡ 2 ∷ 2 ∷ []
unfolding signed u32 u64 i32 add_u64 mul_u64 add_u32 sub_u32 add_i32 sub_i32 insn_is_call relocate_map relocate_maps relocate_functions object_relocate_maps slot_of relocate_from relocate link_new Crate.link relocate_calls crate_of both_steps
counted_anew = refl

-- the entries, from bytes
abbrev word : ℕ → List ℕ
word n = bytes4 little n

abbrev long : ℕ → List ℕ
long n = word n ++ word 0

abbrev offered : List ℕ → List ℕ → List ℕ → ℕ → List ℕ → Offered
offered symbols relocations maps slots instructions = record {
  code = word 1;
  symbols = symbols;
  functions = word 1 ++ (word slots ++ (long 0 ++ (long 0 ++ long 0)));
  relocations = relocations;
  maps = maps;
  instructions = instructions;
  func_info = [];
  line_info = [];
}

abbrev lent : Outputs
lent = record { image = 24; func_info = 0; line_info = 0 }

abbrev hidden : Hidden
hidden = record { values = λ home. []; maps = []; func_nums = λ row. 0; line_nums = λ row. 0 }

-- a call of the slot after it, where no function starts: 10, and the crate's UnknownFunction
abbrev missing : Offered
missing = offered [] [] [] 1 (0x85 ∷ 0x10 ∷ 0 ∷ 0 ∷ 0 ∷ 0 ∷ 0 ∷ 0 ∷ [])

pub missing_same : SameCause little lent (our_entries little missing 0 lent) (both_steps (crate_of (tables_of little missing) hidden) [] 1 0)
unfolding our_entries map_entry link_entry tables_of map_step_refusal link_refusal too_many broken broken_in first_broken is_good total decoded decode encoded encode u16_at u32_at u64_at signed unsigned code_section symbol_index symbol_section symbol_address symbol_kind function_section function_slots function_address function_offset function_func_info function_line_info relocation_section relocation_symbol relocation_offset relocation_size map_section map_symbol map_fd map_has_data is_call is_blank is_wide_load decide meaning displacement calling referring visit append link object_of judge first_refusal applied rewrite_all map_step image_functions image_lines admits room_for stray_line link_step u32 u64 i32 add_u64 mul_u64 add_u32 sub_u32 add_i32 sub_i32 insn_is_call relocate_map relocate_maps relocate_functions object_relocate_maps slot_of relocate_from relocate link_new Crate.link relocate_calls crate_of both_steps
missing_same = record { why = refusal 10 0 0; compared = inr (inr (inr refl)); refused = inr refl; is_err = refl }

-- a load from a map without data, fd 7: the link gets what the map step left
abbrev mapped : Offered
mapped =
    offered (word 9 ++ (word 5 ++ (long 0 ++ long 0))) (word 1 ++ (word 9 ++ (long 0 ++ (64 ∷ 0 ∷ 0 ∷ 0 ∷ 0 ∷ 0 ∷ 0 ∷ 0 ∷ [])))) (word 5 ++ (word 9 ++ (word 7 ++ word 0))) 2
    (0x18 ∷ 0x01 ∷ 0 ∷ 0 ∷ 0 ∷ 0 ∷ 0 ∷ 0 ∷ 0 ∷ 0 ∷ 0 ∷ 0 ∷ 0 ∷ 0 ∷ 0 ∷ 0 ∷ [])

pub mapped_linked : our_entries little mapped 0 lent ≡ went (accepted_link little lent (insn 0x18 1 1 (pos 7) ∷ next ∷ []) [] [])
unfolding our_entries map_entry link_entry tables_of map_step_refusal link_refusal too_many broken broken_in first_broken is_good total decoded decode encoded encode u16_at u32_at u64_at signed unsigned code_section symbol_index symbol_section symbol_address symbol_kind function_section function_slots function_address function_offset function_func_info function_line_info relocation_section relocation_symbol relocation_offset relocation_size map_section map_symbol map_fd map_has_data is_call is_blank is_wide_load decide meaning displacement calling referring visit append link object_of judge first_refusal applied rewrite_all map_step image_functions image_lines admits room_for stray_line link_step
mapped_linked = refl

-- the root that calls itself, with its records, from bytes to bytes: the records as the crate's own encoder gives them
abbrev with_records : Offered
with_records = record {
  code = word 1;
  symbols = [];
  functions = word 1 ++ (word 1 ++ (long 0 ++ (long 0 ++ (word 1 ++ word 1))));
  relocations = [];
  maps = [];
  instructions = 0x85 ∷ 0x10 ∷ 0 ∷ 0 ∷ 0xff ∷ 0xff ∷ 0xff ∷ 0xff ∷ [];
  func_info = word 0 ++ word 3;
  line_info = word 0 ++ (word 1 ++ (word 2 ++ word 3));
}

abbrev wide : Outputs
wide = record { image = 17; func_info = 17; line_info = 33 }

pub records_same : SameBytes little wide (our_entries little with_records 0 wide)
    (both_steps (crate_of (tables_of little with_records) (record { values = λ home. []; maps = []; func_nums = λ row. 1; line_nums = λ row. 1 })) [] 1 0)
unfolding our_entries map_entry link_entry tables_of map_step_refusal link_refusal too_many broken broken_in first_broken is_good total decoded decode encoded encode u16_at u32_at u64_at signed unsigned code_section symbol_index symbol_section symbol_address symbol_kind function_section function_slots function_address function_offset function_func_info function_line_info relocation_section relocation_symbol relocation_offset relocation_size record_slot record_type record_file record_line record_column map_section map_symbol map_fd map_has_data is_call is_blank is_wide_load decide meaning displacement calling referring visit append link object_of judge first_refusal applied rewrite_all map_step image_functions image_lines admits room_for stray_line link_step u32 u64 i32 add_u64 mul_u64 add_u32 sub_u32 add_i32 sub_i32 insn_is_call relocate_map relocate_maps relocate_functions object_relocate_maps slot_of relocate_from relocate link_new Crate.link relocate_calls crate_of both_steps insn_bytes crate_func_info_bytes crate_line_info_bytes padded
records_same = record {
  linker = record {
    instructions = calls (pos 0) ∷ calls (negsuc 0) ∷ [];
    func_info = record { slot = 0; kind = 3 } ∷ record { slot = 1; kind = 3 } ∷ [];
    func_num_info = 2;
    line_info = line 0 ∷ line 1 ∷ [];
    line_num_info = 2;
    linked_functions = insert 0 1 new;
  };
  is_ok = refl;
  result = record {
    reply = reply 0 2 2 2;
    image = 0x85 ∷ 0x10 ∷ 0 ∷ 0 ∷ 0 ∷ 0 ∷ 0 ∷ 0 ∷ 0x85 ∷ 0x10 ∷ 0 ∷ 0 ∷ 0xff ∷ 0xff ∷ 0xff ∷ 0xff ∷ 0 ∷ [];
    func_info = 0 ∷ 0 ∷ 0 ∷ 0 ∷ 3 ∷ 0 ∷ 0 ∷ 0 ∷ 1 ∷ 0 ∷ 0 ∷ 0 ∷ 3 ∷ 0 ∷ 0 ∷ 0 ∷ 0 ∷ [];
    line_info = 0 ∷ 0 ∷ 0 ∷ 0 ∷ 1 ∷ 0 ∷ 0 ∷ 0 ∷ 2 ∷ 0 ∷ 0 ∷ 0 ∷ 3 ∷ 0 ∷ 0 ∷ 0 ∷ 1 ∷ 0 ∷ 0 ∷ 0 ∷ 1 ∷ 0 ∷ 0 ∷ 0 ∷ 2 ∷ 0 ∷ 0 ∷ 0 ∷ 3 ∷ 0 ∷ 0 ∷ 0 ∷ 0 ∷ [];
  };
  is_went = refl;
  places = refl;
  image = refl;
  func_info = refl;
  line_info = refl;
  func_num = refl;
  line_num = refl;
}
