-- The object of proofs/Accepted.antt as bytes: 1, 2 and 13 let it pass, it is in the domain of the entries, and what ours write of it is the crate's.
-- Assumes nothing.
use mathlib.Core.Path.{◌≡◌, refl, sym, subst}
use mathlib.Core.Bool.{Bool, true, ◌&&◌}
use mathlib.Core.Option.{none}
use mathlib.Core.List.{List, [], ◌∷◌, ◌++◌}
use Prim.Native.Nat.{ℕ, zero, suc, ◌<◌, ◌*◌}
use native.Mathlib.Omega.{arith}
use lib.Dec.{ltb}
use borrow.Author.Tests.{ltb-true}
use Rattle.rules.specs.Bytes.{little, byte_at, bytes4, u16_at, u32_at, u64_at, signed, unsigned, decode, encode, decoded, encoded}
use Rattle.rules.specs.Tables.{row_of}
use Rattle.rules.specs.declared.Table.TheVariants.{Instructions, FuncInfo, LineInfo}
use Rattle.rules.specs.Rows.{row_size, most_image_slots, most_image_functions, most_image_lines, code_section, symbol_index, symbol_section, symbol_address, symbol_kind, function_section, function_slots, function_address, function_offset, function_func_info, function_line_info, relocation_section, relocation_symbol, relocation_offset, relocation_size, map_section, map_symbol, map_fd, map_has_data, record_slot, record_type, record_file, record_line, record_column, is_good, total, too_many, first_broken, broken_in, broken, Offered, tables_of, map_step_refusal, link_refusal}
use Rattle.rules.specs.Entries.{Outputs}
use Rattle.rules.proofs.Passed.{and_left, and_right}
use Rattle.equality.specs.Domain.{crate_of}
use Rattle.equality.specs.Demand2.{both_steps, valid_tables, Except}
use Rattle.equality.specs.Entries.{our_entries, EntryDomain, EqualBytes}
use Rattle.equality.proofs.Clauses.{fewer}
use Rattle.equality.proofs.Accepted.{tables, hidden, room, inside}
use Rattle.equality.proofs.Entries.{demand_2_entries}

abbrev word : ℕ → List ℕ
word n = bytes4 little n

abbrev long : ℕ → List ℕ
long n = word n ++ word 0

-- a byte and seven of padding
abbrev last : ℕ → List ℕ
last n = n ∷ 0 ∷ 0 ∷ 0 ∷ 0 ∷ 0 ∷ 0 ∷ 0 ∷ []

abbrev offered : Offered
offered = record {
  code = word 1 ++ word 2;
  symbols = word 7 ++ (word 2 ++ (long 0 ++ (last 2 ++ (word 9 ++ (word 5 ++ (long 16 ++ last 0))))));
  functions =
      word 1 ++ (word 6 ++ (long 0 ++ (long 0 ++ (word 1 ++ (word 1
      ++ (word 2 ++ (word 1 ++ (long 0 ++ (long 0 ++ (word 1 ++ word 2))))))))));
  relocations =
      word 1 ++ (word 7 ++ (long 0 ++ (last 32
      ++ (word 1 ++ (word 7 ++ (long 8 ++ (last 64
      ++ (word 1 ++ (word 9 ++ (long 24 ++ last 64))))))))));
  maps = word 5 ++ (word 9 ++ (word 7 ++ (1 ∷ 0 ∷ 0 ∷ 0 ∷ [])));
  instructions = encoded little tables.instructions;
  func_info = word 0 ++ (word 3 ++ (word 8 ++ word 4));
  line_info =
      word 0 ++ (word 1 ++ (word 20 ++ (word 2
      ++ (word 10 ++ (word 1 ++ (word 30 ++ (word 2
      ++ (word 10 ++ (word 1 ++ (word 31 ++ word 2))))))))));
}

-- outputs as long as our limits
abbrev lent : Outputs
lent = record {
  image = row_size Instructions * most_image_slots;
  func_info = row_size FuncInfo * most_image_functions;
  line_info = row_size LineInfo * most_image_lines;
}

pub offered_is : tables_of little offered ≡ tables
unfolding tables_of decoded decode encoded encode u16_at u32_at u64_at signed unsigned code_section symbol_index symbol_section symbol_address symbol_kind function_section function_slots function_address function_offset function_func_info function_line_info relocation_section relocation_symbol relocation_offset relocation_size map_section map_symbol map_fd map_has_data record_slot record_type record_file record_line record_column
offered_is = refl

pub maps_pass : map_step_refusal offered ≡ none
unfolding map_step_refusal too_many broken broken_in first_broken is_good total encoded encode unsigned u32_at u64_at signed code_section symbol_index symbol_section symbol_address symbol_kind function_section function_slots function_address function_offset function_func_info function_line_info relocation_section relocation_symbol relocation_offset relocation_size map_section map_symbol map_fd map_has_data
maps_pass = refl

pub link_passes : link_refusal offered 0 ≡ none
unfolding link_refusal too_many broken broken_in first_broken is_good total encoded encode unsigned u32_at u64_at signed code_section symbol_index symbol_section symbol_address symbol_kind function_section function_slots function_address function_offset function_func_info function_line_info relocation_section relocation_symbol relocation_offset relocation_size map_section map_symbol map_fd map_has_data
link_passes = refl

abbrev all_bytes : List ℕ → Bool
all_bytes [] = true
all_bytes (b ∷ bs) = ltb b 256 && all_bytes bs

all_bytes_lem : (bs : List ℕ) → all_bytes bs ≡ true → (k : ℕ) → byte_at bs k < 256
all_bytes_lem [] e k = omega arith
all_bytes_lem (b ∷ bs) e zero = ltb-true b 256 (and_left (ltb b 256) (all_bytes bs) e)
all_bytes_lem (b ∷ bs) e (suc k) = all_bytes_lem bs (and_right (ltb b 256) (all_bytes bs) e) k

instruction_bytes : all_bytes (encoded little tables.instructions) ≡ true
unfolding encoded encode unsigned
instruction_bytes = refl

pub in_domain : EntryDomain little offered hidden lent 0
in_domain = record {
  map_passes = maps_pass;
  link_passes = link_passes;
  bytes = all_bytes_lem offered.instructions instruction_bytes;
  map_bytes = all_bytes_lem offered.maps refl;
  clauses = subst (λ t. Except valid_tables t hidden room 0) (sym offered_is) (fewer valid_tables inside);
}

pub bytes_equal : EqualBytes little lent (our_entries little offered 0 lent) (both_steps (crate_of tables hidden) tables.maps 1 0)
bytes_equal =
    subst (λ t. EqualBytes little lent (our_entries little offered 0 lent) (both_steps (crate_of t hidden) tables.maps (row_of t 0).home (row_of t 0).address)) offered_is
    (demand_2_entries little offered hidden lent 0 in_domain)
