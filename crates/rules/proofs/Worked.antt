-- Document 01's worked objects marked P, from table bytes to the bytes of every output, and the counts of the kinds: computed.
-- Assumes nothing.
use mathlib.Core.Path.{◌≡◌, refl}
use mathlib.Core.Bool.{Bool, true, false}
use mathlib.Core.List.{List, [], ◌∷◌, ◌++◌}
use Prim.Native.Nat.{ℕ, zero, suc, ◌+◌, ◌*◌, ◌/◌, ◌%◌}
use lib.IntN.{ℤ, pos}
use lib.ListN.{length, replicate}
use Rattle.rules.specs.declared.Table.TheVariants.{FuncInfo, LineInfo}
use Rattle.rules.specs.declared.Kind.{Kind}
use Rattle.rules.specs.declared.Kind.TheVariants.{Plain, WideLoad, JumpByOffset, JumpByImmediate, Conditional, CallByte, Exit, Unknown}
use Rattle.rules.specs.Object.{is_call, is_blank, is_wide_load, refused, decide, meaning, displacement, calling, referring}
use Rattle.rules.specs.Link.{run, visit, append, link}
use Rattle.rules.specs.Bytes.{little, u16_at, u32_at, u64_at, bytes4, signed, unsigned, decode, encode, decoded, encoded, padded}
use Rattle.rules.specs.Answers.{Reply, reply}
use Rattle.rules.specs.Tables.{object_of}
use Rattle.rules.specs.Records.{image_functions, image_lines, room_for, stray_line, admits, link_step}
use Rattle.rules.specs.Maps.{judge, first_refusal, applied, rewrite_all, map_step}
use Rattle.rules.specs.Rows.{Offered, code_section, symbol_index, symbol_section, symbol_address, symbol_kind, function_section, function_slots, function_address, function_offset, function_func_info, function_line_info, relocation_section, relocation_symbol, relocation_offset, relocation_size, map_section, map_symbol, map_fd, map_has_data, record_slot, record_type, record_file, record_line, record_column, is_good, first_broken, total, too_many, broken_in, broken, map_step_refusal, link_refusal, tables_of}
use Rattle.rules.specs.Entries.{MapResult, map_entry, Outputs, LinkResult, link_entry}
use Rattle.rules.specs.Readers.{Info, is_whole, Read, read_records, record_part, record_reply}
use Rattle.rules.specs.Walk.{kind, leads, in_source, in_image, Walk, standing, stopped, ended, left, place, source_walk, image_walk}

-- ---- rows as bytes

abbrev pub u32 : ℕ → List ℕ
u32 = bytes4 little

abbrev u64 : ℕ → List ℕ
u64 n = u32 (n % 0x1_0000_0000) ++ u32 (n / 0x1_0000_0000)

abbrev pub zeros : ℕ → List ℕ
zeros n = replicate n 0

abbrev pub symbol : ℕ → ℕ → ℕ → ℕ → List ℕ
symbol index section address kind = u32 index ++ (u32 section ++ (u64 address ++ (kind ∷ zeros 7)))

abbrev pub function : ℕ → ℕ → ℕ → ℕ → ℕ → ℕ → List ℕ
function section slots address offset funcs lines = u32 section ++ (u32 slots ++ (u64 address ++ (u64 offset ++ (u32 funcs ++ u32 lines))))

abbrev pub relocation : ℕ → ℕ → ℕ → ℕ → List ℕ
relocation section symbol offset size = u32 section ++ (u32 symbol ++ (u64 offset ++ (size ∷ zeros 7)))

abbrev a_map : ℕ → ℕ → ℕ → ℕ → List ℕ
a_map section symbol fd has_data = u32 section ++ (u32 symbol ++ (u32 fd ++ (has_data ∷ zeros 3)))

abbrev pub func_info : ℕ → ℕ → List ℕ
func_info slot kind = u32 slot ++ u32 kind

abbrev pub line_info : ℕ → List ℕ
line_info slot = u32 slot ++ (u32 1 ++ (u32 2 ++ u32 3))

abbrev line_infos : List ℕ → List ℕ
line_infos [] = []
line_infos (slot ∷ slots) = line_info slot ++ line_infos slots

abbrev pub joined : List (List ℕ) → List ℕ
joined [] = []
joined (x ∷ xs) = x ++ joined xs

-- ---- slots as bytes

abbrev pub exit : List ℕ
exit = 0x95 ∷ zeros 7

-- a call, with its immediate's bits
abbrev pub call : ℕ → List ℕ
call bits = 0x85 ∷ 0x10 ∷ 0 ∷ 0 ∷ u32 bits

-- immediate −1
abbrev pub minus_one : ℕ
minus_one = 0xFFFF_FFFF

-- an opcode of 18 hex, its register byte, its immediate
abbrev pub wide : ℕ → ℕ → List ℕ
wide registers bits = 0x18 ∷ registers ∷ 0 ∷ 0 ∷ u32 bits

abbrev pub second : ℕ → List ℕ
second bits = zeros 4 ++ u32 bits

-- ---- what is seen of an answer: its number and places, and every buffer lent to write

record Seen : Type 0 where
  said : Reply
  buffers : List (List ℕ)

abbrev seen : Reply → List (List ℕ) → Seen
seen r buffers = record { said = r; buffers = buffers }

abbrev link_seen : LinkResult → Seen
link_seen r = seen r.reply (r.image ∷ r.func_info ∷ r.line_info ∷ [])

abbrev map_seen : MapResult → Seen
map_seen r = seen r.reply (r.instructions ∷ [])

-- ---- links: each function has a function record of its own type, so that the outputs show its start

abbrev pub offer : List (List ℕ) → List (List ℕ) → List (List ℕ) → List (List ℕ) → List (List ℕ) → List (List ℕ) → List (List ℕ) → Offered
offer code symbols functions relocations instructions funcs lines = record {
  code = joined code;
  symbols = joined symbols;
  functions = joined functions;
  relocations = joined relocations;
  maps = [];
  instructions = joined instructions;
  func_info = joined funcs;
  line_info = joined lines;
}

-- outputs with room for slots, function and line records, and two bytes over
abbrev pub lent : ℕ → ℕ → ℕ → Outputs
lent slots funcs lines = record { image = 8 * slots + 2; func_info = 8 * funcs + 2; line_info = 16 * lines + 2 }

abbrev held : List (List ℕ) → List ℕ
held rows = joined rows ++ zeros 2

-- "root call at slot 0, immediate −1, size 32, Section symbol at 0, callee at 0, root of 3 slots: start 3, immediate 2"
abbrev pub one_callee : Offered
one_callee =
    offer (u32 1 ∷ u32 2 ∷ []) (symbol 7 1 0 2 ∷ []) (function 1 1 0 0 1 0 ∷ function 2 3 0 0 1 0 ∷ []) (relocation 2 7 0 32 ∷ [])
    (exit ∷ call minus_one ∷ exit ∷ exit ∷ []) (func_info 0 11 ∷ func_info 0 12 ∷ []) []

-- "root of 2 slots, call −1 without relocation at its own address, exit"
abbrev pub own_call : Offered
own_call = offer (u32 1 ∷ []) [] (function 1 2 0 0 1 0 ∷ []) [] (call minus_one ∷ exit ∷ []) (func_info 0 11 ∷ []) []

-- "root calls F, H, exits; F (2 slots) calls G, exits; G, H 1 slot": rows root, F, G, H of sections 1 to 4
abbrev pub nested : Offered
nested =
    offer (u32 1 ∷ u32 2 ∷ u32 3 ∷ u32 4 ∷ []) (symbol 2 2 0 2 ∷ symbol 3 3 0 2 ∷ symbol 4 4 0 2 ∷ [])
    (function 1 3 0 0 1 0 ∷ function 2 2 0 0 1 0 ∷ function 3 1 0 0 1 0 ∷ function 4 1 0 0 1 0 ∷ [])
    (relocation 1 2 0 32 ∷ relocation 1 4 8 32 ∷ relocation 2 3 0 32 ∷ [])
    (call minus_one ∷ call minus_one ∷ exit ∷ call minus_one ∷ exit ∷ exit ∷ exit ∷ [])
    (func_info 0 11 ∷ func_info 0 12 ∷ func_info 0 13 ∷ func_info 0 14 ∷ []) []

-- "F of 2 slots at section 1, address 0, H at section 2, address 0, both called by a root of 3"
abbrev same_address : Offered
same_address =
    offer (u32 1 ∷ u32 2 ∷ u32 3 ∷ []) (symbol 4 1 0 2 ∷ symbol 5 2 0 2 ∷ []) (function 1 2 0 0 1 0 ∷ function 2 1 0 0 1 0 ∷ function 3 3 0 0 1 0 ∷ [])
    (relocation 3 4 0 32 ∷ relocation 3 5 8 32 ∷ []) (exit ∷ exit ∷ exit ∷ call minus_one ∷ call minus_one ∷ exit ∷ [])
    (func_info 0 11 ∷ func_info 0 12 ∷ func_info 0 13 ∷ []) []

-- "`18 01`, immediate 16, size 64, symbol 0, root of 3"
abbrev pub reference : Offered
reference =
    offer (u32 1 ∷ u32 2 ∷ []) (symbol 7 1 0 2 ∷ []) (function 1 1 16 0 1 0 ∷ function 2 3 0 0 1 0 ∷ []) (relocation 2 7 0 64 ∷ [])
    (exit ∷ wide 0x01 16 ∷ second 0 ∷ exit ∷ []) (func_info 0 11 ∷ func_info 0 12 ∷ []) []

-- "lines 10, 10, 11 on 2 slots at 3": the callee's line records, of a root of 3 slots
abbrev pub lined : List ℕ → Offered
lined slots =
    offer (u32 1 ∷ u32 2 ∷ []) (symbol 7 1 0 2 ∷ []) (function 1 2 0 80 0 (length slots) ∷ function 2 3 0 0 0 1 ∷ []) (relocation 2 7 0 32 ∷ [])
    (exit ∷ exit ∷ call minus_one ∷ exit ∷ exit ∷ []) [] (line_infos slots ∷ line_info 5 ∷ [])

-- ---- map steps: a function of 3 slots, its slot 0 relocated to a symbol of section 5 that has a map, fd 7. The next slot's own immediate
-- is 33, so that keeping it is seen

abbrev map_offer : ℕ → ℕ → ℕ → Offered
map_offer immediate address has_data = record {
  code = u32 1;
  symbols = symbol 9 5 address 0;
  functions = function 1 3 0 0 0 0;
  relocations = relocation 1 9 0 64;
  maps = a_map 5 9 7 has_data;
  instructions = joined (wide 0x01 immediate ∷ second 33 ∷ exit ∷ []);
  func_info = [];
  line_info = [];
}

-- how many opcodes are of a kind
abbrev is_conditional : Kind → ℕ
is_conditional Plain = 0
is_conditional WideLoad = 0
is_conditional JumpByOffset = 0
is_conditional JumpByImmediate = 0
is_conditional Conditional = 1
is_conditional CallByte = 0
is_conditional Exit = 0
is_conditional Unknown = 0

abbrev is_unknown : Kind → ℕ
is_unknown Plain = 0
is_unknown WideLoad = 0
is_unknown JumpByOffset = 0
is_unknown JumpByImmediate = 0
is_unknown Conditional = 0
is_unknown CallByte = 0
is_unknown Exit = 0
is_unknown Unknown = 1

abbrev is_plain : Kind → ℕ
is_plain Plain = 1
is_plain WideLoad = 0
is_plain JumpByOffset = 0
is_plain JumpByImmediate = 0
is_plain Conditional = 0
is_plain CallByte = 0
is_plain Exit = 0
is_plain Unknown = 0

abbrev count : (Kind → ℕ) → ℕ → ℕ
count is zero = 0
count is (suc opcode) = is (kind opcode) + count is opcode

pub worked : (
    link_seen (link_entry little one_callee 1 (lent 4 2 0))
    ∷ link_seen (link_entry little own_call 0 (lent 4 2 0))
    ∷ link_seen (link_entry little nested 0 (lent 7 4 0))
    ∷ link_seen (link_entry little same_address 2 (lent 6 3 0))
    ∷ link_seen (link_entry little reference 1 (lent 4 2 0))
    ∷ map_seen (map_entry little (map_offer 4 16 1))
    ∷ map_seen (map_entry little (map_offer 4 16 0))
    ∷ map_seen (map_entry little (map_offer 2147483640 7 1))
    ∷ map_seen (map_entry little (map_offer 2147483640 8 1))
    ∷ link_seen (link_entry little (lined (10 ∷ 10 ∷ 11 ∷ [])) 1 (lent 5 0 4))
    ∷ link_seen (link_entry little (lined (10 ∷ 12 ∷ [])) 1 (lent 5 0 4))
    ∷ link_seen (link_entry little (lined (10 ∷ 9 ∷ [])) 1 (lent 5 0 4))
    -- the counts of the kinds: conditional, unknown, plain
    ∷ seen (reply 0 (count is_conditional 256) (count is_unknown 256) (count is_plain 256)) []
    ∷ [])
    ≡ (
    seen (reply 0 4 2 0) (held (call 2 ∷ exit ∷ exit ∷ exit ∷ []) ∷ held (func_info 0 12 ∷ func_info 3 11 ∷ []) ∷ zeros 2 ∷ [])
    -- `85 10 00 00 01 00 00 00`, `95` and seven 00, `85 10 00 00 ff ff ff ff`, `95` and seven 00
    ∷ seen (reply 0 4 2 0) (held (
    (0x85 ∷ 0x10 ∷ 0 ∷ 0 ∷ 1 ∷ 0 ∷ 0 ∷ 0 ∷ []) ∷ (0x95 ∷ zeros 7) ∷ (0x85 ∷ 0x10 ∷ 0 ∷ 0 ∷ 0xff ∷ 0xff ∷ 0xff ∷ 0xff ∷ []) ∷ (0x95 ∷ zeros 7) ∷ []) ∷ held (func_info 0 11 ∷ func_info 2 11 ∷ []) ∷ zeros 2 ∷ [])
    -- starts 0, 3, 5, 6; immediates 2, 4, 1
    ∷ seen (reply 0 7 4 0) (held (call 2 ∷ call 4 ∷ exit ∷ call 1 ∷ exit ∷ exit ∷ exit ∷ []) ∷ held (func_info 0 11 ∷ func_info 3 12 ∷ func_info 5 13 ∷ func_info 6 14 ∷ []) ∷ zeros 2 ∷ [])
    -- starts 3 and 5
    ∷ seen (reply 0 6 3 0) (held (call 2 ∷ call 3 ∷ exit ∷ exit ∷ exit ∷ exit ∷ []) ∷ held (func_info 0 13 ∷ func_info 3 11 ∷ func_info 5 12 ∷ []) ∷ zeros 2 ∷ [])
    -- `18 41 00 00 02 00 00 00`
    ∷ seen (reply 0 4 2 0) (held ((0x18 ∷ 0x41 ∷ 0 ∷ 0 ∷ 2 ∷ 0 ∷ 0 ∷ 0 ∷ []) ∷ second 0 ∷ exit ∷ exit ∷ []) ∷ held (func_info 0 12 ∷ func_info 3 11 ∷ []) ∷ zeros 2 ∷ [])
    -- `18 21 00 00 07 00 00 00`, next immediate 20; no data: `18 11`, next slot kept
    ∷ seen (reply 0 1 0 0) (joined ((0x18 ∷ 0x21 ∷ 0 ∷ 0 ∷ 7 ∷ 0 ∷ 0 ∷ 0 ∷ []) ∷ second 20 ∷ exit ∷ []) ∷ [])
    ∷ seen (reply 0 1 0 0) (joined ((0x18 ∷ 0x11 ∷ 0 ∷ 0 ∷ 7 ∷ 0 ∷ 0 ∷ 0 ∷ []) ∷ second 33 ∷ exit ∷ []) ∷ [])
    -- address 7 passes, 8 gives 7
    ∷ seen (reply 0 1 0 0) (joined (wide 0x21 7 ∷ second 2147483647 ∷ exit ∷ []) ∷ [])
    ∷ seen (reply 7 0 0 0) (joined (wide 0x01 2147483640 ∷ second 33 ∷ exit ∷ []) ∷ [])
    -- 3, 3, 4; a 12 or 9 after the 10 gives 12
    ∷ seen (reply 0 5 0 4) (held (call 2 ∷ exit ∷ exit ∷ exit ∷ exit ∷ []) ∷ zeros 2 ∷ held (line_info 5 ∷ line_info 3 ∷ line_info 3 ∷ line_info 4 ∷ []) ∷ [])
    ∷ seen (reply 12 0 1 0) (zeros 42 ∷ zeros 2 ∷ zeros 66 ∷ [])
    ∷ seen (reply 12 0 1 0) (zeros 42 ∷ zeros 2 ∷ zeros 66 ∷ [])
    ∷ seen (reply 0 44 16 191) []
    ∷ [])
unfolding is_call is_blank is_wide_load decide meaning displacement calling referring visit append link
    u16_at u32_at u64_at signed unsigned decode encode decoded encoded padded object_of image_functions image_lines room_for stray_line admits link_step
    judge first_refusal applied rewrite_all map_step code_section symbol_index symbol_section symbol_address symbol_kind function_section function_slots function_address function_offset function_func_info function_line_info relocation_section relocation_symbol relocation_offset relocation_size map_section map_symbol map_fd map_has_data record_slot record_type record_file record_line record_column
    is_good first_broken total too_many broken_in broken map_step_refusal link_refusal tables_of map_entry link_entry kind
worked = refl

-- ---- which refusal comes first

-- a relocation off the 8-byte grid, in slot 1, whose symbol is not in table 2: 4, before 3
abbrev off_grid : Offered
off_grid = record {
  code = u32 1;
  symbols = [];
  functions = function 1 2 0 0 0 0;
  relocations = relocation 1 9 12 64;
  maps = [];
  instructions = joined (exit ∷ exit ∷ []);
  func_info = [];
  line_info = [];
}

-- the callee's second line record is outside, and there is room for one of its two only: 11, before 12; with room it is 12. The root's
-- own records, 5 and then 1, "meet no 12"
abbrev strays : List ℕ → List ℕ → Offered
strays callee root =
    offer (u32 1 ∷ u32 2 ∷ []) (symbol 7 1 0 2 ∷ []) (function 1 2 0 80 0 (length callee) ∷ function 2 3 0 0 0 (length root) ∷ []) (relocation 2 7 0 32 ∷ [])
    (exit ∷ exit ∷ call minus_one ∷ exit ∷ exit ∷ []) [] (line_infos callee ∷ line_infos root ∷ [])

-- the object of one callee with 65 code sections, or with a byte too few in table 2; and a root that is no row: 1, before 2, before 13
abbrev pub spoiled : List (List ℕ) → List (List ℕ) → Offered
spoiled code symbols =
    offer code symbols (function 1 1 0 0 1 0 ∷ function 2 3 0 0 1 0 ∷ []) (relocation 2 7 0 32 ∷ []) (exit ∷ call minus_one ∷ exit ∷ exit ∷ [])
    (func_info 0 11 ∷ func_info 0 12 ∷ []) []

pub ordered : (
    link_seen (link_entry little (spoiled (run u32 0 65) (zeros 23 ∷ [])) 9 (lent 1 1 1))
    ∷ link_seen (link_entry little (spoiled (u32 1 ∷ []) (zeros 23 ∷ [])) 9 (lent 1 1 1))
    ∷ link_seen (link_entry little (spoiled (u32 1 ∷ []) (symbol 7 1 0 2 ∷ [])) 9 (lent 1 1 1))
    ∷ map_seen (map_entry little off_grid)
    ∷ link_seen (link_entry little (strays (10 ∷ 9 ∷ []) (5 ∷ [])) 1 (lent 5 0 2))
    ∷ link_seen (link_entry little (strays (10 ∷ 9 ∷ []) (5 ∷ [])) 1 (lent 5 0 3))
    ∷ link_seen (link_entry little (strays [] (5 ∷ 1 ∷ [])) 1 (lent 5 0 2))
    ∷ [])
    ≡ (
    seen (reply 1 1 0 0) (zeros 10 ∷ zeros 10 ∷ zeros 18 ∷ [])
    ∷ seen (reply 2 2 0 0) (zeros 10 ∷ zeros 10 ∷ zeros 18 ∷ [])
    ∷ seen (reply 13 0 0 0) (zeros 10 ∷ zeros 10 ∷ zeros 18 ∷ [])
    ∷ seen (reply 4 0 1 0) (joined (exit ∷ exit ∷ []) ∷ [])
    ∷ seen (reply 11 0 0 0) (zeros 42 ∷ zeros 2 ∷ zeros 34 ∷ [])
    ∷ seen (reply 12 0 1 0) (zeros 42 ∷ zeros 2 ∷ zeros 50 ∷ [])
    ∷ seen (reply 0 5 0 2) (held (call 2 ∷ exit ∷ exit ∷ exit ∷ exit ∷ []) ∷ zeros 2 ∷ held (line_info 5 ∷ line_info 1 ∷ []) ∷ [])
    ∷ [])
unfolding is_call is_blank is_wide_load decide meaning displacement calling referring visit append link
    u16_at u32_at u64_at signed unsigned decode encode decoded encoded padded object_of image_functions image_lines room_for stray_line admits link_step
    judge first_refusal applied rewrite_all map_step code_section symbol_index symbol_section symbol_address symbol_kind function_section function_slots function_address function_offset function_func_info function_line_info relocation_section relocation_symbol relocation_offset relocation_size map_section map_symbol map_fd map_has_data record_slot record_type record_file record_line record_column
    is_good first_broken total too_many broken_in broken map_step_refusal link_refusal tables_of map_entry link_entry kind
ordered = refl

-- ---- record readers

abbrev info : ℕ → ℕ → List (List ℕ) → Info
info size count records = record { size = size; count = count; bytes = joined records }

abbrev read_seen : Read → Seen
read_seen r = seen r.reply (r.out ∷ [])

-- record k as a part, and its number
abbrev part_seen : Info → ℕ → Seen
part_seen i k = seen (record_reply little FuncInfo i k) (record_part little FuncInfo i k ∷ [])

-- two function records with a tail of a byte each
abbrev tailed : Info
tailed = info 9 2 (func_info 16 5 ∷ (99 ∷ []) ∷ func_info 8 6 ∷ (98 ∷ []) ∷ [])

pub read_worked : (
    -- "Size 7: 14; count 0, no data: done"
    read_seen (read_records little FuncInfo (info 7 0 []) 4)
    ∷ read_seen (read_records little FuncInfo (info 8 0 []) 4)
    -- "A longer record's tail is ignored"; zero after the rows
    ∷ read_seen (read_records little FuncInfo tailed 18)
    ∷ read_seen (read_records little LineInfo (info 16 1 (line_info 24 ∷ [])) 16)
    -- an offset off the grid, a count that is not the length's, a short output; 14 where 11 would come too
    ∷ read_seen (read_records little FuncInfo (info 8 1 (func_info 4 5 ∷ [])) 8)
    ∷ read_seen (read_records little FuncInfo (info 8 2 (func_info 8 5 ∷ [])) 16)
    ∷ read_seen (read_records little FuncInfo (info 8 1 (func_info 8 5 ∷ [])) 7)
    ∷ read_seen (read_records little FuncInfo (info 8 1 (func_info 4 5 ∷ [])) 7)
    -- "record k, tail included"; "k too large is 14"; "the same 14 checks"
    ∷ part_seen tailed 1
    ∷ part_seen tailed 2
    ∷ part_seen (info 8 1 (func_info 4 5 ∷ [])) 0
    ∷ [])
    ≡ (
    seen (reply 14 0 0 0) (zeros 4 ∷ [])
    ∷ seen (reply 0 0 0 0) (zeros 4 ∷ [])
    ∷ seen (reply 0 2 0 0) (held (func_info 2 5 ∷ func_info 1 6 ∷ []) ∷ [])
    ∷ seen (reply 0 1 0 0) (line_info 3 ∷ [])
    ∷ seen (reply 14 0 0 0) (zeros 8 ∷ [])
    ∷ seen (reply 14 0 0 0) (zeros 16 ∷ [])
    ∷ seen (reply 11 0 0 0) (zeros 7 ∷ [])
    ∷ seen (reply 14 0 0 0) (zeros 7 ∷ [])
    ∷ seen (reply 0 2 0 0) ((func_info 8 6 ++ (98 ∷ [])) ∷ [])
    ∷ seen (reply 14 0 0 0) ([] ∷ [])
    ∷ seen (reply 14 0 0 0) ([] ∷ [])
    ∷ [])
unfolding u32_at padded is_whole read_records record_part record_reply
read_worked = refl

-- ---- walks: the nested object in its tables and in its image, and one image for each kind of move

-- a slot with an offset
abbrev jump : ℕ → ℕ → ℕ → List ℕ
jump opcode offset bits = opcode ∷ 0 ∷ offset ∷ 0 ∷ u32 bits

abbrev walk_of : List (List ℕ) → List Bool → ℕ → Walk ℤ
walk_of slots answers steps = image_walk (decoded little (joined slots)) answers steps

pub walked_source : (
    source_walk (object_of (tables_of little nested)) 0 [] 2
    ∷ source_walk (object_of (tables_of little nested)) 0 [] 7
    ∷ [])
    ≡ (
    standing (place 2 (pos 0)) (place 1 (pos 1) ∷ place 0 (pos 1) ∷ []) []
    ∷ ended (place 0 (pos 2))
    ∷ [])
unfolding is_call is_blank is_wide_load decide meaning object_of u16_at u32_at u64_at signed decode decoded code_section symbol_index symbol_section symbol_address symbol_kind function_section function_slots function_address function_offset function_func_info function_line_info relocation_section relocation_symbol relocation_offset relocation_size tables_of kind leads in_source
walked_source = refl

pub walked_image : (
    walk_of (call 2 ∷ call 4 ∷ exit ∷ call 1 ∷ exit ∷ exit ∷ exit ∷ []) [] 2
    ∷ walk_of (call 2 ∷ call 4 ∷ exit ∷ call 1 ∷ exit ∷ exit ∷ exit ∷ []) [] 7
    -- yes jumps, no goes on, no answer left stops
    ∷ walk_of (jump 0x15 1 0 ∷ exit ∷ exit ∷ []) (true ∷ false ∷ []) 1
    ∷ walk_of (jump 0x15 1 0 ∷ exit ∷ exit ∷ []) (false ∷ []) 1
    ∷ walk_of (jump 0x15 1 0 ∷ exit ∷ exit ∷ []) [] 1
    -- 05 by offset, 06 by immediate, wide load by 2, other 85 slots are plain
    ∷ walk_of (jump 0x05 1 0 ∷ exit ∷ exit ∷ []) [] 1
    ∷ walk_of (jump 0x06 0 1 ∷ exit ∷ exit ∷ []) [] 1
    ∷ walk_of (wide 0x01 0 ∷ second 0 ∷ exit ∷ []) [] 1
    ∷ walk_of (jump 0x85 0 7 ∷ exit ∷ []) [] 1
    -- unknown stops, and outside the image it leaves
    ∷ walk_of (jump 0x0d 0 0 ∷ exit ∷ []) [] 1
    ∷ walk_of (jump 0xb7 0 0 ∷ []) [] 1
    ∷ [])
    ≡ (
    standing (pos 5) (pos 4 ∷ pos 1 ∷ []) []
    ∷ ended (pos 2)
    ∷ standing (pos 2) [] (false ∷ [])
    ∷ standing (pos 1) [] []
    ∷ stopped (pos 0) []
    ∷ standing (pos 2) [] []
    ∷ standing (pos 2) [] []
    ∷ standing (pos 2) [] []
    ∷ standing (pos 1) [] []
    ∷ stopped (pos 0) []
    ∷ left
    ∷ [])
unfolding is_call u16_at u32_at signed decode decoded kind leads in_image
walked_image = refl

-- ---- a slot with one relocation, of a Section symbol: what refers to code is not copied under another size, nor is a call that names no code
abbrev related : ℕ → List (List ℕ) → ℕ → Offered
related section slots size = record {
  code = u32 1;
  symbols = symbol 7 section 0 2;
  functions = function 1 (length slots) 0 0 0 0;
  relocations = relocation 1 7 0 size;
  maps = [];
  instructions = joined slots;
  func_info = [];
  line_info = [];
}

pub never_copied : (
    meaning (object_of (tables_of little (related 1 (wide 0x01 0 ∷ second 0 ∷ []) 16))) 0 0
    ∷ meaning (object_of (tables_of little (related 5 (call 0 ∷ []) 32))) 0 0
    ∷ [])
    ≡ refused 8 ∷ refused 9 ∷ []
unfolding is_call is_blank is_wide_load decide meaning object_of u16_at u32_at u64_at signed decode decoded code_section symbol_index symbol_section symbol_address symbol_kind function_section function_slots function_address function_offset function_func_info function_line_info relocation_section relocation_symbol relocation_offset relocation_size tables_of
never_copied = refl
