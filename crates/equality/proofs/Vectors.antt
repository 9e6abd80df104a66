-- The definition of the crate's behaviour (specs/Crate.antt) on a sample of generated objects, and what the real crate answered to each: by
-- computation. Made by `compare --definition` (compare/README.md); the objects are named by where they stand in the domain and what they show.
-- Assumes nothing.
use mathlib.Core.Path.{◌≡◌, refl}
use mathlib.Core.Bool.{Bool, true, false}
use mathlib.Core.Option.{Option, none, some}
use mathlib.Core.List.{List, [], ◌∷◌, ◌++◌}
use Prim.Native.Nat.{ℕ}
use lib.IntN.{ℤ, pos, negsuc}
use lib.Dec.{eqb}
use lib.ListN.{get_or}
use Rattle.rules.specs.Object.{Insn}
use Rattle.rules.specs.Bytes.{signed}
use Rattle.rules.specs.Tables.{SymbolKind, other, text, section, Symbol, Function, Relocation, MapRow, FunctionRecord, LineRecord, Tables}
use Rattle.rules.specs.Maps.{only}
use Rattle.equality.specs.Crate as Crate
use Rattle.equality.specs.Crate.{u32, u64, i32, add_u64, mul_u64, add_u32, sub_u32, add_i32, sub_i32, insn_is_call, Result, ok, err, panics, too_deep, Error, unknown_symbol, section_not_found, unknown_function, unknown_program, invalid_relocation_offset, Linker, relocate_map, relocate_maps, relocate_functions, object_relocate_maps, slot_of, relocate_from, relocate, link_new, relocate_calls}
use Rattle.equality.specs.Domain.{crate_of}
use Rattle.equality.specs.Demand2.{both_steps}

-- what the crate answers: all functions' slots after the map step; the program with its records and both `num_info`; an error; a panic
data Seen : Type 0 where
  leaves : List Insn → Seen
  gives : List Insn → List FunctionRecord → ℕ → List LineRecord → ℕ → Seen
  errs : Error → Seen
  panicked : Seen
  never : Seen

abbrev all_slots : List Crate.Function → List Insn
all_slots [] = []
all_slots (f ∷ fs) = f.instructions ++ all_slots fs

abbrev seen_maps : Result (List Crate.Function) → Seen
seen_maps (ok functions) = leaves (all_slots functions)
seen_maps (err e) = errs e
seen_maps panics = panicked
seen_maps too_deep = never

abbrev seen_of_link : Result Linker → Seen
seen_of_link (ok program) = gives program.instructions program.func_info program.func_num_info program.line_info program.line_num_info
seen_of_link (err e) = errs e
seen_of_link panics = panicked
seen_of_link too_deep = never

abbrev insn : ℕ → ℕ → ℕ → ℤ → ℤ → Insn
insn opcode destination source offset immediate = record { opcode = opcode; destination = destination; source = source; offset = offset; immediate = immediate }

abbrev func : ℕ → ℕ → FunctionRecord
func slot kind = record { slot = slot; kind = kind }

abbrev line : ℕ → ℕ → ℕ → ℕ → LineRecord
line slot file number column = record { slot = slot; file = file; line = number; column = column }

abbrev sym : ℕ → Option ℕ → ℕ → SymbolKind → Symbol
sym index home address kind = record { index = index; home = home; address = address; kind = kind }

abbrev fun : ℕ → ℕ → ℕ → ℕ → ℕ → ℕ → Function
fun home slots address offset functions lines = record { home = home; slots = slots; address = address; offset = offset; functions = functions; lines = lines }

abbrev rel : ℕ → ℕ → ℕ → ℕ → Relocation
rel home symbol offset size = record { home = home; symbol = symbol; offset = offset; size = size }

abbrev map_row : ℕ → Option ℕ → ℤ → Bool → MapRow
map_row home symbol fd has_data = record { home = home; symbol = symbol; fd = fd; has_data = has_data }

abbrev tables : List ℕ → List Symbol → List Function → List Relocation → List Insn → List FunctionRecord → List LineRecord → Tables
tables code symbols functions relocations instructions function_records line_records = record {
  code = code;
  symbols = symbols;
  functions = functions;
  relocations = relocations;
  maps = [];
  instructions = instructions;
  function_records = function_records;
  line_records = line_records;
}

-- with each function's `num_info` by row; the relocations of a section by row (no answer here hangs on their order)
abbrev object_of : Tables → List ℕ → List ℕ → Crate.Object
object_of t func_nums line_nums =
    crate_of t (record { values = λ home. only (λ r. eqb r.home home) t.relocations; maps = []; func_nums = λ row. get_or func_nums row 0; line_nums = λ row. get_or line_nums row 0 })

-- the map step, then both steps, with the maps in the order in which the crate was given them
abbrev steps : Tables → List ℕ → List ℕ → List MapRow → ℕ → ℕ → List Seen
steps t func_nums line_nums maps section_index address =
    seen_maps (object_relocate_maps (object_of t func_nums line_nums) maps)
    ∷ seen_of_link (both_steps (object_of t func_nums line_nums) maps section_index address)
    ∷ []

abbrev calls_alone : Tables → List ℕ → List ℕ → List MapRow → ℕ → ℕ → List Seen
calls_alone t func_nums line_nums maps section_index address = seen_of_link (relocate_calls (object_of t func_nums line_nums) section_index address) ∷ []

vectors_1 : (
    -- 11: no room: link: ours 11, the crate accepts
    steps (tables
    []
    []
    (fun 2 4 0 0 0 0 ∷ [])
    []
    (insn 133 0 1 (pos 0) (negsuc 0) ∷ insn 149 0 0 (pos 0) (pos 0) ∷ insn 149 0 0 (pos 0) (pos 0) ∷ insn 149 0 0 (pos 0) (pos 0) ∷ [])
    []
    [])
    (0 ∷ []) (0 ∷ [])
    [] 2 0
    -- 12: line record outside: link: ours 12, the crate UnknownFunction
    ∷ steps (tables
    []
    []
    (fun 9 2 68715294712 85895163832 0 2 ∷ [])
    []
    (insn 133 0 1 (pos 0) (negsuc 2147483640) ∷ insn 133 0 1 (pos 0) (negsuc 8) ∷ [])
    []
    (line 4294967286 2 471 1188284272 ∷ line 4990 1 213 2412325397 ∷ []))
    (0 ∷ []) (2 ∷ [])
    [] 9 68715294712
    -- 12: line record outside: link: ours 12, the crate accepts
    ∷ steps (tables
    []
    []
    (fun 1 1 0 0 0 2 ∷ [])
    []
    (insn 133 0 1 (pos 0) (negsuc 0) ∷ [])
    []
    (line 0 0 257 2933814872 ∷ line 1 1 240 1548569513 ∷ []))
    (0 ∷ []) (2 ∷ [])
    [] 1 0
    -- 12: line record outside: link: ours 12, the crate panics
    ∷ steps (tables
    []
    (sym 2 none 0 text ∷ [])
    (fun 3 2 0 0 0 2 ∷ [])
    (rel 3 2 8 64 ∷ [])
    (insn 133 0 1 (pos 0) (negsuc 0) ∷ insn 149 0 0 (pos 0) (pos 0) ∷ [])
    []
    (line 4294967286 1 291 195328775 ∷ line 4990 1 414 2073264017 ∷ []))
    (0 ∷ []) (2 ∷ [])
    [] 3 0
    -- 13: no root: equal all the same
    ∷ steps (tables
    []
    []
    []
    []
    []
    []
    [])
    [] []
    [] 65536 0
    -- 5, a map has the section: map step: ours 5, the crate InvalidRelocationOffset
    ∷ steps (tables
    []
    (sym 2 (some 20) 30 other ∷ [])
    (fun 2 1 0 0 0 0 ∷ fun 2 1 40 40 0 0 ∷ fun 2 1 56 34359738424 0 0 ∷ [])
    (rel 2 2 0 32 ∷ rel 2 2 46 0 ∷ [])
    (insn 149 0 0 (pos 0) (pos 0) ∷ insn 149 0 0 (pos 0) (pos 0) ∷ insn 149 0 0 (pos 0) (pos 0) ∷ [])
    []
    [])
    (0 ∷ 0 ∷ 0 ∷ []) (0 ∷ 0 ∷ 0 ∷ [])
    (map_row 20 (some 111) (pos 32) false ∷ []) 2 56
    -- 5, a map has the section: map step: ours 5, the crate UnknownSymbol
    ∷ steps (tables
    []
    (sym 4 (some 20) 20 other ∷ [])
    (fun 3 1 0 0 0 0 ∷ fun 3 1 24 24 0 0 ∷ [])
    (rel 3 4 0 64 ∷ rel 3 12 24 32 ∷ [])
    (insn 149 0 0 (pos 0) (pos 0) ∷ insn 149 0 0 (pos 0) (pos 0) ∷ [])
    []
    [])
    (0 ∷ 0 ∷ []) (0 ∷ 0 ∷ [])
    (map_row 20 (some 112) (negsuc 120470834) false ∷ []) 3 0
    -- 5, a map has the section: map step: ours 5, the crate goes on; its link: UnknownFunction
    ∷ steps (tables
    []
    (sym 0 (some 20) 31 other ∷ [])
    (fun 4 2 4096 4096 0 0 ∷ [])
    (rel 4 0 4104 32 ∷ [])
    (insn 133 0 1 (pos 0) (pos 39) ∷ insn 149 0 0 (pos 0) (pos 0) ∷ [])
    []
    [])
    (0 ∷ []) (0 ∷ [])
    (map_row 20 (some 106) (pos 87) false ∷ []) 4 4096
    -- 5, a map has the section: map step: ours 5, the crate goes on; its link: accepts
    ∷ steps (tables
    []
    (sym 0 (some 20) 25 other ∷ [])
    (fun 2 3 0 0 0 0 ∷ [])
    (rel 2 0 8 0 ∷ [])
    (insn 149 0 0 (pos 0) (pos 0) ∷ insn 149 0 0 (pos 0) (pos 0) ∷ insn 149 0 0 (pos 0) (pos 0) ∷ [])
    []
    [])
    (0 ∷ []) (0 ∷ [])
    (map_row 20 (some 105) (pos 12) true ∷ []) 2 0
    -- 5, a map has the section: map step: ours 5, the crate goes on; its link: panics
    ∷ steps (tables
    (3 ∷ [])
    (sym 1 (some 3) 1048567 section ∷ sym 3 (some 21) 19 other ∷ [])
    (fun 3 4 1048576 0 0 0 ∷ [])
    (rel 3 1 8 31 ∷ rel 3 3 24 64 ∷ [])
    (insn 149 0 0 (pos 0) (pos 0) ∷ insn 149 0 0 (pos 0) (pos 0) ∷ insn 149 0 0 (pos 0) (pos 0) ∷ insn 149 0 0 (pos 0) (pos 0) ∷ [])
    []
    [])
    (0 ∷ []) (0 ∷ [])
    (map_row 21 (some 108) (negsuc 0) false ∷ []) 3 1048576
    ∷ [])
    ≡ (
    (leaves (insn 133 0 1 (pos 0) (negsuc 0) ∷ insn 149 0 0 (pos 0) (pos 0) ∷ insn 149 0 0 (pos 0) (pos 0) ∷ insn 149 0 0 (pos 0) (pos 0) ∷ []) ∷ gives (insn 133 0 1 (pos 0) (pos 3) ∷ insn 149 0 0 (pos 0) (pos 0) ∷ insn 149 0 0 (pos 0) (pos 0) ∷ insn 149 0 0 (pos 0) (pos 0) ∷ insn 133 0 1 (pos 0) (negsuc 0) ∷ insn 149 0 0 (pos 0) (pos 0) ∷ insn 149 0 0 (pos 0) (pos 0) ∷ insn 149 0 0 (pos 0) (pos 0) ∷ []) [] 0 [] 0 ∷ [])
    ∷ (leaves (insn 133 0 1 (pos 0) (negsuc 2147483640) ∷ insn 133 0 1 (pos 0) (negsuc 8) ∷ []) ∷ errs unknown_function ∷ [])
    ∷ (leaves (insn 133 0 1 (pos 0) (negsuc 0) ∷ []) ∷ gives (insn 133 0 1 (pos 0) (pos 0) ∷ insn 133 0 1 (pos 0) (negsuc 0) ∷ []) [] 0 (line 0 0 257 2933814872 ∷ line 1 1 240 1548569513 ∷ line 1 0 257 2933814872 ∷ line 2 1 240 1548569513 ∷ []) 4 ∷ [])
    ∷ (leaves (insn 133 0 1 (pos 0) (negsuc 0) ∷ insn 149 0 0 (pos 0) (pos 0) ∷ []) ∷ panicked ∷ [])
    ∷ (leaves [] ∷ errs unknown_program ∷ [])
    ∷ (errs invalid_relocation_offset ∷ errs invalid_relocation_offset ∷ [])
    ∷ (errs unknown_symbol ∷ errs unknown_symbol ∷ [])
    ∷ (leaves (insn 133 0 1 (pos 0) (pos 39) ∷ insn 149 0 1 (pos 0) (pos 87) ∷ []) ∷ errs unknown_function ∷ [])
    ∷ (leaves (insn 149 0 0 (pos 0) (pos 0) ∷ insn 149 0 2 (pos 0) (pos 12) ∷ insn 149 0 0 (pos 0) (pos 25) ∷ []) ∷ gives (insn 149 0 0 (pos 0) (pos 0) ∷ insn 149 0 2 (pos 0) (pos 12) ∷ insn 149 0 0 (pos 0) (pos 25) ∷ []) [] 0 [] 0 ∷ [])
    ∷ (leaves (insn 149 0 0 (pos 0) (pos 0) ∷ insn 149 0 0 (pos 0) (pos 0) ∷ insn 149 0 0 (pos 0) (pos 0) ∷ insn 149 0 1 (pos 0) (negsuc 0) ∷ []) ∷ panicked ∷ [])
    ∷ [])
unfolding signed u32 u64 i32 add_u64 mul_u64 add_u32 sub_u32 add_i32 sub_i32 insn_is_call relocate_map relocate_maps relocate_functions object_relocate_maps slot_of relocate_from relocate link_new Crate.link relocate_calls crate_of both_steps
vectors_1 = refl

vectors_2 : (
    -- 5, a map has the section: map step: ours 5, the crate panics
    steps (tables
    []
    (sym 5 (some 21) 38 other ∷ [])
    (fun 4 1 0 0 0 0 ∷ [])
    (rel 4 5 0 64 ∷ [])
    (insn 149 0 0 (pos 0) (pos 0) ∷ [])
    []
    [])
    (0 ∷ []) (0 ∷ [])
    (map_row 21 (some 6) (negsuc 2040488690) true ∷ []) 4 0
    -- 5, kind Text: equal all the same
    ∷ steps (tables
    []
    (sym 1 (some 20) 5 text ∷ [])
    (fun 1 2 0 0 0 0 ∷ [])
    (rel 1 1 8 0 ∷ [])
    (insn 149 0 0 (pos 0) (pos 0) ∷ insn 149 0 0 (pos 0) (pos 0) ∷ [])
    []
    [])
    (0 ∷ []) (0 ∷ [])
    [] 1 0
    -- 5, kind Text: map step: ours 5, the crate goes on; its link: UnknownFunction
    ∷ steps (tables
    []
    (sym 0 (some 21) 13 text ∷ [])
    (fun 3 1 0 0 0 0 ∷ [])
    (rel 3 0 0 0 ∷ [])
    (insn 149 0 0 (pos 0) (pos 0) ∷ [])
    []
    [])
    (0 ∷ []) (0 ∷ [])
    (map_row 33 (some 0) (negsuc 0) false ∷ []) 3 0
    -- 5, kind Text: map step: ours 5, the crate goes on; its link: accepts
    ∷ steps (tables
    []
    (sym 4 (some 21) 5 text ∷ [])
    (fun 1 1 1048576 0 0 0 ∷ fun 1 2 1048584 8 0 0 ∷ [])
    (rel 1 4 8 64 ∷ [])
    (insn 149 0 0 (pos 0) (pos 0) ∷ insn 149 0 0 (pos 0) (pos 0) ∷ insn 149 0 0 (pos 0) (pos 0) ∷ [])
    []
    [])
    (0 ∷ 0 ∷ []) (0 ∷ 0 ∷ [])
    (map_row 33 (some 4) (pos 52) true ∷ []) 1 1048576
    -- 5, kind Text: map step: ours 5, the crate goes on; its link: panics
    ∷ steps (tables
    (3 ∷ [])
    (sym 1 (some 21) 33 text ∷ sym 8 (some 3) 0 other ∷ [])
    (fun 3 2 0 0 0 0 ∷ fun 4 1 4096 4096 0 0 ∷ [])
    (rel 3 1 0 0 ∷ rel 4 8 4096 0 ∷ [])
    (insn 149 0 0 (pos 0) (pos 0) ∷ insn 149 0 0 (pos 0) (pos 0) ∷ insn 149 0 0 (pos 0) (pos 0) ∷ [])
    []
    [])
    (0 ∷ 0 ∷ []) (0 ∷ 0 ∷ [])
    (map_row 33 (some 1) (pos 53) true ∷ []) 4 4096
    -- 5, kind Text: map step: ours 5, the crate panics
    ∷ steps (tables
    []
    (sym 9 (some 21) 2 text ∷ [])
    (fun 4 3 8192 8192 0 0 ∷ [])
    (rel 4 9 8208 64 ∷ [])
    (insn 149 0 0 (pos 0) (pos 0) ∷ insn 149 0 0 (pos 0) (pos 0) ∷ insn 149 0 0 (pos 0) (pos 0) ∷ [])
    []
    [])
    (0 ∷ []) (0 ∷ [])
    (map_row 33 (some 9) (negsuc 1095998698) true ∷ []) 4 8192
    -- 6 in the link: link: ours 6, the crate UnknownFunction
    ∷ steps (tables
    (4 ∷ [])
    (sym 2 (some 4) 1099512676352 text ∷ [])
    (fun 4 1 1048576 0 0 0 ∷ [])
    (rel 4 2 0 0 ∷ [])
    (insn 149 0 0 (pos 0) (pos 0) ∷ [])
    []
    [])
    (0 ∷ []) (0 ∷ [])
    [] 4 1048576
    -- 6 in the link: link: ours 6, the crate accepts
    ∷ steps (tables
    (3 ∷ [])
    (sym 2 (some 3) 4096 text ∷ [])
    (fun 3 1 4096 4096 0 0 ∷ [])
    (rel 3 2 4096 64 ∷ [])
    (insn 149 0 0 (pos 0) (pos 0) ∷ [])
    []
    [])
    (0 ∷ []) (0 ∷ [])
    [] 3 4096
    -- 6 in the map step: map step: ours 6, the crate InvalidRelocationOffset
    ∷ steps (tables
    []
    (sym 2 (some 20) 12 section ∷ [])
    (fun 3 1 0 0 0 0 ∷ fun 4 5 0 0 0 0 ∷ [])
    (rel 3 2 0 64 ∷ rel 4 2 33 32 ∷ [])
    (insn 149 0 0 (pos 0) (pos 0) ∷ insn 149 0 0 (pos 0) (pos 0) ∷ insn 149 0 0 (pos 0) (pos 0) ∷ insn 149 0 0 (pos 0) (pos 0) ∷ insn 149 0 0 (pos 0) (pos 0) ∷ insn 149 0 0 (pos 0) (pos 0) ∷ [])
    []
    [])
    (0 ∷ 0 ∷ []) (0 ∷ 0 ∷ [])
    (map_row 20 none (pos 3) false ∷ []) 3 0
    -- 6 in the map step: map step: ours 6, the crate SectionNotFound
    ∷ steps (tables
    []
    (sym 4 (some 20) 48 section ∷ sym 5 (some 20) 55 other ∷ [])
    (fun 1 4 70368742084600 70368742084592 0 0 ∷ fun 2 1 35184368951288 8192 0 0 ∷ [])
    (rel 1 4 70368742084616 64 ∷ rel 2 5 8192 64 ∷ [])
    (insn 149 0 0 (pos 0) (pos 0) ∷ insn 149 0 0 (pos 0) (pos 0) ∷ insn 149 0 0 (pos 0) (pos 0) ∷ insn 149 0 0 (pos 0) (pos 0) ∷ insn 149 0 0 (pos 0) (pos 0) ∷ [])
    []
    [])
    (0 ∷ 0 ∷ []) (0 ∷ 0 ∷ [])
    (map_row 33 (some 4) (pos 1773476781) false ∷ []) 1 70368742084600
    ∷ [])
    ≡ (
    (panicked ∷ panicked ∷ [])
    ∷ (errs section_not_found ∷ errs section_not_found ∷ [])
    ∷ (leaves (insn 149 0 1 (pos 0) (negsuc 0) ∷ []) ∷ errs unknown_function ∷ [])
    ∷ (leaves (insn 149 0 0 (pos 0) (pos 0) ∷ insn 149 0 2 (pos 0) (pos 52) ∷ insn 149 0 0 (pos 0) (pos 5) ∷ []) ∷ gives (insn 149 0 0 (pos 0) (pos 0) ∷ []) [] 0 [] 0 ∷ [])
    ∷ (leaves (insn 149 0 2 (pos 0) (pos 53) ∷ insn 149 0 0 (pos 0) (pos 33) ∷ insn 149 0 0 (pos 0) (pos 0) ∷ []) ∷ panicked ∷ [])
    ∷ (panicked ∷ panicked ∷ [])
    ∷ (leaves (insn 149 0 0 (pos 0) (pos 0) ∷ []) ∷ errs unknown_function ∷ [])
    ∷ (leaves (insn 149 0 0 (pos 0) (pos 0) ∷ []) ∷ gives (insn 149 0 4 (pos 0) (pos 0) ∷ insn 149 0 4 (pos 0) (negsuc 0) ∷ []) [] 0 [] 0 ∷ [])
    ∷ (errs invalid_relocation_offset ∷ errs invalid_relocation_offset ∷ [])
    ∷ (errs section_not_found ∷ errs section_not_found ∷ [])
    ∷ [])
unfolding signed u32 u64 i32 add_u64 mul_u64 add_u32 sub_u32 add_i32 sub_i32 insn_is_call relocate_map relocate_maps relocate_functions object_relocate_maps slot_of relocate_from relocate link_new Crate.link relocate_calls crate_of both_steps
vectors_2 = refl

vectors_3 : (
    -- 6 in the map step: map step: ours 6, the crate UnknownSymbol
    steps (tables
    []
    (sym 1 (some 21) 58 other ∷ [])
    (fun 3 3 4096 4096 0 0 ∷ fun 4 1 8192 8192 0 0 ∷ [])
    (rel 3 1 4104 0 ∷ rel 4 18 8192 32 ∷ [])
    (insn 149 0 0 (pos 0) (pos 0) ∷ insn 149 0 0 (pos 0) (pos 0) ∷ insn 149 0 0 (pos 0) (pos 0) ∷ insn 149 0 0 (pos 0) (pos 0) ∷ [])
    []
    [])
    (0 ∷ 0 ∷ []) (0 ∷ 0 ∷ [])
    (map_row 21 (some 1) (pos 32) true ∷ []) 4 8192
    -- 6 in the map step: map step: ours 6, the crate goes on; its link: UnknownFunction
    ∷ steps (tables
    []
    (sym 1 (some 20) 43 section ∷ [])
    (fun 1 2 2101248 4096 0 0 ∷ [])
    (rel 1 1 4096 32 ∷ [])
    (insn 149 0 0 (pos 0) (pos 0) ∷ insn 133 0 1 (pos 0) (pos 262142) ∷ [])
    []
    [])
    (0 ∷ []) (0 ∷ [])
    (map_row 20 none (pos 63) true ∷ []) 1 2101248
    -- 6 in the map step: map step: ours 6, the crate goes on; its link: accepts
    ∷ steps (tables
    []
    (sym 1 (some 21) 53 other ∷ [])
    (fun 3 4 1048576 0 0 0 ∷ [])
    (rel 3 1 16 0 ∷ [])
    (insn 149 0 0 (pos 0) (pos 0) ∷ insn 149 0 0 (pos 0) (pos 0) ∷ insn 149 0 0 (pos 0) (pos 0) ∷ insn 149 0 0 (pos 0) (pos 0) ∷ [])
    []
    [])
    (0 ∷ []) (0 ∷ [])
    (map_row 21 (some 1) (pos 939682752) true ∷ []) 3 1048576
    -- 6 in the map step: map step: ours 6, the crate goes on; its link: panics
    ∷ steps (tables
    (2 ∷ [])
    (sym 0 (some 2) 0 other ∷ sym 7 (some 20) 15 other ∷ [])
    (fun 2 3 0 0 0 0 ∷ [])
    (rel 2 0 0 64 ∷ rel 2 7 16 64 ∷ [])
    (insn 149 0 0 (pos 0) (pos 0) ∷ insn 149 0 0 (pos 0) (pos 0) ∷ insn 149 0 0 (pos 0) (pos 0) ∷ [])
    []
    [])
    (0 ∷ []) (0 ∷ [])
    (map_row 20 none (negsuc 336831061) false ∷ []) 2 0
    -- 6 in the map step: map step: ours 6, the crate panics
    ∷ steps (tables
    []
    (sym 0 (some 20) 34 section ∷ [])
    (fun 2 1 281474974617592 4096 0 0 ∷ [])
    (rel 2 0 4096 64 ∷ [])
    (insn 149 0 0 (pos 0) (pos 0) ∷ [])
    []
    [])
    (0 ∷ []) (0 ∷ [])
    (map_row 20 none (pos 74) true ∷ []) 2 281474974617592
    -- 7: value outside i32: map step: ours 7, the crate UnknownSymbol
    ∷ steps (tables
    []
    (sym 6 (some 21) 2147483648 other ∷ [])
    (fun 4 3 0 0 0 0 ∷ fun 4 2 16 16 0 0 ∷ [])
    (rel 4 6 8 0 ∷ rel 4 16 24 32 ∷ [])
    (insn 149 0 0 (pos 0) (pos 0) ∷ insn 24 1 0 (pos 0) (pos 2147483646) ∷ insn 0 0 0 (pos 0) (pos 3) ∷ insn 149 0 0 (pos 0) (pos 0) ∷ insn 149 0 0 (pos 0) (pos 0) ∷ [])
    []
    [])
    (0 ∷ 0 ∷ []) (0 ∷ 0 ∷ [])
    (map_row 33 (some 6) (pos 87) true ∷ []) 4 0
    -- 7: value outside i32: map step: ours 7, the crate goes on; its link: UnknownFunction
    ∷ steps (tables
    []
    (sym 6 (some 20) 2147483648 section ∷ [])
    (fun 1 4 4096 4096 0 0 ∷ [])
    (rel 1 6 4112 32 ∷ [])
    (insn 133 0 1 (pos 0) (pos 2147483646) ∷ insn 149 0 0 (pos 0) (pos 0) ∷ insn 24 1 0 (pos 0) (pos 2147483646) ∷ insn 0 0 0 (pos 0) (pos 0) ∷ [])
    []
    [])
    (0 ∷ []) (0 ∷ [])
    (map_row 20 none (pos 59) true ∷ []) 1 4096
    -- 7: value outside i32: map step: ours 7, the crate goes on; its link: accepts
    ∷ steps (tables
    []
    (sym 2 (some 20) 2 other ∷ [])
    (fun 1 2 0 0 0 0 ∷ [])
    (rel 1 2 0 32 ∷ [])
    (insn 24 1 0 (pos 0) (pos 2147483646) ∷ insn 0 0 0 (pos 0) (pos 3) ∷ [])
    []
    [])
    (0 ∷ []) (0 ∷ [])
    (map_row 20 none (negsuc 837743340) true ∷ []) 1 0
    -- 7: value outside i32: map step: ours 7, the crate goes on; its link: panics
    ∷ steps (tables
    []
    (sym 1 (some 21) 1099511627776 other ∷ sym 7 none 4096 text ∷ [])
    (fun 3 3 4096 4096 0 0 ∷ [])
    (rel 3 7 4096 32 ∷ rel 3 1 4104 64 ∷ [])
    (insn 149 0 0 (pos 0) (pos 0) ∷ insn 24 1 0 (pos 0) (pos 0) ∷ insn 0 0 0 (pos 0) (pos 0) ∷ [])
    []
    [])
    (0 ∷ []) (0 ∷ [])
    (map_row 21 (some 1) (pos 95) true ∷ []) 3 4096
    -- 8: form unknown (Text without a section): link: ours 8, the crate panics
    ∷ steps (tables
    []
    (sym 1 none 4096 text ∷ [])
    (fun 3 1 4096 4096 0 0 ∷ [])
    (rel 3 1 4096 32 ∷ [])
    (insn 149 0 0 (pos 0) (pos 0) ∷ [])
    []
    [])
    (0 ∷ []) (0 ∷ [])
    [] 3 4096
    ∷ [])
    ≡ (
    (errs unknown_symbol ∷ errs unknown_symbol ∷ [])
    ∷ (leaves (insn 149 0 2 (pos 0) (pos 63) ∷ insn 133 0 1 (pos 0) (pos 43) ∷ []) ∷ errs unknown_function ∷ [])
    ∷ (leaves (insn 149 0 0 (pos 0) (pos 0) ∷ insn 149 0 0 (pos 0) (pos 0) ∷ insn 149 0 2 (pos 0) (pos 939682752) ∷ insn 149 0 0 (pos 0) (pos 53) ∷ []) ∷ gives (insn 149 0 0 (pos 0) (pos 0) ∷ insn 149 0 0 (pos 0) (pos 0) ∷ insn 149 0 2 (pos 0) (pos 939682752) ∷ insn 149 0 0 (pos 0) (pos 53) ∷ []) [] 0 [] 0 ∷ [])
    ∷ (leaves (insn 149 0 0 (pos 0) (pos 0) ∷ insn 149 0 0 (pos 0) (pos 0) ∷ insn 149 0 1 (pos 0) (negsuc 336831061) ∷ []) ∷ panicked ∷ [])
    ∷ (panicked ∷ panicked ∷ [])
    ∷ (errs unknown_symbol ∷ errs unknown_symbol ∷ [])
    ∷ (leaves (insn 133 0 1 (pos 0) (pos 2147483646) ∷ insn 149 0 0 (pos 0) (pos 0) ∷ insn 24 1 2 (pos 0) (pos 59) ∷ insn 0 0 0 (pos 0) (negsuc 1) ∷ []) ∷ errs unknown_function ∷ [])
    ∷ (leaves (insn 24 1 2 (pos 0) (negsuc 837743340) ∷ insn 0 0 0 (pos 0) (negsuc 2147483647) ∷ []) ∷ gives (insn 24 1 2 (pos 0) (negsuc 837743340) ∷ insn 0 0 0 (pos 0) (negsuc 2147483647) ∷ []) [] 0 [] 0 ∷ [])
    ∷ (leaves (insn 149 0 0 (pos 0) (pos 0) ∷ insn 24 1 2 (pos 0) (pos 95) ∷ insn 0 0 0 (pos 0) (pos 0) ∷ []) ∷ panicked ∷ [])
    ∷ (leaves (insn 149 0 0 (pos 0) (pos 0) ∷ []) ∷ panicked ∷ [])
    ∷ [])
unfolding signed u32 u64 i32 add_u64 mul_u64 add_u32 sub_u32 add_i32 sub_i32 insn_is_call relocate_map relocate_maps relocate_functions object_relocate_maps slot_of relocate_from relocate link_new Crate.link relocate_calls crate_of both_steps
vectors_3 = refl

vectors_4 : (
    -- 8: form unknown (a size): link: ours 8, the crate panics
    steps (tables
    (4 ∷ [])
    (sym 0 (some 4) 1048551 section ∷ [])
    (fun 4 2 1048576 0 0 0 ∷ [])
    (rel 4 0 8 16 ∷ [])
    (insn 149 0 0 (pos 0) (pos 0) ∷ insn 149 0 0 (pos 0) (pos 0) ∷ [])
    []
    [])
    (0 ∷ []) (0 ∷ [])
    [] 4 1048576
    -- 8: form unknown (another kind): link: ours 8, the crate panics
    ∷ steps (tables
    (4 ∷ [])
    (sym 2 (some 4) 1099511627776 other ∷ [])
    (fun 4 1 0 0 0 0 ∷ [])
    (rel 4 2 0 32 ∷ [])
    (insn 149 0 0 (pos 0) (pos 0) ∷ [])
    []
    [])
    (0 ∷ []) (0 ∷ [])
    [] 4 0
    -- 9: call names no code: link: ours 9, the crate UnknownFunction
    ∷ steps (tables
    []
    (sym 1 (some 21) 32 other ∷ [])
    (fun 2 3 1048576 0 0 0 ∷ [])
    (rel 2 1 16 32 ∷ [])
    (insn 149 0 0 (pos 0) (pos 0) ∷ insn 149 0 0 (pos 0) (pos 0) ∷ insn 133 0 1 (pos 0) (negsuc 2147483647) ∷ [])
    []
    [])
    (0 ∷ []) (0 ∷ [])
    [] 2 1048576
    -- 9: call names no code: link: ours 9, the crate accepts
    ∷ steps (tables
    []
    (sym 2 (some 20) 44 section ∷ [])
    (fun 4 1 1048576 0 0 0 ∷ [])
    (rel 4 2 0 32 ∷ [])
    (insn 133 0 1 (pos 0) (pos 131071) ∷ [])
    []
    [])
    (0 ∷ []) (0 ∷ [])
    [] 4 1048576
    -- 9: call names no code: link: ours 9, the crate panics
    ∷ steps (tables
    (3 ∷ [])
    (sym 1 (some 21) 51 other ∷ sym 7 (some 3) 7992 section ∷ [])
    (fun 3 3 0 0 0 0 ∷ [])
    (rel 3 1 8 32 ∷ rel 3 7 16 0 ∷ [])
    (insn 149 0 0 (pos 0) (pos 0) ∷ insn 133 0 1 (pos 0) (negsuc 1) ∷ insn 149 0 0 (pos 0) (pos 0) ∷ [])
    []
    [])
    (0 ∷ []) (0 ∷ [])
    [] 3 0
    -- a map without symbol not alone: equal all the same
    ∷ steps (tables
    []
    []
    (fun 2 1 4096 4096 0 0 ∷ [])
    []
    (insn 149 0 0 (pos 0) (pos 0) ∷ [])
    []
    [])
    (0 ∷ []) (0 ∷ [])
    (map_row 20 (some 105) (pos 606) true ∷ map_row 20 none (negsuc 0) false ∷ []) 2 4096
    -- a map without symbol not alone: slots after the map step
    ∷ steps (tables
    []
    (sym 2 (some 20) 6 other ∷ [])
    (fun 3 2 1048576 0 0 0 ∷ [])
    (rel 3 2 0 64 ∷ [])
    (insn 24 13 7 (pos 0) (pos 35) ∷ insn 0 0 0 (pos 0) (pos 0) ∷ [])
    []
    [])
    (0 ∷ []) (0 ∷ [])
    (map_row 20 none (pos 87) true ∷ map_row 20 (some 107) (pos 606) false ∷ []) 3 1048576
    -- calls without maps first: equal all the same
    ∷ calls_alone (tables
    []
    []
    (fun 2 1 1048576 0 0 0 ∷ [])
    []
    (insn 149 0 0 (pos 0) (pos 0) ∷ [])
    []
    [])
    (0 ∷ []) (0 ∷ [])
    [] 2 1048576
    -- calls without maps first: link: ours 3, the crate UnknownFunction
    ∷ calls_alone (tables
    []
    []
    (fun 2 1 4096 4096 0 0 ∷ [])
    (rel 2 6 4096 64 ∷ [])
    (insn 133 0 1 (pos 0) (negsuc 76) ∷ [])
    []
    [])
    (0 ∷ []) (0 ∷ [])
    [] 2 4096
    -- calls without maps first: link: ours 3, the crate accepts
    ∷ calls_alone (tables
    []
    []
    (fun 3 1 2101248 4096 0 0 ∷ [])
    (rel 3 6 4096 64 ∷ [])
    (insn 149 0 0 (pos 0) (pos 0) ∷ [])
    []
    [])
    (0 ∷ []) (0 ∷ [])
    [] 3 2101248
    ∷ [])
    ≡ (
    (leaves (insn 149 0 0 (pos 0) (pos 0) ∷ insn 149 0 0 (pos 0) (pos 0) ∷ []) ∷ panicked ∷ [])
    ∷ (leaves (insn 149 0 0 (pos 0) (pos 0) ∷ []) ∷ panicked ∷ [])
    ∷ (leaves (insn 149 0 0 (pos 0) (pos 0) ∷ insn 149 0 0 (pos 0) (pos 0) ∷ insn 133 0 1 (pos 0) (negsuc 2147483647) ∷ []) ∷ errs unknown_function ∷ [])
    ∷ (leaves (insn 133 0 1 (pos 0) (pos 131071) ∷ []) ∷ gives (insn 133 0 1 (pos 0) (pos 0) ∷ insn 133 0 1 (pos 0) (negsuc 0) ∷ []) [] 0 [] 0 ∷ [])
    ∷ (leaves (insn 149 0 0 (pos 0) (pos 0) ∷ insn 133 0 1 (pos 0) (negsuc 1) ∷ insn 149 0 0 (pos 0) (pos 0) ∷ []) ∷ panicked ∷ [])
    ∷ (leaves (insn 149 0 0 (pos 0) (pos 0) ∷ []) ∷ gives (insn 149 0 0 (pos 0) (pos 0) ∷ []) [] 0 [] 0 ∷ [])
    ∷ (leaves (insn 24 13 1 (pos 0) (pos 606) ∷ insn 0 0 0 (pos 0) (pos 0) ∷ []) ∷ gives (insn 24 13 1 (pos 0) (pos 606) ∷ insn 0 0 0 (pos 0) (pos 0) ∷ []) [] 0 [] 0 ∷ [])
    ∷ (gives (insn 149 0 0 (pos 0) (pos 0) ∷ []) [] 0 [] 0 ∷ [])
    ∷ (errs unknown_function ∷ [])
    ∷ (gives (insn 149 0 0 (pos 0) (pos 0) ∷ []) [] 0 [] 0 ∷ [])
    ∷ [])
unfolding signed u32 u64 i32 add_u64 mul_u64 add_u32 sub_u32 add_i32 sub_i32 insn_is_call relocate_map relocate_maps relocate_functions object_relocate_maps slot_of relocate_from relocate link_new Crate.link relocate_calls crate_of both_steps
vectors_4 = refl

vectors_5 : (
    -- inside, accepted: callees reached
    steps (tables
    (1 ∷ 2 ∷ 3 ∷ [])
    []
    (fun 3 1 137436860408 120256991232 0 0 ∷ [])
    []
    (insn 133 0 1 (pos 0) (pos 2147483646) ∷ [])
    []
    [])
    (0 ∷ []) (0 ∷ [])
    [] 3 137436860408
    -- inside, accepted: callees reached, a map set
    ∷ steps (tables
    (1 ∷ 4 ∷ [])
    (sym 0 (some 21) 10 other ∷ [])
    (fun 1 4 0 0 0 0 ∷ [])
    (rel 1 0 16 32 ∷ [])
    (insn 133 0 1 (pos 0) (negsuc 0) ∷ insn 183 1 0 (pos 0) (pos 5) ∷ insn 24 3 0 (pos 0) (pos 3) ∷ insn 0 0 0 (pos 0) (pos 3) ∷ [])
    []
    [])
    (0 ∷ []) (0 ∷ [])
    (map_row 21 (some 0) (pos 45) true ∷ []) 1 0
    -- inside, accepted: callees reached, a map set, function records
    ∷ steps (tables
    (2 ∷ 3 ∷ 4 ∷ [])
    (sym 0 (some 21) 30 other ∷ [])
    (fun 3 3 4096 4096 1 0 ∷ [])
    (rel 3 0 4096 64 ∷ [])
    (insn 24 1 0 (pos 0) (pos 52) ∷ insn 0 0 0 (pos 0) (pos 0) ∷ insn 133 0 1 (pos 0) (negsuc 2) ∷ [])
    (func 0 6 ∷ [])
    [])
    (1 ∷ []) (0 ∷ [])
    (map_row 21 (some 0) (pos 63) true ∷ []) 3 4096
    -- inside, accepted: callees reached, a map set, function records, line records
    ∷ steps (tables
    (3 ∷ [])
    (sym 2 (some 21) 45 other ∷ [])
    (fun 3 3 0 0 1 2 ∷ [])
    (rel 3 2 8 32 ∷ [])
    (insn 133 0 1 (pos 0) (negsuc 0) ∷ insn 24 8 0 (pos 0) (pos 37) ∷ insn 0 0 0 (pos 0) (negsuc 2) ∷ [])
    (func 4294967295 20 ∷ [])
    (line 10 2 219 802374888 ∷ line 12 2 272 3348417537 ∷ []))
    (1 ∷ []) (2 ∷ [])
    (map_row 21 (some 2) (pos 25) true ∷ []) 3 0
    -- inside, accepted: callees reached, a map set, line records
    ∷ steps (tables
    (3 ∷ [])
    (sym 0 (some 21) 3 other ∷ [])
    (fun 3 3 0 0 0 2 ∷ [])
    (rel 3 0 8 64 ∷ [])
    (insn 133 0 1 (pos 0) (negsuc 0) ∷ insn 24 0 0 (pos 0) (pos 26) ∷ insn 0 0 0 (pos 0) (pos 3) ∷ [])
    []
    (line 4294967286 2 89 1845604136 ∷ line 4294967286 1 85 2388652336 ∷ []))
    (0 ∷ []) (2 ∷ [])
    (map_row 33 (some 0) (negsuc 0) true ∷ []) 3 0
    -- inside, accepted: callees reached, a reference
    ∷ steps (tables
    (2 ∷ [])
    []
    (fun 2 6 0 0 0 0 ∷ [])
    []
    (insn 149 0 0 (pos 0) (pos 0) ∷ insn 24 3 0 (pos 0) (pos 0) ∷ insn 24 5 4 (pos 0) (pos 16) ∷ insn 0 0 0 (pos 0) (pos 0) ∷ insn 149 0 0 (pos 0) (pos 0) ∷ insn 133 0 1 (pos 0) (negsuc 5) ∷ [])
    []
    [])
    (0 ∷ []) (0 ∷ [])
    [] 2 0
    -- inside, accepted: callees reached, a reference, a map set
    ∷ steps (tables
    (2 ∷ 3 ∷ [])
    (sym 2 (some 2) 0 text ∷ sym 6 (some 20) 21 other ∷ [])
    (fun 2 5 0 0 0 0 ∷ [])
    (rel 2 2 8 0 ∷ rel 2 6 24 32 ∷ [])
    (insn 149 0 0 (pos 0) (pos 0) ∷ insn 24 6 0 (pos 9) (negsuc 2147483647) ∷ insn 0 0 0 (pos 0) (pos 3) ∷ insn 24 2 0 (pos 0) (pos 583498729) ∷ insn 0 0 0 (pos 0) (negsuc 2) ∷ [])
    []
    [])
    (0 ∷ []) (0 ∷ [])
    (map_row 20 none (pos 58) false ∷ []) 2 0
    -- inside, accepted: callees reached, a reference, a map set, function records
    ∷ steps (tables
    (1 ∷ 3 ∷ [])
    (sym 2 (some 20) 48 section ∷ sym 5 (some 1) 0 text ∷ [])
    (fun 1 5 0 0 1 0 ∷ [])
    (rel 1 2 8 32 ∷ rel 1 5 24 32 ∷ [])
    (insn 133 0 1 (pos 0) (negsuc 0) ∷ insn 24 9 0 (pos 0) (negsuc 2147483647) ∷ insn 0 0 0 (pos 0) (pos 0) ∷ insn 24 1 0 (pos 0) (pos 5) ∷ insn 0 0 0 (pos 0) (pos 0) ∷ [])
    (func 7 11 ∷ [])
    [])
    (1 ∷ []) (0 ∷ [])
    (map_row 20 none (pos 20) true ∷ []) 1 0
    -- inside, accepted: callees reached, a reference, a map set, function records, line records
    ∷ steps (tables
    (1 ∷ 4 ∷ [])
    (sym 1 (some 20) 19 other ∷ sym 2 (some 4) 2101104 section ∷ [])
    (fun 4 4 2101248 4096 1 2 ∷ [])
    (rel 4 1 4096 0 ∷ rel 4 2 4112 64 ∷ [])
    (insn 24 1 0 (pos 0) (negsuc 2) ∷ insn 0 0 0 (pos 0) (pos 3) ∷ insn 24 1 0 (pos 0) (pos 144) ∷ insn 0 0 0 (pos 0) (negsuc 2) ∷ [])
    (func 0 52 ∷ [])
    (line 37 1 217 127241026 ∷ line 37 0 286 3000354953 ∷ []))
    (1 ∷ []) (2 ∷ [])
    (map_row 20 none (negsuc 1629157433) false ∷ []) 4 2101248
    -- inside, accepted: callees reached, a reference, a map set, line records
    ∷ steps (tables
    (1 ∷ 3 ∷ [])
    (sym 1 (some 21) 57 other ∷ sym 5 (some 3) 4096 text ∷ [])
    (fun 3 4 4096 4096 0 2 ∷ [])
    (rel 3 5 4096 64 ∷ rel 3 1 4112 64 ∷ [])
    (insn 24 8 0 (pos 0) (negsuc 76) ∷ insn 0 0 0 (pos 0) (pos 0) ∷ insn 24 4 0 (pos 0) (pos 20) ∷ insn 0 0 0 (pos 0) (pos 0) ∷ [])
    []
    (line 0 1 496 4190024477 ∷ line 3 1 388 2906285246 ∷ []))
    (0 ∷ []) (2 ∷ [])
    (map_row 21 (some 1) (pos 92) false ∷ []) 3 4096
    ∷ [])
    ≡ (
    (leaves (insn 133 0 1 (pos 0) (pos 2147483646) ∷ []) ∷ gives (insn 133 0 1 (pos 0) (pos 0) ∷ insn 133 0 1 (pos 0) (negsuc 0) ∷ []) [] 0 [] 0 ∷ [])
    ∷ (leaves (insn 133 0 1 (pos 0) (negsuc 0) ∷ insn 183 1 0 (pos 0) (pos 5) ∷ insn 24 3 2 (pos 0) (pos 45) ∷ insn 0 0 0 (pos 0) (pos 13) ∷ []) ∷ gives (insn 133 0 1 (pos 0) (pos 3) ∷ insn 183 1 0 (pos 0) (pos 5) ∷ insn 24 3 2 (pos 0) (pos 45) ∷ insn 0 0 0 (pos 0) (pos 13) ∷ insn 133 0 1 (pos 0) (negsuc 0) ∷ insn 183 1 0 (pos 0) (pos 5) ∷ insn 24 3 2 (pos 0) (pos 45) ∷ insn 0 0 0 (pos 0) (pos 13) ∷ []) [] 0 [] 0 ∷ [])
    ∷ (leaves (insn 24 1 2 (pos 0) (pos 63) ∷ insn 0 0 0 (pos 0) (pos 82) ∷ insn 133 0 1 (pos 0) (negsuc 2) ∷ []) ∷ gives (insn 24 1 2 (pos 0) (pos 63) ∷ insn 0 0 0 (pos 0) (pos 82) ∷ insn 133 0 1 (pos 0) (pos 0) ∷ insn 24 1 2 (pos 0) (pos 63) ∷ insn 0 0 0 (pos 0) (pos 82) ∷ insn 133 0 1 (pos 0) (negsuc 2) ∷ []) (func 0 6 ∷ func 3 6 ∷ []) 2 [] 0 ∷ [])
    ∷ (leaves (insn 133 0 1 (pos 0) (negsuc 0) ∷ insn 24 8 2 (pos 0) (pos 25) ∷ insn 0 0 0 (pos 0) (pos 82) ∷ []) ∷ gives (insn 133 0 1 (pos 0) (pos 2) ∷ insn 24 8 2 (pos 0) (pos 25) ∷ insn 0 0 0 (pos 0) (pos 82) ∷ insn 133 0 1 (pos 0) (negsuc 0) ∷ insn 24 8 2 (pos 0) (pos 25) ∷ insn 0 0 0 (pos 0) (pos 82) ∷ []) (func 4294967295 20 ∷ func 3 20 ∷ []) 2 (line 10 2 219 802374888 ∷ line 12 2 272 3348417537 ∷ line 3 2 219 802374888 ∷ line 5 2 272 3348417537 ∷ []) 4 ∷ [])
    ∷ (leaves (insn 133 0 1 (pos 0) (negsuc 0) ∷ insn 24 0 2 (pos 0) (negsuc 0) ∷ insn 0 0 0 (pos 0) (pos 29) ∷ []) ∷ gives (insn 133 0 1 (pos 0) (pos 2) ∷ insn 24 0 2 (pos 0) (negsuc 0) ∷ insn 0 0 0 (pos 0) (pos 29) ∷ insn 133 0 1 (pos 0) (negsuc 0) ∷ insn 24 0 2 (pos 0) (negsuc 0) ∷ insn 0 0 0 (pos 0) (pos 29) ∷ []) [] 0 (line 4294967286 2 89 1845604136 ∷ line 4294967286 1 85 2388652336 ∷ line 3 2 89 1845604136 ∷ line 3 1 85 2388652336 ∷ []) 4 ∷ [])
    ∷ (leaves (insn 149 0 0 (pos 0) (pos 0) ∷ insn 24 3 0 (pos 0) (pos 0) ∷ insn 24 5 4 (pos 0) (pos 16) ∷ insn 0 0 0 (pos 0) (pos 0) ∷ insn 149 0 0 (pos 0) (pos 0) ∷ insn 133 0 1 (pos 0) (negsuc 5) ∷ []) ∷ gives (insn 149 0 0 (pos 0) (pos 0) ∷ insn 24 3 0 (pos 0) (pos 0) ∷ insn 24 5 4 (pos 0) (pos 16) ∷ insn 0 0 0 (pos 0) (pos 0) ∷ insn 149 0 0 (pos 0) (pos 0) ∷ insn 133 0 1 (pos 0) (pos 0) ∷ insn 149 0 0 (pos 0) (pos 0) ∷ insn 24 3 0 (pos 0) (pos 0) ∷ insn 24 5 4 (pos 0) (pos 16) ∷ insn 0 0 0 (pos 0) (pos 0) ∷ insn 149 0 0 (pos 0) (pos 0) ∷ insn 133 0 1 (pos 0) (negsuc 5) ∷ []) [] 0 [] 0 ∷ [])
    ∷ (leaves (insn 149 0 0 (pos 0) (pos 0) ∷ insn 24 6 0 (pos 9) (negsuc 2147483647) ∷ insn 0 0 0 (pos 0) (pos 3) ∷ insn 24 2 1 (pos 0) (pos 58) ∷ insn 0 0 0 (pos 0) (negsuc 2) ∷ []) ∷ gives (insn 149 0 0 (pos 0) (pos 0) ∷ insn 24 6 4 (pos 9) (pos 3) ∷ insn 0 0 0 (pos 0) (pos 3) ∷ insn 24 2 1 (pos 0) (pos 58) ∷ insn 0 0 0 (pos 0) (negsuc 2) ∷ insn 149 0 0 (pos 0) (pos 0) ∷ insn 24 6 4 (pos 9) (negsuc 1) ∷ insn 0 0 0 (pos 0) (pos 3) ∷ insn 24 2 1 (pos 0) (pos 58) ∷ insn 0 0 0 (pos 0) (negsuc 2) ∷ []) [] 0 [] 0 ∷ [])
    ∷ (leaves (insn 133 0 1 (pos 0) (negsuc 0) ∷ insn 24 9 2 (pos 0) (pos 20) ∷ insn 0 0 0 (pos 0) (negsuc 2147483599) ∷ insn 24 1 0 (pos 0) (pos 5) ∷ insn 0 0 0 (pos 0) (pos 0) ∷ []) ∷ gives (insn 133 0 1 (pos 0) (pos 4) ∷ insn 24 9 2 (pos 0) (pos 20) ∷ insn 0 0 0 (pos 0) (negsuc 2147483599) ∷ insn 24 1 4 (pos 0) (pos 1) ∷ insn 0 0 0 (pos 0) (pos 0) ∷ insn 133 0 1 (pos 0) (negsuc 0) ∷ insn 24 9 2 (pos 0) (pos 20) ∷ insn 0 0 0 (pos 0) (negsuc 2147483599) ∷ insn 24 1 4 (pos 0) (negsuc 3) ∷ insn 0 0 0 (pos 0) (pos 0) ∷ []) (func 7 11 ∷ func 5 11 ∷ []) 2 [] 0 ∷ [])
    ∷ (leaves (insn 24 1 1 (pos 0) (negsuc 1629157433) ∷ insn 0 0 0 (pos 0) (pos 3) ∷ insn 24 1 0 (pos 0) (pos 144) ∷ insn 0 0 0 (pos 0) (negsuc 2) ∷ []) ∷ gives (insn 24 1 1 (pos 0) (negsuc 1629157433) ∷ insn 0 0 0 (pos 0) (pos 3) ∷ insn 24 1 4 (pos 0) (pos 1) ∷ insn 0 0 0 (pos 0) (negsuc 2) ∷ insn 24 1 1 (pos 0) (negsuc 1629157433) ∷ insn 0 0 0 (pos 0) (pos 3) ∷ insn 24 1 4 (pos 0) (negsuc 2) ∷ insn 0 0 0 (pos 0) (negsuc 2) ∷ []) (func 0 52 ∷ func 4 52 ∷ []) 2 (line 37 1 217 127241026 ∷ line 37 0 286 3000354953 ∷ line 4 1 217 127241026 ∷ line 4 0 286 3000354953 ∷ []) 4 ∷ [])
    ∷ (leaves (insn 24 8 0 (pos 0) (negsuc 76) ∷ insn 0 0 0 (pos 0) (pos 0) ∷ insn 24 4 1 (pos 0) (pos 92) ∷ insn 0 0 0 (pos 0) (pos 0) ∷ []) ∷ gives (insn 24 8 4 (pos 0) (pos 3) ∷ insn 0 0 0 (pos 0) (pos 0) ∷ insn 24 4 1 (pos 0) (pos 92) ∷ insn 0 0 0 (pos 0) (pos 0) ∷ insn 24 8 4 (pos 0) (negsuc 0) ∷ insn 0 0 0 (pos 0) (pos 0) ∷ insn 24 4 1 (pos 0) (pos 92) ∷ insn 0 0 0 (pos 0) (pos 0) ∷ []) [] 0 (line 0 1 496 4190024477 ∷ line 3 1 388 2906285246 ∷ line 4 1 496 4190024477 ∷ line 7 1 388 2906285246 ∷ []) 4 ∷ [])
    ∷ [])
unfolding signed u32 u64 i32 add_u64 mul_u64 add_u32 sub_u32 add_i32 sub_i32 insn_is_call relocate_map relocate_maps relocate_functions object_relocate_maps slot_of relocate_from relocate link_new Crate.link relocate_calls crate_of both_steps
vectors_5 = refl

vectors_6 : (
    -- inside, accepted: callees reached, a reference, function records
    steps (tables
    (1 ∷ 2 ∷ [])
    []
    (fun 1 5 1071648760 4096 1 1 ∷ [])
    []
    (insn 149 0 0 (pos 0) (pos 0) ∷ insn 24 3 0 (pos 0) (pos 0) ∷ insn 133 0 1 (pos 0) (pos 133955580) ∷ insn 24 6 4 (pos 9) (pos 32) ∷ insn 0 0 0 (pos 0) (pos 3) ∷ [])
    (func 0 18 ∷ [])
    (line 0 0 188 3673235206 ∷ []))
    (1 ∷ []) (1 ∷ [])
    [] 1 1071648760
    -- inside, accepted: callees reached, a reference, function records, line records
    ∷ steps (tables
    (3 ∷ [])
    (sym 0 (some 3) 0 section ∷ [])
    (fun 3 2 0 0 1 2 ∷ [])
    (rel 3 0 0 64 ∷ [])
    (insn 24 9 0 (pos 0) (pos 0) ∷ insn 0 0 0 (pos 0) (pos 3) ∷ [])
    (func 7 85 ∷ [])
    (line 10 1 461 1688048070 ∷ line 11 2 475 2527537299 ∷ []))
    (1 ∷ []) (2 ∷ [])
    [] 3 0
    -- inside, accepted: callees reached, a reference, line records
    ∷ steps (tables
    (4 ∷ [])
    (sym 2 (some 4) 0 text ∷ [])
    (fun 4 3 0 0 0 2 ∷ [])
    (rel 4 2 0 0 ∷ [])
    (insn 24 7 0 (pos 0) (negsuc 76) ∷ insn 0 0 0 (pos 0) (pos 0) ∷ insn 133 0 1 (pos 0) (negsuc 2) ∷ [])
    []
    (line 37 2 217 3209962711 ∷ line 39 0 204 1607683657 ∷ []))
    (0 ∷ []) (2 ∷ [])
    [] 4 0
    -- inside, accepted: callees reached, function records
    ∷ steps (tables
    (1 ∷ 3 ∷ [])
    []
    (fun 1 1 0 0 1 0 ∷ [])
    []
    (insn 133 0 1 (pos 0) (negsuc 0) ∷ [])
    (func 99 48 ∷ [])
    [])
    (1 ∷ []) (0 ∷ [])
    [] 1 0
    -- inside, accepted: callees reached, function records, line records
    ∷ steps (tables
    (1 ∷ [])
    []
    (fun 1 1 0 0 1 2 ∷ [])
    []
    (insn 133 0 1 (pos 0) (negsuc 0) ∷ [])
    (func 4294967295 15 ∷ [])
    (line 10 0 70 4279040396 ∷ line 10 2 317 742304548 ∷ []))
    (1 ∷ []) (2 ∷ [])
    [] 1 0
    -- inside, accepted: callees reached, line records
    ∷ steps (tables
    (2 ∷ [])
    []
    (fun 2 1 68718428152 51538558976 0 2 ∷ [])
    []
    (insn 133 0 1 (pos 0) (pos 2147483646) ∷ [])
    []
    (line 10 0 26 3197921330 ∷ line 10 0 29 832974186 ∷ []))
    (0 ∷ []) (2 ∷ [])
    [] 2 68718428152
    -- inside, accepted: nothing reached
    ∷ steps (tables
    (1 ∷ 2 ∷ [])
    []
    (fun 2 1 0 0 0 0 ∷ [])
    []
    (insn 133 0 1 (pos 1) (pos 1) ∷ [])
    []
    [])
    (0 ∷ []) (0 ∷ [])
    [] 2 0
    -- inside, accepted: nothing reached, a map set
    ∷ steps (tables
    (1 ∷ 3 ∷ [])
    (sym 0 (some 20) 7 section ∷ [])
    (fun 1 2 0 0 0 0 ∷ [])
    (rel 1 0 0 64 ∷ [])
    (insn 24 3 0 (pos 9) (pos 25) ∷ insn 0 0 0 (pos 0) (pos 0) ∷ [])
    []
    [])
    (0 ∷ []) (0 ∷ [])
    (map_row 20 none (negsuc 0) false ∷ []) 1 0
    -- inside, accepted: nothing reached, a map set, function records
    ∷ steps (tables
    (1 ∷ 3 ∷ 4 ∷ [])
    (sym 1 (some 21) 1 other ∷ [])
    (fun 1 2 8192 8192 1 0 ∷ [])
    (rel 1 1 8192 0 ∷ [])
    (insn 24 15 15 (pos 0) (negsuc 2147483647) ∷ insn 0 0 0 (pos 0) (negsuc 2) ∷ [])
    (func 4294967295 3 ∷ [])
    [])
    (1 ∷ []) (0 ∷ [])
    (map_row 21 (some 1) (negsuc 755906480) false ∷ []) 1 8192
    -- inside, accepted: nothing reached, a map set, function records, line records
    ∷ steps (tables
    (4 ∷ [])
    (sym 2 (some 20) 24 section ∷ [])
    (fun 4 2 8796091973624 0 1 2 ∷ [])
    (rel 4 2 0 64 ∷ [])
    (insn 24 14 1 (pos 0) (negsuc 2147483647) ∷ insn 0 0 0 (pos 0) (negsuc 2) ∷ [])
    (func 99 96 ∷ [])
    (line 0 0 119 3106119784 ∷ line 1 1 259 59601846 ∷ []))
    (1 ∷ []) (2 ∷ [])
    (map_row 20 none (pos 29) false ∷ []) 4 8796091973624
    ∷ [])
    ≡ (
    (leaves (insn 149 0 0 (pos 0) (pos 0) ∷ insn 24 3 0 (pos 0) (pos 0) ∷ insn 133 0 1 (pos 0) (pos 133955580) ∷ insn 24 6 4 (pos 9) (pos 32) ∷ insn 0 0 0 (pos 0) (pos 3) ∷ []) ∷ gives (insn 149 0 0 (pos 0) (pos 0) ∷ insn 24 3 0 (pos 0) (pos 0) ∷ insn 133 0 1 (pos 0) (pos 2) ∷ insn 24 6 4 (pos 9) (pos 32) ∷ insn 0 0 0 (pos 0) (pos 3) ∷ insn 149 0 0 (pos 0) (pos 0) ∷ insn 24 3 0 (pos 0) (pos 0) ∷ insn 133 0 1 (pos 0) (negsuc 2) ∷ insn 24 6 4 (pos 9) (pos 32) ∷ insn 0 0 0 (pos 0) (pos 3) ∷ []) (func 0 18 ∷ func 5 18 ∷ []) 2 (line 0 0 188 3673235206 ∷ line 5 0 188 3673235206 ∷ []) 2 ∷ [])
    ∷ (leaves (insn 24 9 0 (pos 0) (pos 0) ∷ insn 0 0 0 (pos 0) (pos 3) ∷ []) ∷ gives (insn 24 9 4 (pos 0) (pos 1) ∷ insn 0 0 0 (pos 0) (pos 3) ∷ insn 24 9 4 (pos 0) (negsuc 0) ∷ insn 0 0 0 (pos 0) (pos 3) ∷ []) (func 7 85 ∷ func 2 85 ∷ []) 2 (line 10 1 461 1688048070 ∷ line 11 2 475 2527537299 ∷ line 2 1 461 1688048070 ∷ line 3 2 475 2527537299 ∷ []) 4 ∷ [])
    ∷ (leaves (insn 24 7 0 (pos 0) (negsuc 76) ∷ insn 0 0 0 (pos 0) (pos 0) ∷ insn 133 0 1 (pos 0) (negsuc 2) ∷ []) ∷ gives (insn 24 7 4 (pos 0) (pos 2) ∷ insn 0 0 0 (pos 0) (pos 0) ∷ insn 133 0 1 (pos 0) (pos 0) ∷ insn 24 7 4 (pos 0) (negsuc 0) ∷ insn 0 0 0 (pos 0) (pos 0) ∷ insn 133 0 1 (pos 0) (negsuc 2) ∷ []) [] 0 (line 37 2 217 3209962711 ∷ line 39 0 204 1607683657 ∷ line 3 2 217 3209962711 ∷ line 5 0 204 1607683657 ∷ []) 4 ∷ [])
    ∷ (leaves (insn 133 0 1 (pos 0) (negsuc 0) ∷ []) ∷ gives (insn 133 0 1 (pos 0) (pos 0) ∷ insn 133 0 1 (pos 0) (negsuc 0) ∷ []) (func 99 48 ∷ func 1 48 ∷ []) 2 [] 0 ∷ [])
    ∷ (leaves (insn 133 0 1 (pos 0) (negsuc 0) ∷ []) ∷ gives (insn 133 0 1 (pos 0) (pos 0) ∷ insn 133 0 1 (pos 0) (negsuc 0) ∷ []) (func 4294967295 15 ∷ func 1 15 ∷ []) 2 (line 10 0 70 4279040396 ∷ line 10 2 317 742304548 ∷ line 1 0 70 4279040396 ∷ line 1 2 317 742304548 ∷ []) 4 ∷ [])
    ∷ (leaves (insn 133 0 1 (pos 0) (pos 2147483646) ∷ []) ∷ gives (insn 133 0 1 (pos 0) (pos 0) ∷ insn 133 0 1 (pos 0) (negsuc 0) ∷ []) [] 0 (line 10 0 26 3197921330 ∷ line 10 0 29 832974186 ∷ line 1 0 26 3197921330 ∷ line 1 0 29 832974186 ∷ []) 4 ∷ [])
    ∷ (leaves (insn 133 0 1 (pos 1) (pos 1) ∷ []) ∷ gives (insn 133 0 1 (pos 1) (pos 1) ∷ []) [] 0 [] 0 ∷ [])
    ∷ (leaves (insn 24 3 1 (pos 9) (negsuc 0) ∷ insn 0 0 0 (pos 0) (pos 0) ∷ []) ∷ gives (insn 24 3 1 (pos 9) (negsuc 0) ∷ insn 0 0 0 (pos 0) (pos 0) ∷ []) [] 0 [] 0 ∷ [])
    ∷ (leaves (insn 24 15 1 (pos 0) (negsuc 755906480) ∷ insn 0 0 0 (pos 0) (negsuc 2) ∷ []) ∷ gives (insn 24 15 1 (pos 0) (negsuc 755906480) ∷ insn 0 0 0 (pos 0) (negsuc 2) ∷ []) (func 4294967295 3 ∷ []) 1 [] 0 ∷ [])
    ∷ (leaves (insn 24 14 1 (pos 0) (pos 29) ∷ insn 0 0 0 (pos 0) (negsuc 2) ∷ []) ∷ gives (insn 24 14 1 (pos 0) (pos 29) ∷ insn 0 0 0 (pos 0) (negsuc 2) ∷ []) (func 99 96 ∷ []) 1 (line 0 0 119 3106119784 ∷ line 1 1 259 59601846 ∷ []) 2 ∷ [])
    ∷ [])
unfolding signed u32 u64 i32 add_u64 mul_u64 add_u32 sub_u32 add_i32 sub_i32 insn_is_call relocate_map relocate_maps relocate_functions object_relocate_maps slot_of relocate_from relocate link_new Crate.link relocate_calls crate_of both_steps
vectors_6 = refl

vectors_7 : (
    -- inside, accepted: nothing reached, a map set, line records
    steps (tables
    (2 ∷ [])
    (sym 2 (some 21) 49 other ∷ [])
    (fun 2 3 0 0 0 2 ∷ [])
    (rel 2 2 0 32 ∷ [])
    (insn 24 3 0 (pos 9) (pos 40) ∷ insn 0 0 0 (pos 0) (pos 0) ∷ insn 149 0 0 (pos 0) (pos 0) ∷ [])
    []
    (line 37 2 302 3813375839 ∷ line 39 1 310 3724503694 ∷ []))
    (0 ∷ []) (2 ∷ [])
    (map_row 21 (some 2) (pos 60) false ∷ []) 2 0
    -- inside, accepted: nothing reached, a reference, a map set
    ∷ steps (tables
    (4 ∷ [])
    (sym 0 (some 20) 42 section ∷ sym 3 (some 20) 5 section ∷ sym 7 (some 21) 11 other ∷ sym 11 (some 21) 6 other ∷ [])
    (fun 4 6 0 0 0 1 ∷ [])
    (rel 4 7 8 0 ∷ [])
    (insn 149 0 0 (pos 0) (pos 0) ∷ insn 24 7 0 (pos 0) (negsuc 2147483647) ∷ insn 0 0 0 (pos 0) (pos 0) ∷ insn 224 11 12 (pos 31172) (pos 1834631494) ∷ insn 24 11 4 (pos 0) (pos 35) ∷ insn 0 0 0 (pos 0) (pos 0) ∷ [])
    []
    (line 37 0 428 4151298584 ∷ []))
    (0 ∷ []) (1 ∷ [])
    (map_row 21 (some 11) (pos 53) false ∷ map_row 21 (some 7) (pos 759855302) false ∷ map_row 20 none (negsuc 0) true ∷ []) 4 0
    -- inside, accepted: nothing reached, a reference, a map set, function records, line records
    ∷ steps (tables
    (1 ∷ [])
    (sym 0 (some 21) 46 other ∷ [])
    (fun 1 5 0 0 1 2 ∷ [])
    (rel 1 0 0 0 ∷ [])
    (insn 24 8 0 (pos 0) (negsuc 2147483647) ∷ insn 0 0 0 (pos 0) (pos 0) ∷ insn 133 0 1 (pos 1) (pos 1) ∷ insn 133 0 1 (pos 1) (pos 1) ∷ insn 24 8 4 (negsuc 3553) (negsuc 1304212354) ∷ [])
    (func 4294967295 8 ∷ [])
    (line 4294967286 0 468 4110698260 ∷ line 4294967288 1 373 2755223324 ∷ []))
    (1 ∷ []) (2 ∷ [])
    (map_row 21 (some 0) (negsuc 0) true ∷ []) 1 0
    -- inside, accepted: nothing reached, a reference, function records
    ∷ steps (tables
    (1 ∷ 3 ∷ 4 ∷ [])
    (sym 1 (some 1) 4090 section ∷ sym 2 (some 1) 4096 text ∷ [])
    (fun 1 4 4096 4096 1 0 ∷ [])
    []
    (insn 149 0 0 (pos 0) (pos 0) ∷ insn 24 6 4 (pos 0) (pos 10) ∷ insn 0 0 0 (pos 0) (pos 0) ∷ insn 149 0 0 (pos 0) (pos 0) ∷ [])
    (func 0 84 ∷ [])
    [])
    (1 ∷ []) (0 ∷ [])
    [] 1 4096
    -- inside, accepted: nothing reached, a reference, function records, line records
    ∷ steps (tables
    (2 ∷ 3 ∷ 4 ∷ [])
    (sym 2 (some 2) 3153696 section ∷ [])
    (fun 2 2 3153920 8192 1 2 ∷ [])
    []
    (insn 24 0 4 (pos 9) (negsuc 2147483647) ∷ insn 0 0 0 (pos 0) (negsuc 2) ∷ [])
    (func 4294967295 67 ∷ [])
    (line 10 1 4194528 3260512516 ∷ line 11 2 384 3619477954 ∷ []))
    (1 ∷ []) (2 ∷ [])
    (map_row 20 none (pos 77) false ∷ []) 2 3153920
    -- inside, accepted: nothing reached, a reference, line records
    ∷ steps (tables
    (1 ∷ 2 ∷ [])
    []
    (fun 2 6 4096 4096 0 2 ∷ [])
    []
    (insn 133 0 0 (pos 0) (pos 1) ∷ insn 24 8 4 (pos 0) (pos 9) ∷ insn 0 0 0 (pos 0) (pos 0) ∷ insn 149 0 0 (pos 0) (pos 0) ∷ insn 133 0 1 (pos 1) (pos 1) ∷ insn 133 0 0 (pos 0) (pos 1) ∷ [])
    []
    (line 4294967286 0 106 2241448623 ∷ line 4294967289 2 296 3823359425 ∷ []))
    (0 ∷ []) (2 ∷ [])
    [] 2 4096
    -- inside, accepted: nothing reached, function records
    ∷ steps (tables
    (4 ∷ [])
    []
    (fun 4 1 0 0 1 0 ∷ [])
    []
    (insn 5 0 0 (negsuc 1) (pos 0) ∷ [])
    (func 0 60 ∷ [])
    [])
    (1 ∷ []) (0 ∷ [])
    [] 4 0
    -- inside, accepted: nothing reached, function records, line records
    ∷ steps (tables
    (2 ∷ [])
    []
    (fun 2 1 0 0 1 2 ∷ [])
    []
    (insn 149 0 0 (pos 0) (pos 0) ∷ [])
    (func 0 72 ∷ [])
    (line 37 0 217 913626313 ∷ line 37 0 206 1192268976 ∷ []))
    (1 ∷ []) (2 ∷ [])
    [] 2 0
    -- inside, accepted: nothing reached, line records
    ∷ steps (tables
    (2 ∷ [])
    []
    (fun 2 1 0 0 0 2 ∷ [])
    []
    (insn 5 0 0 (negsuc 1) (pos 0) ∷ [])
    []
    (line 0 0 492 3495538852 ∷ line 0 1 270 215886861 ∷ []))
    (0 ∷ []) (2 ∷ [])
    [] 2 0
    -- inside, accepted: one callee reached
    ∷ steps (tables
    (65535 ∷ [])
    (sym 4294967294 (some 65535) 281474976710655 text ∷ [])
    (fun 65535 1 0 281474976710648 0 0 ∷ fun 65535 1 281474976710655 281474976710640 0 0 ∷ [])
    (rel 65535 4294967294 281474976710648 32 ∷ [])
    (insn 133 0 1 (pos 0) (negsuc 0) ∷ insn 149 0 0 (pos 0) (pos 0) ∷ [])
    []
    [])
    (0 ∷ 0 ∷ []) (0 ∷ 0 ∷ [])
    [] 65535 0
    ∷ [])
    ≡ (
    (leaves (insn 24 3 1 (pos 9) (pos 60) ∷ insn 0 0 0 (pos 0) (pos 0) ∷ insn 149 0 0 (pos 0) (pos 0) ∷ []) ∷ gives (insn 24 3 1 (pos 9) (pos 60) ∷ insn 0 0 0 (pos 0) (pos 0) ∷ insn 149 0 0 (pos 0) (pos 0) ∷ []) [] 0 (line 37 2 302 3813375839 ∷ line 39 1 310 3724503694 ∷ []) 2 ∷ [])
    ∷ (leaves (insn 149 0 0 (pos 0) (pos 0) ∷ insn 24 7 1 (pos 0) (pos 759855302) ∷ insn 0 0 0 (pos 0) (pos 0) ∷ insn 224 11 12 (pos 31172) (pos 1834631494) ∷ insn 24 11 4 (pos 0) (pos 35) ∷ insn 0 0 0 (pos 0) (pos 0) ∷ []) ∷ gives (insn 149 0 0 (pos 0) (pos 0) ∷ insn 24 7 1 (pos 0) (pos 759855302) ∷ insn 0 0 0 (pos 0) (pos 0) ∷ insn 224 11 12 (pos 31172) (pos 1834631494) ∷ insn 24 11 4 (pos 0) (pos 35) ∷ insn 0 0 0 (pos 0) (pos 0) ∷ []) [] 0 (line 37 0 428 4151298584 ∷ []) 1 ∷ [])
    ∷ (leaves (insn 24 8 2 (pos 0) (negsuc 0) ∷ insn 0 0 0 (pos 0) (negsuc 2147483601) ∷ insn 133 0 1 (pos 1) (pos 1) ∷ insn 133 0 1 (pos 1) (pos 1) ∷ insn 24 8 4 (negsuc 3553) (negsuc 1304212354) ∷ []) ∷ gives (insn 24 8 2 (pos 0) (negsuc 0) ∷ insn 0 0 0 (pos 0) (negsuc 2147483601) ∷ insn 133 0 1 (pos 1) (pos 1) ∷ insn 133 0 1 (pos 1) (pos 1) ∷ insn 24 8 4 (negsuc 3553) (negsuc 1304212354) ∷ []) (func 4294967295 8 ∷ []) 1 (line 4294967286 0 468 4110698260 ∷ line 4294967288 1 373 2755223324 ∷ []) 2 ∷ [])
    ∷ (leaves (insn 149 0 0 (pos 0) (pos 0) ∷ insn 24 6 4 (pos 0) (pos 10) ∷ insn 0 0 0 (pos 0) (pos 0) ∷ insn 149 0 0 (pos 0) (pos 0) ∷ []) ∷ gives (insn 149 0 0 (pos 0) (pos 0) ∷ insn 24 6 4 (pos 0) (pos 10) ∷ insn 0 0 0 (pos 0) (pos 0) ∷ insn 149 0 0 (pos 0) (pos 0) ∷ []) (func 0 84 ∷ []) 1 [] 0 ∷ [])
    ∷ (leaves (insn 24 0 4 (pos 9) (negsuc 2147483647) ∷ insn 0 0 0 (pos 0) (negsuc 2) ∷ []) ∷ gives (insn 24 0 4 (pos 9) (negsuc 2147483647) ∷ insn 0 0 0 (pos 0) (negsuc 2) ∷ []) (func 4294967295 67 ∷ []) 1 (line 10 1 4194528 3260512516 ∷ line 11 2 384 3619477954 ∷ []) 2 ∷ [])
    ∷ (leaves (insn 133 0 0 (pos 0) (pos 1) ∷ insn 24 8 4 (pos 0) (pos 9) ∷ insn 0 0 0 (pos 0) (pos 0) ∷ insn 149 0 0 (pos 0) (pos 0) ∷ insn 133 0 1 (pos 1) (pos 1) ∷ insn 133 0 0 (pos 0) (pos 1) ∷ []) ∷ gives (insn 133 0 0 (pos 0) (pos 1) ∷ insn 24 8 4 (pos 0) (pos 9) ∷ insn 0 0 0 (pos 0) (pos 0) ∷ insn 149 0 0 (pos 0) (pos 0) ∷ insn 133 0 1 (pos 1) (pos 1) ∷ insn 133 0 0 (pos 0) (pos 1) ∷ []) [] 0 (line 4294967286 0 106 2241448623 ∷ line 4294967289 2 296 3823359425 ∷ []) 2 ∷ [])
    ∷ (leaves (insn 5 0 0 (negsuc 1) (pos 0) ∷ []) ∷ gives (insn 5 0 0 (negsuc 1) (pos 0) ∷ []) (func 0 60 ∷ []) 1 [] 0 ∷ [])
    ∷ (leaves (insn 149 0 0 (pos 0) (pos 0) ∷ []) ∷ gives (insn 149 0 0 (pos 0) (pos 0) ∷ []) (func 0 72 ∷ []) 1 (line 37 0 217 913626313 ∷ line 37 0 206 1192268976 ∷ []) 2 ∷ [])
    ∷ (leaves (insn 5 0 0 (negsuc 1) (pos 0) ∷ []) ∷ gives (insn 5 0 0 (negsuc 1) (pos 0) ∷ []) [] 0 (line 0 0 492 3495538852 ∷ line 0 1 270 215886861 ∷ []) 2 ∷ [])
    ∷ (leaves (insn 133 0 1 (pos 0) (negsuc 0) ∷ insn 149 0 0 (pos 0) (pos 0) ∷ []) ∷ gives (insn 133 0 1 (pos 0) (pos 0) ∷ insn 149 0 0 (pos 0) (pos 0) ∷ []) [] 0 [] 0 ∷ [])
    ∷ [])
unfolding signed u32 u64 i32 add_u64 mul_u64 add_u32 sub_u32 add_i32 sub_i32 insn_is_call relocate_map relocate_maps relocate_functions object_relocate_maps slot_of relocate_from relocate link_new Crate.link relocate_calls crate_of both_steps
vectors_7 = refl

vectors_8 : (
    -- inside, accepted: one callee reached, a map set, function records
    steps (tables
    (1 ∷ [])
    (sym 1 (some 1) 2146435064 section ∷ sym 2 (some 21) 10 other ∷ [])
    (fun 1 1 2146435064 2146435072 1 0 ∷ fun 1 2 2146435080 16 1 0 ∷ [])
    (rel 1 2 16 64 ∷ [])
    (insn 133 0 1 (pos 0) (pos 0) ∷ insn 24 1 0 (pos 9) (pos 17) ∷ insn 0 0 0 (pos 0) (negsuc 2) ∷ [])
    (func 99 50 ∷ func 7 50 ∷ [])
    [])
    (1 ∷ 1 ∷ []) (0 ∷ 0 ∷ [])
    (map_row 34 (some 4000000000) (pos 77) false ∷ map_row 21 (some 2) (negsuc 1454117555) true ∷ []) 1 2146435064
    -- inside, accepted: one callee reached, a map set, function records, line records
    ∷ steps (tables
    (1 ∷ 3 ∷ 4 ∷ [])
    (sym 0 (some 21) 48 other ∷ [])
    (fun 4 4 8192 8192 1 2 ∷ fun 4 2 8224 8224 1 0 ∷ [])
    (rel 4 0 8208 64 ∷ [])
    (insn 133 0 1 (pos 1) (pos 1) ∷ insn 133 0 1 (pos 0) (pos 2) ∷ insn 24 6 0 (pos 0) (negsuc 2147483647) ∷ insn 0 0 0 (pos 0) (pos 3) ∷ insn 183 1 0 (pos 0) (pos 5) ∷ insn 149 0 0 (pos 0) (pos 0) ∷ [])
    (func 4294967295 40 ∷ func 0 90 ∷ [])
    (line 0 2 262 4150690541 ∷ line 1 1 190 1839626815 ∷ []))
    (1 ∷ 1 ∷ []) (2 ∷ 0 ∷ [])
    (map_row 21 (some 0) (negsuc 1692021459) false ∷ []) 4 8192
    -- inside, accepted: one callee reached, a map set, line records
    ∷ steps (tables
    (2 ∷ 3 ∷ [])
    (sym 2 (some 20) 61 other ∷ sym 3 (some 3) 4096 text ∷ [])
    (fun 3 5 4096 4096 0 3 ∷ fun 3 3 4136 4136 0 2 ∷ [])
    (rel 3 2 4104 64 ∷ [])
    (insn 184 1 7 (pos 855) (negsuc 909956572) ∷ insn 24 0 0 (pos 9) (pos 52) ∷ insn 0 0 0 (pos 0) (negsuc 2) ∷ insn 24 3 0 (pos 0) (pos 0) ∷ insn 5 0 0 (negsuc 1) (pos 0) ∷ insn 5 0 0 (negsuc 1) (pos 0) ∷ insn 133 0 1 (pos 0) (negsuc 6) ∷ insn 149 0 0 (pos 0) (pos 0) ∷ [])
    []
    (line 4294967286 2 13 2496592681 ∷ line 4294967286 0 351 1185343508 ∷ line 4294967290 2 394 2622935276 ∷ line 0 0 394 380757846 ∷ line 2 2 266 3931908607 ∷ []))
    (3899621353 ∷ 0 ∷ []) (1092778003 ∷ 2 ∷ [])
    (map_row 20 none (pos 1501197601) false ∷ []) 3 4136
    -- inside, accepted: one callee reached, a reference
    ∷ steps (tables
    (3 ∷ 4 ∷ [])
    (sym 0 (some 21) 42 other ∷ sym 4 (some 3) 0 text ∷ sym 6 (some 3) 0 section ∷ sym 9 (some 21) 39 other ∷ [])
    (fun 3 3 0 0 0 1 ∷ fun 3 1 2147483647 17179869192 0 0 ∷ [])
    (rel 3 6 0 64 ∷ [])
    (insn 24 9 0 (pos 0) (pos 2147483647) ∷ insn 0 0 0 (pos 0) (pos 0) ∷ insn 183 1 0 (pos 0) (pos 5) ∷ insn 149 0 0 (pos 0) (pos 0) ∷ [])
    []
    (line 37 0 302 3751822963 ∷ []))
    (0 ∷ 0 ∷ []) (1 ∷ 0 ∷ [])
    (map_row 25 none (pos 41) false ∷ map_row 20 none (pos 11) true ∷ map_row 21 (some 9) (pos 1949531431) true ∷ map_row 33 (some 0) (negsuc 0) true ∷ []) 3 0
    -- inside, accepted: one callee reached, a reference, a map set
    ∷ steps (tables
    (1 ∷ 2 ∷ 4 ∷ [])
    (sym 2 (some 2) 3153893 section ∷ sym 3 (some 20) 40 other ∷ sym 6 (some 2) 3153920 text ∷ sym 9 (some 1) 2101240 section ∷ sym 11 (some 20) 6 section ∷ sym 14 (some 21) 27 other ∷ [])
    (fun 1 3 2101248 4096 0 0 ∷ fun 2 5 3153920 8192 0 0 ∷ [])
    (rel 1 2 4104 64 ∷ rel 2 3 8208 0 ∷ [])
    (insn 133 0 1 (pos 1) (pos 1) ∷ insn 24 2 0 (pos 0) (pos 27) ∷ insn 0 0 0 (pos 0) (pos 0) ∷ insn 5 0 0 (negsuc 1) (pos 0) ∷ insn 5 0 0 (negsuc 1) (pos 0) ∷ insn 24 0 0 (pos 0) (negsuc 501117597) ∷ insn 0 0 0 (pos 0) (negsuc 2) ∷ insn 149 0 0 (pos 0) (pos 0) ∷ [])
    []
    [])
    (0 ∷ 0 ∷ []) (0 ∷ 0 ∷ [])
    (map_row 21 (some 14) (pos 64) true ∷ map_row 20 none (pos 76) true ∷ map_row 25 none (negsuc 0) false ∷ map_row 33 (some 3) (pos 28) true ∷ []) 1 2101248
    -- inside, accepted: one callee reached, a reference, a map set, function records
    ∷ steps (tables
    (1 ∷ 3 ∷ [])
    (sym 1 (some 3) 2101248 text ∷ sym 5 (some 9) 8192 text ∷ sym 7 (some 21) 45 other ∷ [])
    (fun 3 1 2101248 4096 2 0 ∷ fun 9 6 8192 8192 1 1 ∷ [])
    (rel 9 1 8192 32 ∷ rel 9 7 8224 32 ∷ [])
    (insn 183 1 0 (pos 0) (pos 5) ∷ insn 24 9 0 (pos 0) (pos 5) ∷ insn 0 0 0 (pos 0) (pos 0) ∷ insn 241 13 3 (negsuc 3059) (pos 1138695123) ∷ insn 183 1 0 (pos 0) (pos 5) ∷ insn 24 7 0 (pos 0) (pos 1351352512) ∷ insn 0 0 0 (pos 0) (pos 3) ∷ [])
    (func 0 91 ∷ func 4294967295 1 ∷ func 7 82 ∷ [])
    (line 0 0 402 1764237406 ∷ []))
    (2 ∷ 1 ∷ []) (0 ∷ 1 ∷ [])
    (map_row 21 (some 7) (pos 86) false ∷ []) 9 8192
    -- inside, accepted: one callee reached, a reference, a map set, function records, line records
    ∷ steps (tables
    (1 ∷ [])
    (sym 0 (some 20) 58 other ∷ sym 4 (some 20) 35 section ∷ sym 7 (some 1) 1048555 section ∷ [])
    (fun 1 6 1048576 0 2 2 ∷ fun 1 1 2148532202 17179869192 0 0 ∷ [])
    (rel 1 7 8 64 ∷ rel 1 0 24 64 ∷ [])
    (insn 133 0 0 (pos 0) (pos 1) ∷ insn 24 2 0 (pos 0) (pos 2147483647) ∷ insn 0 0 0 (pos 0) (pos 0) ∷ insn 24 13 11 (pos 9) (pos 18) ∷ insn 0 0 0 (pos 0) (negsuc 2) ∷ insn 149 0 0 (pos 0) (pos 0) ∷ insn 149 0 0 (pos 0) (pos 0) ∷ [])
    (func 4294967295 67 ∷ func 7 26 ∷ [])
    (line 0 1 215 1247334202 ∷ line 3 0 361 2958495580 ∷ []))
    (2 ∷ 0 ∷ []) (2 ∷ 0 ∷ [])
    (map_row 20 none (negsuc 960382386) false ∷ []) 1 1048576
    -- inside, accepted: one callee reached, a reference, a map set, line records
    ∷ steps (tables
    (1 ∷ 4 ∷ [])
    (sym 2 none 26 section ∷ sym 4 (some 4) 140737487306744 text ∷ sym 5 (some 21) 52 other ∷ sym 9 (some 21) 12 other ∷ sym 10 (some 4) 140737487306744 section ∷ [])
    (fun 4 6 140737487306744 0 0 2 ∷ fun 4 2 140737487306792 48 0 0 ∷ [])
    (rel 4 5 16 64 ∷ rel 4 4 48 64 ∷ [])
    (insn 24 3 0 (pos 0) (pos 0) ∷ insn 149 0 0 (pos 0) (pos 0) ∷ insn 24 7 0 (pos 9) (pos 41) ∷ insn 0 0 0 (pos 0) (pos 0) ∷ insn 149 0 0 (pos 0) (pos 0) ∷ insn 5 0 0 (negsuc 1) (pos 0) ∷ insn 24 0 0 (pos 9) (pos 5) ∷ insn 0 0 0 (pos 0) (pos 0) ∷ [])
    []
    (line 0 1 100 11255865 ∷ line 1 0 485 1616628786 ∷ []))
    (0 ∷ 0 ∷ []) (2 ∷ 0 ∷ [])
    (map_row 33 (some 9) (pos 82) true ∷ map_row 21 (some 5) (pos 97) false ∷ []) 4 140737487306792
    -- inside, accepted: one callee reached, a reference, function records
    ∷ steps (tables
    (3 ∷ [])
    (sym 1 (some 3) 0 section ∷ sym 4 (some 21) 7 other ∷ [])
    (fun 3 3 0 0 1 0 ∷ fun 3 1 2147483647 17179869192 0 0 ∷ [])
    (rel 3 1 8 64 ∷ [])
    (insn 183 1 0 (pos 0) (pos 5) ∷ insn 24 5 0 (pos 0) (pos 2147483647) ∷ insn 0 0 0 (pos 0) (pos 0) ∷ insn 149 0 0 (pos 0) (pos 0) ∷ [])
    (func 0 33 ∷ [])
    [])
    (1 ∷ 0 ∷ []) (0 ∷ 0 ∷ [])
    (map_row 21 (some 4) (negsuc 1900309424) false ∷ []) 3 0
    -- inside, accepted: one callee reached, a reference, function records, line records
    ∷ steps (tables
    (1 ∷ 4 ∷ [])
    (sym 2 (some 1) 4293918712 text ∷ sym 3 (some 4) 534777848 text ∷ [])
    (fun 1 2 4293918712 0 2 3 ∷ fun 4 1 534777848 4096 0 0 ∷ [])
    (rel 1 3 0 64 ∷ [])
    (insn 24 3 0 (pos 0) (pos 5) ∷ insn 0 0 0 (pos 0) (pos 0) ∷ insn 213 11 1 (negsuc 2899) (negsuc 1022503440) ∷ [])
    (func 99 90 ∷ func 4294967295 40 ∷ [])
    (line 10 1 462 1765926752 ∷ line 11 0 390 4164997970 ∷ line 10 2 421 1893383597 ∷ []))
    (2 ∷ 0 ∷ []) (3 ∷ 0 ∷ [])
    [] 1 4293918712
    ∷ [])
    ≡ (
    (leaves (insn 133 0 1 (pos 0) (pos 0) ∷ insn 24 1 2 (pos 9) (negsuc 1454117555) ∷ insn 0 0 0 (pos 0) (pos 27) ∷ []) ∷ gives (insn 133 0 1 (pos 0) (pos 0) ∷ insn 24 1 2 (pos 9) (negsuc 1454117555) ∷ insn 0 0 0 (pos 0) (pos 27) ∷ []) (func 99 50 ∷ func 1 50 ∷ []) 2 [] 0 ∷ [])
    ∷ (leaves (insn 133 0 1 (pos 1) (pos 1) ∷ insn 133 0 1 (pos 0) (pos 2) ∷ insn 24 6 1 (pos 0) (negsuc 1692021459) ∷ insn 0 0 0 (pos 0) (pos 3) ∷ insn 183 1 0 (pos 0) (pos 5) ∷ insn 149 0 0 (pos 0) (pos 0) ∷ []) ∷ gives (insn 133 0 1 (pos 1) (pos 1) ∷ insn 133 0 1 (pos 0) (pos 2) ∷ insn 24 6 1 (pos 0) (negsuc 1692021459) ∷ insn 0 0 0 (pos 0) (pos 3) ∷ insn 183 1 0 (pos 0) (pos 5) ∷ insn 149 0 0 (pos 0) (pos 0) ∷ []) (func 4294967295 40 ∷ func 4 90 ∷ []) 2 (line 0 2 262 4150690541 ∷ line 1 1 190 1839626815 ∷ []) 2 ∷ [])
    ∷ (leaves (insn 184 1 7 (pos 855) (negsuc 909956572) ∷ insn 24 0 1 (pos 9) (pos 1501197601) ∷ insn 0 0 0 (pos 0) (negsuc 2) ∷ insn 24 3 0 (pos 0) (pos 0) ∷ insn 5 0 0 (negsuc 1) (pos 0) ∷ insn 5 0 0 (negsuc 1) (pos 0) ∷ insn 133 0 1 (pos 0) (negsuc 6) ∷ insn 149 0 0 (pos 0) (pos 0) ∷ []) ∷ gives (insn 5 0 0 (negsuc 1) (pos 0) ∷ insn 133 0 1 (pos 0) (pos 1) ∷ insn 149 0 0 (pos 0) (pos 0) ∷ insn 184 1 7 (pos 855) (negsuc 909956572) ∷ insn 24 0 1 (pos 9) (pos 1501197601) ∷ insn 0 0 0 (pos 0) (negsuc 2) ∷ insn 24 3 0 (pos 0) (pos 0) ∷ insn 5 0 0 (negsuc 1) (pos 0) ∷ []) [] 0 (line 0 0 394 380757846 ∷ line 2 2 266 3931908607 ∷ line 3 2 13 2496592681 ∷ line 3 0 351 1185343508 ∷ line 7 2 394 2622935276 ∷ []) 5 ∷ [])
    ∷ (leaves (insn 24 9 0 (pos 0) (pos 2147483647) ∷ insn 0 0 0 (pos 0) (pos 0) ∷ insn 183 1 0 (pos 0) (pos 5) ∷ insn 149 0 0 (pos 0) (pos 0) ∷ []) ∷ gives (insn 24 9 4 (pos 0) (pos 2) ∷ insn 0 0 0 (pos 0) (pos 0) ∷ insn 183 1 0 (pos 0) (pos 5) ∷ insn 149 0 0 (pos 0) (pos 0) ∷ []) [] 0 (line 37 0 302 3751822963 ∷ []) 1 ∷ [])
    ∷ (leaves (insn 133 0 1 (pos 1) (pos 1) ∷ insn 24 2 0 (pos 0) (pos 27) ∷ insn 0 0 0 (pos 0) (pos 0) ∷ insn 5 0 0 (negsuc 1) (pos 0) ∷ insn 5 0 0 (negsuc 1) (pos 0) ∷ insn 24 0 2 (pos 0) (pos 28) ∷ insn 0 0 0 (pos 0) (negsuc 501117557) ∷ insn 149 0 0 (pos 0) (pos 0) ∷ []) ∷ gives (insn 133 0 1 (pos 1) (pos 1) ∷ insn 24 2 4 (pos 0) (pos 1) ∷ insn 0 0 0 (pos 0) (pos 0) ∷ insn 5 0 0 (negsuc 1) (pos 0) ∷ insn 5 0 0 (negsuc 1) (pos 0) ∷ insn 24 0 2 (pos 0) (pos 28) ∷ insn 0 0 0 (pos 0) (negsuc 501117557) ∷ insn 149 0 0 (pos 0) (pos 0) ∷ []) [] 0 [] 0 ∷ [])
    ∷ (leaves (insn 183 1 0 (pos 0) (pos 5) ∷ insn 24 9 0 (pos 0) (pos 5) ∷ insn 0 0 0 (pos 0) (pos 0) ∷ insn 241 13 3 (negsuc 3059) (pos 1138695123) ∷ insn 183 1 0 (pos 0) (pos 5) ∷ insn 24 7 1 (pos 0) (pos 86) ∷ insn 0 0 0 (pos 0) (pos 3) ∷ []) ∷ gives (insn 24 9 4 (pos 0) (pos 5) ∷ insn 0 0 0 (pos 0) (pos 0) ∷ insn 241 13 3 (negsuc 3059) (pos 1138695123) ∷ insn 183 1 0 (pos 0) (pos 5) ∷ insn 24 7 1 (pos 0) (pos 86) ∷ insn 0 0 0 (pos 0) (pos 3) ∷ insn 183 1 0 (pos 0) (pos 5) ∷ []) (func 7 82 ∷ func 6 91 ∷ func 6 1 ∷ []) 3 (line 0 0 402 1764237406 ∷ []) 1 ∷ [])
    ∷ (leaves (insn 133 0 0 (pos 0) (pos 1) ∷ insn 24 2 0 (pos 0) (pos 2147483647) ∷ insn 0 0 0 (pos 0) (pos 0) ∷ insn 24 13 1 (pos 9) (negsuc 960382386) ∷ insn 0 0 0 (pos 0) (negsuc 2) ∷ insn 149 0 0 (pos 0) (pos 0) ∷ insn 149 0 0 (pos 0) (pos 0) ∷ []) ∷ gives (insn 133 0 0 (pos 0) (pos 1) ∷ insn 24 2 4 (pos 0) (pos 4) ∷ insn 0 0 0 (pos 0) (pos 0) ∷ insn 24 13 1 (pos 9) (negsuc 960382386) ∷ insn 0 0 0 (pos 0) (negsuc 2) ∷ insn 149 0 0 (pos 0) (pos 0) ∷ insn 149 0 0 (pos 0) (pos 0) ∷ []) (func 4294967295 67 ∷ func 7 26 ∷ []) 2 (line 0 1 215 1247334202 ∷ line 3 0 361 2958495580 ∷ []) 2 ∷ [])
    ∷ (leaves (insn 24 3 0 (pos 0) (pos 0) ∷ insn 149 0 0 (pos 0) (pos 0) ∷ insn 24 7 1 (pos 9) (pos 97) ∷ insn 0 0 0 (pos 0) (pos 0) ∷ insn 149 0 0 (pos 0) (pos 0) ∷ insn 5 0 0 (negsuc 1) (pos 0) ∷ insn 24 0 0 (pos 9) (pos 5) ∷ insn 0 0 0 (pos 0) (pos 0) ∷ []) ∷ gives (insn 24 0 4 (pos 9) (pos 1) ∷ insn 0 0 0 (pos 0) (pos 0) ∷ insn 24 3 0 (pos 0) (pos 0) ∷ insn 149 0 0 (pos 0) (pos 0) ∷ insn 24 7 1 (pos 9) (pos 97) ∷ insn 0 0 0 (pos 0) (pos 0) ∷ insn 149 0 0 (pos 0) (pos 0) ∷ insn 5 0 0 (negsuc 1) (pos 0) ∷ []) [] 0 (line 2 1 100 11255865 ∷ line 3 0 485 1616628786 ∷ []) 2 ∷ [])
    ∷ (leaves (insn 183 1 0 (pos 0) (pos 5) ∷ insn 24 5 0 (pos 0) (pos 2147483647) ∷ insn 0 0 0 (pos 0) (pos 0) ∷ insn 149 0 0 (pos 0) (pos 0) ∷ []) ∷ gives (insn 183 1 0 (pos 0) (pos 5) ∷ insn 24 5 4 (pos 0) (pos 1) ∷ insn 0 0 0 (pos 0) (pos 0) ∷ insn 149 0 0 (pos 0) (pos 0) ∷ []) (func 0 33 ∷ []) 1 [] 0 ∷ [])
    ∷ (leaves (insn 24 3 0 (pos 0) (pos 5) ∷ insn 0 0 0 (pos 0) (pos 0) ∷ insn 213 11 1 (negsuc 2899) (negsuc 1022503440) ∷ []) ∷ gives (insn 24 3 4 (pos 0) (pos 1) ∷ insn 0 0 0 (pos 0) (pos 0) ∷ insn 213 11 1 (negsuc 2899) (negsuc 1022503440) ∷ []) (func 99 90 ∷ func 4294967295 40 ∷ []) 2 (line 10 1 462 1765926752 ∷ line 11 0 390 4164997970 ∷ line 10 2 421 1893383597 ∷ []) 3 ∷ [])
    ∷ [])
unfolding signed u32 u64 i32 add_u64 mul_u64 add_u32 sub_u32 add_i32 sub_i32 insn_is_call relocate_map relocate_maps relocate_functions object_relocate_maps slot_of relocate_from relocate link_new Crate.link relocate_calls crate_of both_steps
vectors_8 = refl

vectors_9 : (
    -- inside, accepted: one callee reached, a reference, line records
    steps (tables
    (2 ∷ 3 ∷ 4 ∷ [])
    (sym 2 (some 2) 4096 text ∷ sym 6 (some 2) 3976 section ∷ [])
    (fun 2 2 4096 4096 0 4 ∷ fun 2 1 2147487623 17179869192 0 0 ∷ [])
    (rel 2 6 4096 64 ∷ [])
    (insn 24 2 0 (pos 9) (pos 2147483647) ∷ insn 0 0 0 (pos 0) (pos 0) ∷ insn 149 0 0 (pos 0) (pos 0) ∷ [])
    []
    (line 0 1 83 459740095 ∷ line 0 2 374 2967580955 ∷ line 1 0 441 1802871649 ∷ line 1 0 216 2897396602 ∷ []))
    (0 ∷ 0 ∷ []) (4 ∷ 0 ∷ [])
    [] 2 4096
    -- inside, accepted: one callee reached, function records
    ∷ steps (tables
    (3 ∷ [])
    []
    (fun 3 1 17592184995832 0 1 1 ∷ fun 3 2 17592184995840 17592184995832 1 0 ∷ [])
    []
    (insn 183 1 0 (pos 0) (pos 5) ∷ insn 133 0 1 (pos 0) (negsuc 0) ∷ insn 183 1 0 (pos 0) (pos 5) ∷ [])
    (func 0 46 ∷ func 99 95 ∷ [])
    (line 4294967286 2 191 1473204220 ∷ []))
    (1 ∷ 1 ∷ []) (1 ∷ 0 ∷ [])
    (map_row 20 none (pos 48) false ∷ []) 3 17592184995840
    -- inside, accepted: one callee reached, function records, line records
    ∷ steps (tables
    (2 ∷ 3 ∷ [])
    (sym 1 (some 9) 3153920 text ∷ [])
    (fun 9 2 3153920 8192 1 2 ∷ fun 9 1 3153936 8208 1 0 ∷ [])
    []
    (insn 133 0 1 (pos 0) (pos 393217) ∷ insn 133 0 1 (pos 1) (pos 1) ∷ insn 24 3 0 (pos 0) (pos 0) ∷ [])
    (func 0 3 ∷ func 99 3 ∷ [])
    (line 4294967286 0 282 2862444204 ∷ line 4294967286 2 375 1238469036 ∷ []))
    (1 ∷ 1 ∷ []) (2 ∷ 0 ∷ [])
    [] 9 3153920
    -- inside, accepted: one callee reached, line records
    ∷ steps (tables
    (2 ∷ [])
    (sym 0 (some 2) 0 section ∷ [])
    (fun 2 1 0 0 0 2 ∷ fun 2 2 8 8 0 0 ∷ [])
    []
    (insn 24 3 0 (pos 0) (pos 0) ∷ insn 133 0 1 (pos 0) (negsuc 1) ∷ insn 149 0 0 (pos 0) (pos 0) ∷ [])
    []
    (line 0 0 364 3882538119 ∷ line 0 0 418 717493737 ∷ []))
    (0 ∷ 0 ∷ []) (2 ∷ 0 ∷ [])
    (map_row 25 none (pos 219107610) false ∷ []) 2 8
    -- inside, refused by 10: callees reached
    ∷ steps (tables
    (1 ∷ 2 ∷ [])
    []
    (fun 9 6 0 0 0 1 ∷ [])
    []
    (insn 133 0 1 (pos 0) (negsuc 0) ∷ insn 133 0 1 (pos 0) (negsuc 2147483647) ∷ insn 133 0 1 (pos 0) (negsuc 2) ∷ insn 133 0 1 (pos 1) (pos 1) ∷ insn 133 0 1 (pos 1) (pos 1) ∷ insn 133 0 1 (pos 0) (negsuc 5) ∷ [])
    []
    (line 4294967286 2 492 3375860142 ∷ []))
    (0 ∷ []) (1 ∷ [])
    [] 9 0
    -- inside, refused by 10: callees reached, a map set
    ∷ steps (tables
    (1 ∷ 2 ∷ [])
    (sym 2 (some 2) 4096 text ∷ sym 3 (some 2) 3920 section ∷ sym 5 (some 20) 42 other ∷ [])
    (fun 2 6 4096 4096 0 1 ∷ [])
    (rel 2 5 4112 64 ∷ [])
    (insn 133 0 1 (pos 0) (negsuc 0) ∷ insn 133 0 0 (pos 0) (pos 1) ∷ insn 24 0 0 (pos 0) (pos 22) ∷ insn 0 0 0 (pos 0) (negsuc 2) ∷ insn 133 0 1 (pos 0) (negsuc 0) ∷ insn 24 3 0 (pos 0) (pos 0) ∷ [])
    []
    (line 0 2 439 2766976493 ∷ []))
    (0 ∷ []) (1 ∷ [])
    (map_row 20 none (negsuc 0) true ∷ []) 2 4096
    -- inside, refused by 10: callees reached, a map set, function records
    ∷ steps (tables
    (2 ∷ 3 ∷ 4 ∷ [])
    (sym 0 (some 9) 12288 text ∷ sym 2 (some 20) 58 other ∷ [])
    (fun 9 6 12288 12288 1 0 ∷ [])
    (rel 9 2 12288 32 ∷ [])
    (insn 24 8 0 (pos 9) (negsuc 2147483647) ∷ insn 0 0 0 (pos 0) (negsuc 2) ∷ insn 133 0 1 (pos 0) (negsuc 2) ∷ insn 5 0 0 (negsuc 1) (pos 0) ∷ insn 133 0 1 (pos 1) (pos 1) ∷ insn 133 0 1 (pos 0) (negsuc 4) ∷ [])
    (func 99 3 ∷ [])
    [])
    (1 ∷ []) (0 ∷ [])
    (map_row 20 none (pos 49) false ∷ []) 9 12288
    -- inside, refused by 10: callees reached, a map set, function records, line records
    ∷ steps (tables
    (1 ∷ 4 ∷ [])
    (sym 2 (some 1) 4096 text ∷ sym 6 (some 21) 31 other ∷ [])
    (fun 1 5 4096 4096 1 2 ∷ [])
    (rel 1 6 4096 64 ∷ [])
    (insn 24 5 0 (pos 0) (pos 18) ∷ insn 0 0 0 (pos 0) (negsuc 2) ∷ insn 133 0 1 (pos 0) (negsuc 2) ∷ insn 133 0 1 (pos 0) (negsuc 3) ∷ insn 133 0 1 (pos 0) (pos 77) ∷ [])
    (func 0 48 ∷ [])
    (line 37 1 95 2409250366 ∷ line 40 2 235 2321521578 ∷ []))
    (1 ∷ []) (2 ∷ [])
    (map_row 21 (some 6) (pos 61) false ∷ map_row 20 none (pos 56) false ∷ []) 1 4096
    -- inside, refused by 10: callees reached, a map set, line records
    ∷ steps (tables
    (1 ∷ 2 ∷ [])
    (sym 0 (some 2) 0 section ∷ sym 4 (some 21) 32 other ∷ sym 7 (some 2) 0 text ∷ [])
    (fun 2 5 0 0 0 2 ∷ [])
    (rel 2 4 16 64 ∷ [])
    (insn 133 0 1 (pos 0) (negsuc 0) ∷ insn 5 0 0 (negsuc 1) (pos 0) ∷ insn 24 1 0 (pos 0) (pos 6) ∷ insn 0 0 0 (pos 0) (pos 0) ∷ insn 133 0 1 (pos 0) (pos 77) ∷ [])
    []
    (line 4294967286 1 436 3299442927 ∷ line 4294967289 1 438 1919618501 ∷ []))
    (0 ∷ []) (2 ∷ [])
    (map_row 33 (some 4) (negsuc 1569590942) false ∷ []) 2 0
    -- inside, refused by 10: callees reached, function records
    ∷ steps (tables
    (1 ∷ 2 ∷ 4 ∷ [])
    (sym 0 (some 1) 0 text ∷ [])
    (fun 1 3 0 0 1 0 ∷ [])
    []
    (insn 133 0 0 (pos 0) (pos 1) ∷ insn 133 0 1 (pos 0) (negsuc 1) ∷ insn 133 0 1 (pos 0) (pos 2147483646) ∷ [])
    (func 0 47 ∷ [])
    [])
    (1 ∷ []) (0 ∷ [])
    [] 1 0
    ∷ [])
    ≡ (
    (leaves (insn 24 2 0 (pos 9) (pos 2147483647) ∷ insn 0 0 0 (pos 0) (pos 0) ∷ insn 149 0 0 (pos 0) (pos 0) ∷ []) ∷ gives (insn 24 2 4 (pos 9) (pos 1) ∷ insn 0 0 0 (pos 0) (pos 0) ∷ insn 149 0 0 (pos 0) (pos 0) ∷ []) [] 0 (line 0 1 83 459740095 ∷ line 0 2 374 2967580955 ∷ line 1 0 441 1802871649 ∷ line 1 0 216 2897396602 ∷ []) 4 ∷ [])
    ∷ (leaves (insn 183 1 0 (pos 0) (pos 5) ∷ insn 133 0 1 (pos 0) (negsuc 0) ∷ insn 183 1 0 (pos 0) (pos 5) ∷ []) ∷ gives (insn 133 0 1 (pos 0) (pos 1) ∷ insn 183 1 0 (pos 0) (pos 5) ∷ insn 183 1 0 (pos 0) (pos 5) ∷ []) (func 99 95 ∷ func 2 46 ∷ []) 2 (line 2 2 191 1473204220 ∷ []) 1 ∷ [])
    ∷ (leaves (insn 133 0 1 (pos 0) (pos 393217) ∷ insn 133 0 1 (pos 1) (pos 1) ∷ insn 24 3 0 (pos 0) (pos 0) ∷ []) ∷ gives (insn 133 0 1 (pos 0) (pos 1) ∷ insn 133 0 1 (pos 1) (pos 1) ∷ insn 24 3 0 (pos 0) (pos 0) ∷ []) (func 0 3 ∷ func 2 3 ∷ []) 2 (line 4294967286 0 282 2862444204 ∷ line 4294967286 2 375 1238469036 ∷ []) 2 ∷ [])
    ∷ (leaves (insn 24 3 0 (pos 0) (pos 0) ∷ insn 133 0 1 (pos 0) (negsuc 1) ∷ insn 149 0 0 (pos 0) (pos 0) ∷ []) ∷ gives (insn 133 0 1 (pos 0) (pos 1) ∷ insn 149 0 0 (pos 0) (pos 0) ∷ insn 24 3 0 (pos 0) (pos 0) ∷ []) [] 0 (line 2 0 364 3882538119 ∷ line 2 0 418 717493737 ∷ []) 2 ∷ [])
    ∷ (leaves (insn 133 0 1 (pos 0) (negsuc 0) ∷ insn 133 0 1 (pos 0) (negsuc 2147483647) ∷ insn 133 0 1 (pos 0) (negsuc 2) ∷ insn 133 0 1 (pos 1) (pos 1) ∷ insn 133 0 1 (pos 1) (pos 1) ∷ insn 133 0 1 (pos 0) (negsuc 5) ∷ []) ∷ errs unknown_function ∷ [])
    ∷ (leaves (insn 133 0 1 (pos 0) (negsuc 0) ∷ insn 133 0 0 (pos 0) (pos 1) ∷ insn 24 0 2 (pos 0) (negsuc 0) ∷ insn 0 0 0 (pos 0) (pos 64) ∷ insn 133 0 1 (pos 0) (negsuc 0) ∷ insn 24 3 0 (pos 0) (pos 0) ∷ []) ∷ errs unknown_function ∷ [])
    ∷ (leaves (insn 24 8 1 (pos 9) (pos 49) ∷ insn 0 0 0 (pos 0) (negsuc 2) ∷ insn 133 0 1 (pos 0) (negsuc 2) ∷ insn 5 0 0 (negsuc 1) (pos 0) ∷ insn 133 0 1 (pos 1) (pos 1) ∷ insn 133 0 1 (pos 0) (negsuc 4) ∷ []) ∷ errs unknown_function ∷ [])
    ∷ (leaves (insn 24 5 1 (pos 0) (pos 61) ∷ insn 0 0 0 (pos 0) (negsuc 2) ∷ insn 133 0 1 (pos 0) (negsuc 2) ∷ insn 133 0 1 (pos 0) (negsuc 3) ∷ insn 133 0 1 (pos 0) (pos 77) ∷ []) ∷ errs unknown_function ∷ [])
    ∷ (leaves (insn 133 0 1 (pos 0) (negsuc 0) ∷ insn 5 0 0 (negsuc 1) (pos 0) ∷ insn 24 1 1 (pos 0) (negsuc 1569590942) ∷ insn 0 0 0 (pos 0) (pos 0) ∷ insn 133 0 1 (pos 0) (pos 77) ∷ []) ∷ errs unknown_function ∷ [])
    ∷ (leaves (insn 133 0 0 (pos 0) (pos 1) ∷ insn 133 0 1 (pos 0) (negsuc 1) ∷ insn 133 0 1 (pos 0) (pos 2147483646) ∷ []) ∷ errs unknown_function ∷ [])
    ∷ [])
unfolding signed u32 u64 i32 add_u64 mul_u64 add_u32 sub_u32 add_i32 sub_i32 insn_is_call relocate_map relocate_maps relocate_functions object_relocate_maps slot_of relocate_from relocate link_new Crate.link relocate_calls crate_of both_steps
vectors_9 = refl

vectors_10 : (
    -- inside, refused by 10: callees reached, function records, line records
    steps (tables
    (1 ∷ 3 ∷ [])
    []
    (fun 1 4 4096 4096 1 2 ∷ [])
    []
    (insn 24 3 0 (pos 0) (pos 0) ∷ insn 133 0 1 (pos 0) (negsuc 1) ∷ insn 183 1 0 (pos 0) (pos 5) ∷ insn 133 0 1 (pos 0) (pos 2147483646) ∷ [])
    (func 99 8 ∷ [])
    (line 10 0 87 762265117 ∷ line 10 1 211 2684979823 ∷ []))
    (1 ∷ []) (2 ∷ [])
    [] 1 4096
    -- inside, refused by 10: callees reached, line records
    ∷ steps (tables
    (2 ∷ 3 ∷ 4 ∷ [])
    (sym 0 (some 20) 62 section ∷ [])
    (fun 4 2 1048576 0 0 2 ∷ [])
    []
    (insn 133 0 1 (pos 0) (pos 131071) ∷ insn 133 0 1 (pos 0) (pos 1000) ∷ [])
    []
    (line 37 0 279 2157213299 ∷ line 38 2 460 2207872731 ∷ []))
    (0 ∷ []) (2 ∷ [])
    (map_row 20 none (negsuc 2080901742) true ∷ []) 4 1048576
    -- inside, refused by 10: nothing reached
    ∷ steps (tables
    (4 ∷ [])
    []
    (fun 4 2 1048576 0 0 0 ∷ [])
    []
    (insn 133 0 1 (pos 0) (negsuc 4) ∷ insn 24 3 0 (pos 0) (pos 0) ∷ [])
    []
    [])
    (0 ∷ []) (0 ∷ [])
    [] 4 1048576
    -- inside, refused by 10: nothing reached, a map set
    ∷ steps (tables
    (1 ∷ 2 ∷ 4 ∷ [])
    (sym 0 (some 20) 32 other ∷ [])
    (fun 1 6 4096 4096 0 1 ∷ [])
    (rel 1 0 4120 64 ∷ [])
    (insn 133 0 1 (pos 0) (negsuc 2147483647) ∷ insn 253 1 11 (negsuc 10535) (pos 1205794407) ∷ insn 133 0 1 (pos 0) (negsuc 2) ∷ insn 24 8 0 (pos 0) (negsuc 2147483647) ∷ insn 0 0 0 (pos 0) (pos 0) ∷ insn 78 10 12 (pos 20472) (negsuc 333344846) ∷ [])
    []
    (line 0 1 263 1976377592 ∷ []))
    (0 ∷ []) (1 ∷ [])
    (map_row 20 none (pos 83) true ∷ []) 1 4096
    -- inside, refused by 10: nothing reached, a map set, function records
    ∷ steps (tables
    (1 ∷ [])
    (sym 0 (some 20) 49 other ∷ [])
    (fun 1 5 0 0 1 0 ∷ [])
    (rel 1 0 0 0 ∷ [])
    (insn 24 3 0 (pos 9) (negsuc 2147483647) ∷ insn 0 0 0 (pos 0) (pos 0) ∷ insn 133 0 1 (pos 0) (pos 2147483646) ∷ insn 133 0 0 (pos 0) (pos 1) ∷ insn 24 3 0 (pos 0) (pos 0) ∷ [])
    (func 0 77 ∷ [])
    [])
    (1 ∷ []) (0 ∷ [])
    (map_row 20 none (negsuc 891448134) false ∷ []) 1 0
    -- inside, refused by 10: nothing reached, a map set, function records, line records
    ∷ steps (tables
    (4 ∷ [])
    (sym 2 (some 21) 52 other ∷ [])
    (fun 9 5 2101248 4096 1 2 ∷ [])
    (rel 9 2 4104 64 ∷ [])
    (insn 33 11 6 (pos 3686) (pos 1350331837) ∷ insn 24 2 0 (pos 0) (negsuc 2147483647) ∷ insn 0 0 0 (pos 0) (pos 3) ∷ insn 133 0 1 (pos 0) (pos 2147483646) ∷ insn 149 0 0 (pos 0) (pos 0) ∷ [])
    (func 99 2 ∷ [])
    (line 0 1 2 2584831265 ∷ line 2 2 266 1375679749 ∷ []))
    (1 ∷ []) (2 ∷ [])
    (map_row 21 (some 2) (negsuc 0) false ∷ []) 9 2101248
    -- inside, refused by 10: nothing reached, a map set, line records
    ∷ steps (tables
    (1 ∷ 2 ∷ 3 ∷ [])
    (sym 0 (some 20) 63 section ∷ [])
    (fun 2 5 8192 8192 0 2 ∷ [])
    (rel 2 0 8216 32 ∷ [])
    (insn 149 0 0 (pos 0) (pos 0) ∷ insn 149 0 0 (pos 0) (pos 0) ∷ insn 133 0 1 (pos 0) (negsuc 2147483647) ∷ insn 24 9 0 (pos 0) (pos 15) ∷ insn 0 0 0 (pos 0) (pos 0) ∷ [])
    []
    (line 10 0 440 1816781284 ∷ line 14 0 332 1277528827 ∷ []))
    (0 ∷ []) (2 ∷ [])
    (map_row 20 none (negsuc 0) false ∷ []) 2 8192
    -- inside, refused by 10: nothing reached, function records
    ∷ steps (tables
    (1 ∷ 2 ∷ 4 ∷ [])
    []
    (fun 4 1 2101248 4096 1 1 ∷ [])
    []
    (insn 133 0 1 (pos 0) (pos 2147483646) ∷ [])
    (func 99 90 ∷ [])
    (line 4294967286 0 192 3607903427 ∷ []))
    (1 ∷ []) (1 ∷ [])
    [] 4 2101248
    -- inside, refused by 10: nothing reached, function records, line records
    ∷ steps (tables
    (2 ∷ [])
    []
    (fun 2 2 1048576 0 1 2 ∷ [])
    []
    (insn 220 10 4 (pos 26404) (pos 241884990) ∷ insn 133 0 1 (pos 0) (pos 2147483646) ∷ [])
    (func 4294967295 54 ∷ [])
    (line 4294967286 0 162 4016384958 ∷ line 4294967287 2 121 2378876864 ∷ []))
    (1 ∷ []) (2 ∷ [])
    [] 2 1048576
    -- inside, refused by 10: nothing reached, line records
    ∷ steps (tables
    (2 ∷ 3 ∷ 4 ∷ [])
    []
    (fun 4 2 0 0 0 2 ∷ [])
    []
    (insn 133 0 1 (pos 0) (negsuc 2147483647) ∷ insn 133 0 1 (pos 1) (pos 1) ∷ [])
    []
    (line 4294967286 1 127 1617061328 ∷ line 4294967287 2 235 2605962007 ∷ []))
    (0 ∷ []) (2 ∷ [])
    [] 4 0
    ∷ [])
    ≡ (
    (leaves (insn 24 3 0 (pos 0) (pos 0) ∷ insn 133 0 1 (pos 0) (negsuc 1) ∷ insn 183 1 0 (pos 0) (pos 5) ∷ insn 133 0 1 (pos 0) (pos 2147483646) ∷ []) ∷ errs unknown_function ∷ [])
    ∷ (leaves (insn 133 0 1 (pos 0) (pos 131071) ∷ insn 133 0 1 (pos 0) (pos 1000) ∷ []) ∷ errs unknown_function ∷ [])
    ∷ (leaves (insn 133 0 1 (pos 0) (negsuc 4) ∷ insn 24 3 0 (pos 0) (pos 0) ∷ []) ∷ errs unknown_function ∷ [])
    ∷ (leaves (insn 133 0 1 (pos 0) (negsuc 2147483647) ∷ insn 253 1 11 (negsuc 10535) (pos 1205794407) ∷ insn 133 0 1 (pos 0) (negsuc 2) ∷ insn 24 8 2 (pos 0) (pos 83) ∷ insn 0 0 0 (pos 0) (negsuc 2147483615) ∷ insn 78 10 12 (pos 20472) (negsuc 333344846) ∷ []) ∷ errs unknown_function ∷ [])
    ∷ (leaves (insn 24 3 1 (pos 9) (negsuc 891448134) ∷ insn 0 0 0 (pos 0) (pos 0) ∷ insn 133 0 1 (pos 0) (pos 2147483646) ∷ insn 133 0 0 (pos 0) (pos 1) ∷ insn 24 3 0 (pos 0) (pos 0) ∷ []) ∷ errs unknown_function ∷ [])
    ∷ (leaves (insn 33 11 6 (pos 3686) (pos 1350331837) ∷ insn 24 2 1 (pos 0) (negsuc 0) ∷ insn 0 0 0 (pos 0) (pos 3) ∷ insn 133 0 1 (pos 0) (pos 2147483646) ∷ insn 149 0 0 (pos 0) (pos 0) ∷ []) ∷ errs unknown_function ∷ [])
    ∷ (leaves (insn 149 0 0 (pos 0) (pos 0) ∷ insn 149 0 0 (pos 0) (pos 0) ∷ insn 133 0 1 (pos 0) (negsuc 2147483647) ∷ insn 24 9 1 (pos 0) (negsuc 0) ∷ insn 0 0 0 (pos 0) (pos 0) ∷ []) ∷ errs unknown_function ∷ [])
    ∷ (leaves (insn 133 0 1 (pos 0) (pos 2147483646) ∷ []) ∷ errs unknown_function ∷ [])
    ∷ (leaves (insn 220 10 4 (pos 26404) (pos 241884990) ∷ insn 133 0 1 (pos 0) (pos 2147483646) ∷ []) ∷ errs unknown_function ∷ [])
    ∷ (leaves (insn 133 0 1 (pos 0) (negsuc 2147483647) ∷ insn 133 0 1 (pos 1) (pos 1) ∷ []) ∷ errs unknown_function ∷ [])
    ∷ [])
unfolding signed u32 u64 i32 add_u64 mul_u64 add_u32 sub_u32 add_i32 sub_i32 insn_is_call relocate_map relocate_maps relocate_functions object_relocate_maps slot_of relocate_from relocate link_new Crate.link relocate_calls crate_of both_steps
vectors_10 = refl

vectors_11 : (
    -- inside, refused by 10: one callee reached
    steps (tables
    (1 ∷ [])
    (sym 1 (some 1) 1048556 section ∷ sym 2 (some 1) 1048592 text ∷ sym 5 (some 1) 1048576 text ∷ sym 6 (some 1) 1048582 section ∷ [])
    (fun 1 6 1048576 0 0 0 ∷ fun 1 3 1048592 16 0 1 ∷ [])
    (rel 1 6 16 64 ∷ [])
    (insn 149 0 0 (pos 0) (pos 0) ∷ insn 183 1 0 (pos 0) (pos 5) ∷ insn 133 0 1 (pos 0) (pos 131069) ∷ insn 133 0 1 (pos 0) (pos 131070) ∷ insn 133 0 1 (pos 0) (pos 131069) ∷ insn 133 0 1 (pos 0) (pos 131068) ∷ insn 133 0 1 (pos 0) (negsuc 5) ∷ insn 133 0 0 (pos 0) (pos 1) ∷ insn 183 1 0 (pos 0) (pos 5) ∷ [])
    []
    (line 0 1 179 2351393282 ∷ []))
    (0 ∷ 0 ∷ []) (0 ∷ 1 ∷ [])
    (map_row 20 none (pos 64) false ∷ []) 1 1048592
    -- inside, refused by 10: one callee reached, a map set, function records
    ∷ steps (tables
    (4 ∷ [])
    (sym 1 (some 20) 58 section ∷ sym 2 (some 20) 57 section ∷ [])
    (fun 4 3 0 0 1 0 ∷ fun 4 2 32 32 1 0 ∷ [])
    (rel 4 2 0 32 ∷ [])
    (insn 24 6 0 (pos 9) (pos 23) ∷ insn 0 0 0 (pos 0) (pos 3) ∷ insn 120 13 5 (negsuc 13644) (negsuc 386932798) ∷ insn 133 0 1 (pos 0) (negsuc 4) ∷ insn 133 0 1 (pos 0) (pos 2147483646) ∷ [])
    (func 7 49 ∷ func 4294967295 52 ∷ [])
    [])
    (1 ∷ 1 ∷ []) (0 ∷ 0 ∷ [])
    (map_row 33 (some 1) (pos 40) false ∷ map_row 20 none (pos 68) false ∷ map_row 34 (some 4000000000) (pos 267486814) false ∷ []) 4 32
    -- inside, refused by 10: one callee reached, a map set, function records, line records
    ∷ steps (tables
    (2 ∷ [])
    (sym 1 (some 21) 63 other ∷ sym 5 (some 2) 80 text ∷ [])
    (fun 2 1 0 0 1 2 ∷ fun 2 4 16 16 0 0 ∷ [])
    (rel 2 1 24 64 ∷ rel 2 5 40 32 ∷ [])
    (insn 133 0 1 (pos 0) (pos 1) ∷ insn 149 0 0 (pos 0) (pos 0) ∷ insn 24 1 0 (pos 0) (negsuc 2147483647) ∷ insn 0 0 0 (pos 0) (pos 0) ∷ insn 133 0 1 (pos 0) (negsuc 76) ∷ [])
    (func 99 11 ∷ [])
    (line 10 2 445 3940682955 ∷ line 10 0 301 3596802635 ∷ []))
    (1 ∷ 0 ∷ []) (2 ∷ 0 ∷ [])
    (map_row 21 (some 1) (pos 22) false ∷ []) 2 0
    -- inside, refused by 10: one callee reached, a map set, line records
    ∷ steps (tables
    (2 ∷ 4 ∷ [])
    (sym 1 (some 20) 19 section ∷ sym 4 (some 4) 1048562 section ∷ sym 7 (some 4) 1048424 section ∷ sym 8 (some 4) 1048592 text ∷ [])
    (fun 4 2 1048576 0 0 0 ∷ fun 4 3 1048592 16 0 2 ∷ [])
    (rel 4 1 16 0 ∷ [])
    (insn 133 0 1 (pos 0) (pos 131073) ∷ insn 133 0 1 (pos 0) (negsuc 2147483647) ∷ insn 24 0 10 (pos 0) (pos 1481950412) ∷ insn 0 0 0 (pos 0) (pos 0) ∷ insn 208 5 10 (negsuc 28785) (negsuc 258912443) ∷ [])
    []
    (line 37 1 419 1614231885 ∷ line 39 1 458 793328159 ∷ []))
    (0 ∷ 0 ∷ []) (0 ∷ 2 ∷ [])
    (map_row 33 (some 1) (pos 34) true ∷ map_row 20 none (negsuc 0) true ∷ []) 4 1048576
    -- inside, refused by 10: one callee reached, function records
    ∷ steps (tables
    (3 ∷ [])
    (sym 2 (some 3) 0 section ∷ sym 4 (some 252) 0 text ∷ sym 8 (some 3) 24 text ∷ [])
    (fun 3 3 0 0 1 0 ∷ fun 3 3 24 24 2 0 ∷ [])
    (rel 3 4 0 0 ∷ [])
    (insn 133 0 1 (pos 0) (pos 0) ∷ insn 24 4 0 (pos 0) (negsuc 2147483647) ∷ insn 0 0 0 (pos 0) (pos 3) ∷ insn 133 0 1 (pos 0) (negsuc 3) ∷ insn 133 0 1 (pos 0) (negsuc 4) ∷ insn 149 0 0 (pos 0) (pos 0) ∷ [])
    (func 7 17 ∷ func 0 58 ∷ func 4294967295 66 ∷ [])
    [])
    (1 ∷ 2 ∷ []) (0 ∷ 0 ∷ [])
    [] 3 24
    -- inside, refused by 10: one callee reached, function records, line records
    ∷ steps (tables
    (4 ∷ [])
    (sym 2 (some 20) 54 other ∷ sym 5 (some 4) 8 section ∷ [])
    (fun 4 4 0 0 1 1 ∷ fun 4 1 32 32 0 2 ∷ [])
    []
    (insn 5 0 0 (negsuc 1) (pos 0) ∷ insn 133 0 1 (pos 0) (pos 2) ∷ insn 133 0 1 (pos 0) (pos 77) ∷ insn 149 0 0 (pos 0) (pos 0) ∷ insn 133 0 0 (pos 0) (pos 1) ∷ [])
    (func 4294967295 31 ∷ [])
    (line 4294967286 2 365 2090489952 ∷ line 4294967286 1 416 748086433 ∷ line 4294967286 1 218 3725219508 ∷ []))
    (1 ∷ 0 ∷ []) (1 ∷ 2 ∷ [])
    (map_row 20 none (pos 81) true ∷ []) 4 0
    -- inside, refused by 10: one callee reached, line records
    ∷ steps (tables
    (1 ∷ 2 ∷ 4 ∷ [])
    (sym 0 (some 4) 8120 section ∷ [])
    (fun 4 2 8192 8192 0 0 ∷ fun 4 1 8208 8208 0 3 ∷ [])
    (rel 4 0 8192 32 ∷ rel 4 0 8200 32 ∷ [])
    (insn 133 0 1 (pos 0) (pos 10) ∷ insn 133 0 1 (pos 0) (pos 10) ∷ insn 133 0 1 (pos 0) (negsuc 4) ∷ [])
    []
    (line 4294967286 2 357 778444411 ∷ line 4294967286 1 42 3308870484 ∷ line 4294967286 1 165 2925230045 ∷ []))
    (0 ∷ 0 ∷ []) (0 ∷ 3 ∷ [])
    [] 4 8192
    -- inside, refused by 3: nothing reached
    ∷ steps (tables
    (1 ∷ 3 ∷ 4 ∷ [])
    (sym 0 (some 1) 1048576 section ∷ [])
    (fun 1 1 1048576 0 0 0 ∷ [])
    (rel 1 5 0 32 ∷ [])
    (insn 133 0 1 (pos 0) (negsuc 0) ∷ [])
    []
    [])
    (0 ∷ []) (0 ∷ [])
    [] 1 1048576
    -- inside, refused by 3: nothing reached, function records
    ∷ steps (tables
    (1 ∷ 3 ∷ [])
    (sym 1 (some 1) 2101248 text ∷ [])
    (fun 1 1 2101248 4096 1 0 ∷ [])
    (rel 1 6 4096 64 ∷ [])
    (insn 133 0 1 (pos 0) (negsuc 76) ∷ [])
    (func 4294967295 29 ∷ [])
    [])
    (1 ∷ []) (0 ∷ [])
    [] 1 2101248
    -- inside, refused by 3: nothing reached, function records, line records
    ∷ steps (tables
    (2 ∷ 4 ∷ [])
    (sym 2 (some 2) 4096 text ∷ [])
    (fun 2 1 4096 4096 1 2 ∷ [])
    (rel 2 7 4096 32 ∷ [])
    (insn 133 0 1 (pos 0) (negsuc 2147483647) ∷ [])
    (func 0 44 ∷ [])
    (line 37 2 192 960111098 ∷ line 37 1 78 2217113788 ∷ []))
    (1 ∷ []) (2 ∷ [])
    [] 2 4096
    ∷ [])
    ≡ (
    (leaves (insn 149 0 0 (pos 0) (pos 0) ∷ insn 183 1 0 (pos 0) (pos 5) ∷ insn 133 0 1 (pos 0) (pos 131069) ∷ insn 133 0 1 (pos 0) (pos 131070) ∷ insn 133 0 1 (pos 0) (pos 131069) ∷ insn 133 0 1 (pos 0) (pos 131068) ∷ insn 133 0 1 (pos 0) (negsuc 5) ∷ insn 133 0 0 (pos 0) (pos 1) ∷ insn 183 1 0 (pos 0) (pos 5) ∷ []) ∷ errs unknown_function ∷ [])
    ∷ (leaves (insn 24 6 1 (pos 9) (pos 68) ∷ insn 0 0 0 (pos 0) (pos 3) ∷ insn 120 13 5 (negsuc 13644) (negsuc 386932798) ∷ insn 133 0 1 (pos 0) (negsuc 4) ∷ insn 133 0 1 (pos 0) (pos 2147483646) ∷ []) ∷ errs unknown_function ∷ [])
    ∷ (leaves (insn 133 0 1 (pos 0) (pos 1) ∷ insn 149 0 0 (pos 0) (pos 0) ∷ insn 24 1 1 (pos 0) (pos 22) ∷ insn 0 0 0 (pos 0) (pos 0) ∷ insn 133 0 1 (pos 0) (negsuc 76) ∷ []) ∷ errs unknown_function ∷ [])
    ∷ (leaves (insn 133 0 1 (pos 0) (pos 131073) ∷ insn 133 0 1 (pos 0) (negsuc 2147483647) ∷ insn 24 0 2 (pos 0) (pos 34) ∷ insn 0 0 0 (pos 0) (pos 1481950431) ∷ insn 208 5 10 (negsuc 28785) (negsuc 258912443) ∷ []) ∷ errs unknown_function ∷ [])
    ∷ (leaves (insn 133 0 1 (pos 0) (pos 0) ∷ insn 24 4 0 (pos 0) (negsuc 2147483647) ∷ insn 0 0 0 (pos 0) (pos 3) ∷ insn 133 0 1 (pos 0) (negsuc 3) ∷ insn 133 0 1 (pos 0) (negsuc 4) ∷ insn 149 0 0 (pos 0) (pos 0) ∷ []) ∷ errs unknown_function ∷ [])
    ∷ (leaves (insn 5 0 0 (negsuc 1) (pos 0) ∷ insn 133 0 1 (pos 0) (pos 2) ∷ insn 133 0 1 (pos 0) (pos 77) ∷ insn 149 0 0 (pos 0) (pos 0) ∷ insn 133 0 0 (pos 0) (pos 1) ∷ []) ∷ errs unknown_function ∷ [])
    ∷ (leaves (insn 133 0 1 (pos 0) (pos 10) ∷ insn 133 0 1 (pos 0) (pos 10) ∷ insn 133 0 1 (pos 0) (negsuc 4) ∷ []) ∷ errs unknown_function ∷ [])
    ∷ (errs unknown_symbol ∷ errs unknown_symbol ∷ [])
    ∷ (errs unknown_symbol ∷ errs unknown_symbol ∷ [])
    ∷ (errs unknown_symbol ∷ errs unknown_symbol ∷ [])
    ∷ [])
unfolding signed u32 u64 i32 add_u64 mul_u64 add_u32 sub_u32 add_i32 sub_i32 insn_is_call relocate_map relocate_maps relocate_functions object_relocate_maps slot_of relocate_from relocate link_new Crate.link relocate_calls crate_of both_steps
vectors_11 = refl

vectors_12 : (
    -- inside, refused by 3: nothing reached, line records
    steps (tables
    (2 ∷ 3 ∷ [])
    []
    (fun 3 1 1048576 0 0 2 ∷ [])
    (rel 3 1 0 64 ∷ [])
    (insn 133 0 1 (pos 0) (negsuc 76) ∷ [])
    []
    (line 4294967286 1 85 1071586514 ∷ line 4294967286 2 357 3876057882 ∷ []))
    (0 ∷ []) (2 ∷ [])
    (map_row 34 (some 4000000000) (pos 1899659380) false ∷ map_row 20 none (pos 1346314922) true ∷ []) 3 1048576
    -- inside, refused by 4: nothing reached
    ∷ steps (tables
    (1 ∷ 4 ∷ [])
    (sym 2 (some 4) 1 other ∷ [])
    (fun 4 1 0 0 0 0 ∷ [])
    (rel 4 2 7 32 ∷ [])
    (insn 133 0 1 (pos 0) (negsuc 0) ∷ [])
    []
    [])
    (0 ∷ []) (0 ∷ [])
    [] 4 0
    -- inside, refused by 4: nothing reached, function records
    ∷ steps (tables
    (1 ∷ 2 ∷ 3 ∷ [])
    (sym 1 (some 1) 4096 text ∷ [])
    (fun 1 2 4096 4096 1 0 ∷ [])
    (rel 1 1 4099 64 ∷ [])
    (insn 133 0 1 (pos 0) (pos 5) ∷ insn 5 0 0 (negsuc 1) (pos 0) ∷ [])
    (func 7 97 ∷ [])
    [])
    (1 ∷ []) (0 ∷ [])
    [] 1 4096
    -- inside, refused by 4: nothing reached, function records, line records
    ∷ steps (tables
    (1 ∷ 4 ∷ [])
    (sym 1 (some 1) 0 section ∷ [])
    (fun 1 2 0 0 1 2 ∷ [])
    (rel 1 1 6 32 ∷ [])
    (insn 133 0 1 (pos 0) (negsuc 0) ∷ insn 133 0 0 (pos 0) (pos 1) ∷ [])
    (func 99 39 ∷ [])
    (line 0 2 140 2835514390 ∷ line 1 0 440 3524586488 ∷ []))
    (1 ∷ []) (2 ∷ [])
    [] 1 0
    -- inside, refused by 4: nothing reached, line records
    ∷ steps (tables
    (1 ∷ 2 ∷ [])
    (sym 1 (some 2) 0 section ∷ [])
    (fun 2 3 0 0 0 2 ∷ [])
    (rel 2 1 11 64 ∷ [])
    (insn 133 0 1 (pos 0) (negsuc 0) ∷ insn 24 2 0 (pos 0) (pos 0) ∷ insn 0 0 0 (pos 0) (pos 0) ∷ [])
    []
    (line 0 1 179 1588731995 ∷ line 2 2 236 3285353514 ∷ []))
    (0 ∷ []) (2 ∷ [])
    [] 2 0
    -- inside, refused by 5: nothing reached
    ∷ steps (tables
    (1 ∷ 2 ∷ [])
    (sym 5 (some 65535) 54 other ∷ [])
    (fun 2 4 4096 4096 0 0 ∷ [])
    (rel 2 5 4112 64 ∷ [])
    (insn 24 3 0 (pos 0) (pos 0) ∷ insn 149 0 0 (pos 0) (pos 0) ∷ insn 24 1 0 (pos 0) (pos 3) ∷ insn 0 0 0 (pos 0) (pos 0) ∷ [])
    []
    [])
    (0 ∷ []) (0 ∷ [])
    [] 2 4096
    -- inside, refused by 5: nothing reached, function records
    ∷ steps (tables
    (1 ∷ 3 ∷ [])
    (sym 5 (some 65535) 50 section ∷ [])
    (fun 1 4 0 0 1 0 ∷ [])
    (rel 1 5 16 64 ∷ [])
    (insn 24 3 0 (pos 0) (pos 0) ∷ insn 183 1 0 (pos 0) (pos 5) ∷ insn 24 1 0 (pos 0) (pos 3) ∷ insn 0 0 0 (pos 0) (pos 0) ∷ [])
    (func 99 47 ∷ [])
    [])
    (1 ∷ []) (0 ∷ [])
    [] 1 0
    -- inside, refused by 5: nothing reached, function records, line records
    ∷ steps (tables
    (3 ∷ [])
    (sym 2 (some 20) 6 other ∷ [])
    (fun 3 4 0 0 1 2 ∷ [])
    (rel 3 2 8 32 ∷ [])
    (insn 149 0 0 (pos 0) (pos 0) ∷ insn 24 2 0 (pos 0) (negsuc 2147483647) ∷ insn 0 0 0 (pos 0) (negsuc 2) ∷ insn 149 0 0 (pos 0) (pos 0) ∷ [])
    (func 4294967295 42 ∷ [])
    (line 4294967286 1 370 237291294 ∷ line 4294967288 0 378 2604125923 ∷ []))
    (1 ∷ []) (2 ∷ [])
    [] 3 0
    -- inside, refused by 5: nothing reached, line records
    ∷ steps (tables
    (2 ∷ [])
    (sym 1 (some 20) 4 section ∷ [])
    (fun 2 4 0 0 0 2 ∷ [])
    (rel 2 1 0 0 ∷ [])
    (insn 24 1 0 (pos 0) (negsuc 2147483647) ∷ insn 0 0 0 (pos 0) (pos 0) ∷ insn 5 0 0 (negsuc 1) (pos 0) ∷ insn 99 6 4 (negsuc 16624) (pos 721918050) ∷ [])
    []
    (line 10 1 255 1887940843 ∷ line 13 1 480 3831634192 ∷ []))
    (0 ∷ []) (2 ∷ [])
    [] 2 0
    -- num_info of the root: equal all the same
    ∷ steps (tables
    []
    []
    (fun 2 1 1048576 0 0 0 ∷ [])
    []
    (insn 133 0 1 (pos 0) (pos 131071) ∷ [])
    []
    [])
    (4294967295 ∷ []) (0 ∷ [])
    [] 2 1048576
    ∷ [])
    ≡ (
    (errs unknown_symbol ∷ errs unknown_symbol ∷ [])
    ∷ (errs invalid_relocation_offset ∷ errs invalid_relocation_offset ∷ [])
    ∷ (errs invalid_relocation_offset ∷ errs invalid_relocation_offset ∷ [])
    ∷ (errs invalid_relocation_offset ∷ errs invalid_relocation_offset ∷ [])
    ∷ (errs invalid_relocation_offset ∷ errs invalid_relocation_offset ∷ [])
    ∷ (errs section_not_found ∷ errs section_not_found ∷ [])
    ∷ (errs section_not_found ∷ errs section_not_found ∷ [])
    ∷ (errs section_not_found ∷ errs section_not_found ∷ [])
    ∷ (errs section_not_found ∷ errs section_not_found ∷ [])
    ∷ (leaves (insn 133 0 1 (pos 0) (pos 131071) ∷ []) ∷ gives (insn 133 0 1 (pos 0) (pos 0) ∷ insn 133 0 1 (pos 0) (negsuc 0) ∷ []) [] 0 [] 0 ∷ [])
    ∷ [])
unfolding signed u32 u64 i32 add_u64 mul_u64 add_u32 sub_u32 add_i32 sub_i32 insn_is_call relocate_map relocate_maps relocate_functions object_relocate_maps slot_of relocate_from relocate link_new Crate.link relocate_calls crate_of both_steps
vectors_12 = refl

vectors_13 : (
    -- num_info of the root: num_info of the function records
    steps (tables
    []
    []
    (fun 9 1 4096 4096 0 0 ∷ [])
    []
    (insn 149 0 0 (pos 0) (pos 0) ∷ [])
    []
    [])
    (4294967295 ∷ []) (4294967295 ∷ [])
    [] 9 4096
    -- num_info of the root: num_info of the line records
    ∷ steps (tables
    []
    []
    (fun 1 1 0 0 0 0 ∷ [])
    []
    (insn 149 0 0 (pos 0) (pos 0) ∷ [])
    []
    [])
    (0 ∷ []) (5 ∷ [])
    [] 1 0
    -- reached callees of one address: the image's slots
    ∷ steps (tables
    []
    (sym 2 (some 3) 0 text ∷ [])
    (fun 2 2 0 0 0 0 ∷ fun 3 1 0 0 0 0 ∷ [])
    (rel 2 2 0 32 ∷ [])
    (insn 133 0 1 (pos 0) (pos 5) ∷ insn 133 0 1 (pos 0) (negsuc 1) ∷ insn 149 0 0 (pos 0) (pos 0) ∷ [])
    []
    [])
    (0 ∷ 0 ∷ []) (0 ∷ 0 ∷ [])
    [] 2 0
    -- top immediate in a call: equal all the same
    ∷ steps (tables
    []
    []
    (fun 2 1 4096 4096 0 0 ∷ [])
    []
    (insn 133 0 1 (pos 0) (pos 2147483647) ∷ [])
    []
    [])
    (0 ∷ []) (0 ∷ [])
    [] 2 4096
    -- top immediate in a call: link: ours 0, the crate UnknownFunction
    ∷ steps (tables
    []
    []
    (fun 3 2 1048576 0 0 0 ∷ fun 3 1 17179869192 17179869192 0 0 ∷ [])
    []
    (insn 149 0 0 (pos 0) (pos 0) ∷ insn 133 0 1 (pos 0) (pos 2147483647) ∷ insn 149 0 0 (pos 0) (pos 0) ∷ [])
    []
    [])
    (0 ∷ 0 ∷ []) (0 ∷ 0 ∷ [])
    [] 3 1048576
    -- top immediate in a call: link: ours 10, the crate accepts
    ∷ steps (tables
    []
    []
    (fun 4 1 4096 34359742464 0 0 ∷ fun 4 1 17179873280 17179873280 0 0 ∷ [])
    []
    (insn 133 0 1 (pos 0) (pos 2147483647) ∷ insn 149 0 0 (pos 0) (pos 0) ∷ [])
    []
    [])
    (0 ∷ 2552268350 ∷ []) (0 ∷ 3972793985 ∷ [])
    [] 4 4096
    -- top immediate in a call: the image's slots
    ∷ steps (tables
    []
    []
    (fun 4 1 1048576 34359738368 0 0 ∷ fun 4 2 17179869184 17179869184 0 0 ∷ fun 4 1 51539607552 51539607552 0 0 ∷ [])
    []
    (insn 133 0 1 (pos 0) (pos 2147483647) ∷ insn 149 0 0 (pos 0) (pos 0) ∷ insn 149 0 0 (pos 0) (pos 0) ∷ insn 149 0 0 (pos 0) (pos 0) ∷ [])
    []
    [])
    (0 ∷ 0 ∷ 0 ∷ []) (0 ∷ 0 ∷ 0 ∷ [])
    [] 4 1048576
    -- top immediate, size-32 reference: equal all the same
    ∷ steps (tables
    (2 ∷ [])
    (sym 2 (some 2) 1048576 text ∷ [])
    (fun 2 2 1048576 0 0 0 ∷ [])
    (rel 2 2 0 32 ∷ [])
    (insn 24 15 5 (pos 0) (pos 2147483647) ∷ insn 0 0 0 (pos 0) (pos 3) ∷ [])
    []
    [])
    (0 ∷ []) (0 ∷ [])
    [] 2 1048576
    -- top immediate, size-32 reference: link: ours 0, the crate UnknownFunction
    ∷ steps (tables
    (4 ∷ [])
    (sym 5 (some 4) 34359742464 section ∷ [])
    (fun 4 2 4096 4096 0 0 ∷ fun 4 1 51539611648 51539611648 0 0 ∷ [])
    (rel 4 5 4096 32 ∷ [])
    (insn 24 1 0 (pos 0) (pos 2147483647) ∷ insn 0 0 0 (pos 0) (pos 0) ∷ insn 149 0 0 (pos 0) (pos 0) ∷ [])
    []
    [])
    (0 ∷ 0 ∷ []) (0 ∷ 0 ∷ [])
    [] 4 4096
    -- top immediate, size-32 reference: link: ours 10, the crate accepts
    ∷ steps (tables
    (1 ∷ [])
    (sym 5 (some 1) 34359742464 section ∷ [])
    (fun 1 2 4096 4096 0 0 ∷ fun 1 1 17179873280 17179873280 0 0 ∷ [])
    (rel 1 5 4096 32 ∷ [])
    (insn 24 1 0 (pos 0) (pos 2147483647) ∷ insn 0 0 0 (pos 0) (pos 0) ∷ insn 149 0 0 (pos 0) (pos 0) ∷ [])
    []
    [])
    (0 ∷ 0 ∷ []) (0 ∷ 0 ∷ [])
    [] 1 4096
    ∷ [])
    ≡ (
    (leaves (insn 149 0 0 (pos 0) (pos 0) ∷ []) ∷ gives (insn 149 0 0 (pos 0) (pos 0) ∷ []) [] 4294967295 [] 4294967295 ∷ [])
    ∷ (leaves (insn 149 0 0 (pos 0) (pos 0) ∷ []) ∷ gives (insn 149 0 0 (pos 0) (pos 0) ∷ []) [] 0 [] 5 ∷ [])
    ∷ (leaves (insn 133 0 1 (pos 0) (pos 5) ∷ insn 133 0 1 (pos 0) (negsuc 1) ∷ insn 149 0 0 (pos 0) (pos 0) ∷ []) ∷ gives (insn 133 0 1 (pos 0) (pos 1) ∷ insn 133 0 1 (pos 0) (pos 0) ∷ insn 149 0 0 (pos 0) (pos 0) ∷ []) [] 0 [] 0 ∷ [])
    ∷ (leaves (insn 133 0 1 (pos 0) (pos 2147483647) ∷ []) ∷ errs unknown_function ∷ [])
    ∷ (leaves (insn 149 0 0 (pos 0) (pos 0) ∷ insn 133 0 1 (pos 0) (pos 2147483647) ∷ insn 149 0 0 (pos 0) (pos 0) ∷ []) ∷ errs unknown_function ∷ [])
    ∷ (leaves (insn 133 0 1 (pos 0) (pos 2147483647) ∷ insn 149 0 0 (pos 0) (pos 0) ∷ []) ∷ gives (insn 133 0 1 (pos 0) (pos 0) ∷ insn 149 0 0 (pos 0) (pos 0) ∷ []) [] 0 [] 0 ∷ [])
    ∷ (leaves (insn 133 0 1 (pos 0) (pos 2147483647) ∷ insn 149 0 0 (pos 0) (pos 0) ∷ insn 149 0 0 (pos 0) (pos 0) ∷ insn 149 0 0 (pos 0) (pos 0) ∷ []) ∷ gives (insn 133 0 1 (pos 0) (pos 0) ∷ insn 149 0 0 (pos 0) (pos 0) ∷ insn 149 0 0 (pos 0) (pos 0) ∷ []) [] 0 [] 0 ∷ [])
    ∷ (leaves (insn 24 15 5 (pos 0) (pos 2147483647) ∷ insn 0 0 0 (pos 0) (pos 3) ∷ []) ∷ gives (insn 24 15 4 (pos 0) (pos 1) ∷ insn 0 0 0 (pos 0) (pos 3) ∷ insn 24 15 4 (pos 0) (negsuc 0) ∷ insn 0 0 0 (pos 0) (pos 3) ∷ []) [] 0 [] 0 ∷ [])
    ∷ (leaves (insn 24 1 0 (pos 0) (pos 2147483647) ∷ insn 0 0 0 (pos 0) (pos 0) ∷ insn 149 0 0 (pos 0) (pos 0) ∷ []) ∷ errs unknown_function ∷ [])
    ∷ (leaves (insn 24 1 0 (pos 0) (pos 2147483647) ∷ insn 0 0 0 (pos 0) (pos 0) ∷ insn 149 0 0 (pos 0) (pos 0) ∷ []) ∷ gives (insn 24 1 4 (pos 0) (pos 1) ∷ insn 0 0 0 (pos 0) (pos 0) ∷ insn 149 0 0 (pos 0) (pos 0) ∷ []) [] 0 [] 0 ∷ [])
    ∷ [])
unfolding signed u32 u64 i32 add_u64 mul_u64 add_u32 sub_u32 add_i32 sub_i32 insn_is_call relocate_map relocate_maps relocate_functions object_relocate_maps slot_of relocate_from relocate link_new Crate.link relocate_calls crate_of both_steps
vectors_13 = refl

vectors_14 : (
    -- top immediate, size-32 reference: the image's slots
    steps (tables
    (1 ∷ [])
    (sym 5 (some 1) 34359742464 section ∷ [])
    (fun 1 2 4096 4096 0 0 ∷ fun 1 2 17179873280 17179873280 0 0 ∷ fun 1 1 51539611648 51539611648 0 0 ∷ [])
    (rel 1 5 4096 32 ∷ [])
    (insn 24 1 0 (pos 0) (pos 2147483647) ∷ insn 0 0 0 (pos 0) (pos 0) ∷ insn 149 0 0 (pos 0) (pos 0) ∷ insn 149 0 0 (pos 0) (pos 0) ∷ insn 149 0 0 (pos 0) (pos 0) ∷ [])
    []
    [])
    (0 ∷ 0 ∷ 0 ∷ []) (0 ∷ 0 ∷ 0 ∷ [])
    [] 1 4096
    ∷ [])
    ≡ (
    (leaves (insn 24 1 0 (pos 0) (pos 2147483647) ∷ insn 0 0 0 (pos 0) (pos 0) ∷ insn 149 0 0 (pos 0) (pos 0) ∷ insn 149 0 0 (pos 0) (pos 0) ∷ insn 149 0 0 (pos 0) (pos 0) ∷ []) ∷ gives (insn 24 1 4 (pos 0) (pos 1) ∷ insn 0 0 0 (pos 0) (pos 0) ∷ insn 149 0 0 (pos 0) (pos 0) ∷ insn 149 0 0 (pos 0) (pos 0) ∷ []) [] 0 [] 0 ∷ [])
    ∷ [])
unfolding signed u32 u64 i32 add_u64 mul_u64 add_u32 sub_u32 add_i32 sub_i32 insn_is_call relocate_map relocate_maps relocate_functions object_relocate_maps slot_of relocate_from relocate link_new Crate.link relocate_calls crate_of both_steps
vectors_14 = refl
