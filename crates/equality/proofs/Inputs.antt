-- Small inputs, each outside one clause of the domain and inside all others (proofs/Needed.antt): what Excluded and Needed are about.
-- Assumes nothing.
use mathlib.Core.Bool.{Bool, true, false}
use mathlib.Core.Option.{Option, none, some}
use mathlib.Core.List.{List, [], ◌∷◌}
use Prim.Native.Nat.{ℕ}
use lib.IntN.{ℤ, pos, negsuc}
use lib.Dec.{eqb}
use Rattle.rules.specs.Object.{Insn}
use Rattle.rules.specs.Entries.{most_room}
use Rattle.rules.specs.Tables.{SymbolKind, other, text, section, Symbol, Function, Relocation, MapRow, FunctionRecord, LineRecord, Tables}
use Rattle.rules.specs.Maps.{only}
use Rattle.rules.specs.Records.{Room}
use Rattle.equality.specs.Domain.{Hidden, Perm, swap}
use Rattle.equality.specs.Demand2.{Clause, valid_tables, compared_only, one_refusable, five_not_text, five_no_map, map_alone, call_below, reference_below, callees_differ, function_count, line_count}
use Rattle.equality.proofs.Perms.{perm_refl}

-- tables, with table 4 in the crate's order, and each function's two `num_info`
pub record Input : Type 0 where
  pub tables : Tables
  pub rows : List Relocation
  pub reordered : Perm tables.relocations rows
  pub func_num : ℕ
  pub line_num : ℕ
  pub room : Room
  pub root : ℕ

abbrev pub hidden_of : Input → Hidden
hidden_of i = record { values = λ home. only (λ r. eqb r.home home) i.rows; maps = i.tables.maps; func_nums = λ row. i.func_num; line_nums = λ row. i.line_num }

abbrev pub full_room : Room
full_room = most_room

abbrev pub input : Tables → ℕ → Input
input tables root = record {
  tables = tables;
  rows = tables.relocations;
  reordered = perm_refl tables.relocations;
  func_num = 0;
  line_num = 0;
  room = full_room;
  root = root;
}

abbrev pub symbol : ℕ → ℕ → ℕ → SymbolKind → Symbol
symbol index home address kind = record { index = index; home = some home; address = address; kind = kind }

abbrev pub function : ℕ → ℕ → ℕ → Function
function home slots address = record { home = home; slots = slots; address = address; offset = address; functions = 0; lines = 0 }

abbrev pub relocation : ℕ → ℕ → ℕ → ℕ → Relocation
relocation home symbol offset size = record { home = home; symbol = symbol; offset = offset; size = size }

abbrev pub map_row : ℕ → Option ℕ → ℕ → Bool → MapRow
map_row home symbol fd has_data = record { home = home; symbol = symbol; fd = pos fd; has_data = has_data }

abbrev pub insn : ℕ → ℕ → ℕ → ℤ → Insn
insn opcode destination source immediate = record { opcode = opcode; destination = destination; source = source; offset = pos 0; immediate = immediate }

abbrev pub exits : Insn
exits = insn 0x95 0 0 (pos 0)

abbrev pub calls : ℤ → Insn
calls immediate = insn 0x85 0 1 immediate

abbrev pub load : ℤ → Insn
load immediate = insn 0x18 1 0 immediate

abbrev pub next : Insn
next = insn 0 0 0 (pos 0)

abbrev pub object : List ℕ → List Symbol → List Function → List Relocation → List MapRow → List Insn → Tables
object code symbols functions relocations maps instructions = record {
  code = code;
  symbols = symbols;
  functions = functions;
  relocations = relocations;
  maps = maps;
  instructions = instructions;
  function_records = [];
  line_records = [];
}

-- "Valid tables": one symbol's map twice. Ours takes the first, the crate the last
abbrev pub symbol_twice : Input
symbol_twice =
    input (object (1 ∷ []) (symbol 9 5 0 other ∷ []) (function 1 2 0 ∷ []) (relocation 1 9 0 64 ∷ [])
    (map_row 5 (some 9) 7 false ∷ map_row 5 (some 9) 6 false ∷ []) (load (pos 0) ∷ next ∷ [])) 0

-- two relocations at one offset, and the other order (of the definition only: the crate's HashMap by offset does not hold both)
abbrev pub offset_twice : Input
offset_twice = record {
  tables = object (1 ∷ []) (symbol 8 5 0 other ∷ symbol 9 5 0 other ∷ []) (function 1 2 0 ∷ []) (relocation 1 8 0 64 ∷ relocation 1 9 0 64 ∷ [])
      (map_row 5 (some 8) 7 false ∷ map_row 5 (some 9) 6 false ∷ []) (load (pos 0) ∷ next ∷ []);
  rows = relocation 1 9 0 64 ∷ relocation 1 8 0 64 ∷ [];
  reordered = swap (relocation 1 8 0 64) (relocation 1 9 0 64) [];
  func_num = 0;
  line_num = 0;
  room = full_room;
  root = 0;
}

-- a root that is no row; two functions of one key; table 6 a slot short; an address of 2⁶⁴ − 8, which the crate's sum leaves; an offset of 2⁶⁴; an
-- opcode that is no byte; an immediate that is no i32. The one key and the last three are of the definition only: no Rust value holds them
abbrev pub root_missing : Input
root_missing = input (object (1 ∷ []) [] (function 1 1 0 ∷ []) [] [] (exits ∷ [])) 1

abbrev pub key_twice : Input
key_twice = input (object (1 ∷ []) [] (function 1 1 0 ∷ function 1 1 0 ∷ []) [] [] (next ∷ exits ∷ [])) 1

abbrev pub slot_missing : Input
slot_missing =
    input (object (1 ∷ []) (symbol 9 5 1 other ∷ []) (function 1 2 0 ∷ []) (relocation 1 9 0 64 ∷ []) (map_row 5 (some 9) 7 true ∷ []) (load (pos 0) ∷ [])) 0

abbrev pub address_high : Input
address_high =
    input (object (1 ∷ []) (symbol 7 1 0xffff_ffff_ffff_fff8 section ∷ []) (function 1 1 0 ∷ []) (relocation 1 7 0 32 ∷ []) [] (calls (pos 0) ∷ [])) 0

abbrev pub offset_high : Input
offset_high =
    input (object (1 ∷ []) [] (record { home = 1; slots = 1; address = 0; offset = 0x1_0000_0000_0000_0000; functions = 0; lines = 0 } ∷ []) [] []
    (calls (negsuc 0) ∷ [])) 0

abbrev pub opcode_high : Input
opcode_high = input (object (1 ∷ []) [] (function 1 1 0 ∷ []) [] [] (insn 0x185 0 1 (negsuc 0) ∷ [])) 0

abbrev pub immediate_high : Input
immediate_high = input (object (1 ∷ []) [] (function 1 1 0 ∷ []) [] [] (calls (pos 0xffff_ffff) ∷ [])) 0

-- "no refusal but 3, 4, 5, 10": each other number that is left
abbrev pub six : Input
six = input (object (1 ∷ []) (symbol 9 5 0 other ∷ []) (function 1 1 0 ∷ []) (relocation 1 9 0 64 ∷ []) (map_row 5 (some 9) 7 false ∷ []) (exits ∷ [])) 0

abbrev pub six_panics : Input
six_panics = input (object (1 ∷ []) (symbol 9 5 0 other ∷ []) (function 1 1 0 ∷ []) (relocation 1 9 0 64 ∷ []) (map_row 5 (some 9) 7 true ∷ []) (exits ∷ [])) 0

abbrev pub six_in_link : Input
six_in_link = input (object (1 ∷ []) (symbol 9 1 0 text ∷ []) (function 1 1 0 ∷ []) (relocation 1 9 0 64 ∷ []) [] (exits ∷ [])) 0

abbrev pub seven : Input
seven =
    input (object (1 ∷ []) (symbol 9 5 1 other ∷ []) (function 1 2 0 ∷ []) (relocation 1 9 0 64 ∷ []) (map_row 5 (some 9) 7 true ∷ [])
    (load (pos 0x7fff_ffff) ∷ next ∷ [])) 0

abbrev pub eight : Input
eight = input (object (1 ∷ []) (symbol 9 1 0 other ∷ []) (function 1 1 0 ∷ []) (relocation 1 9 0 32 ∷ []) [] (calls (negsuc 0) ∷ [])) 0

abbrev pub nine : Input
nine = input (object (1 ∷ []) (symbol 9 5 0 other ∷ []) (function 1 1 0 ∷ []) (relocation 1 9 0 32 ∷ []) [] (calls (negsuc 0) ∷ [])) 0

abbrev pub eleven : Input
eleven = record {
  tables = object (1 ∷ []) [] (function 1 1 0 ∷ []) [] [] (exits ∷ []);
  rows = [];
  reordered = perm_refl [];
  func_num = 0;
  line_num = 0;
  room = record { slots = 0; functions = 0; lines = 0 };
  root = 0;
}

-- a root that calls itself, whose second line record is a slot after the function's end
abbrev pub twelve : Input
twelve = record {
  tables = record {
    code = 1 ∷ [];
    symbols = [];
    functions = record { home = 1; slots = 1; address = 0; offset = 0; functions = 0; lines = 2 } ∷ [];
    relocations = [];
    maps = [];
    instructions = calls (negsuc 0) ∷ [];
    function_records = [];
    line_records = record { slot = 0; file = 0; line = 0; column = 0 } ∷ record { slot = 1; file = 0; line = 0; column = 0 } ∷ [];
  };
  rows = [];
  reordered = perm_refl [];
  func_num = 0;
  line_num = 2;
  room = full_room;
  root = 0;
}

-- "one refusable relocation": offset 0 names no symbol, offset 4 is off the grid; the crate meets the second first
abbrev pub two_refusable : Input
two_refusable = record {
  tables = object (1 ∷ []) [] (function 1 1 0 ∷ []) (relocation 1 7 0 64 ∷ relocation 1 7 4 64 ∷ []) [] (exits ∷ []);
  rows = relocation 1 7 4 64 ∷ relocation 1 7 0 64 ∷ [];
  reordered = swap (relocation 1 7 0 64) (relocation 1 7 4 64) [];
  func_num = 0;
  line_num = 0;
  room = full_room;
  root = 0;
}

-- "5 only where the kind is not Text": a Text symbol of section 5, whose map is in section 6. The crate's map step passes, its link does not
abbrev pub five_by_text : Input
five_by_text = input (object (1 ∷ []) (symbol 9 5 0 text ∷ []) (function 1 2 0 ∷ []) (relocation 1 9 0 64 ∷ []) (map_row 6 (some 9) 7 false ∷ []) (load (pos 0) ∷ next ∷ [])) 0

-- "and no map has the section": another symbol's map has it, and the crate takes that
abbrev pub five_with_map : Input
five_with_map = input (object (1 ∷ []) (symbol 9 5 0 other ∷ []) (function 1 2 0 ∷ []) (relocation 1 9 0 64 ∷ []) (map_row 5 (some 8) 7 false ∷ []) (load (pos 0) ∷ next ∷ [])) 0

-- "a section with a map without a symbol has no other map": the crate takes the last
abbrev pub not_alone : Input
not_alone =
    input (object (1 ∷ []) (symbol 9 5 0 other ∷ []) (function 1 2 0 ∷ []) (relocation 1 9 0 64 ∷ [])
    (map_row 5 none 7 false ∷ map_row 5 (some 8) 6 false ∷ []) (load (pos 0) ∷ next ∷ [])) 0

-- "no call ... with immediate 2,147,483,647": its target is 2³⁴ on, the crate's is before 0
abbrev pub call_at_top : Input
call_at_top = input (object (1 ∷ []) [] (function 1 1 0 ∷ function 1 1 0x4_0000_0000 ∷ []) [] [] (calls (pos 0x7fff_ffff) ∷ exits ∷ [])) 0

-- "or size-32 code reference"
abbrev pub reference_at_top : Input
reference_at_top =
    input (object (1 ∷ []) (symbol 7 1 0 section ∷ []) (function 1 2 0 ∷ function 1 1 0x4_0000_0000 ∷ []) (relocation 1 7 0 32 ∷ []) []
    (load (pos 0x7fff_ffff) ∷ next ∷ exits ∷ [])) 0

-- "reached callees differ in address": the root of section 3 calls functions of sections 1 and 2, both at 0. The crate calls the first twice
abbrev pub one_address : Input
one_address =
    input (object (1 ∷ 2 ∷ 3 ∷ []) (symbol 4 1 0 section ∷ symbol 5 2 0 section ∷ []) (function 1 1 0 ∷ function 2 1 0 ∷ function 3 2 0 ∷ [])
    (relocation 3 4 0 32 ∷ relocation 3 5 8 32 ∷ []) [] (exits ∷ exits ∷ calls (negsuc 0) ∷ calls (negsuc 0) ∷ [])) 2

-- "`num_info` is the record count": one record, and the crate holds 5
abbrev pub counted : ℕ → ℕ → List FunctionRecord → List LineRecord → ℕ → ℕ → Input
counted functions lines function_records line_records func_num line_num = record {
  tables = record {
    code = 1 ∷ [];
    symbols = [];
    functions = record { home = 1; slots = 1; address = 0; offset = 0; functions = functions; lines = lines } ∷ [];
    relocations = [];
    maps = [];
    instructions = exits ∷ [];
    function_records = function_records;
    line_records = line_records;
  };
  rows = [];
  reordered = perm_refl [];
  func_num = func_num;
  line_num = line_num;
  room = full_room;
  root = 0;
}

abbrev pub functions_miscounted : Input
functions_miscounted = counted 1 0 (record { slot = 0; kind = 3 } ∷ []) [] 5 0

abbrev pub lines_miscounted : Input
lines_miscounted = counted 0 1 [] (record { slot = 0; file = 0; line = 0; column = 0 } ∷ []) 0 5

-- inside every clause. "Maps first, then calls": an exit with a relocation to no symbol
abbrev pub unknown_symbol : Input
unknown_symbol = input (object (1 ∷ []) [] (function 1 1 0 ∷ []) (relocation 1 9 0 64 ∷ []) [] (exits ∷ [])) 0

-- "the root is the only program": A at 0 calls itself; the root, at 16, calls A
abbrev pub two_programs : Input
two_programs = input (object (1 ∷ []) [] (function 1 1 0 ∷ function 1 1 16 ∷ []) [] [] (calls (negsuc 0) ∷ calls (negsuc 2) ∷ [])) 1

-- "no relocation finds its map by section where only maps with symbols stand": the second function's does. The first names no symbol
abbrev pub found_by_section : Input
found_by_section =
    input (object (1 ∷ 2 ∷ []) (symbol 9 5 0 other ∷ []) (function 1 1 0 ∷ function 2 2 0 ∷ []) (relocation 1 7 0 64 ∷ relocation 2 9 0 64 ∷ [])
    (map_row 5 (some 8) 6 false ∷ []) (exits ∷ load (pos 0) ∷ next ∷ [])) 0

abbrev pub inputs_for : Clause → List Input
inputs_for valid_tables = symbol_twice ∷ offset_twice ∷ root_missing ∷ key_twice ∷ slot_missing ∷ address_high ∷ offset_high ∷ opcode_high ∷ immediate_high ∷ []
inputs_for compared_only = six ∷ six_panics ∷ six_in_link ∷ seven ∷ eight ∷ nine ∷ eleven ∷ twelve ∷ []
inputs_for one_refusable = two_refusable ∷ []
inputs_for five_not_text = five_by_text ∷ []
inputs_for five_no_map = five_with_map ∷ []
inputs_for map_alone = not_alone ∷ []
inputs_for call_below = call_at_top ∷ []
inputs_for reference_below = reference_at_top ∷ []
inputs_for callees_differ = one_address ∷ []
inputs_for function_count = functions_miscounted ∷ []
inputs_for line_count = lines_miscounted ∷ []
