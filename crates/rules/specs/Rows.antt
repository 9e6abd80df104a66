-- "The eight tables": sizes, limits, fields, when a row is broken, the totals, and the order of the refusals 1, 2 and 13.
-- Assumes nothing.
use Rattle.std.specs.Prelude.{Bool, true, false, cond, not, ◌&&◌, ◌||◌, List, [], ◌∷◌, ℕ, zero, suc, ◌+◌, ◌-◌, ◌*◌, ◌/◌, ◌%◌, ℤ, eqb, leb, ltb, length, take, drop}
use Rattle.std.proofs.Math.Option.{Option, none, some}
use Rattle.rules.specs.declared.SymbolKind as declared
use Rattle.rules.specs.declared.SymbolKind.TheVariants as coded
use Rattle.rules.specs.declared.Table.{Table}
use Rattle.rules.specs.declared.Table.TheVariants.{Code, Symbols, Functions, Relocations, Maps, Instructions, FuncInfo, LineInfo}
use Rattle.rules.specs.Link.{run}
use Rattle.rules.specs.Bytes.{Order, little, slot_size, byte_at, u32_at, u64_at, signed, half32, decoded}
use Rattle.rules.specs.Answers.{Reply, reply}
use Rattle.rules.specs.Tables.{SymbolKind, other, text, section, Symbol, Function, Relocation, MapRow, FunctionRecord, LineRecord, Tables}

-- ---- sizes and limits, named once

abbrev pub table_number : Table → ℕ
table_number Code = 1
table_number Symbols = 2
table_number Functions = 3
table_number Relocations = 4
table_number Maps = 5
table_number Instructions = 6
table_number FuncInfo = 7
table_number LineInfo = 8

-- bytes of a row
abbrev pub row_size : Table → ℕ
row_size Code = 4
row_size Symbols = 24
row_size Functions = 32
row_size Relocations = 24
row_size Maps = 16
row_size Instructions = slot_size
row_size FuncInfo = 8
row_size LineInfo = 16

-- "most rows"
abbrev pub most_rows : Table → ℕ
most_rows Code = 64
most_rows Symbols = 1024
most_rows Functions = 64
most_rows Relocations = 1024
most_rows Maps = 64
most_rows Instructions = 8192
most_rows FuncInfo = 256
most_rows LineInfo = 4096

-- "Images hold at most 4,096 slots, 256 function and 4,096 line records"
abbrev pub most_image_slots : ℕ
most_image_slots = 4096

abbrev pub most_image_functions : ℕ
most_image_functions = 256

abbrev pub most_image_lines : ℕ
most_image_lines = 4096

-- "slots 1 to 4,096"
abbrev pub most_function_slots : ℕ
most_function_slots = 4096

-- "Section numbers are at most 65,535; addresses and offsets at most 2^48 − 1"
abbrev pub most_section : ℕ
most_section = 65535

abbrev pub most_address : ℕ
most_address = 0xFFFF_FFFF_FFFF

-- "FFFFFFFF hex means none"
abbrev pub none_number : ℕ
none_number = 0xFFFF_FFFF

-- "kind u8 (0 other, 1 Text, 2 Section)"
abbrev pub other_kind : ℕ
other_kind = 0

abbrev pub text_kind : ℕ
text_kind = 1

abbrev pub section_kind : ℕ
section_kind = 2

-- "has data u8 (0 or 1)"
abbrev pub with_data : ℕ
with_data = 1

-- whole rows; "a partial row counts as one"
abbrev pub whole_rows : Table → List ℕ → ℕ
whole_rows table bytes = length bytes / row_size table

abbrev pub is_partial : Table → List ℕ → Bool
is_partial table bytes = not (eqb (length bytes % row_size table) 0)

abbrev pub counted_rows : Table → List ℕ → ℕ
counted_rows table bytes = cond (is_partial table bytes) (suc (whole_rows table bytes)) (whole_rows table bytes)

-- ---- the fields of row k, by table. Tables 1 to 5 are little-endian; instructions and records are in the host's order

-- 1. number u32
unfoldable pub code_section : List ℕ → ℕ → ℕ
code_section t k = u32_at little t (row_size Code * k)

-- 2. index u32, section u32 or none, address u64, kind u8, 7 padding
unfoldable pub symbol_index : List ℕ → ℕ → ℕ
symbol_index t k = u32_at little t (row_size Symbols * k)

unfoldable pub symbol_section : List ℕ → ℕ → ℕ
symbol_section t k = u32_at little t (row_size Symbols * k + 4)

unfoldable pub symbol_address : List ℕ → ℕ → ℕ
symbol_address t k = u64_at little t (row_size Symbols * k + 8)

unfoldable pub symbol_kind : List ℕ → ℕ → ℕ
symbol_kind t k = byte_at t (row_size Symbols * k + 16)

-- 3. section u32, slots u32, address u64, section offset u64, function records u32, line records u32
unfoldable pub function_section : List ℕ → ℕ → ℕ
function_section t k = u32_at little t (row_size Functions * k)

unfoldable pub function_slots : List ℕ → ℕ → ℕ
function_slots t k = u32_at little t (row_size Functions * k + 4)

unfoldable pub function_address : List ℕ → ℕ → ℕ
function_address t k = u64_at little t (row_size Functions * k + 8)

unfoldable pub function_offset : List ℕ → ℕ → ℕ
function_offset t k = u64_at little t (row_size Functions * k + 16)

unfoldable pub function_func_info : List ℕ → ℕ → ℕ
function_func_info t k = u32_at little t (row_size Functions * k + 24)

unfoldable pub function_line_info : List ℕ → ℕ → ℕ
function_line_info t k = u32_at little t (row_size Functions * k + 28)

-- 4. section u32, symbol u32, offset u64, size u8, 7 padding
unfoldable pub relocation_section : List ℕ → ℕ → ℕ
relocation_section t k = u32_at little t (row_size Relocations * k)

unfoldable pub relocation_symbol : List ℕ → ℕ → ℕ
relocation_symbol t k = u32_at little t (row_size Relocations * k + 4)

unfoldable pub relocation_offset : List ℕ → ℕ → ℕ
relocation_offset t k = u64_at little t (row_size Relocations * k + 8)

unfoldable pub relocation_size : List ℕ → ℕ → ℕ
relocation_size t k = byte_at t (row_size Relocations * k + 16)

-- 5. section u32, symbol u32 or none, fd i32, has data u8, 3 padding
unfoldable pub map_section : List ℕ → ℕ → ℕ
map_section t k = u32_at little t (row_size Maps * k)

unfoldable pub map_symbol : List ℕ → ℕ → ℕ
map_symbol t k = u32_at little t (row_size Maps * k + 4)

unfoldable pub map_fd : List ℕ → ℕ → ℤ
map_fd t k = signed half32 (u32_at little t (row_size Maps * k + 8))

unfoldable pub map_has_data : List ℕ → ℕ → ℕ
map_has_data t k = byte_at t (row_size Maps * k + 12)

-- 7. slot u32, type u32
unfoldable pub record_slot : Order → Table → List ℕ → ℕ → ℕ
record_slot order table t k = u32_at order t (row_size table * k)

unfoldable pub record_type : Order → List ℕ → ℕ → ℕ
record_type order t k = u32_at order t (row_size FuncInfo * k + 4)

-- 8. slot, file, line, column, u32 each
unfoldable pub record_file : Order → List ℕ → ℕ → ℕ
record_file order t k = u32_at order t (row_size LineInfo * k + 4)

unfoldable pub record_line : Order → List ℕ → ℕ → ℕ
record_line order t k = u32_at order t (row_size LineInfo * k + 8)

unfoldable pub record_column : Order → List ℕ → ℕ → ℕ
record_column order t k = u32_at order t (row_size LineInfo * k + 12)

-- ---- broken rows

-- "Padding is zero"
abbrev pub all_zero : List ℕ → Bool
all_zero [] = true
all_zero (x ∷ xs) = eqb x 0 && all_zero xs

abbrev pub zero_from : List ℕ → ℕ → ℕ → Bool
zero_from t at n = all_zero (take n (drop at t))

abbrev pub is_section : ℕ → Bool
is_section s = leb s most_section

abbrev pub is_section_or_none : ℕ → Bool
is_section_or_none s = eqb s none_number || is_section s

abbrev pub is_address : ℕ → Bool
is_address a = leb a most_address

-- "strictly rising", one number or a pair. "Of rows out of order or doubled, the later is broken"
abbrev pub rises : (ℕ → ℕ) → ℕ → Bool
rises key k = eqb k 0 || ltb (key (k - 1)) (key k)

abbrev pub below : ℕ → ℕ → ℕ → ℕ → Bool
below a b c d = ltb a c || (eqb a c && ltb b d)

abbrev pub rises_pair : (ℕ → ℕ) → (ℕ → ℕ) → ℕ → Bool
rises_pair first second k = eqb k 0 || below (first (k - 1)) (second (k - 1)) (first k) (second k)

-- "no symbol twice, at most one map without a symbol per section": two rows that may not stand together
abbrev pub same_map : List ℕ → ℕ → ℕ → Bool
same_map t j k = eqb (map_symbol t j) (map_symbol t k) && (not (eqb (map_symbol t k) none_number) || eqb (map_section t j) (map_section t k))

-- some row before row k, of n to look at from row j on
abbrev pub any_from : (ℕ → Bool) → ℕ → ℕ → Bool
any_from test j zero = false
any_from test j (suc n) = test j || any_from test (suc j) n

-- row k of a table that has its own rows. Instructions and records are judged by their totals alone
unfoldable pub is_good : Table → List ℕ → ℕ → Bool
is_good Code t k = is_section (code_section t k) && rises (code_section t) k
is_good Symbols t k =
    not (eqb (symbol_index t k) none_number) && (is_section_or_none (symbol_section t k) && (is_address (symbol_address t k)
    && (leb (symbol_kind t k) section_kind && (zero_from t (row_size Symbols * k + 17) 7 && rises (symbol_index t) k))))
is_good Functions t k =
    is_section (function_section t k) && (leb 1 (function_slots t k) && (leb (function_slots t k) most_function_slots && (is_address (function_address t k)
    && (is_address (function_offset t k) && (eqb (function_offset t k % 8) 0 && rises_pair (function_section t) (function_address t) k)))))
is_good Relocations t k =
    is_section (relocation_section t k) && (not (eqb (relocation_symbol t k) none_number) && (is_address (relocation_offset t k)
    && (zero_from t (row_size Relocations * k + 17) 7 && rises_pair (relocation_section t) (relocation_offset t) k)))
is_good Maps t k =
    is_section (map_section t k) && (leb (map_has_data t k) with_data && (zero_from t (row_size Maps * k + 13) 3 && not (any_from (λ j. same_map t j k) 0 k)))
is_good Instructions t k = true
is_good FuncInfo t k = true
is_good LineInfo t k = true

-- the first of n rows, from row k on, that passes a test
abbrev pub first_from : (ℕ → Bool) → ℕ → ℕ → Option ℕ
first_from test k zero = none
first_from test k (suc n) = cond (test k) (some k) (first_from test (suc k) n)

-- ---- the tables as they are offered

pub record Offered : Type 0 where
  pub code : List ℕ
  pub symbols : List ℕ
  pub functions : List ℕ
  pub relocations : List ℕ
  pub maps : List ℕ
  pub instructions : List ℕ
  pub func_info : List ℕ
  pub line_info : List ℕ

abbrev pub bytes_of : Offered → Table → List ℕ
bytes_of o Code = o.code
bytes_of o Symbols = o.symbols
bytes_of o Functions = o.functions
bytes_of o Relocations = o.relocations
bytes_of o Maps = o.maps
bytes_of o Instructions = o.instructions
bytes_of o FuncInfo = o.func_info
bytes_of o LineInfo = o.line_info

-- "The map step takes 1 to 6, the link 1 to 4 and 6 to 8"
abbrev pub map_step_tables : List Table
map_step_tables = Code ∷ Symbols ∷ Functions ∷ Relocations ∷ Maps ∷ Instructions ∷ []

abbrev pub link_tables : List Table
link_tables = Code ∷ Symbols ∷ Functions ∷ Relocations ∷ Instructions ∷ FuncInfo ∷ LineInfo ∷ []

abbrev pub map_step_offer : List ℕ → List ℕ → List ℕ → List ℕ → List ℕ → List ℕ → Offered
map_step_offer code symbols functions relocations maps instructions = record {
  code = code;
  symbols = symbols;
  functions = functions;
  relocations = relocations;
  maps = maps;
  instructions = instructions;
  func_info = [];
  line_info = [];
}

abbrev pub link_offer : List ℕ → List ℕ → List ℕ → List ℕ → List ℕ → List ℕ → List ℕ → Offered
link_offer code symbols functions relocations instructions func_info line_info = record {
  code = code;
  symbols = symbols;
  functions = functions;
  relocations = relocations;
  maps = [];
  instructions = instructions;
  func_info = func_info;
  line_info = line_info;
}

-- ---- "Tables 6, 7, 8 hold exactly the rows that table 3 adds up to"

-- a count summed over rows k to k + n − 1
abbrev pub summed : (ℕ → ℕ) → ℕ → ℕ → ℕ
summed count k zero = 0
summed count k (suc n) = count k + summed count (suc k) n

-- what a row of table 3 counts, for the table that is added up
abbrev pub count_of : Table → List ℕ → ℕ → ℕ
count_of Instructions t k = function_slots t k
count_of FuncInfo t k = function_func_info t k
count_of LineInfo t k = function_line_info t k
count_of Code t k = 0
count_of Symbols t k = 0
count_of Functions t k = 0
count_of Relocations t k = 0
count_of Maps t k = 0

unfoldable pub total : Table → List ℕ → ℕ
total table functions = summed (count_of table functions) 0 (whole_rows Functions functions)

-- ---- refusals 1, 2 and 13

-- 1: "too many rows; a partial row counts as one"
abbrev pub is_too_many : Table → List ℕ → Bool
is_too_many table bytes = ltb (most_rows table) (counted_rows table bytes)

unfoldable pub too_many : Offered → List Table → Option Reply
too_many o [] = none
too_many o (table ∷ tables) = cond (is_too_many table (bytes_of o table)) (some (reply 1 (table_number table) 0 0)) (too_many o tables)

-- 2: "first broken or partial row": a partial row is the last
abbrev pub or_partial : Option ℕ → Bool → ℕ → Option ℕ
or_partial (some k) p rows = some k
or_partial none true rows = some rows
or_partial none false rows = none

unfoldable pub first_broken : Table → List ℕ → Option ℕ
first_broken table bytes =
    or_partial (first_from (λ k. not (is_good table bytes k)) 0 (whole_rows table bytes)) (is_partial table bytes) (whole_rows table bytes)

-- "6 to 8: wrong total"; the row is then 0
abbrev pub wrong_total : Table → Offered → Option ℕ
wrong_total table o = cond (eqb (length (bytes_of o table)) (row_size table * total table o.functions)) none (some 0)

unfoldable pub broken_in : Table → Offered → Option ℕ
broken_in Code o = first_broken Code o.code
broken_in Symbols o = first_broken Symbols o.symbols
broken_in Functions o = first_broken Functions o.functions
broken_in Relocations o = first_broken Relocations o.relocations
broken_in Maps o = first_broken Maps o.maps
broken_in Instructions o = wrong_total Instructions o
broken_in FuncInfo o = wrong_total FuncInfo o
broken_in LineInfo o = wrong_total LineInfo o

abbrev pub or_broken : Option ℕ → Table → Option Reply → Option Reply
or_broken none table later = later
or_broken (some row) table later = some (reply 2 (table_number table) row 0)

unfoldable pub broken : Offered → List Table → Option Reply
broken o [] = none
broken o (table ∷ tables) = or_broken (broken_in table o) table (broken o tables)

abbrev pub or_else : Option Reply → Option Reply → Option Reply
or_else none later = later
or_else (some r) later = some r

-- 13: "root is no row of table 3"
abbrev pub no_root : Offered → ℕ → Option Reply
no_root o root = cond (ltb root (whole_rows Functions o.functions)) none (some (reply 13 0 0 0))

-- "Order: 1 over all tables given, then 2, both by table number; then 13"
unfoldable pub map_step_refusal : Offered → Option Reply
map_step_refusal o = or_else (too_many o map_step_tables) (broken o map_step_tables)

unfoldable pub link_refusal : Offered → ℕ → Option Reply
link_refusal o root = or_else (too_many o link_tables) (or_else (broken o link_tables) (no_root o root))

-- ---- the rows, read

abbrev pub or_none : ℕ → Option ℕ
or_none n = cond (eqb n none_number) none (some n)

abbrev pub kind_of : ℕ → SymbolKind
kind_of n = cond (eqb n other_kind) other (cond (eqb n text_kind) text section)

-- as code has it
abbrev pub kind_in : declared.SymbolKind → SymbolKind
kind_in coded.Other = other
kind_in coded.Text = text
kind_in coded.Section = section

abbrev pub symbol_row : List ℕ → ℕ → Symbol
symbol_row t k = record { index = symbol_index t k; home = or_none (symbol_section t k); address = symbol_address t k; kind = kind_of (symbol_kind t k) }

abbrev pub function_row : List ℕ → ℕ → Function
function_row t k = record {
  home = function_section t k;
  slots = function_slots t k;
  address = function_address t k;
  offset = function_offset t k;
  functions = function_func_info t k;
  lines = function_line_info t k;
}

abbrev pub relocation_row : List ℕ → ℕ → Relocation
relocation_row t k = record { home = relocation_section t k; symbol = relocation_symbol t k; offset = relocation_offset t k; size = relocation_size t k }

abbrev pub map_row : List ℕ → ℕ → MapRow
map_row t k = record { home = map_section t k; symbol = or_none (map_symbol t k); fd = map_fd t k; has_data = eqb (map_has_data t k) with_data }

abbrev pub func_info_row : Order → List ℕ → ℕ → FunctionRecord
func_info_row order t k = record { slot = record_slot order FuncInfo t k; kind = record_type order t k }

abbrev pub line_info_row : Order → List ℕ → ℕ → LineRecord
line_info_row order t k = record {
  slot = record_slot order LineInfo t k;
  file = record_file order t k;
  line = record_line order t k;
  column = record_column order t k;
}

-- a table is the list of its whole rows
abbrev pub rows_of {ℓ} : {A : Type ℓ} → Table → (ℕ → A) → List ℕ → List A
rows_of table row t = run row 0 (whole_rows table t)

unfoldable pub tables_of : Order → Offered → Tables
tables_of order o = record {
  code = rows_of Code (code_section o.code) o.code;
  symbols = rows_of Symbols (symbol_row o.symbols) o.symbols;
  functions = rows_of Functions (function_row o.functions) o.functions;
  relocations = rows_of Relocations (relocation_row o.relocations) o.relocations;
  maps = rows_of Maps (map_row o.maps) o.maps;
  instructions = decoded order o.instructions;
  function_records = rows_of FuncInfo (func_info_row order o.func_info) o.func_info;
  line_records = rows_of LineInfo (line_info_row order o.line_info) o.line_info;
}
