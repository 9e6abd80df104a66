-- One function added to an image: the bytes that its row of table 3 stands for in tables 6, 7 and 8, and what they become.
-- Assumes nothing.
use Rattle.std.specs.Prelude.{◌≡◌, Bool, true, ◌&&◌, List, map, ℕ, ◌+◌, ◌-◌, ◌*◌, ◌≤◌, ◌<◌, leb, ltb, length, take, drop}
use Rattle.std.proofs.Math.Option.{Option, none}
use Rattle.rules.specs.declared.Table.TheVariants.{Functions, Instructions, FuncInfo, LineInfo}
use Rattle.rules.specs.Bytes.{little, splice}
use Rattle.rules.specs.Link.{run}
use Rattle.rules.specs.Tables.{FunctionRecord, LineRecord}
use Rattle.rules.specs.declared.Image.{Image}
use Rattle.rules.specs.Lent.{Buffers}
use Rattle.rules.specs.Rows.{row_size, most_rows, whole_rows, Offered, function_slots, function_func_info, function_line_info, record_slot, func_info_row, line_info_row, summed}
use Rattle.rules.specs.Records.{Room, started_at, rebased, first_slot, stray}
use Rattle.rules.specs.Entries.{func_info_bytes, line_info_bytes, room_in}
use Rattle.merge.specs.declared.Used.{Used}

-- the records from there on, as many as that
abbrev pub funcs_from : List ℕ → ℕ → ℕ → List FunctionRecord
funcs_from func_info = run (func_info_row little func_info)

abbrev pub lines_from : List ℕ → ℕ → ℕ → List LineRecord
lines_from line_info = run (line_info_row little line_info)

-- "Appended line records become start + (slot − slot of that function's first line record)"
abbrev pub moved : ℕ → List LineRecord → List LineRecord
moved start ls = map (rebased (first_slot ls) start) ls

unfoldable pub slot_bytes : List ℕ → List ℕ → ℕ → List ℕ
slot_bytes functions instructions row = take (row_size Instructions * function_slots functions row) (drop (row_size Instructions * summed (function_slots functions) 0 row) instructions)

abbrev pub func_rows : List ℕ → List ℕ → ℕ → List FunctionRecord
func_rows functions func_info row = funcs_from func_info (summed (function_func_info functions) 0 row) (function_func_info functions row)

abbrev pub line_rows : List ℕ → List ℕ → ℕ → List LineRecord
line_rows functions line_info row = lines_from line_info (summed (function_line_info functions) 0 row) (function_line_info functions row)

-- "Appended function records all get the start as slot"
unfoldable pub func_bytes : List ℕ → List ℕ → ℕ → ℕ → List ℕ
func_bytes functions func_info row start = func_info_bytes little (map (started_at start) (func_rows functions func_info row))

unfoldable pub line_bytes : List ℕ → List ℕ → ℕ → ℕ → List ℕ
line_bytes functions line_info row start = line_info_bytes little (moved start (line_rows functions line_info row))

-- "12 if that difference is negative or not below the function's slots": a record that it does not refuse
abbrev pub stays : ℕ → ℕ → LineRecord → Bool
stays slots origin l = leb origin l.slot && ltb (l.slot - origin) slots

-- "12 if that difference is negative or not below the function's slots": the first such record
abbrev pub stray_in : List ℕ → List ℕ → ℕ → Option ℕ
stray_in functions line_info row = stray (function_slots functions row) (first_slot (line_rows functions line_info row)) 0 (line_rows functions line_info row)

pub record Counts (slots funcs lines : ℕ) (used : Used) : Type 0 where
  pub slots_are : used.slots ≡ slots
  pub funcs_are : used.funcs ≡ funcs
  pub lines_are : used.lines ≡ lines

-- two of them together, which a u32 holds each
abbrev pub sum : Used → Used → Used
sum a b = record { slots = a.slots + b.slots; funcs = a.funcs + b.funcs; lines = a.lines + b.lines }

pub record Addable (a b : Used) : Type 0 where
  pub few_slots : a.slots + b.slots < 0x1_0000_0000
  pub few_funcs : a.funcs + b.funcs < 0x1_0000_0000
  pub few_lines : a.lines + b.lines < 0x1_0000_0000

-- what a row of table 3 counts, and what the rows before it do
abbrev pub RowCounts : List ℕ → ℕ → Used → Type 0
RowCounts functions row = Counts (function_slots functions row) (function_func_info functions row) (function_line_info functions row)

abbrev pub PartBegins : List ℕ → ℕ → Used → Type 0
PartBegins functions row = Counts (summed (function_slots functions) 0 row) (summed (function_func_info functions) 0 row) (summed (function_line_info functions) 0 row)

-- the rows before this one count what a u32 holds
pub record Sums (functions : List ℕ) (row : ℕ) : Type 0 where
  pub in_table : row ≤ whole_rows Functions functions
  pub few_slots : summed (function_slots functions) 0 row < 0x1_0000_0000
  pub few_funcs : summed (function_func_info functions) 0 row < 0x1_0000_0000
  pub few_lines : summed (function_line_info functions) 0 row < 0x1_0000_0000

-- a row whose parts stand inside tables 6, 7 and 8, none of which has too many rows
pub record Parts (o : Offered) (row : ℕ) : Type 0 where
  pub is_row : row < whole_rows Functions o.functions
  pub slots_inside : row_size Instructions * (summed (function_slots o.functions) 0 row + function_slots o.functions row) ≤ length o.instructions
  pub funcs_inside : row_size FuncInfo * (summed (function_func_info o.functions) 0 row + function_func_info o.functions row) ≤ length o.func_info
  pub lines_inside : row_size LineInfo * (summed (function_line_info o.functions) 0 row + function_line_info o.functions row) ≤ length o.line_info
  pub few_slots : length o.instructions ≤ row_size Instructions * most_rows Instructions
  pub few_funcs : length o.func_info ≤ row_size FuncInfo * most_rows FuncInfo
  pub few_lines : length o.line_info ≤ row_size LineInfo * most_rows LineInfo

-- "room for instructions, function records, line records", for outputs of so many bytes that hold so much
abbrev pub room_of : ℕ → ℕ → ℕ → Room
room_of image funcs lines = room_in (record { image = image; func_info = funcs; line_info = lines })

unfoldable pub room_bytes : List ℕ → ℕ → ℕ → ℕ → Used → ℕ → Bool
room_bytes functions image funcs lines used row =
    leb (used.slots + function_slots functions row) (room_of image funcs lines).slots
    && (leb (used.funcs + function_func_info functions row) (room_of image funcs lines).functions
    && leb (used.lines + function_line_info functions row) (room_of image funcs lines).lines)

-- a row whose line records begin there and stand inside table 8
pub record Lined (functions line_info : List ℕ) (row first : ℕ) : Type 0 where
  pub is_row : row < whole_rows Functions functions
  pub begins : first ≡ summed (function_line_info functions) 0 row
  pub inside : row_size LineInfo * (first + function_line_info functions row) ≤ length line_info

-- records of that many bytes, in their table and in an output
pub record Copyable (size : ℕ) (table : List ℕ) (first count : ℕ) (out : List ℕ) (at : ℕ) : Type 0 where
  pub inside : size * (first + count) ≤ length table
  pub room : size * (at + count) ≤ length out

-- line record k does not stray: the difference is one, and the sum a u32
pub record Nearby (line_info : List ℕ) (first start k : ℕ) : Type 0 where
  pub low : record_slot little LineInfo line_info first ≤ record_slot little LineInfo line_info (first + k)
  pub sum : start + (record_slot little LineInfo line_info (first + k) - record_slot little LineInfo line_info first) < 0x1_0000_0000

abbrev pub Near : List ℕ → ℕ → ℕ → ℕ → Type 0
Near line_info first count start = (k : ℕ) → k < count → Nearby line_info first start k

-- the same three outputs, whatever they hold
pub record SameOutputs (image image' : Image) : Type 0 where
  pub slots_same : image'.slots.ghost_name ≡ image.slots.ghost_name
  pub funcs_same : image'.func_info.ghost_name ≡ image.func_info.ghost_name
  pub lines_same : image'.line_info.ghost_name ≡ image.line_info.ghost_name

pub record Extends (o : Offered) (b : Buffers) (used : Used) (row : ℕ) (part : Used) : Type 0 where
  pub parts : Parts o row
  pub begins : PartBegins o.functions row part
  pub room : room_bytes o.functions (length b.image) (length b.funcs) (length b.lines) used row ≡ true
  pub no_stray : stray_in o.functions o.line_info row ≡ none

pub record Extended (o : Offered) (b b' : Buffers) (used : Used) (row : ℕ) (used' : Used) : Type 0 where
  pub image_is : b'.image ≡ splice b.image (row_size Instructions * used.slots) (slot_bytes o.functions o.instructions row)
  pub funcs_is : b'.funcs ≡ splice b.funcs (row_size FuncInfo * used.funcs) (func_bytes o.functions o.func_info row used.slots)
  pub lines_is : b'.lines ≡ splice b.lines (row_size LineInfo * used.lines) (line_bytes o.functions o.line_info row used.slots)
  pub counts :
      Counts (used.slots + function_slots o.functions row) (used.funcs + function_func_info o.functions row)
      (used.lines + function_line_info o.functions row) used'

abbrev pub unused : Used
unused = record { slots = 0; funcs = 0; lines = 0 }

pub record Begins (o : Offered) (b : Buffers) (row : ℕ) (part : Used) : Type 0 where
  pub parts : Parts o row
  pub begins : PartBegins o.functions row part
  pub room : room_bytes o.functions (length b.image) (length b.funcs) (length b.lines) unused row ≡ true

-- "The image starts as the root with its records unchanged"
pub record Begun (o : Offered) (b b' : Buffers) (row : ℕ) (used' : Used) : Type 0 where
  pub image_is : b'.image ≡ splice b.image 0 (slot_bytes o.functions o.instructions row)
  pub funcs_is : b'.funcs ≡ splice b.funcs 0 (func_info_bytes little (func_rows o.functions o.func_info row))
  pub lines_is : b'.lines ≡ splice b.lines 0 (line_info_bytes little (line_rows o.functions o.line_info row))
  pub counts : RowCounts o.functions row used'
