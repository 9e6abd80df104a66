-- A record of an image against its source record, over the bytes of tables 7 and 8.
-- Assumes nothing.
use Rattle.std.specs.Prelude.{◌≡◌, Bool, cond, ◌&&◌, List, ℕ, zero, suc, ◌+◌, ◌-◌, ◌*◌, ◌≤◌, ◌<◌, leb, ltb, length}
use Rattle.std.proofs.Math.Option.{Option, none, some}
use Rattle.rules.specs.declared.Table.{Table}
use Rattle.rules.specs.declared.Table.TheVariants.{Functions, FuncInfo, LineInfo}
use Rattle.rules.specs.Bytes.{little}
use Rattle.rules.specs.Answers.{Reply, reply}
use Rattle.rules.specs.Tables.{FunctionRecord, LineRecord}
use Rattle.rules.specs.Records.{started_at, rebased}
use Rattle.rules.specs.Rows.{row_size, most_rows, most_image_functions, most_image_lines, whole_rows, table_number, or_else, record_slot, func_info_row, line_info_row, function_slots, function_func_info, function_line_info}
use Rattle.rules.specs.Examine.{same_function_record, same_line_record, first_wrong}
use Rattle.merge.specs.declared.Used.{Used}
use Rattle.examine.specs.declared.records.FuncRecord as read
use Rattle.examine.specs.declared.records.LineRecord as read_line
use Rattle.merge.specs.Merge.{PartBegins, Lined, stray_in}

-- a record as code has it
abbrev pub func_read : read.FuncRecord → FunctionRecord
func_read r = record { slot = r.slot; kind = r.kind }

abbrev pub line_read : read_line.LineRecord → LineRecord
line_read r = record { slot = r.slot; file = r.file; line = r.line; column = r.column }

-- a record as piece k should have it, "the first piece's unchanged, later ones as appended"
abbrev pub func_of : ℕ → ℕ → FunctionRecord → FunctionRecord
func_of zero start r = r
func_of (suc k) start r = started_at start r

abbrev pub line_of : ℕ → ℕ → ℕ → LineRecord → LineRecord
line_of zero origin start l = l
line_of (suc k) origin start l = rebased origin start l

-- record j of piece k, by a test that says whether it is record `at` + j of n
abbrev pub record_wrong : ℕ → ℕ → ℕ → ℕ → (ℕ → Bool) → ℕ → Option Reply
record_wrong number k n at test j = cond (ltb (at + j) n && test j) none (some (reply number k j (at + j)))

-- a test that answers as some code does, of those records
abbrev pub Decides : (ℕ → ℕ → Bool → Type 0) → ℕ → ℕ → ℕ → (ℕ → Bool) → Type 0
Decides answers count n at test = (j : ℕ) → j < count → at + j < n → (b : Bool) → answers j (at + j) b → b ≡ test j

-- record j of piece k, of those from `first` on in table 7 or 8, should be record `at` + j of the image
unfoldable pub func_wrong : List ℕ → ℕ → List ℕ → ℕ → ℕ → ℕ → ℕ → Option Reply
func_wrong func_info first shown at k start j =
    cond (ltb (at + j) (whole_rows FuncInfo shown)
    && same_function_record (func_info_row little shown (at + j)) (func_of k start (func_info_row little func_info (first + j))))
    none (some (reply 42 k j (at + j)))

unfoldable pub line_wrong : List ℕ → ℕ → List ℕ → ℕ → ℕ → ℕ → ℕ → Option Reply
line_wrong line_info first shown at k start j =
    cond (ltb (at + j) (whole_rows LineInfo shown)
    && same_line_record (line_info_row little shown (at + j))
    (line_of k (record_slot little LineInfo line_info first) start (line_info_row little line_info (first + j))))
    none (some (reply 43 k j (at + j)))

abbrev pub stray_reply : ℕ → Option ℕ → Option Reply
stray_reply row none = none
stray_reply row (some j) = some (reply 12 row j 0)

abbrev pub stray_of : ℕ → ℕ → Option ℕ → Option Reply
stray_of zero row found = none
stray_of (suc k) row found = stray_reply row found

-- a record that can be moved: the difference is one, and the sum a u32
abbrev pub Movable : ℕ → ℕ → ℕ → LineRecord → Type 0
Movable zero origin start l = Unit {0}
Movable (suc k) origin start l = (origin ≤ l.slot) × (start + (l.slot - origin) < 0x1_0000_0000)

-- 44, of one table: more records than belong to the pieces
abbrev pub over : Table → List ℕ → ℕ → Option Reply
over table t most = cond (leb (whole_rows table t) most) none (some (reply 44 (table_number table) most 0))

-- records inside their table, and a place in the image
pub record Funcs (func_info : List ℕ) (first count at : ℕ) : Type 0 where
  pub inside : row_size FuncInfo * (first + count) ≤ length func_info
  pub few : first + count ≤ most_rows FuncInfo
  pub low : at ≤ most_image_functions

pub record Lines (line_info : List ℕ) (first count at k start : ℕ) : Type 0 where
  pub inside : row_size LineInfo * (first + count) ≤ length line_info
  pub few : first + count ≤ most_rows LineInfo
  pub low : at ≤ most_image_lines
  pub movable : (j : ℕ) → j < count → Movable k (record_slot little LineInfo line_info first) start (line_info_row little line_info (first + j))

-- a row's line records, few enough to number
pub record Strays (functions line_info : List ℕ) (row first : ℕ) : Type 0 where
  pub lined : Lined functions line_info row first
  pub few_rows : row < most_rows Functions
  pub few : function_line_info functions row ≤ most_rows LineInfo

-- the records of a piece of that row, whose parts of tables 7 and 8 begin there: function records, 12, line records
unfoldable pub records_wrong : List ℕ → List ℕ → List ℕ → List ℕ → List ℕ → ℕ → ℕ → ℕ → Used → ℕ → ℕ → Option Reply
records_wrong functions func_info line_info shownFuncs shownLines k row start part funcs lines =
    or_else (first_wrong (func_wrong func_info part.funcs shownFuncs funcs k start) 0 (function_func_info functions row))
    (or_else (stray_of k row (stray_in functions line_info row))
    (first_wrong (line_wrong line_info part.lines shownLines lines k start) 0 (function_line_info functions row)))

-- a row with its part of tables 7 and 8, a piece that starts and ends below 2^32, and places in the image
pub record Recorded (functions func_info line_info : List ℕ) (row start : ℕ) (part : Used) (funcs lines : ℕ) : Type 0 where
  pub is_row : row < whole_rows Functions functions
  pub few_rows : row < most_rows Functions
  pub begins : PartBegins functions row part
  pub funcs_inside : row_size FuncInfo * (part.funcs + function_func_info functions row) ≤ length func_info
  pub lines_inside : row_size LineInfo * (part.lines + function_line_info functions row) ≤ length line_info
  pub few_funcs : length func_info ≤ row_size FuncInfo * most_rows FuncInfo
  pub few_lines : length line_info ≤ row_size LineInfo * most_rows LineInfo
  pub ends : start + function_slots functions row < 0x1_0000_0000
  pub funcs_low : funcs ≤ most_image_functions
  pub lines_low : lines ≤ most_image_lines
