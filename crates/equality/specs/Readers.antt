-- Demand 2 of the record readers: the domain, clause by clause, in which the rows that ours write are the crate's encoded bytes.
-- Assumes nothing.
use Rattle.std.specs.Prelude.{◌≡◌, ◌≢◌, List, ℕ, ◌*◌, ◌%◌, ◌≤◌, ◌<◌, length, take}
use Rattle.rules.specs.declared.Table.{Table}
use Rattle.rules.specs.declared.Table.TheVariants.{FuncInfo, LineInfo}
use Rattle.rules.specs.Bytes.{Order, AreBytes, u32_at, padded}
use Rattle.rules.specs.Answers.{reply}
use Rattle.rules.specs.Tables.{FunctionRecord, LineRecord}
use Rattle.rules.specs.Rows.{row_size, rows_of, func_info_row, line_info_row}
use Rattle.rules.specs.Readers.{Info, Read, read_records}
use Rattle.equality.specs.Crate.{Result, ok}
use Rattle.equality.specs.Info.{SecInfo, parse_func, parse_line, crate_func_info_bytes, crate_line_info_bytes}

-- function records and line records
pub data Records : Type 0 where
  func line : Records

abbrev pub table_of : Records → Table
table_of func = FuncInfo
table_of line = LineInfo

abbrev pub RecordOf : Records → Type 0
RecordOf func = FunctionRecord
RecordOf line = LineRecord

-- the crate's: `parse` of an object of that order, and the bytes on a host of that order
abbrev pub crate_reads : (t : Records) → Order → Info → Result (SecInfo (RecordOf t))
crate_reads func endianness info = parse_func info.count info.size info.bytes endianness
crate_reads line endianness info = parse_line info.count info.size info.bytes endianness

abbrev pub crate_bytes : (t : Records) → Order → List (RecordOf t) → List ℕ
crate_bytes func host records = crate_func_info_bytes host records
crate_bytes line host records = crate_line_info_bytes host records

-- bytes as table 7 or 8, read as `tables_of` reads it
abbrev pub read_table : (t : Records) → Order → List ℕ → List (RecordOf t)
read_table func order bytes = rows_of FuncInfo (func_info_row order bytes) bytes
read_table line order bytes = rows_of LineInfo (line_info_row order bytes) bytes

-- the domain's clauses, by name
pub data ReaderClause : Type 0 where
  record_size whole_data on_the_grid has_room : ReaderClause

-- "14 if the size is below 8 (function) or 16 (line)"
abbrev pub least_size : Records → ℕ
least_size func = 8
least_size line = 16

abbrev pub ReaderHolds : ReaderClause → Records → Order → Info → ℕ → Type 0
ReaderHolds record_size t order info room = least_size t ≤ info.size
-- "count × size differs from the data length"
ReaderHolds whole_data t order info room = info.count * info.size ≡ length info.bytes
-- "or a byte offset is not a multiple of 8"
ReaderHolds on_the_grid t order info room = (k : ℕ) → k < info.count → u32_at order info.bytes (info.size * k) % 8 ≡ 0
-- "11 if it is too short": the crate allocates
ReaderHolds has_room t order info room = info.count * row_size (table_of t) ≤ room

-- those that are asked hold; and bytes are bytes
pub record ReaderWithin (Asked : ReaderClause → Type 0) (t : Records) (order : Order) (info : Info) (room : ℕ) : Type 0 where
  pub bytes : AreBytes info.bytes
  pub holds : (c : ReaderClause) → Asked c → ReaderHolds c t order info room

abbrev pub ReaderDomain : Records → Order → Info → ℕ → Type 0
ReaderDomain = ReaderWithin (λ c. Unit {0})

abbrev pub ReaderExcept : ReaderClause → Records → Order → Info → ℕ → Type 0
ReaderExcept x = ReaderWithin (λ c. c ≢ x)

-- the crate reads, and what ours wrote is the crate's encoded bytes
pub record SameRecords (t : Records) (order : Order) (room : ℕ) (r : Read) (o : Result (SecInfo (RecordOf t))) : Type 0 where
  pub sec_info : SecInfo (RecordOf t)
  pub is_ok : o ≡ ok sec_info
  -- `num_info` is the count of its records, and the count that our places say
  pub num : sec_info.num_info ≡ length sec_info.info
  pub replied : r.reply ≡ reply 0 sec_info.num_info 0 0
  pub written : r.out ≡ padded room (crate_bytes t order sec_info.info)
  -- offered as table 7 or 8, those rows are the crate's records
  pub offered : read_table t order (take (row_size (table_of t) * sec_info.num_info) r.out) ≡ sec_info.info

-- demand 2 of the readers, over the clauses that are asked, on a host of the data's order
abbrev pub EqualRecords : (ReaderClause → Type 0) → Records → Type 0
EqualRecords Asked t =
    (order : Order) (info : Info) (room : ℕ) → ReaderWithin Asked t order info room
    → SameRecords t order room (read_records order (table_of t) info room) (crate_reads t order info)
