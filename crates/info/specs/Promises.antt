-- What a reader is given, and the parts of what it asks and promises, by name.
-- Assumes nothing.
use Rattle.std.specs.Prelude.{◌≡◌, true, List, [], ℕ, ◌+◌, ◌*◌, ◌≤◌, length, Result}
use Rattle.std.specs.Borrow.{Bor}
use Rattle.rules.specs.declared.Places.{Places}
use Rattle.rules.specs.declared.Refusal.{Refusal}
use Rattle.rules.specs.declared.Table.{Table}
use Rattle.rules.specs.Bytes.{little, padded}
use Rattle.rules.specs.Answers.{reply_of}
use Rattle.rules.specs.Readers.{Info, read_records, has_record, record_part}
use Rattle.info.specs.declared.RecordKind.{RecordKind}
use Rattle.info.specs.declared.RecordKind.TheVariants.{Functions, Lines}
use Rattle.rules.specs.declared.Table.TheVariants.{FuncInfo, LineInfo}
use Rattle.info.specs.declared.Records.{Records}

abbrev pub given : ℕ → ℕ → List ℕ → Info
given size count bytes = record { size = size; count = count; bytes = bytes }

-- the table whose rows records of a kind become
abbrev pub table_of : RecordKind → Table
table_of Functions = FuncInfo
table_of Lines = LineInfo

abbrev pub table_in : Records → Table
table_in records = table_of records.kind

-- what a reader of them is given
abbrev pub info_in : Records → Info
info_in records = given records.size records.count records.bytes.now

-- the answer, and what the lent output holds after it
pub record ReadAs (table : Table) (info : Info) (before after : List ℕ) (answer : Result Places Refusal) : Type 0 where
  pub reply : reply_of answer ≡ (read_records little table info (length before)).reply
  pub out : after ≡ (read_records little table info (length before)).out

-- rows can be put: each record holds one, and the output is zero and has room for all
pub record Ready (row size count : ℕ) (bytes output : List ℕ) : Type 0 where
  pub slot : 4 ≤ row
  pub record_holds : row ≤ size
  pub data_holds : count * size ≡ length bytes
  pub output_holds : count * row ≤ length output
  pub zero_before : output ≡ padded (length output) []

-- "record k, tail included, is given back as the part of the caller's data where it stands": its bytes, and its place in memory. An
-- empty part may stand anywhere
pub record GivenBack (table : Table) (info : Info) (k : ℕ) (lent part : Bor (List ℕ)) : Type 0 where
  pub bytes : part.now ≡ record_part little table info k
  pub stands : has_record little table info k ≡ true → part.ref_ptr ≡ (lent.ref_ptr.0, lent.ref_ptr.1 + info.size * k)
