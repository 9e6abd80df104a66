-- What a reader writes, read back as rows, is each record's offset / 8 and its other fields; rows of records without a tail give the data back.
-- Assumes nothing.
use mathlib.Core.Path.{◌≡◌, refl, sym, ap, ◌∙◌}
use mathlib.Core.Bool.{true}
use mathlib.Core.List.{List, [], ◌∷◌, ◌++◌}
use Prim.Native.Nat.{ℕ, zero, suc, ◌+◌, ◌-◌, ◌*◌, ◌/◌, ◌≤◌, ◌<◌}
use native.Mathlib.Omega.{arith}
use native.Mathlib.Nat.{add-zero, zero-add, add_assoc, mul-zero, mul-suc, mul_comm}
use lib.ListN.{length, take, drop, get_or, replicate, length-take, length-drop, get_or-append}
use lib.Seq.{get_or-take, get_or-drop, get_or-append-add, drop-drop, take-add, take-length, ext_get_or}
use Rattle.rules.specs.declared.Table.{Table}
use Rattle.rules.specs.declared.Table.TheVariants.{FuncInfo, LineInfo}
use Rattle.rules.specs.Bytes.{Order, little, big, byte_at, u32_at, bytes4, padded, AreBytes}
use Rattle.rules.specs.Rows.{row_size, record_slot, record_type, record_file, record_line, record_column}
use Rattle.rules.specs.Readers.{Info, is_whole, row_of_record, rows_of_records}
use Rattle.rules.proofs.Writing.{length_bytes4, u32_same}
use Rattle.rules.proofs.Rounds.{number4_of, bytes4_at, from_part}
use Rattle.info.proofs.Whole.{one_more_fits, whole_size, whole_length, whole_grid, whole_within}
use Rattle.info.proofs.Written.{Within, rest_length, row_length, rows_length, row_size_least}

-- the four bytes of a number are read back
first_number : (order : Order) (n : ℕ) (rest : List ℕ) → u32_at order (bytes4 order n ++ rest) 0 ≡ n
unfolding u32_at
first_number little n rest = number4_of little n
first_number big n rest = number4_of big n

-- a reader's output reads as its rows
zeros_at : (n k : ℕ) → ◌≡◌ {A = ℕ} (get_or (replicate n 0) k 0) 0
zeros_at zero k = refl
zeros_at (suc n) zero = refl
zeros_at (suc n) (suc k) = zeros_at n k

past_end : (bytes : List ℕ) (n k : ℕ) → byte_at (bytes ++ replicate n 0) k ≡ byte_at bytes k
past_end [] n k = zeros_at n k
past_end (b ∷ bytes) n zero = refl
past_end (b ∷ bytes) n (suc k) = past_end bytes n k

pub padded_reads : (order : Order) (room : ℕ) (bytes : List ℕ) (at : ℕ) → u32_at order (padded room bytes) at ≡ u32_at order bytes at
unfolding padded
padded_reads order room bytes at = u32_same order bytes (padded room bytes) at at (λ j m. past_end bytes (room - length bytes) (at + j))

module _ (order : Order) (table : Table) (info : Info) (within : Within table info) where
  -- byte j of row i is byte j of that record's row
  row_byte : (k n i j : ℕ) → k + n ≤ info.count → i < n → j < row_size table
      → byte_at (rows_of_records order table info k n) (row_size table * i + j) ≡ byte_at (row_of_record order table info (k + i)) j
  row_byte k zero i j h l m = absurd (omega arith)
  row_byte k (suc n) zero j h l m =
      let e : row_size table * 0 + j ≡ j = omega (arith, mul-zero (row_size table)) in
      ap (byte_at (rows_of_records order table info k (suc n))) e
      ∙ get_or-append (row_of_record order table info k) (rows_of_records order table info (suc k) n) 0 j (omega (arith, row_length order table info within k (omega arith)))
      ∙ ap (λ (r : ℕ). byte_at (row_of_record order table info r) j) (sym (add-zero k))
  row_byte k (suc n) (suc i) j h l m =
      let e : row_size table * suc i + j ≡ length (row_of_record order table info k) + (row_size table * i + j) =
      omega (arith, row_length order table info within k (omega arith), mul-suc (row_size table) i) in
      let s : suc k + i ≡ k + suc i = omega arith in
      ap (byte_at (rows_of_records order table info k (suc n))) e
      ∙ get_or-append-add (row_of_record order table info k) (rows_of_records order table info (suc k) n) (row_size table * i + j) 0
      ∙ row_byte (suc k) n i j (omega arith) (omega arith) m
      ∙ ap (λ (r : ℕ). byte_at (row_of_record order table info r) j) s

  -- past its slot a row is its record
  rest_byte : (k j : ℕ) → j < row_size table → 4 ≤ j → byte_at (row_of_record order table info k) j ≡ byte_at info.bytes (info.size * k + j)
  rest_byte k j m g =
      let e : j ≡ length (bytes4 order (u32_at order info.bytes (info.size * k) / 8)) + (j - 4) = omega (arith, length_bytes4 order (u32_at order info.bytes (info.size * k) / 8)) in
      let s : info.size * k + 4 + (j - 4) ≡ info.size * k + j = omega arith in
      ap (byte_at (row_of_record order table info k)) e
      ∙ get_or-append-add (bytes4 order (u32_at order info.bytes (info.size * k) / 8)) (take (row_size table - 4) (drop (info.size * k + 4) info.bytes)) (j - 4) 0
      ∙ get_or-take (row_size table - 4) (drop (info.size * k + 4) info.bytes) (j - 4) 0 (omega arith)
      ∙ get_or-drop (info.size * k + 4) info.bytes (j - 4) 0
      ∙ ap (byte_at info.bytes) s

  module _ (k : ℕ) (l : k < info.count) where
    at_row : (j : ℕ) → j < row_size table → byte_at (rows_of_records order table info 0 info.count) (row_size table * k + j) ≡ byte_at (row_of_record order table info k) j
    at_row j m = row_byte 0 info.count k j (omega arith) l m ∙ ap (λ (r : ℕ). byte_at (row_of_record order table info r) j) (zero-add k)

    past_slot : (j : ℕ) → j < row_size table → 4 ≤ j
        → byte_at (rows_of_records order table info 0 info.count) (row_size table * k + j) ≡ byte_at info.bytes (info.size * k + j)
    past_slot j m g = at_row j m ∙ rest_byte k j m g

    pub slot_back : record_slot order table (rows_of_records order table info 0 info.count) k ≡ u32_at order info.bytes (info.size * k) / 8
    unfolding record_slot
    slot_back =
        u32_same order (row_of_record order table info k) (rows_of_records order table info 0 info.count) 0 (row_size table * k)
        (λ j m. at_row j (omega (arith, row_size_least table)) ∙ ap (byte_at (row_of_record order table info k)) (sym (zero-add j)))
        ∙ first_number order (u32_at order info.bytes (info.size * k) / 8) (take (row_size table - 4) (drop (info.size * k + 4) info.bytes))

    -- the u32 at a place past the slot
    pub field_back : (at : ℕ) → 4 ≤ at → at + 4 ≤ row_size table
        → u32_at order (rows_of_records order table info 0 info.count) (row_size table * k + at) ≡ u32_at order info.bytes (info.size * k + at)
    field_back at g h =
        u32_same order info.bytes (rows_of_records order table info 0 info.count) (info.size * k + at) (row_size table * k + at)
        (λ j m. ap (byte_at (rows_of_records order table info 0 info.count)) (add_assoc (row_size table * k) at j)
        ∙ past_slot (at + j) (omega arith) (omega arith) ∙ ap (byte_at info.bytes) (sym (add_assoc (info.size * k) at j)))

-- struct bpf_func_info: type_id
pub type_back : (order : Order) (info : Info) → Within FuncInfo info → (k : ℕ) → k < info.count
    → record_type order (rows_of_records order FuncInfo info 0 info.count) k ≡ u32_at order info.bytes (info.size * k + 4)
unfolding record_type
type_back order info within k l = field_back order FuncInfo info within k l 4 (omega arith) (omega arith)

-- struct bpf_line_info: file_name_off, line_off, line_col
module _ (order : Order) (info : Info) (within : Within LineInfo info) (k : ℕ) (l : k < info.count) where
  pub file_back : record_file order (rows_of_records order LineInfo info 0 info.count) k ≡ u32_at order info.bytes (info.size * k + 4)
  unfolding record_file
  file_back = field_back order LineInfo info within k l 4 (omega arith) (omega arith)

  pub line_back : record_line order (rows_of_records order LineInfo info 0 info.count) k ≡ u32_at order info.bytes (info.size * k + 8)
  unfolding record_line
  line_back = field_back order LineInfo info within k l 8 (omega arith) (omega arith)

  pub column_back : record_column order (rows_of_records order LineInfo info 0 info.count) k ≡ u32_at order info.bytes (info.size * k + 12)
  unfolding record_column
  column_back = field_back order LineInfo info within k l 12 (omega arith) (omega arith)

-- ---- rows to data: row k with its slot as a byte offset again
abbrev pub record_of_row : Order → Table → List ℕ → ℕ → List ℕ
record_of_row order table rows k = bytes4 order (8 * record_slot order table rows k) ++ take (row_size table - 4) (drop (row_size table * k + 4) rows)

abbrev pub records_of_rows : Order → Table → List ℕ → ℕ → ℕ → List ℕ
records_of_rows order table rows k zero = []
records_of_rows order table rows k (suc n) = record_of_row order table rows k ++ records_of_rows order table rows (suc k) n

pub whole_rows_lem : (order : Order) (table : Table) (info : Info) → is_whole order table info ≡ true → Within table info
whole_rows_lem order table info whole k l = omega (arith, whole_size order table info whole, whole_within order table info whole k l)

-- data whose records have no tail
module _ (order : Order) (table : Table) (info : Info) (whole : is_whole order table info ≡ true) (are : AreBytes info.bytes) (no-tail : info.size ≡ row_size table) where
  abbrev rows : List ℕ
  rows = rows_of_records order table info 0 info.count

  module _ (k : ℕ) (l : k < info.count) where
    ends : info.size * k + row_size table ≤ length info.bytes
    ends = whole_rows_lem order table info whole k l

    offset_back : bytes4 order (8 * record_slot order table rows k) ≡ take 4 (drop (info.size * k) info.bytes)
    offset_back =
        let p = info.size * k in
        let e : 8 * record_slot order table rows k ≡ u32_at order info.bytes p =
        omega (arith, slot_back order table info (whole_rows_lem order table info whole) k l, whole_grid order table info whole k l) in
        let e₁ : p + 1 ≡ suc p = omega arith in
        let e₂ : p + 2 ≡ suc (suc p) = omega arith in
        let e₃ : p + 3 ≡ suc (suc (suc p)) = omega arith in
        ap (bytes4 order) e ∙ bytes4_at order info.bytes are p
        ∙ rw (e₁, e₂, e₃) (from_part order info.bytes are 4 p (omega (arith, ends, row_size_least table)))

    rest_back : take (row_size table - 4) (drop (row_size table * k + 4) rows) ≡ take (row_size table - 4) (drop (info.size * k + 4) info.bytes)
    rest_back = ext_get_or 0 _ _ (long ∙ sym (rest_length order table info (whole_rows_lem order table info whole) k l)) (λ j m. each j (omega (arith, long)))
      where
        long : length (take (row_size table - 4) (drop (row_size table * k + 4) rows)) ≡ row_size table - 4
        long = simp (length-take, length-drop, rows_length order table info (whole_rows_lem order table info whole) 0 info.count (omega arith))
            (omega (arith, one_more_fits (row_size table) k info.count l, mul_comm info.count (row_size table)))

        each : (j : ℕ) → j < row_size table - 4
            → get_or (take (row_size table - 4) (drop (row_size table * k + 4) rows)) j 0 ≡ get_or (take (row_size table - 4) (drop (info.size * k + 4) info.bytes)) j 0
        each j m =
            get_or-take (row_size table - 4) (drop (row_size table * k + 4) rows) j 0 m ∙ get_or-drop (row_size table * k + 4) rows j 0
            ∙ ap (byte_at rows) (add_assoc (row_size table * k) 4 j)
            ∙ past_slot order table info (whole_rows_lem order table info whole) k l (4 + j) (omega arith) (omega arith)
            ∙ ap (byte_at info.bytes) (sym (add_assoc (info.size * k) 4 j))
            ∙ sym (get_or-take (row_size table - 4) (drop (info.size * k + 4) info.bytes) j 0 m ∙ get_or-drop (info.size * k + 4) info.bytes j 0)

    pub record_of_row_lem : record_of_row order table rows k ≡ take info.size (drop (info.size * k) info.bytes)
    record_of_row_lem =
        let e : 4 + (row_size table - 4) ≡ info.size = omega (arith, row_size_least table) in
        ap (λ (x : List ℕ). x ++ take (row_size table - 4) (drop (row_size table * k + 4) rows)) offset_back
        ∙ ap (λ (x : List ℕ). take 4 (drop (info.size * k) info.bytes) ++ x) (rest_back ∙ ap (take (row_size table - 4)) (sym (drop-drop 4 (info.size * k) info.bytes)))
        ∙ sym (take-add 4 (row_size table - 4) (drop (info.size * k) info.bytes))
        ∙ ap (λ (n : ℕ). take n (drop (info.size * k) info.bytes)) e

  records_of_rows_lem : (k n : ℕ) → k + n ≤ info.count → records_of_rows order table rows k n ≡ take (info.size * n) (drop (info.size * k) info.bytes)
  records_of_rows_lem k zero h = ap (λ (n : ℕ). take n (drop (info.size * k) info.bytes)) (sym (mul-zero info.size))
  records_of_rows_lem k (suc n) h =
      let e : info.size + info.size * n ≡ info.size * suc n = omega (arith, mul-suc info.size n) in
      ap (λ (x : List ℕ). x ++ records_of_rows order table rows (suc k) n) (record_of_row_lem k (omega arith))
      ∙ ap (λ (x : List ℕ). take info.size (drop (info.size * k) info.bytes) ++ x)
      (records_of_rows_lem (suc k) n (omega arith)
      ∙ ap (take (info.size * n)) (ap (λ (m : ℕ). drop m info.bytes) (mul-suc info.size k) ∙ sym (drop-drop info.size (info.size * k) info.bytes)))
      ∙ sym (take-add info.size (info.size * n) (drop (info.size * k) info.bytes))
      ∙ ap (λ (m : ℕ). take m (drop (info.size * k) info.bytes)) e

  -- the rows determine the data
  pub data_of_rows : records_of_rows order table rows 0 info.count ≡ info.bytes
  data_of_rows =
      records_of_rows_lem 0 info.count (omega arith)
      ∙ ap (λ (m : ℕ). take (info.size * info.count) (drop m info.bytes)) (mul-zero info.size)
      ∙ ap (λ (m : ℕ). take m info.bytes) (mul_comm info.size info.count ∙ whole_length order table info whole)
      ∙ take-length info.bytes
