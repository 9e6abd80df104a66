-- The crate's chunks, records and encoded bytes in the readers' domain: record by record, what `rules` says of the same data. And rows read back.
-- Assumes nothing.
use mathlib.Core.Path.{◌≡◌, refl, sym, ap, ◌∙◌}
use mathlib.Core.List.{List, [], ◌∷◌, ◌++◌, append_assoc}
use Prim.Native.Nat.{ℕ, zero, suc, ◌+◌, ◌-◌, ◌*◌, ◌/◌, ◌≤◌, ◌<◌}
use native.Mathlib.Omega.{arith}
use native.Mathlib.Nat.{zero-add, add-zero, add_assoc, mul-zero, mul-suc, mul-le-mul_left, mul_comm}
use lib.ListN.{length, take, drop, length-take, length-drop, length-append, take-append-drop}
use lib.Seq.{get_or-take, get_or-drop, get_or-append-add, drop-drop, take-add}
use borrow.Author.Tests.{le-leb, ne_eqb}
use Rattle.rules.specs.declared.Table.{Table}
use Rattle.rules.specs.declared.Table.TheVariants.{FuncInfo, LineInfo}
use Rattle.rules.specs.Link.{run}
use Rattle.rules.specs.Object.{Insn}
use Rattle.rules.specs.Bytes.{Order, little, big, byte_at, u32_at, bytes2, bytes4, unsigned, half16, half32, encode, encoded, AreBytes}
use Rattle.rules.specs.Tables.{FunctionRecord, LineRecord}
use Rattle.rules.specs.Rows.{record_slot, record_type, record_file, record_line, record_column, func_info_row, line_info_row}
use Rattle.rules.specs.Readers.{Info, row_of_record, rows_of_records}
use Rattle.rules.specs.Entries.{func_info_bytes, line_info_bytes}
use Rattle.rules.proofs.Writing.{u32_same}
use Rattle.rules.proofs.Rounds.{number4_of, bytes4_at, from_part}
use Rattle.equality.specs.Crate.{Result, ok, bind}
use Rattle.equality.specs.Info.{INS_SIZE, chunks_of, chunks, read_at, read_func_info, read_line_info, collect, bytes_of_func, bytes_of_line, put_all, crate_func_info_bytes, crate_line_info_bytes, bytes_of_insn, insn_bytes}
use Rattle.equality.specs.Readers.{func, line, read_table}

-- ---- chunks

abbrev pub chunk : ℕ → List ℕ → ℕ → List ℕ
chunk size bytes k = take size (drop (size * k) bytes)

chunks_step : (bound size : ℕ) (bytes : List ℕ) → 0 < length bytes → chunks_of (suc bound) size bytes ≡ take size bytes ∷ chunks_of bound size (drop size bytes)
chunks_step bound size [] l = absurd (omega arith)
chunks_step bound size (b ∷ bs) l = refl

chunks_none : (bound size : ℕ) (bytes : List ℕ) → length bytes ≡ 0 → chunks_of bound size bytes ≡ []
chunks_none zero size bytes e = refl
chunks_none (suc bound) size [] e = refl
chunks_none (suc bound) size (b ∷ bs) e = absurd (omega arith)

-- the bound never cuts anything off: the pieces, whole or not, are the data
abbrev joined : List (List ℕ) → List ℕ
joined [] = []
joined (c ∷ cs) = c ++ joined cs

pub chunks_join : (bound size : ℕ) (bytes : List ℕ) → 0 < size → length bytes ≤ bound → joined (chunks_of bound size bytes) ≡ bytes
chunks_join zero size [] s l = refl
chunks_join zero size (b ∷ bs) s l = absurd (omega arith)
chunks_join (suc bound) size [] s l = refl
chunks_join (suc bound) size (b ∷ bs) s l =
    ap (λ x. take size (b ∷ bs) ++ x) (chunks_join bound size (drop size (b ∷ bs)) s (omega (arith, length-drop size (b ∷ bs)))) ∙ take-append-drop size (b ∷ bs)

module _ (size count : ℕ) (bytes : List ℕ) (some_size : 0 < size) (whole : count * size ≡ length bytes) where
  pub chunk_within : (k : ℕ) → k < count → size * k + size ≤ length bytes
  chunk_within k l = omega (arith, mul-suc size k, mul-le-mul_left size l, mul_comm count size, whole)

  chunks_from : (bound k n : ℕ) → n ≤ bound → k + n ≡ count → chunks_of bound size (drop (size * k) bytes) ≡ run (chunk size bytes) k n
  chunks_from bound k zero l e =
      let s : k ≡ count = omega arith in
      chunks_none bound size (drop (size * k) bytes) (omega (arith, length-drop (size * k) bytes, ap (λ (m : ℕ). size * m) s, mul_comm count size, whole))
  chunks_from zero k (suc n) l e = absurd (omega arith)
  chunks_from (suc bound) k (suc n) l e =
      let s : size * k + size ≡ size * suc k = omega (arith, mul-suc size k) in
      chunks_step bound size (drop (size * k) bytes) (omega (arith, length-drop (size * k) bytes, chunk_within k (omega arith)))
      ∙ ap (λ x. chunk size bytes k ∷ x)
      (ap (chunks_of bound size) (drop-drop size (size * k) bytes ∙ ap (λ (m : ℕ). drop m bytes) s) ∙ chunks_from bound (suc k) n (omega arith) (omega arith))

  enough : count ≤ length bytes
  enough = omega (arith, mul-le-mul_left count some_size, whole)

  pub chunks_are : chunks size bytes ≡ ok (run (chunk size bytes) 0 count)
  unfolding chunks
  chunks_are =
      let start : 0 ≡ size * 0 = sym (mul-zero size) in
      rw (ne_eqb size 0 (λ e. omega arith))
      (ap ok (ap (λ (m : ℕ). chunks_of (length bytes) size (drop m bytes)) start ∙ chunks_from (length bytes) 0 count enough (zero-add count)))

-- ---- records

-- each read, in order
pub collect_run : {A : Type 0} (read : List ℕ → Result A) (c : ℕ → List ℕ) (r : ℕ → A) (k n : ℕ)
    → ((j : ℕ) → k ≤ j → j < k + n → read (c j) ≡ ok (r j)) → collect read (run c k n) ≡ ok (run r k n)
collect_run read c r k zero each = refl
collect_run read c r k (suc n) each =
    rw (each k (omega arith) (omega arith))
    (ap (λ x. bind x (λ rs. ok (r k ∷ rs))) (collect_run read c r (suc k) n (λ j a b. each j (omega arith) (omega arith))))

-- record k
module _ (order : Order) (info : Info) where
  abbrev pub func_at : ℕ → FunctionRecord
  func_at k = record { slot = u32_at order info.bytes (info.size * k + 0) / INS_SIZE; kind = u32_at order info.bytes (info.size * k + 4) }

  abbrev pub line_at : ℕ → LineRecord
  line_at k = record {
    slot = u32_at order info.bytes (info.size * k + 0) / INS_SIZE;
    file = u32_at order info.bytes (info.size * k + 4);
    line = u32_at order info.bytes (info.size * k + 8);
    column = u32_at order info.bytes (info.size * k + 12);
  }

module _ (order : Order) (info : Info) (some_size : 0 < info.size) (whole : info.count * info.size ≡ length info.bytes) where
  within : (k : ℕ) → k < info.count → info.size * k + info.size ≤ length info.bytes
  within = chunk_within info.size info.count info.bytes some_size whole

  -- a u32 of chunk k is that of record k
  word_at : (k offset : ℕ) → k < info.count → offset + 4 ≤ info.size
      → read_at order (chunk info.size info.bytes k) offset ≡ ok (u32_at order info.bytes (info.size * k + offset))
  unfolding read_at
  word_at k offset l m =
      let long : offset + 4 ≤ length (chunk info.size info.bytes k) =
      omega (arith, length-take info.size (drop (info.size * k) info.bytes), length-drop (info.size * k) info.bytes, within k l) in
      let four : offset + 4 - offset ≡ 4 = omega arith in
      rw (le-leb (offset + 4) (length (chunk info.size info.bytes k)) long, four)
      (ap ok (u32_same order info.bytes (take 4 (drop offset (chunk info.size info.bytes k))) (info.size * k + offset) 0 (λ j n. same j n)))
    where
      same : (j : ℕ) → j < 4 → byte_at (take 4 (drop offset (chunk info.size info.bytes k))) (0 + j) ≡ byte_at info.bytes (info.size * k + offset + j)
      same j n =
          ap (byte_at (take 4 (drop offset (chunk info.size info.bytes k)))) (zero-add j)
          ∙ get_or-take 4 (drop offset (chunk info.size info.bytes k)) j 0 n
          ∙ get_or-drop offset (chunk info.size info.bytes k) j 0
          ∙ get_or-take info.size (drop (info.size * k) info.bytes) (offset + j) 0 (omega arith)
          ∙ get_or-drop (info.size * k) info.bytes (offset + j) 0
          ∙ ap (byte_at info.bytes) (sym (add_assoc (info.size * k) offset j))

  pub func_read : (k : ℕ) → k < info.count → 8 ≤ info.size → read_func_info order (chunk info.size info.bytes k) ≡ ok (func_at order info k)
  unfolding read_func_info
  func_read k l m = rw (word_at k 0 l (omega arith), word_at k 4 l (omega arith)) refl

  pub line_read : (k : ℕ) → k < info.count → 16 ≤ info.size → read_line_info order (chunk info.size info.bytes k) ≡ ok (line_at order info k)
  unfolding read_line_info
  line_read k l m = rw (word_at k 0 l (omega arith), word_at k 4 l (omega arith), word_at k 8 l (omega arith), word_at k 12 l (omega arith)) refl

  -- ---- encoded bytes
  module _ (are : AreBytes info.bytes) where
    word_bytes : (at : ℕ) → at + 4 ≤ length info.bytes → bytes4 order (u32_at order info.bytes at) ≡ take 4 (drop at info.bytes)
    word_bytes at l =
        let e₁ : at + 1 ≡ suc at = omega arith in
        let e₂ : at + 2 ≡ suc (suc at) = omega arith in
        let e₃ : at + 3 ≡ suc (suc (suc at)) = omega arith in
        bytes4_at order info.bytes are at ∙ rw (e₁, e₂, e₃) (from_part order info.bytes are 4 at l)

    pub func_row : (k : ℕ) → k < info.count → 8 ≤ info.size → bytes_of_func order (func_at order info k) ≡ row_of_record order FuncInfo info k
    func_row k l m =
        let p = info.size * k in
        rw (add-zero p)
        (ap (λ x. bytes4 order (u32_at order info.bytes p / 8) ++ x) (word_bytes (p + 4) (omega (arith, within k l))))

    -- words one after another, as one part of the data
    then_words : (at n : ℕ) → at + 4 ≤ length info.bytes
        → bytes4 order (u32_at order info.bytes at) ++ take n (drop (at + 4) info.bytes) ≡ take (4 + n) (drop at info.bytes)
    then_words at n l =
        ap (λ x. x ++ take n (drop (at + 4) info.bytes)) (word_bytes at l)
        ∙ ap (λ x. take 4 (drop at info.bytes) ++ take n x) (sym (drop-drop 4 at info.bytes))
        ∙ sym (take-add 4 n (drop at info.bytes))

    pub line_row : (k : ℕ) → k < info.count → 16 ≤ info.size → bytes_of_line order (line_at order info k) ≡ row_of_record order LineInfo info k
    line_row k l m =
        let p = info.size * k in
        let ends : p + 16 ≤ length info.bytes = omega (arith, within k l) in
        let e₈ : p + 8 ≡ p + 4 + 4 = omega arith in
        let e₁₂ : p + 12 ≡ p + 4 + 4 + 4 = omega arith in
        rw (add-zero p, e₈, e₁₂, word_bytes (p + 4 + 4 + 4) (omega arith), then_words (p + 4 + 4) 4 (omega arith), then_words (p + 4) 8 (omega arith)) refl

-- row by row
pub rows_run : {A : Type 0} (order : Order) (table : Table) (info : Info) (bytes_of : A → List ℕ) (r : ℕ → A) (k n : ℕ)
    → ((j : ℕ) → k ≤ j → j < k + n → bytes_of (r j) ≡ row_of_record order table info j) → put_all bytes_of (run r k n) ≡ rows_of_records order table info k n
rows_run order table info bytes_of r k zero each = refl
rows_run order table info bytes_of r k (suc n) each =
    rw (each k (omega arith) (omega arith))
    (ap (λ x. row_of_record order table info k ++ x) (rows_run order table info bytes_of r (suc k) n (λ j a b. each j (omega arith) (omega arith))))

-- ---- our encoder and the crate's

pub same_func_bytes : (order : Order) (rs : List FunctionRecord) → func_info_bytes order rs ≡ crate_func_info_bytes order rs
unfolding crate_func_info_bytes
same_func_bytes order [] = refl
same_func_bytes order (r ∷ rs) =
    ap (λ x. bytes4 order r.slot ++ (bytes4 order r.kind ++ x)) (same_func_bytes order rs)
    ∙ sym (append_assoc (bytes4 order r.slot) (bytes4 order r.kind) (crate_func_info_bytes order rs))

pub same_line_bytes : (order : Order) (rs : List LineRecord) → line_info_bytes order rs ≡ crate_line_info_bytes order rs
unfolding crate_line_info_bytes
same_line_bytes order [] = refl
same_line_bytes little (r ∷ rs) =
    ap (λ x. bytes4 little r.slot ++ (bytes4 little r.file ++ (bytes4 little r.line ++ (bytes4 little r.column ++ x)))) (same_line_bytes little rs)
same_line_bytes big (r ∷ rs) =
    ap (λ x. bytes4 big r.slot ++ (bytes4 big r.file ++ (bytes4 big r.line ++ (bytes4 big r.column ++ x)))) (same_line_bytes big rs)

pub same_insn_bytes : (order : Order) (is : List Insn) → encoded order is ≡ insn_bytes order is
unfolding encoded encode insn_bytes
same_insn_bytes order [] = refl
same_insn_bytes little (i ∷ is) = ap (λ x. bytes_of_insn little i ++ x) (same_insn_bytes little is)
same_insn_bytes big (i ∷ is) =
    let e : i.source + 16 * i.destination ≡ 16 * i.destination + i.source = omega arith in
    ap (λ (b : ℕ). i.opcode ∷ b ∷ (bytes2 big (unsigned half16 i.offset) ++ bytes4 big (unsigned half32 i.immediate)) ++ encoded big is) e
    ∙ ap (λ x. bytes_of_insn big i ++ x) (same_insn_bytes big is)

-- ---- the crate's bytes, read as table 7 or 8, are its records

run_shift : {A : Type 0} (f g : ℕ → A) (k n : ℕ) → ((j : ℕ) → f (suc j) ≡ g j) → run f (suc k) n ≡ run g k n
run_shift f g k zero each = refl
run_shift f g k (suc n) each = rw (each k) (ap (λ x. g k ∷ x) (run_shift f g (suc k) n each))

past : (order : Order) (x rest : List ℕ) (at : ℕ) → u32_at order (x ++ rest) (length x + at) ≡ u32_at order rest at
past order x rest at =
    u32_same order rest (x ++ rest) at (length x + at)
    (λ j l. ap (byte_at (x ++ rest)) (add_assoc (length x) at j) ∙ get_or-append-add x rest (at + j) 0)

later : (order : Order) (x rest : List ℕ) (size k at : ℕ) → length x ≡ size → u32_at order (x ++ rest) (size * suc k + at) ≡ u32_at order rest (size * k + at)
later order x rest size k at long =
    let e : size * suc k + at ≡ length x + (size * k + at) = omega (arith, mul-suc size k) in
    ap (u32_at order (x ++ rest)) e ∙ past order x rest (size * k + at)

-- the first row is the first record, and the others are the rows of the rest
rows_back : {A : Type 0} (row : List ℕ → ℕ → A) (bytes_of : A → List ℕ) → ((r : A) (rest : List ℕ) → row (bytes_of r ++ rest) 0 ≡ r)
    → ((r : A) (rest : List ℕ) (k : ℕ) → row (bytes_of r ++ rest) (suc k) ≡ row rest k) → (rs : List A) → run (row (put_all bytes_of rs)) 0 (length rs) ≡ rs
rows_back row bytes_of first rest [] = refl
rows_back row bytes_of first rest (r ∷ rs) =
    rw (first r (put_all bytes_of rs))
    (ap (λ x. r ∷ x)
    (run_shift (row (bytes_of r ++ put_all bytes_of rs)) (row (put_all bytes_of rs)) 0 (length rs) (rest r (put_all bytes_of rs))
    ∙ rows_back row bytes_of first rest rs))

all_long : {A : Type 0} (size : ℕ) (bytes_of : A → List ℕ) → ((r : A) → length (bytes_of r) ≡ size) → (rs : List A)
    → length (put_all bytes_of rs) ≡ size * length rs
all_long size bytes_of long [] = sym (mul-zero size)
all_long size bytes_of long (r ∷ rs) =
    omega (arith, length-append (bytes_of r) (put_all bytes_of rs), long r, all_long size bytes_of long rs, mul-suc size (length rs))

func_long : (order : Order) (r : FunctionRecord) → length (bytes_of_func order r) ≡ 8
func_long little r = refl
func_long big r = refl

line_long : (order : Order) (r : LineRecord) → length (bytes_of_line order r) ≡ 16
line_long little r = refl
line_long big r = refl

pub func_bytes_long : (order : Order) (rs : List FunctionRecord) → length (crate_func_info_bytes order rs) ≡ 8 * length rs
unfolding crate_func_info_bytes
func_bytes_long order = all_long 8 (bytes_of_func order) (func_long order)

pub line_bytes_long : (order : Order) (rs : List LineRecord) → length (crate_line_info_bytes order rs) ≡ 16 * length rs
unfolding crate_line_info_bytes
line_bytes_long order = all_long 16 (bytes_of_line order) (line_long order)

func_first : (order : Order) (r : FunctionRecord) (rest : List ℕ) → func_info_row order (bytes_of_func order r ++ rest) 0 ≡ r
unfolding record_slot record_type u32_at
func_first little r rest = λ i. record { slot = number4_of little r.slot i; kind = number4_of little r.kind i }
func_first big r rest = λ i. record { slot = number4_of big r.slot i; kind = number4_of big r.kind i }

func_later : (order : Order) (r : FunctionRecord) (rest : List ℕ) (k : ℕ) → func_info_row order (bytes_of_func order r ++ rest) (suc k) ≡ func_info_row order rest k
unfolding record_slot record_type
func_later order r rest k =
    let x = bytes_of_func order r in
    let e : 8 * suc k ≡ length x + 8 * k = omega (arith, func_long order r) in
    let slot : u32_at order (x ++ rest) (8 * suc k) ≡ u32_at order rest (8 * k) = ap (u32_at order (x ++ rest)) e ∙ past order x rest (8 * k) in
    let kind = later order x rest 8 k 4 (func_long order r) in
    λ i. record { slot = slot i; kind = kind i }

line_first : (order : Order) (r : LineRecord) (rest : List ℕ) → line_info_row order (bytes_of_line order r ++ rest) 0 ≡ r
unfolding record_slot record_file record_line record_column u32_at
line_first little r rest = λ i. record {
  slot = number4_of little r.slot i;
  file = number4_of little r.file i;
  line = number4_of little r.line i;
  column = number4_of little r.column i;
}
line_first big r rest = λ i. record {
  slot = number4_of big r.slot i;
  file = number4_of big r.file i;
  line = number4_of big r.line i;
  column = number4_of big r.column i;
}

line_later : (order : Order) (r : LineRecord) (rest : List ℕ) (k : ℕ) → line_info_row order (bytes_of_line order r ++ rest) (suc k) ≡ line_info_row order rest k
unfolding record_slot record_file record_line record_column
line_later order r rest k =
    let x = bytes_of_line order r in
    let e : 16 * suc k ≡ length x + 16 * k = omega (arith, line_long order r) in
    let slot : u32_at order (x ++ rest) (16 * suc k) ≡ u32_at order rest (16 * k) = ap (u32_at order (x ++ rest)) e ∙ past order x rest (16 * k) in
    let file = later order x rest 16 k 4 (line_long order r) in
    let number = later order x rest 16 k 8 (line_long order r) in
    let column = later order x rest 16 k 12 (line_long order r) in
    λ i. record { slot = slot i; file = file i; line = number i; column = column i }

pub func_back : (order : Order) (rs : List FunctionRecord) → read_table func order (crate_func_info_bytes order rs) ≡ rs
unfolding crate_func_info_bytes
func_back order rs =
    let e : length (crate_func_info_bytes order rs) / 8 ≡ length rs = omega (arith, func_bytes_long order rs) in
    ap (run (func_info_row order (crate_func_info_bytes order rs)) 0) e ∙ rows_back (func_info_row order) (bytes_of_func order) (func_first order) (func_later order) rs

pub line_back : (order : Order) (rs : List LineRecord) → read_table line order (crate_line_info_bytes order rs) ≡ rs
unfolding crate_line_info_bytes
line_back order rs =
    let e : length (crate_line_info_bytes order rs) / 16 ≡ length rs = omega (arith, line_bytes_long order rs) in
    ap (run (line_info_row order (crate_line_info_bytes order rs)) 0) e ∙ rows_back (line_info_row order) (bytes_of_line order) (line_first order) (line_later order) rs
