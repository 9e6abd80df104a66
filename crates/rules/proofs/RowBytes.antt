-- Function records, line records and pieces as the rows of their bytes, both ways.
-- Assumes nothing.
use mathlib.Core.Path.{◌≡◌, refl, sym, ap, ◌∙◌}
use mathlib.Core.List.{List, [], ◌∷◌, ◌++◌}
use Prim.Native.Nat.{ℕ, zero, suc, ◌+◌, ◌*◌, ◌/◌, ◌%◌, ◌≤◌}
use native.Mathlib.Omega.{arith}
use native.Mathlib.Nat.{add_assoc, mul-suc}
use lib.ListN.{length, take, drop}
use lib.Seq.{get_or-append-add, drop-drop, take-add, take-length}
use Rattle.rules.specs.declared.Table.TheVariants.{FuncInfo, LineInfo}
use Rattle.rules.specs.Faithful.{Piece}
use Rattle.rules.specs.Link.{run}
use Rattle.rules.specs.Bytes.{Order, little, big, byte_at, AreBytes, u32_at, bytes4}
use Rattle.rules.specs.Tables.{FunctionRecord, LineRecord}
use Rattle.rules.specs.Rows.{record_slot, record_type, record_file, record_line, record_column, func_info_row, line_info_row, rows_of}
use Rattle.rules.specs.Entries.{func_info_bytes, line_info_bytes}
use Rattle.rules.specs.Pieces.{piece_size, piece_row, piece_start, piece_at, pieces_of, pieces_bytes}
use Rattle.rules.proofs.Writing.{u32_same}
use Rattle.rules.proofs.Rounds.{number4_of, bytes4_at, from_part}
use Rattle.rules.proofs.Merging.{func_bytes_length, line_bytes_length}

-- ---- bytes to rows to bytes
module _ (order : Order) (bytes : List ℕ) (are : AreBytes bytes) where
  word_bytes : (at : ℕ) → at + 4 ≤ length bytes → bytes4 order (u32_at order bytes at) ≡ take 4 (drop at bytes)
  word_bytes at l =
      let e₁ : at + 1 ≡ suc at = omega arith in
      let e₂ : at + 2 ≡ suc (suc at) = omega arith in
      let e₃ : at + 3 ≡ suc (suc (suc at)) = omega arith in
      bytes4_at order bytes are at ∙ rw (e₁, e₂, e₃) (from_part order bytes are 4 at l)

  -- a word and what follows it
  then_word : (at n : ℕ) → at + 4 ≤ length bytes → bytes4 order (u32_at order bytes at) ++ take n (drop (at + 4) bytes) ≡ take (4 + n) (drop at bytes)
  then_word at n l =
      ap (λ x. x ++ take n (drop (at + 4) bytes)) (word_bytes at l)
      ∙ ap (λ x. take 4 (drop at bytes) ++ take n x) (sym (drop-drop 4 at bytes))
      ∙ sym (take-add 4 n (drop at bytes))

  functions_run : (n first : ℕ) → 8 * (first + n) ≤ length bytes
      → func_info_bytes order (run (func_info_row order bytes) first n) ≡ take (8 * n) (drop (8 * first) bytes)
  unfolding record_slot record_type
  functions_run zero first l = refl
  functions_run (suc n) first l =
      let e : 8 * suc n ≡ 4 + (4 + 8 * n) = omega arith in
      let f : 8 * suc first ≡ 8 * first + 4 + 4 = omega arith in
      rw (functions_run n (suc first) (omega arith), f, then_word (8 * first + 4) (8 * n) (omega arith), e) (then_word (8 * first) (4 + 8 * n) (omega arith))

  lines_run : (n first : ℕ) → 16 * (first + n) ≤ length bytes
      → line_info_bytes order (run (line_info_row order bytes) first n) ≡ take (16 * n) (drop (16 * first) bytes)
  unfolding record_slot record_file record_line record_column
  lines_run zero first l = refl
  lines_run (suc n) first l =
      let e : 16 * suc n ≡ 4 + (4 + (4 + (4 + 16 * n))) = omega arith in
      let f : 16 * suc first ≡ 16 * first + 4 + 4 + 4 + 4 = omega arith in
      let e₈ : 16 * first + 8 ≡ 16 * first + 4 + 4 = omega arith in
      let e₁₂ : 16 * first + 12 ≡ 16 * first + 4 + 4 + 4 = omega arith in
      rw (
        lines_run n (suc first) (omega arith),
        e₈,
        e₁₂,
        f,
        then_word (16 * first + 4 + 4 + 4) (16 * n) (omega arith),
        then_word (16 * first + 4 + 4) (4 + 16 * n) (omega arith),
        then_word (16 * first + 4) (4 + (4 + 16 * n)) (omega arith),
        e,
      )
      (then_word (16 * first) (4 + (4 + (4 + 16 * n))) (omega arith))

  -- whole rows are the bytes of the records read from them
  pub functions_bytes : length bytes % 8 ≡ 0 → func_info_bytes order (rows_of FuncInfo (func_info_row order bytes) bytes) ≡ bytes
  functions_bytes e =
      let whole : 8 * (length bytes / 8) ≡ length bytes = omega arith in
      functions_run (length bytes / 8) 0 (omega arith) ∙ ap (λ (m : ℕ). take m bytes) whole ∙ take-length bytes

  pub lines_bytes : length bytes % 16 ≡ 0 → line_info_bytes order (rows_of LineInfo (line_info_row order bytes) bytes) ≡ bytes
  lines_bytes e =
      let whole : 16 * (length bytes / 16) ≡ length bytes = omega arith in
      lines_run (length bytes / 16) 0 (omega arith) ∙ ap (λ (m : ℕ). take m bytes) whole ∙ take-length bytes

-- ---- rows to bytes to rows
run_shift : {A : Type 0} (f g : ℕ → A) (k n : ℕ) → ((j : ℕ) → f (suc j) ≡ g j) → run f (suc k) n ≡ run g k n
run_shift f g k zero each = refl
run_shift f g k (suc n) each = rw (each k) (ap (λ x. g k ∷ x) (run_shift f g (suc k) n each))

-- the first row is the first read, and the others are the rows of the rest
rows_back : {A : Type 0} (row : List ℕ → ℕ → A) (bytes : List A → List ℕ) → ((r : A) (rs : List A) → row (bytes (r ∷ rs)) 0 ≡ r)
    → ((r : A) (rs : List A) (k : ℕ) → row (bytes (r ∷ rs)) (suc k) ≡ row (bytes rs) k) → (rs : List A) → run (row (bytes rs)) 0 (length rs) ≡ rs
rows_back row bytes first rest [] = refl
rows_back row bytes first rest (r ∷ rs) =
    rw (first r rs) (ap (λ x. r ∷ x) (run_shift (row (bytes (r ∷ rs))) (row (bytes rs)) 0 (length rs) (rest r rs) ∙ rows_back row bytes first rest rs))

-- a word past the first row
later : (order : Order) (x rest : List ℕ) (size k at : ℕ) → length x ≡ size → u32_at order (x ++ rest) (size * suc k + at) ≡ u32_at order rest (size * k + at)
later order x rest size k at long =
    let e : size * suc k + at ≡ length x + (size * k + at) = omega (arith, mul-suc size k) in
    ap (u32_at order (x ++ rest)) e
    ∙ u32_same order rest (x ++ rest) (size * k + at) (length x + (size * k + at))
    (λ j l. ap (byte_at (x ++ rest)) (add_assoc (length x) (size * k + at) j) ∙ get_or-append-add x rest (size * k + at + j) 0)

later_first : (order : Order) (x rest : List ℕ) (size k : ℕ) → length x ≡ size → u32_at order (x ++ rest) (size * suc k) ≡ u32_at order rest (size * k)
later_first order x rest size k long =
    let a : size * suc k ≡ size * suc k + 0 = omega arith in
    let b : size * k + 0 ≡ size * k = omega arith in
    ap (u32_at order (x ++ rest)) a ∙ later order x rest size k 0 long ∙ ap (u32_at order rest) b

function_first : (order : Order) (r : FunctionRecord) (rs : List FunctionRecord) → func_info_row order (func_info_bytes order (r ∷ rs)) 0 ≡ r
unfolding record_slot record_type u32_at
function_first little r rs = λ i. record { slot = number4_of little r.slot i; kind = number4_of little r.kind i }
function_first big r rs = λ i. record { slot = number4_of big r.slot i; kind = number4_of big r.kind i }

function_later : (order : Order) (r : FunctionRecord) (rs : List FunctionRecord) (k : ℕ)
    → func_info_row order (func_info_bytes order (r ∷ rs)) (suc k) ≡ func_info_row order (func_info_bytes order rs) k
unfolding record_slot record_type
function_later little r rs k =
    let x = bytes4 little r.slot ++ bytes4 little r.kind in
    λ i. record { slot = later_first little x (func_info_bytes little rs) 8 k refl i; kind = later little x (func_info_bytes little rs) 8 k 4 refl i }
function_later big r rs k =
    let x = bytes4 big r.slot ++ bytes4 big r.kind in
    λ i. record { slot = later_first big x (func_info_bytes big rs) 8 k refl i; kind = later big x (func_info_bytes big rs) 8 k 4 refl i }

pub functions_back : (order : Order) (rs : List FunctionRecord) → rows_of FuncInfo (func_info_row order (func_info_bytes order rs)) (func_info_bytes order rs) ≡ rs
functions_back order rs =
    let e : length (func_info_bytes order rs) / 8 ≡ length rs = omega (arith, func_bytes_length order rs) in
    ap (run (func_info_row order (func_info_bytes order rs)) 0) e ∙ rows_back (func_info_row order) (func_info_bytes order) (function_first order) (function_later order) rs

abbrev line_row : Order → LineRecord → List ℕ
line_row order r = bytes4 order r.slot ++ (bytes4 order r.file ++ (bytes4 order r.line ++ bytes4 order r.column))

line_first : (order : Order) (r : LineRecord) (rs : List LineRecord) → line_info_row order (line_info_bytes order (r ∷ rs)) 0 ≡ r
unfolding record_slot record_file record_line record_column u32_at
line_first little r rs = λ i. record {
  slot = number4_of little r.slot i;
  file = number4_of little r.file i;
  line = number4_of little r.line i;
  column = number4_of little r.column i;
}
line_first big r rs = λ i. record {
  slot = number4_of big r.slot i;
  file = number4_of big r.file i;
  line = number4_of big r.line i;
  column = number4_of big r.column i;
}

line_later : (order : Order) (r : LineRecord) (rs : List LineRecord) (k : ℕ)
    → line_info_row order (line_info_bytes order (r ∷ rs)) (suc k) ≡ line_info_row order (line_info_bytes order rs) k
unfolding record_slot record_file record_line record_column
line_later little r rs k =
    let x = line_row little r in
    λ i. record {
      slot = later_first little x (line_info_bytes little rs) 16 k refl i;
      file = later little x (line_info_bytes little rs) 16 k 4 refl i;
      line = later little x (line_info_bytes little rs) 16 k 8 refl i;
      column = later little x (line_info_bytes little rs) 16 k 12 refl i;
    }
line_later big r rs k =
    let x = line_row big r in
    λ i. record {
      slot = later_first big x (line_info_bytes big rs) 16 k refl i;
      file = later big x (line_info_bytes big rs) 16 k 4 refl i;
      line = later big x (line_info_bytes big rs) 16 k 8 refl i;
      column = later big x (line_info_bytes big rs) 16 k 12 refl i;
    }

pub lines_back : (order : Order) (rs : List LineRecord) → rows_of LineInfo (line_info_row order (line_info_bytes order rs)) (line_info_bytes order rs) ≡ rs
lines_back order rs =
    let e : length (line_info_bytes order rs) / 16 ≡ length rs = omega (arith, line_bytes_length order rs) in
    ap (run (line_info_row order (line_info_bytes order rs)) 0) e ∙ rows_back (line_info_row order) (line_info_bytes order) (line_first order) (line_later order) rs

-- ---- pieces
piece_first : (p : Piece) (ps : List Piece) → piece_at (pieces_bytes (p ∷ ps)) 0 ≡ p
unfolding pieces_bytes piece_row piece_start u32_at
piece_first p ps = λ i. record { row = number4_of little p.row i; start = number4_of little p.start i }

piece_later : (p : Piece) (ps : List Piece) (k : ℕ) → piece_at (pieces_bytes (p ∷ ps)) (suc k) ≡ piece_at (pieces_bytes ps) k
unfolding pieces_bytes piece_row piece_start
piece_later p ps k =
    let x = bytes4 little p.row ++ bytes4 little p.start in
    λ i. record { row = later_first little x (pieces_bytes ps) 8 k refl i; start = later little x (pieces_bytes ps) 8 k 4 refl i }

pub pieces_length : (ps : List Piece) → length (pieces_bytes ps) ≡ piece_size * length ps
unfolding pieces_bytes
pieces_length [] = refl
pieces_length (p ∷ ps) = omega (arith, pieces_length ps)

pub pieces_back : (ps : List Piece) → pieces_of (pieces_bytes ps) ≡ ps
unfolding pieces_of
pieces_back ps =
    let e : length (pieces_bytes ps) / 8 ≡ length ps = omega (arith, pieces_length ps) in
    ap (run (piece_at (pieces_bytes ps)) 0) e ∙ rows_back piece_at pieces_bytes piece_first piece_later ps
