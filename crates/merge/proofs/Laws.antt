-- Records one after another, as bytes: what holds over the bytes of one record, and then of both kinds.
-- Assumes nothing.
use mathlib.Core.Path.{◌≡◌, refl, sym, ap, ◌∙◌}
use mathlib.Core.List.{List, [], ◌∷◌, ◌++◌, map, append_assoc, append-nil}
use Prim.Native.Nat.{ℕ, zero, suc, ◌+◌, ◌*◌, ◌≤◌}
use native.Mathlib.Omega.{arith}
use native.Mathlib.Nat.{add-zero, mul-zero, mul-suc, mul-le-mul_left}
use native.Mathlib.Numerals.{add-one}
use lib.ListN.{length, take, drop, length-append}
use lib.Seq.{drop-drop, take-add}
use Rattle.rules.specs.Bytes.{little, u32_at, bytes4, splice, AreBytes}
use Rattle.rules.specs.Answers.{numbers}
use Rattle.rules.specs.Link.{run}
use Rattle.rules.specs.Tables.{FunctionRecord, LineRecord}
use Rattle.rules.specs.Rows.{record_slot, record_type, record_file, record_line, record_column, func_info_row, line_info_row}
use Rattle.rules.specs.Entries.{func_info_bytes, line_info_bytes}
use Rattle.rules.proofs.Splices.{splice_more}
use Rattle.rules.proofs.Linking.{length_run}
use Rattle.rules.proofs.Rounds.{bytes4_at, from_part}

-- ---- runs
pub run_more : {A : Type 0} (f : ℕ → A) (from n : ℕ) → run f from (n + 1) ≡ run f from n ++ (f (from + n) ∷ [])
run_more f from n = ap (run f from) (add-one n) ∙ last from n
  where
    last : (from n : ℕ) → run f from (suc n) ≡ run f from n ++ (f (from + n) ∷ [])
    last from zero = ap (λ m. f m ∷ []) (sym (add-zero from))
    last from (suc n) =
        let e : suc from + n ≡ from + suc n = omega arith in
        ap (λ l. f from ∷ l) (last (suc from) n ∙ ap (λ m. run f (suc from) n ++ (f m ∷ [])) e)

map_run : {A B : Type 0} (h : A → B) (f : ℕ → A) (from n : ℕ) → map h (run f from n) ≡ run (λ k. h (f k)) from n
map_run h f from zero = refl
map_run h f from (suc n) = ap (λ l. h (f from) ∷ l) (map_run h f (suc from) n)

two_parts : (t : List ℕ) (m n at : ℕ) → take m (drop at t) ++ take n (drop (at + m) t) ≡ take (m + n) (drop at t)
two_parts t m n at = ap (λ x. take m (drop at t) ++ take n x) (sym (drop-drop m at t)) ∙ sym (take-add m n (drop at t))

-- ---- records of one size
module _ {A : Type 0} (one : A → List ℕ) where
  abbrev pub packed : List A → List ℕ
  packed [] = []
  packed (r ∷ rs) = one r ++ packed rs

  packed_append : (xs ys : List A) → packed (xs ++ ys) ≡ packed xs ++ packed ys
  packed_append [] ys = refl
  packed_append (x ∷ xs) ys = ap (λ l. one x ++ l) (packed_append xs ys) ∙ sym (append_assoc (one x) (packed xs) (packed ys))

  module _ (size : ℕ) (sized : (r : A) → length (one r) ≡ size) where
    packed_length : (rs : List A) → length (packed rs) ≡ size * length rs
    packed_length [] = sym (mul-zero size)
    packed_length (r ∷ rs) = length-append (one r) (packed rs) ∙ omega (arith, sized r, packed_length rs, mul-suc size (length rs))

    -- one record more, after those that are there
    pub put_more : (d : List ℕ) (p : ℕ) (f : ℕ → A) (first k q : ℕ) → q ≡ p + size * k → q + size ≤ length d
        → splice (splice d p (packed (run f first k))) q (one (f (first + k))) ≡ splice d p (packed (run f first (k + 1)))
    put_more d p f first k q e fits =
        splice_more d p (packed (run f first k)) (one (f (first + k))) q
        (e ∙ ap (λ n. p + n) (sym (packed_length (run f first k) ∙ ap (λ n. size * n) (length_run f first k)))) (omega (arith, sized (f (first + k))))
        ∙ ap (splice d p)
        (ap (λ l. packed (run f first k) ++ l) (sym (append-nil (one (f (first + k)))))
        ∙ sym (packed_append (run f first k) (f (first + k) ∷ []))
        ∙ ap packed (sym (run_more f first k)))

    -- records that are the bytes where they stand
    packed_part : (t : List ℕ) (f : ℕ → A) → ((k : ℕ) → size * k + size ≤ length t → one (f k) ≡ take size (drop (size * k) t))
        → (n first : ℕ) → size * (first + n) ≤ length t → packed (run f first n) ≡ take (size * n) (drop (size * first) t)
    packed_part t f each zero first l = sym (ap (λ m. take m (drop (size * first) t)) (mul-zero size))
    packed_part t f each (suc n) first l =
        let e : size * suc n ≡ size + size * n = omega (arith, mul-suc size n) in
        let g : size * suc first ≡ size * first + size = mul-suc size first in
        let m : size * (first + suc n) ≡ size * (suc first + n) = ap (λ x. size * x) (let s : first + suc n ≡ suc first + n = omega arith in s) in
        let u : size * suc first ≤ size * (first + suc n) = mul-le-mul_left size (let s : suc first ≤ first + suc n = omega arith in s) in
        ap (λ x. x ++ packed (run f (suc first) n)) (each first (omega arith))
        ∙ ap (λ x. take size (drop (size * first) t) ++ x) (packed_part t f each n (suc first) (omega arith))
        ∙ ap (λ x. take size (drop (size * first) t) ++ take (size * n) (drop x t)) g
        ∙ two_parts t size (size * n) (size * first)
        ∙ ap (λ x. take x (drop (size * first) t)) (sym e)

-- ---- the two kinds
unfoldable pub func_one : FunctionRecord → List ℕ
func_one r = numbers (r.slot ∷ r.kind ∷ [])

unfoldable pub line_one : LineRecord → List ℕ
line_one r = numbers (r.slot ∷ r.file ∷ r.line ∷ r.column ∷ [])

pub func_sized : (r : FunctionRecord) → length (func_one r) ≡ 8
unfolding func_one
func_sized r = refl

pub line_sized : (r : LineRecord) → length (line_one r) ≡ 16
unfolding line_one
line_sized r = refl

func_packed : (rs : List FunctionRecord) → func_info_bytes little rs ≡ packed func_one rs
unfolding func_one
func_packed [] = refl
func_packed (r ∷ rs) = ap (λ l. func_one r ++ l) (func_packed rs)

line_packed : (rs : List LineRecord) → line_info_bytes little rs ≡ packed line_one rs
unfolding line_one
line_packed [] = refl
line_packed (r ∷ rs) = ap (λ l. line_one r ++ l) (line_packed rs)

-- records that a loop made, one for each number
pub func_linked : (h : FunctionRecord → FunctionRecord) (f : ℕ → FunctionRecord) (first n : ℕ)
    → func_info_bytes little (map h (run f first n)) ≡ packed func_one (run (λ k. h (f k)) first n)
func_linked h f first n = func_packed (map h (run f first n)) ∙ ap (packed func_one) (map_run h f first n)

pub line_linked : (h : LineRecord → LineRecord) (f : ℕ → LineRecord) (first n : ℕ)
    → line_info_bytes little (map h (run f first n)) ≡ packed line_one (run (λ k. h (f k)) first n)
line_linked h f first n = line_packed (map h (run f first n)) ∙ ap (packed line_one) (map_run h f first n)

-- ---- rows as they stand in a table of bytes
module _ (t : List ℕ) (are : AreBytes t) where
  number_part : (at : ℕ) → at + 4 ≤ length t → bytes4 little (u32_at little t at) ≡ take 4 (drop at t)
  number_part at l =
      let e₁ : at + 1 ≡ suc at = omega arith in
      let e₂ : at + 2 ≡ suc (suc at) = omega arith in
      let e₃ : at + 3 ≡ suc (suc (suc at)) = omega arith in
      bytes4_at little t are at ∙ rw (e₁, e₂, e₃) (from_part little t are 4 at l)

  abbrev pair_bytes : ℕ → ℕ → List ℕ
  pair_bytes a b = bytes4 little a ++ bytes4 little b

  pair_part : (at at' : ℕ) → at' ≡ at + 4 → at + 8 ≤ length t → pair_bytes (u32_at little t at) (u32_at little t at') ≡ take 8 (drop at t)
  pair_part at at' e l =
      ap (λ x. x ++ bytes4 little (u32_at little t at')) (number_part at (omega arith))
      ∙ ap (λ x. take 4 (drop at t) ++ x) (number_part at' (omega arith))
      ∙ ap (λ x. take 4 (drop at t) ++ take 4 (drop x t)) e
      ∙ two_parts t 4 4 at

  func_row : (k : ℕ) → 8 * k + 8 ≤ length t → func_one (func_info_row little t k) ≡ take 8 (drop (8 * k) t)
  unfolding func_one record_slot record_type
  func_row k l = pair_part (8 * k) (8 * k + 4) refl l

  line_row : (k : ℕ) → 16 * k + 16 ≤ length t → line_one (line_info_row little t k) ≡ take 16 (drop (16 * k) t)
  unfolding line_one record_slot record_file record_line record_column
  line_row k l =
      ap (λ x. x ++ pair_bytes (u32_at little t (16 * k + 8)) (u32_at little t (16 * k + 12))) (pair_part (16 * k) (16 * k + 4) refl (omega arith))
      ∙ ap (λ x. take 8 (drop (16 * k) t) ++ x) (pair_part (16 * k + 8) (16 * k + 12) (omega arith) (omega arith))
      ∙ two_parts t 8 8 (16 * k)

  pub func_bytes_part : (first count : ℕ) → 8 * (first + count) ≤ length t
      → func_info_bytes little (run (func_info_row little t) first count) ≡ take (8 * count) (drop (8 * first) t)
  func_bytes_part first count l =
      func_packed (run (func_info_row little t) first count) ∙ packed_part func_one 8 func_sized t (func_info_row little t) func_row count first l

  pub line_bytes_part : (first count : ℕ) → 16 * (first + count) ≤ length t
      → line_info_bytes little (run (line_info_row little t) first count) ≡ take (16 * count) (drop (16 * first) t)
  line_bytes_part first count l =
      line_packed (run (line_info_row little t) first count) ∙ packed_part line_one 16 line_sized t (line_info_row little t) line_row count first l
