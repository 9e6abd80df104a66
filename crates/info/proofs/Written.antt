-- Rows one after another: a row more is two splices into the zeros after the rows before it.
-- Assumes nothing.
use mathlib.Core.Path.{◌≡◌, sym, ap, ◌∙◌}
use mathlib.Core.List.{List, [], ◌++◌, append_assoc, append-nil}
use Prim.Native.Nat.{ℕ, zero, suc, ◌+◌, ◌-◌, ◌*◌, ◌/◌, ◌≤◌, ◌<◌}
use native.Mathlib.Omega.{arith}
use native.Mathlib.Nat.{add-zero, zero-add, mul-suc, mul-zero}
use native.Mathlib.Numerals.{add-one}
use lib.ListN.{length, take, drop, replicate, length-append, length-take, length-drop}
use lib.Seq.{take_at, drop-append-add}
use Rattle.std.proofs.lemmas.List.{drop-replicate}
use Rattle.rules.specs.declared.Table.{Table}
use Rattle.rules.specs.declared.Table.TheVariants.{Code, Symbols, Functions, Relocations, Maps, Instructions, FuncInfo, LineInfo}
use Rattle.rules.specs.Bytes.{Order, u32_at, bytes4, splice, padded}
use Rattle.rules.specs.Rows.{row_size}
use Rattle.rules.specs.Readers.{Info, row_of_record, rows_of_records}
use Rattle.rules.proofs.Writing.{length_bytes4}

-- all zero
pub padded_none : (n : ℕ) → replicate n 0 ≡ padded n []
unfolding padded
padded_none n = let e : n ≡ n - 0 = omega arith in ap (λ (k : ℕ). replicate k 0) e

-- a splice at the seam of what was put and the zeros after it
pub padded_more : (n : ℕ) (xs vs : List ℕ) (at : ℕ) → length xs ≡ at → at + length vs ≤ n → splice (padded n xs) at vs ≡ padded n (xs ++ vs)
unfolding splice padded
padded_more n xs vs at e h =
    let z : n - length xs - length vs ≡ n - length (xs ++ vs) = omega (arith, length-append xs vs) in
    ap (λ (l : List ℕ). l ++ vs ++ drop (at + length vs) (xs ++ replicate (n - length xs) 0)) (take_at xs (replicate (n - length xs) 0) at e)
    ∙ ap (λ (m : ℕ). xs ++ vs ++ drop (m + length vs) (xs ++ replicate (n - length xs) 0)) (sym e)
    ∙ ap (λ (l : List ℕ). xs ++ vs ++ l) (drop-append-add xs (replicate (n - length xs) 0) (length vs) ∙ drop-replicate (length vs) (n - length xs) 0)
    ∙ ap (λ (m : ℕ). xs ++ vs ++ replicate m 0) z

pub row_size_least : (table : Table) → 4 ≤ row_size table
row_size_least Code = omega arith
row_size_least Symbols = omega arith
row_size_least Functions = omega arith
row_size_least Relocations = omega arith
row_size_least Maps = omega arith
row_size_least Instructions = omega arith
row_size_least FuncInfo = omega arith
row_size_least LineInfo = omega arith

-- every record has a row's bytes
abbrev pub Within : Table → Info → Type 0
Within table info = (k : ℕ) → k < info.count → info.size * k + row_size table ≤ length info.bytes

module _ (order : Order) (table : Table) (info : Info) where
  pub rows_last : (k n : ℕ) → rows_of_records order table info k (suc n) ≡ rows_of_records order table info k n ++ row_of_record order table info (k + n)
  rows_last k zero = append-nil (row_of_record order table info k) ∙ ap (row_of_record order table info) (sym (add-zero k))
  rows_last k (suc n) =
      let e : suc k + n ≡ k + suc n = omega arith in
      ap (λ (l : List ℕ). row_of_record order table info k ++ l) (rows_last (suc k) n)
      ∙ sym (append_assoc (row_of_record order table info k) (rows_of_records order table info (suc k) n) (row_of_record order table info (suc k + n)))
      ∙ ap (λ (m : ℕ). row_of_record order table info k ++ rows_of_records order table info (suc k) n ++ row_of_record order table info m) e

  module _ (within : Within table info) where
    pub rest_length : (k : ℕ) → k < info.count → length (take (row_size table - 4) (drop (info.size * k + 4) info.bytes)) ≡ row_size table - 4
    rest_length k l = simp (length-take, length-drop) (omega (arith, within k l))

    pub row_length : (k : ℕ) → k < info.count → length (row_of_record order table info k) ≡ row_size table
    row_length k l =
        length-append (bytes4 order (u32_at order info.bytes (info.size * k) / 8)) (take (row_size table - 4) (drop (info.size * k + 4) info.bytes))
        ∙ omega (arith, rest_length k l, length_bytes4 order (u32_at order info.bytes (info.size * k) / 8), row_size_least table)

    pub rows_length : (k n : ℕ) → k + n ≤ info.count → length (rows_of_records order table info k n) ≡ row_size table * n
    rows_length k zero l = sym (mul-zero (row_size table))
    rows_length k (suc n) l =
        length-append (row_of_record order table info k) (rows_of_records order table info (suc k) n)
        ∙ omega (arith, row_length k (omega arith), rows_length (suc k) n (omega arith), mul-suc (row_size table) n)

    -- one row more
    pub turn : (room k : ℕ) → k < info.count → row_size table * k + row_size table ≤ room
        → splice (splice (padded room (rows_of_records order table info 0 k)) (row_size table * k) (bytes4 order (u32_at order info.bytes (info.size * k) / 8)))
        (row_size table * k + 4) (take (row_size table - 4) (drop (info.size * k + 4) info.bytes))
        ≡ padded room (rows_of_records order table info 0 (k + 1))
    turn room k l h =
        ap (λ (d : List ℕ). splice d (row_size table * k + 4) rest) (padded_more room before slot (row_size table * k) long (omega (arith, slot_long, row_size_least table)))
        ∙ padded_more room (before ++ slot) rest (row_size table * k + 4) (length-append before slot ∙ omega (arith, long, slot_long)) (omega (arith, rest_length k l, row_size_least table))
        ∙ ap (padded room) (append_assoc before slot rest ∙ ap (λ (m : ℕ). before ++ row_of_record order table info m) (sym (zero-add k)) ∙ sym (rows_last 0 k))
        ∙ ap (λ (m : ℕ). padded room (rows_of_records order table info 0 m)) (sym (add-one k))
      where
        before : List ℕ
        before = rows_of_records order table info 0 k

        slot : List ℕ
        slot = bytes4 order (u32_at order info.bytes (info.size * k) / 8)

        rest : List ℕ
        rest = take (row_size table - 4) (drop (info.size * k + 4) info.bytes)

        long : length before ≡ row_size table * k
        long = rows_length 0 k (omega arith)

        slot_long : length slot ≡ 4
        slot_long = length_bytes4 order (u32_at order info.bytes (info.size * k) / 8)
