-- The grid by the records as chunks of the data: a slot at the start of each, or one that has none.
-- Assumes nothing.
use mathlib.Core.Path.{◌≡◌, refl, sym, ap, subst, ◌∙◌}
use mathlib.Core.Bool.{Bool, true, false, ◌&&◌}
use mathlib.Core.List.{List, ◌++◌}
use Prim.Native.Nat.{ℕ, zero, suc, ◌+◌, ◌-◌, ◌*◌, ◌/◌, ◌%◌, ◌≤◌, ◌<◌}
use native.Mathlib.Omega.{arith}
use native.Mathlib.Nat.{mul_comm, zero-add, lt_of_mul-lt-mul_right}
use native.Mathlib.Numerals.{add-one}
use Rattle.std.specs.List.{list_all, range_with_len}
use lib.Dec.{eqb}
use lib.ListN.{length, take, drop}
use lib.Seq.{get_or-take, get_or-drop, take_at, drop_at, drop-drop, take-take}
use Rattle.std.proofs.lemmas.List.{drop-take}
use denote.Param.Members.{Mut, Called}
use denote.Ref.{Bor}
use Rattle.std.specs.Bool.{MatchBool, IsTrue}
use Rattle.std.specs.Prelude.{Option, Some, None}
use Rattle.std.specs.Option.{option_map, IsSomeAnd, IfSome}
use Rattle.std.specs.Iterator.Runs.{SomeRun, EveryRun, AllItemsGive, AnyItemGives, IsChunksExactRun, CallKeepsClosure}
use Rattle.std.specs.Slice.Iter.{chunks_exact_rest, chunks_exact_size, chunks_exact_steps}
use Rattle.rules.specs.declared.Table.{Table}
use Rattle.rules.specs.Bytes.{Order, byte_at, u32_at, bytes4, splice, padded}
use Rattle.rules.specs.Rows.{row_size}
use Rattle.rules.specs.Readers.{Info, on_grid, rows_of_records}
use Rattle.rules.proofs.Writing.{u32_same}
use Rattle.info.proofs.Whole.{next}
use Rattle.info.proofs.Written.{Within, row_size_least, turn}

-- record k
abbrev pub chunk : Info → ℕ → List ℕ
chunk info k = take info.size (drop (info.size * k) info.bytes)

module _ (order : Order) (info : Info) where
  -- whether record k begins on a slot
  abbrev pub on_slot : ℕ → Bool
  on_slot k = eqb (u32_at order info.bytes (info.size * k) % 8) 0

  pub all_is : (k n : ℕ) → list_all on_slot (range_with_len k n) ≡ on_grid order info k n
  all_is k zero = refl
  all_is k (suc n) = ap (λ (b : Bool). on_slot k && b) (all_is (k + 1) n ∙ ap (λ (m : ℕ). on_grid order info m n) (add-one k))

  -- the number at the start of a record, in the record and in the data
  pub first_u32 : (k : ℕ) → 4 ≤ info.size → u32_at order (chunk info k) 0 ≡ u32_at order info.bytes (info.size * k)
  first_u32 k least =
      u32_same order info.bytes (chunk info k) (info.size * k) 0
      (λ j l. ap (λ (i : ℕ). byte_at (chunk info k) i) (zero-add j) ∙ get_or-take info.size (drop (info.size * k) info.bytes) j 0 (omega arith) ∙ get_or-drop (info.size * k) info.bytes j 0)

-- a number read where a part begins
pub u32_from : (order : Order) (bytes : List ℕ) (at n : ℕ) → 4 ≤ n → u32_at order (take n (drop at bytes)) 0 ≡ u32_at order bytes at
u32_from order bytes at n l =
    u32_same order bytes (take n (drop at bytes)) at 0
    (λ j m. ap (λ (i : ℕ). byte_at (take n (drop at bytes)) i) (zero-add j) ∙ get_or-take n (drop at bytes) j 0 (omega arith) ∙ get_or-drop at bytes j 0)

-- ---- the data left from record k on, cut at that record's end
module _ (info : Info) (k : ℕ) where
  pub cut : (left x rest : List ℕ) → left ≡ drop (info.size * k) info.bytes → left ≡ x ++ rest → length x ≡ info.size
      → (x ≡ chunk info k) × (rest ≡ drop (info.size * (k + 1)) info.bytes)
  cut left x rest el ex n = (
    sym (take_at x rest info.size n) ∙ ap (take info.size) (sym ex ∙ el),
    sym (drop_at x rest info.size n) ∙ ap (drop info.size) (sym ex ∙ el) ∙ drop-drop info.size (info.size * k) info.bytes ∙ ap (λ (m : ℕ). drop m info.bytes) (next info.size k),
  )

  module _ (whole : info.count * info.size ≡ length info.bytes) where
    -- while a record is left, and when none is
    pub one_left : info.size * k + info.size ≤ length info.bytes → 0 < info.size → k < info.count
    one_left h p = let l : k * info.size < info.count * info.size = omega (arith, mul_comm k info.size) in lt_of_mul-lt-mul_right info.size l

    pub none_left : length info.bytes < info.size * k + info.size → k ≤ info.count → k ≡ info.count
    none_left h l =
        let less : info.count * info.size < (k + 1) * info.size = omega (arith, mul_comm (k + 1) info.size, next info.size k) in
        let most : info.count < k + 1 = lt_of_mul-lt-mul_right info.size less in
        omega arith

-- one row more, from record k as a chunk, with the loop's row size and number
module _ (order : Order) (table : Table) (info : Info) (within : Within table info) where
  pub turned : (room row k n v : ℕ) (x out once twice : List ℕ) → row ≡ row_size table → n ≡ k → row_size table ≤ info.size → x ≡ chunk info k
      → v ≡ u32_at order x 0 / 8 → out ≡ padded room (rows_of_records order table info 0 k)
      → once ≡ splice out (row * n) (bytes4 order v) → twice ≡ splice once (row * n + 4) (take (row - 4) (drop 4 x))
      → k < info.count → row * k + row ≤ room → twice ≡ padded room (rows_of_records order table info 0 (k + 1))
  turned room row k n v x out once twice er en fits ex ev eo e₁ e₂ l h =
      let number : v ≡ u32_at order info.bytes (info.size * k) / 8 =
      ev ∙ ap (λ (xs : List ℕ). u32_at order xs 0 / 8) ex ∙ ap (λ (n : ℕ). n / 8) (first_u32 order info k (omega (arith, row_size_least table))) in
      rw (e₂, ex, tail, e₁, eo, number, en, er) (turn order table info within room k l (rw er at h))
    where
      tail : take (row - 4) (drop 4 (chunk info k)) ≡ take (row - 4) (drop (info.size * k + 4) info.bytes)
      tail =
          let e : info.size ≡ 4 + (info.size - 4) = omega (arith, row_size_least table) in
          ap (λ (n : ℕ). take (row - 4) (drop 4 (take n (drop (info.size * k) info.bytes)))) e
          ∙ ap (take (row - 4)) (drop-take 4 (info.size - 4) (drop (info.size * k) info.bytes))
          ∙ take-take (row - 4) (info.size - 4) (drop 4 (drop (info.size * k) info.bytes)) (omega (arith, er))
          ∙ ap (take (row - 4)) (drop-drop 4 (info.size * k) info.bytes)
