-- A count of table 3 added up by `sum` over the row numbers, and how high the sum can be.
-- Assumes nothing.
use mathlib.Core.Path.{◌≡◌, ap, ◌∙◌}
use mathlib.Core.List.{List}
use Prim.Native.Nat.{ℕ, zero, suc, ◌+◌, ◌*◌, ◌≤◌}
use native.Mathlib.Omega.{arith}
use native.Mathlib.Numerals.{add-one}
use Rattle.std.specs.List.{fold, sum_by, range_with_len}
use Rattle.rules.specs.declared.Table.{Table}
use Rattle.rules.specs.declared.Table.TheVariants.{Code, Symbols, Functions, Relocations, Maps, Instructions, FuncInfo, LineInfo}
use Rattle.rules.specs.Bytes.{AreBytes, little}
use Rattle.rules.specs.Rows.{row_size, summed, function_slots, function_func_info, function_line_info, count_of}
use Rattle.rules.proofs.Searches.{summed_bound}
use Rattle.rules.proofs.Rounds.{u32_below}

module _ (count : ℕ → ℕ) where
  added : (k n sum : ℕ) → fold (λ a x. a + count x) sum (range_with_len k n) ≡ sum + summed count k n
  added k zero sum = omega arith
  added k (suc n) sum =
      added (k + 1) n (sum + count k) ∙ ap (λ m. sum + count k + summed count m n) (add-one k) ∙ omega arith

  pub sum_is : (n : ℕ) → sum_by count (range_with_len 0 n) ≡ summed count 0 n
  sum_is n = added 0 n 0 ∙ omega arith

count_below : (table : Table) (t : List ℕ) → AreBytes t → (k : ℕ) → count_of table t k ≤ 0x1_0000_0000
unfolding function_slots function_func_info function_line_info
count_below Instructions t are k = omega (arith, u32_below little t are (row_size Functions * k + 4))
count_below FuncInfo t are k = omega (arith, u32_below little t are (row_size Functions * k + 24))
count_below LineInfo t are k = omega (arith, u32_below little t are (row_size Functions * k + 28))
count_below Code t are k = omega arith
count_below Symbols t are k = omega arith
count_below Functions t are k = omega arith
count_below Relocations t are k = omega arith
count_below Maps t are k = omega arith

pub sum_low : (table : Table) (t : List ℕ) → AreBytes t → (n : ℕ) → summed (count_of table t) 0 n ≤ 0x1_0000_0000 * n
sum_low table t are n = summed_bound (count_of table t) 0x1_0000_0000 n (λ k l. count_below table t are k)
