-- One step of a search, as a loop takes it; what any search has to show; and rows read as lists against rows by number.
-- Assumes nothing.
use mathlib.Core.Path.{◌≡◌, refl, sym, ap, ◌∙◌, subst}
use mathlib.Core.Logic.{◌⊎◌, inl, inr, ⊎_elim}
use mathlib.Core.Bool.{Bool, true, false, cond}
use mathlib.Core.Option.{none, some}
use Prim.Native.Nat.{ℕ, zero, suc, ◌+◌, ◌-◌, ◌*◌, ◌≤◌, ◌<◌}
use native.Mathlib.Omega.{arith}
use native.Mathlib.Nat.{mul-suc, not-suc-le-zero, eq-or-lt_of_le, le_of_suc-le-suc}
use native.Mathlib.Numerals.{add-one}
use Rattle.rules.specs.Link.{run}
use Rattle.rules.specs.Tables.{first, first_row, before, Function, Before}
use Rattle.rules.specs.Rows.{first_from, summed}
use Rattle.rules.specs.Lookups.{read_row, Rising, RisingPair}

-- ---- a search for the first row that passes, k of n rows looked at
module _ (test : ℕ → Bool) (k n : ℕ) where
  pub first_step : k < n → test k ≡ false → first_from test k (n - k) ≡ first_from test (k + 1) (n - (k + 1))
  first_step h g =
      let e : n - k ≡ suc (n - (k + 1)) = omega arith in
      ap (first_from test k) e
      ∙ ap (λ b. cond b (some k) (first_from test (suc k) (n - (k + 1)))) g
      ∙ ap (λ m. first_from test m (n - (k + 1))) (sym (add-one k))

  pub first_hit : k < n → test k ≡ true → first_from test k (n - k) ≡ some k
  first_hit h g =
      let e : n - k ≡ suc (n - (k + 1)) = omega arith in
      ap (first_from test k) e ∙ ap (λ b. cond b (some k) (first_from test (suc k) (n - (k + 1)))) g

  pub first_end : n ≤ k → first_from test k (n - k) ≡ none
  first_end h =
      let e : n - k ≡ 0 = omega arith in
      ap (first_from test k) e

-- rows that do not pass are passed over
skip : (test : ℕ → Bool) (n m : ℕ) → m ≤ n → ((j : ℕ) → j < m → test j ≡ false) → first_from test 0 n ≡ first_from test m (n - m)
skip test n zero h f = let e : n ≡ n - 0 = omega arith in ap (first_from test 0) e
skip test n (suc m) h f =
    skip test n m (omega arith) (λ j g. f j (omega arith))
    ∙ first_step test m n (omega arith) (f m (omega arith))
    ∙ ap (λ i. first_from test i (n - i)) (add-one m)

-- what is found, by cases
pub first_at : (test : ℕ → Bool) (n k : ℕ) → k < n → test k ≡ true → ((j : ℕ) → j < k → test j ≡ false) → first_from test 0 n ≡ some k
first_at test n k h e f = skip test n k (omega arith) f ∙ first_hit test k n h e

pub first_nothing : (test : ℕ → Bool) (n : ℕ) → ((j : ℕ) → j < n → test j ≡ false) → first_from test 0 n ≡ none
first_nothing test n f = skip test n n (omega arith) f ∙ first_end test n n (omega arith)

-- and back: what nothing found, and what a row found, say of the rows
module _ (test : ℕ → Bool) where
  some_not_none : {A : Type 0} {a : A} {X : Type 0} → some a ≡ none → X
  some_not_none e = let z : ◌≡◌ {A = ℕ} 0 1 = cc in absurd (omega arith)

  pub nothing_passes : (from n : ℕ) → first_from test from n ≡ none → (j : ℕ) → from ≤ j → j < from + n → test j ≡ false
  nothing_passes from zero e j l m = absurd (omega arith)
  nothing_passes from (suc n) e j l m = go (test from) refl e (λ rest. nothing_passes (suc from) n rest j)
    where
      go : (b : Bool) → test from ≡ b → cond b (some from) (first_from test (suc from) n) ≡ none
          → (first_from test (suc from) n ≡ none → suc from ≤ j → j < suc from + n → test j ≡ false) → test j ≡ false
      go true t e later = some_not_none e
      go false t e later = ⊎_elim (λ same. ap test (sym same) ∙ t) (λ less. later e less (omega arith)) (eq-or-lt_of_le l)

  pub record Hit (from n k : ℕ) : Type 0 where
    pub low : from ≤ k
    pub high : k < from + n
    pub passes : test k ≡ true

  pub found_passes : (from n k : ℕ) → first_from test from n ≡ some k → Hit from n k
  found_passes from zero k e = some_not_none (sym e)
  found_passes from (suc n) k e = go (test from) refl e (λ rest. found_passes (suc from) n k rest)
    where
      go : (b : Bool) → test from ≡ b → cond b (some from) (first_from test (suc from) n) ≡ some k
          → (first_from test (suc from) n ≡ some k → Hit (suc from) n k) → Hit from (suc n) k
      go true t e later =
          let same : from ≡ k = cc in
          record { low = omega arith; high = omega arith; passes = ap test (sym same) ∙ t }
      go false t e later = let h = later e in record { low = omega (arith, h.low); high = omega (arith, h.high); passes = h.passes }

  -- the rows before the first that passes do not pass
  pub earlier_fail : (from n k : ℕ) → first_from test from n ≡ some k → (j : ℕ) → from ≤ j → j < k → test j ≡ false
  earlier_fail from zero k e j l m = let z : ◌≡◌ {A = ℕ} 0 1 = cc in absurd (omega arith)
  earlier_fail from (suc n) k e j l m = go (test from) refl e (λ rest. earlier_fail (suc from) n k rest j) (eq-or-lt_of_le l)
    where
      go : (b : Bool) → test from ≡ b → cond b (some from) (first_from test (suc from) n) ≡ some k
          → (first_from test (suc from) n ≡ some k → suc from ≤ j → j < k → test j ≡ false) → (from ≡ j) ⊎ (from < j) → test j ≡ false
      go true t e later w = let same : from ≡ k = cc in absurd (omega arith)
      go false t e later (inl same) = ap test (sym same) ∙ t
      go false t e later (inr less) = later e less m

-- ---- rows as a list
module _ {A : Type 0} (f : ℕ → A) (test : A → Bool) where
  pub first_run : (from n : ℕ) → first test (run f from n) ≡ read_row f (first_from (λ k. test (f k)) from n)
  first_run from zero = refl
  first_run from (suc n) = go (test (f from)) (first_run (suc from) n)
    where
      go : (b : Bool) → first test (run f (suc from) n) ≡ read_row f (first_from (λ k. test (f k)) (suc from) n)
          → cond b (some (f from)) (first test (run f (suc from) n)) ≡ read_row f (cond b (some from) (first_from (λ k. test (f k)) (suc from) n))
      go true e = refl
      go false e = e

  pub row_run : (from n : ℕ) → first_row test from (run f from n) ≡ first_from (λ k. test (f k)) from n
  row_run from zero = refl
  row_run from (suc n) = ap (cond (test (f from)) (some from)) (row_run (suc from) n)

-- ---- sums over rows
summed_past : (count : ℕ → ℕ) (from n : ℕ) → summed count from (suc n) ≡ summed count from n + count (from + n)
summed_past count from zero = omega (arith, ap count (let e : from + 0 ≡ from = omega arith in e))
summed_past count from (suc n) =
    let e : suc from + n ≡ from + suc n = omega arith in
    omega (arith, summed_past count (suc from) n, ap count e)

module _ (count : ℕ → ℕ) where
  -- one more row, as a loop adds it
  pub summed_step : (k : ℕ) → summed count 0 (k + 1) ≡ summed count 0 k + count k
  summed_step k = ap (summed count 0) (add-one k) ∙ summed_past count 0 k ∙ ap (λ m. summed count 0 k + count m) (let e : 0 + k ≡ k = omega arith in e)

  pub summed_bound : (most n : ℕ) → ((k : ℕ) → k < n → count k ≤ most) → summed count 0 n ≤ most * n
  summed_bound most zero b = omega arith
  summed_bound most (suc n) b =
      let e : summed count 0 (n + 1) ≡ summed count 0 n + count n = summed_step n in
      let p = b n (omega arith) in
      let s : summed count 0 n ≤ most * n = summed_bound most n (λ k l. b k (omega arith)) in
      let q : summed count 0 (suc n) ≡ summed count 0 n + count n = ap (summed count 0) (sym (add-one n)) ∙ e in
      omega (arith, mul-suc most n)

-- a row's part is inside the whole
pub part_inside : (count : ℕ → ℕ) (n row : ℕ) → row < n → summed count 0 row + count row ≤ summed count 0 n
part_inside count zero row l = absurd (omega arith)
part_inside count (suc n) row l =
    let e : summed count 0 (suc n) ≡ summed count 0 n + count n = ap (summed count 0) (sym (add-one n)) ∙ summed_step count n in
    ⊎_elim (λ (same : suc row ≡ suc n). let m : row ≡ n = omega arith in rw m (omega (arith, e)))
    (λ (less : suc row < suc n). omega (arith, part_inside count n row (omega arith), e))
    (eq-or-lt_of_le l)

pub before_run : (f : ℕ → Function) (count : Function → ℕ) (from n row : ℕ) → row ≤ n → before count row (run f from n) ≡ summed (λ k. count (f k)) from row
before_run f count from n zero l = refl
before_run f count from zero (suc row) l = absurd (omega arith)
before_run f count from (suc n) (suc row) l = ap (λ m. count (f from) + m) (before_run f count (suc from) n row (omega arith))

-- ---- keys that rise: neighbours that rise make all rise
module _ (R : ℕ → ℕ → Type 0) (chain : (i j k : ℕ) → R i j → R j k → R i k) (n : ℕ) (near : (j : ℕ) → suc j < n → R j (suc j)) where
  pub chained : (i j : ℕ) → i < j → j < n → R i j
  chained i zero h g = absurd (not-suc-le-zero h)
  chained i (suc j) h g =
      ⊎_elim (λ (e : i ≡ j). subst (λ m. R m (suc j)) (sym e) (near j g))
      (λ (l : i < j). chain i j (suc j) (chained i j l (omega arith)) (near j g))
      (eq-or-lt_of_le (le_of_suc-le-suc h))

pub rising_near : (key : ℕ → ℕ) (n : ℕ) → ((j : ℕ) → suc j < n → key j < key (suc j)) → Rising key n
unfolding Rising
rising_near key n near = chained (λ i j. key i < key j) (λ i j k a b. omega arith) n near

pub before_chain : (a b c d e f : ℕ) → Before a b c d → Before c d e f → Before a b e f
before_chain a b c d e f (inl p) (inl q) = inl (omega arith)
before_chain a b c d e f (inl p) (inr q) = inl (omega (arith, q.0))
before_chain a b c d e f (inr p) (inl q) = inl (omega (arith, p.0))
before_chain a b c d e f (inr p) (inr q) = inr (p.0 ∙ q.0, omega (arith, p.1, q.1))

pub rising_pair_near : (u v : ℕ → ℕ) (n : ℕ) → ((j : ℕ) → suc j < n → Before (u j) (v j) (u (suc j)) (v (suc j))) → RisingPair u v n
unfolding RisingPair
rising_pair_near u v n near = chained (λ i j. Before (u i) (v i) (u j) (v j)) (λ i j k p q. before_chain (u i) (v i) (u j) (v j) (u k) (v k) p q) n near
