-- What the examiner's tests say, taken one by one: nothing is wrong exactly where each test passes.
-- Assumes nothing.
use mathlib.Core.Path.{◌≡◌, refl, sym, ap}
use mathlib.Core.Logic.{◌↔◌, ◌⊎◌, inl, inr}
use mathlib.Core.Bool.{Bool, true, false, cond, ◌&&◌, ◌||◌}
use mathlib.Core.Option.{Option, none, some}
use mathlib.Core.List.Memᴰ
use mathlib.Core.List.{List, [], ◌∷◌, Memᴰ}
use Prim.Native.Nat.{ℕ, zero, suc, ◌+◌, ◌*◌, ◌/◌, ◌%◌, ◌≤◌, ◌<◌}
use native.Mathlib.Decide.{ℕ_discrete}
use native.Mathlib.Omega.{arith}
use borrow.Author.Tests.{eqb-true, eq-eqb, ltb-true, lt-ltb, leb-true, le-leb}
use lib.IntN.{ℤ, pos, negsuc}
use lib.Dec.{eqb, leb, ltb}
use lib.ListN.{length}
use Rattle.rules.specs.Answers.{Reply, reply}
use Rattle.rules.specs.Tables.{is_at}
use Rattle.rules.specs.Rows.{or_else}
use Rattle.rules.specs.Accepted.{Sized}
use Rattle.rules.specs.Examine.{size_wrong, same_number, first_wrong}

-- ---- statements that say the same

pub chain {ℓ} : {A B C : Type ℓ} → A ↔ B → B ↔ C → A ↔ C
chain f g = (λ a. g.0 (f.0 a), λ c. f.1 (g.1 c))

pub pair {ℓ} : {A B C D : Type ℓ} → A ↔ B → C ↔ D → (A × C) ↔ (B × D)
pair f g = (λ p. (f.0 p.0, g.0 p.1), λ p. (f.1 p.0, g.1 p.1))

pub either {ℓ} : {A B C D : Type ℓ} → A ↔ B → C ↔ D → (A ⊎ C) ↔ (B ⊎ D)
either {A} {B} {C} {D} f g = (to, from)
  where
    to : A ⊎ C → B ⊎ D
    to (inl a) = inl (f.0 a)
    to (inr c) = inr (g.0 c)

    from : B ⊎ D → A ⊎ C
    from (inl b) = inl (f.1 b)
    from (inr d) = inr (g.1 d)

pub back {ℓ} : {A B : Type ℓ} → A ↔ B → B ↔ A
back f = (f.1, f.0)

-- ---- tests

pub and_both : (a b : Bool) → ((a && b) ≡ true) ↔ ((a ≡ true) × (b ≡ true))
and_both true b = (λ e. (refl, e), λ p. p.1)
and_both false b = (λ e. absurd (false_true e), λ p. absurd (false_true p.0))
  where
    false_true : false ≡ true → ⊥
    false_true e = let z : ◌≡◌ {A = ℕ} 0 1 = cc in omega arith

pub or_either : (a b : Bool) → ((a || b) ≡ true) ↔ ((a ≡ true) ⊎ (b ≡ true))
or_either true b = (λ e. inl e, λ h. refl)
or_either false b = (λ e. inr e, from)
  where
    from : (false ≡ true) ⊎ (b ≡ true) → b ≡ true
    from (inl e) = let z : ◌≡◌ {A = ℕ} 0 1 = cc in absurd (omega arith)
    from (inr e) = e

pub eqb_is : (m n : ℕ) → (eqb m n ≡ true) ↔ (m ≡ n)
eqb_is m n = (eqb-true m n, eq-eqb m n)

pub ltb_is : (m n : ℕ) → (ltb m n ≡ true) ↔ (m < n)
ltb_is m n = (ltb-true m n, lt-ltb m n)

pub leb_is : (m n : ℕ) → (leb m n ≡ true) ↔ (m ≤ n)
leb_is m n = (leb-true m n, le-leb m n)

pub same_number_lem : (a b : ℤ) → (same_number a b ≡ true) ↔ (a ≡ b)
same_number_lem (pos m) (pos n) = (λ t. ap pos (eqb-true m n t), λ e. eq-eqb m n (cc))
same_number_lem (pos m) (negsuc n) = (λ t. let z : ◌≡◌ {A = ℕ} 0 1 = cc in absurd (omega arith), λ e. let z : ◌≡◌ {A = ℕ} 0 1 = cc in absurd (omega arith))
same_number_lem (negsuc m) (pos n) = (λ t. let z : ◌≡◌ {A = ℕ} 0 1 = cc in absurd (omega arith), λ e. let z : ◌≡◌ {A = ℕ} 0 1 = cc in absurd (omega arith))
same_number_lem (negsuc m) (negsuc n) = (λ t. ap negsuc (eqb-true m n t), λ e. eq-eqb m n (cc))

pub is_at_lem : (n : ℕ) (z : ℤ) → (is_at n z ≡ true) ↔ (z ≡ pos n)
is_at_lem n (pos m) = (λ t. ap pos (sym (eqb-true n m t)), λ e. eq-eqb n m (cc))
is_at_lem n (negsuc m) = (λ t. let z : ◌≡◌ {A = ℕ} 0 1 = cc in absurd (omega arith), λ e. let z : ◌≡◌ {A = ℕ} 0 1 = cc in absurd (omega arith))

-- ---- nothing wrong

pub some_none : {A : Type 0} {r : A} → some r ≡ none → ⊥
some_none e = let z : ◌≡◌ {A = ℕ} 0 1 = cc in omega arith

pub or_none_lem : (a b : Option Reply) → (or_else a b ≡ none) ↔ ((a ≡ none) × (b ≡ none))
or_none_lem none b = (λ e. (refl, e), λ p. p.1)
or_none_lem (some r) b = (λ e. absurd (some_none e), λ p. absurd (some_none p.0))

-- a test, and what is tested after it
pub cond_none : {A : Type 0} (b : Bool) (later : Option A) (r : A) → (cond b later (some r) ≡ none) ↔ ((b ≡ true) × (later ≡ none))
cond_none true later r = (λ e. (refl, e), λ p. p.1)
cond_none false later r = (λ e. absurd (some_none e), λ p. let z : ◌≡◌ {A = ℕ} 0 1 = cc p.0 in absurd (omega arith))

pub test_none : (b : Bool) (r : Reply) → (cond b none (some r) ≡ none) ↔ (b ≡ true)
test_none b r = (λ e. ((cond_none b none r).0 e).0, λ t. (cond_none b none r).1 (t, refl))

-- every one of n, from number j on
from_step : (Holds : ℕ → Type 0) (j n : ℕ)
    → (Holds j × ((k : ℕ) → suc j ≤ k → k < suc j + n → Holds k)) ↔ ((k : ℕ) → j ≤ k → k < j + suc n → Holds k)
from_step Holds j n = (λ h k l m. go k l m h (ℕ_discrete k j), λ h. (h j (omega arith) (omega arith), λ k l m. h k (omega arith) (omega arith)))
  where
    go : (k : ℕ) → j ≤ k → k < j + suc n → Holds j × ((k : ℕ) → suc j ≤ k → k < suc j + n → Holds k) → Dec (k ≡ j) → Holds k
    go k l m h (yes e) = rw e h.0
    go k l m h (no e) = h.1 k (omega arith) (omega arith)

from_none : (wrong : ℕ → Option Reply) (j n : ℕ) → (first_wrong wrong j n ≡ none) ↔ ((k : ℕ) → j ≤ k → k < j + n → wrong k ≡ none)
from_none wrong j zero = (λ e k l m. absurd (omega arith), λ h. refl)
from_none wrong j (suc n) =
    chain (chain (or_none_lem (wrong j) (first_wrong wrong (suc j) n)) (pair (λ e. e, λ e. e) (from_none wrong (suc j) n))) (from_step (λ k. wrong k ≡ none) j n)

pub first_none : (wrong : ℕ → Option Reply) (n : ℕ) → (first_wrong wrong 0 n ≡ none) ↔ ((k : ℕ) → k < n → wrong k ≡ none)
first_none wrong n =
    (λ e k l. (from_none wrong 0 n).0 e k (omega arith) (omega arith), λ h. (from_none wrong 0 n).1 (λ k l m. h k (omega arith)))

pub all_same : (n : ℕ) (P Q : ℕ → Type 0) → ((j : ℕ) → P j ↔ Q j) → ((j : ℕ) → j < n → P j) ↔ ((j : ℕ) → j < n → Q j)
all_same n P Q f = (λ h j l. (f j).0 (h j l), λ h j l. (f j).1 (h j l))

-- ---- every element of a list

abbrev pub Each : {A : Type 0} → (A → Type 0) → List A → Type 0
Each Holds [] = Unit {0}
Each Holds (x ∷ xs) = Holds x × Each Holds xs

pub each_is : {A : Type 0} (Holds : A → Type 0) (xs : List A) → Each Holds xs ↔ ((x : A) → Memᴰ x xs → Holds x)
each_is Holds [] = (λ t x m. absurd (Memᴰ.not-nil m), λ h. tt)
each_is {A} Holds (x ∷ xs) = (λ t y m. to y t (Memᴰ.cases_cons m) ((each_is Holds xs).0 t.1), λ h. (h x (Memᴰ.head refl), (each_is Holds xs).1 (λ y m. h y (Memᴰ.tail m))))
  where
    to : (y : A) → Holds x × Each Holds xs → (y ≡ x) ⊎ Memᴰ y xs → ((y : A) → Memᴰ y xs → Holds y) → Holds y
    to y t (inl e) later = rw e t.0
    to y t (inr m) later = later y m

-- ---- sizes

pub size_none : (number size most : ℕ) (bytes : List ℕ) → (size_wrong number size most bytes ≡ none) ↔ Sized size most bytes
unfolding size_wrong
size_none number size most bytes =
    chain (chain (cond_none (leb (length bytes) (size * most)) (cond (eqb (length bytes % size) 0) none (some (reply 34 number (length bytes / size) 0))) (reply 33 number 0 0))
    (pair (leb_is (length bytes) (size * most)) (chain (test_none (eqb (length bytes % size) 0) (reply 34 number (length bytes / size) 0)) (eqb_is (length bytes % size) 0))))
    (λ p. record { whole = p.1; few = p.0 }, λ s. (s.few, s.whole))
