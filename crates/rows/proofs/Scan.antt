-- Row numbers searched by `find` and by `any`: what they answer is the first row that passes a test, and whether there is one.
-- Assumes nothing.
use mathlib.Core.Path.{◌≡◌, refl, sym, ap, ◌∙◌}
use mathlib.Core.Bool.{Bool, true, false, cond, ◌||◌}
use mathlib.Core.Option.{some}
use Prim.Native.Nat.{ℕ, zero, suc, ◌+◌, ◌≤◌, ◌<◌}
use native.Mathlib.Omega.{arith}
use native.Mathlib.Numerals.{add-one}
use Rattle.std.specs.List.{list_any, range_with_len}
use Rattle.std.specs.Option.{MatchOption}
use Rattle.std.specs.Prelude as prelude
use Rattle.std.specs.Prelude.{Some, None}
use Rattle.rules.specs.Tables.{is_some}
use Rattle.rules.specs.Rows.{first_from, any_from}
use Rattle.rules.specs.Lookups.{found_of}
use Rattle.rules.proofs.Searches.{first_at, first_nothing}

module _ (test : ℕ → Bool) where
  pub first_is : (n : ℕ) (r : prelude.Option ℕ)
      → MatchOption r ((k : ℕ) → 0 ≤ k → k < n → false ≡ test k) (λ i. (0 ≤ i) × (i < n) × (true ≡ test i) × ((k : ℕ) → 0 ≤ k → k < i → false ≡ test k))
      → r ≡ found_of (first_from test 0 n)
  first_is n None each = sym (ap found_of (first_nothing test n (λ k l. sym (each k (omega arith) l))))
  first_is n (Some i) hit = sym (ap found_of (first_at test n i hit.1 (sym hit.2) (λ k l. sym (hit.3 k (omega arith) l))))

  pub any_is : (k n : ℕ) → list_any test (range_with_len k n) ≡ any_from test k n
  any_is k zero = refl
  any_is k (suc n) = ap (λ b. test k || b) (any_is (k + 1) n ∙ ap (λ m. any_from test m n) (add-one k))

  pub some_is : (k n : ℕ) → any_from test k n ≡ is_some (first_from test k n)
  some_is k zero = refl
  some_is k (suc n) = go (test k) (some_is (suc k) n)
    where
      go : (b : Bool) → any_from test (suc k) n ≡ is_some (first_from test (suc k) n)
          → (b || any_from test (suc k) n) ≡ is_some (cond b (some k) (first_from test (suc k) n))
      go true later = refl
      go false later = later
