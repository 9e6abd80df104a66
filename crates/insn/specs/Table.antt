-- A table that is a function's values in order.
-- Assumes nothing.
use Rattle.std.specs.Prelude.{◌≡◌, List, [], ◌∷◌, ℕ, zero, suc, ◌+◌, ◌<◌, get_or}
use Rattle.std.proofs.Common.{sym, ap, ◌∙◌, add-zero, zero-add, add-suc, suc-add, le_of_suc-le-suc, not-suc-le-zero}

module _ {A : Type 0} (f : ℕ → A) where
  -- n values, from the place i on
  abbrev pub values : ℕ → ℕ → List A
  values i zero = []
  values i (suc n) = f i ∷ values (suc i) n

  at_from : (i n k : ℕ) (d : A) → k < n → get_or (values i n) k d ≡ f (i + k)
  at_from i zero k d h = absurd (not-suc-le-zero h)
  at_from i (suc n) zero d h = ap f (sym (add-zero i))
  at_from i (suc n) (suc k) d h = at_from (suc i) n k d (le_of_suc-le-suc h) ∙ ap f (suc-add i k ∙ sym (add-suc i k))

  pub values_at : (n k : ℕ) (d : A) → k < n → get_or (values 0 n) k d ≡ f k
  values_at n k d h = at_from 0 n k d h ∙ ap f (zero-add k)
