-- The first of some that has something wrong, as a loop looks for it; and the first of two.
-- Assumes nothing.
use mathlib.Core.Path.{◌≡◌, refl, sym, ap, ◌∙◌}
use mathlib.Core.Logic.{◌⊎◌, inl, inr}
use mathlib.Core.Option.{Option, none, some}
use Prim.Native.Nat.{ℕ, zero, suc, ◌+◌, ◌-◌, ◌≤◌, ◌<◌}
use native.Mathlib.Omega.{arith}
use native.Mathlib.Nat.{eq-or-lt_of_le}
use native.Mathlib.Numerals.{add-one}
use Rattle.rules.specs.Answers.{Reply}
use Rattle.rules.specs.Rows.{or_else}
use Rattle.rules.specs.Examine.{first_wrong}

-- ---- of two
pub record Neither (a b : Option Reply) : Type 0 where
  pub first : a ≡ none
  pub second : b ≡ none

pub neither : (a b : Option Reply) → or_else a b ≡ none → Neither a b
neither none b e = record { first = refl; second = e }
neither (some r) b e = let z : ◌≡◌ {A = ℕ} 0 1 = cc in absurd (omega arith)

pub or_first : {a : Option Reply} {r : Reply} (b : Option Reply) → a ≡ some r → or_else a b ≡ some r
or_first b e = ap (λ x. or_else x b) e

pub or_second : {a : Option Reply} (b : Option Reply) → a ≡ none → or_else a b ≡ b
or_second b e = ap (λ x. or_else x b) e

-- ---- of n, with j of them looked at
module _ (wrong : ℕ → Option Reply) (j n : ℕ) where
  opened : j < n → first_wrong wrong j (n - j) ≡ or_else (wrong j) (first_wrong wrong (j + 1) (n - (j + 1)))
  opened h =
      let e : n - j ≡ suc (n - (j + 1)) = omega arith in
      ap (first_wrong wrong j) e ∙ ap (λ m. or_else (wrong j) (first_wrong wrong m (n - (j + 1)))) (sym (add-one j))

  pub wrong_step : j < n → wrong j ≡ none → first_wrong wrong j (n - j) ≡ first_wrong wrong (j + 1) (n - (j + 1))
  wrong_step h e = opened h ∙ or_second (first_wrong wrong (j + 1) (n - (j + 1))) e

  pub wrong_here : {r : Reply} → j < n → wrong j ≡ some r → first_wrong wrong j (n - j) ≡ some r
  wrong_here h e = opened h ∙ or_first (first_wrong wrong (j + 1) (n - (j + 1))) e

  pub wrong_end : n ≤ j → first_wrong wrong j (n - j) ≡ none
  wrong_end h = let e : n - j ≡ 0 = omega arith in ap (first_wrong wrong j) e

-- two tests that say the same of each of them
pub alike : (f g : ℕ → Option Reply) (from n : ℕ) → ((j : ℕ) → from ≤ j → j < from + n → f j ≡ g j) → first_wrong f from n ≡ first_wrong g from n
alike f g from zero same = refl
alike f g from (suc n) same =
    ap (λ x. or_else x (first_wrong f (suc from) n)) (same from (omega arith) (omega arith))
    ∙ ap (or_else (g from)) (alike f g (suc from) n (λ j l h. same j (omega arith) (omega arith)))

-- where nothing is wrong, nothing is wrong with each
pub all_right : (wrong : ℕ → Option Reply) (from n : ℕ) → first_wrong wrong from n ≡ none → (j : ℕ) → from ≤ j → j < from + n → wrong j ≡ none
all_right wrong from zero e j l h = absurd (omega arith)
all_right wrong from (suc n) e j l h =
    let parts = neither (wrong from) (first_wrong wrong (suc from) n) e in
    go parts (λ less. all_right wrong (suc from) n parts.second j less (omega arith)) (eq-or-lt_of_le l)
  where
    go : Neither (wrong from) (first_wrong wrong (suc from) n) → (from < j → wrong j ≡ none) → (from ≡ j) ⊎ (from < j) → wrong j ≡ none
    go parts later (inl same) = ap wrong (sym same) ∙ parts.first
    go parts later (inr less) = later less
