-- One law of halving, over any test that holds up to some row and not from there on: where the two sides meet is how many rows
-- come before the first that fails.
-- Assumes nothing.
use mathlib.Core.Path.{◌≡◌, refl, sym, ap, ◌∙◌}
use mathlib.Core.Logic.{◌⊎◌, inl, inr}
use mathlib.Core.Bool.{Bool, true, false, not}
use mathlib.Core.Option.{Option, none, some}
use Prim.Native.Nat.{ℕ, ◌+◌, ◌≤◌, ◌<◌}
use native.Mathlib.Omega.{arith}
use native.Mathlib.Nat.{eq-or-lt_of_le}
use borrow.Author.Tests.{not-true, not-false}
use Rattle.rules.specs.Rows.{first_from}
use Rattle.rules.specs.Lookups.{or_end, how_many}
use Rattle.rules.proofs.Searches.{first_at, first_nothing, nothing_passes, found_passes, earlier_fail}

-- the rows above `low` pass, those from `high` on do not
pub record Narrowed (test : ℕ → Bool) (n low high : ℕ) : Type 0 where
  pub meet : low ≤ high
  pub inside : high ≤ n
  pub above : (j : ℕ) → j < low → test j ≡ true
  pub under : (j : ℕ) → high ≤ j → j < n → test j ≡ false

-- a test that no row passes again once one has failed
module _ (test : ℕ → Bool) (n : ℕ) (falls : (i j : ℕ) → i < j → j < n → test j ≡ true → test i ≡ true) where
  all_pass : (m : ℕ) → m < n → test m ≡ true → (j : ℕ) → j < m + 1 → test j ≡ true
  all_pass m l e j h = go (near (omega arith))
    where
      near : j ≤ m → (j ≡ m) ⊎ (j < m)
      near l = eq-or-lt_of_le l

      go : (j ≡ m) ⊎ (j < m) → test j ≡ true
      go (inl same) = ap test same ∙ e
      go (inr less) = falls j m less l e

  none_pass : (m : ℕ) → test m ≡ false → (j : ℕ) → m ≤ j → j < n → test j ≡ false
  none_pass m e j h l = go (test j) refl
    where
      go : (b : Bool) → test j ≡ b → b ≡ false
      go false f = refl
      go true f =
          let e' : test m ≡ true = all_pass j l f m (omega arith) in
          let z : ◌≡◌ {A = ℕ} 0 1 = cc in
          absurd (omega arith)

  pub unnarrowed : Narrowed test n 0 n
  unnarrowed = record { meet = omega arith; inside = omega arith; above = λ j h. absurd (omega arith); under = λ j h g. absurd (omega arith) }

  module _ (low high : ℕ) (so_far : Narrowed test n low high) where
    pub from_below : (m : ℕ) → m < high → test m ≡ true → Narrowed test n (m + 1) high
    from_below m l e =
        let h = so_far.inside in
        record { meet = omega arith; inside = h; above = all_pass m (omega arith) e; under = so_far.under }

    pub from_above : (m : ℕ) → low ≤ m → m ≤ high → test m ≡ false → Narrowed test n low m
    from_above m l l' e =
        let h = so_far.inside in
        record { meet = l; inside = omega arith; above = so_far.above; under = none_pass m e }

    -- where they meet
    pub met : high ≤ low → low ≡ how_many test n
    met l = go (near (omega (arith, so_far.meet, so_far.inside)))
      where
        near : low ≤ n → (low ≡ n) ⊎ (low < n)
        near l = eq-or-lt_of_le l

        go : (low ≡ n) ⊎ (low < n) → low ≡ or_end (first_from (λ j. not (test j)) 0 n) n
        go (inl same) = same ∙ sym (ap (λ o. or_end o n) (first_nothing (λ j. not (test j)) n (λ j h. ap not (so_far.above j (omega arith)))))
        go (inr less) =
            sym (ap (λ o. or_end o n) (first_at (λ j. not (test j)) n low less (ap not (so_far.under low l less)) (λ j h. ap not (so_far.above j h))))

  -- and back
  pub before_it : (j : ℕ) → j < how_many test n → test j ≡ true
  before_it j l = go (first_from (λ k. not (test k)) 0 n) refl l
    where
      go : (o : Option ℕ) → first_from (λ k. not (test k)) 0 n ≡ o → j < or_end o n → test j ≡ true
      go none e l = not-false _ (nothing_passes (λ k. not (test k)) 0 n e j (omega arith) (omega arith))
      go (some k) e l = not-false _ (earlier_fail (λ k. not (test k)) 0 n k e j (omega arith) l)

  pub from_it : (j : ℕ) → how_many test n ≤ j → j < n → test j ≡ false
  from_it j l h = go (first_from (λ k. not (test k)) 0 n) refl l
    where
      go : (o : Option ℕ) → first_from (λ k. not (test k)) 0 n ≡ o → or_end o n ≤ j → test j ≡ false
      go none e l = absurd (omega arith)
      go (some k) e l = none_pass k (not-true _ (found_passes (λ k. not (test k)) 0 n k e).passes) j l h
