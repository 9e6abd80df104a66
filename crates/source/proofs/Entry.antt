-- Tables that the entry walks are checked.
-- Assumes nothing.
use mathlib.Core.Path.{◌≡◌, refl}
use mathlib.Core.Option.{Option, none, some}
use Prim.Native.Nat.{ℕ}
use native.Mathlib.Omega.{arith}
use Rattle.rules.specs.Answers.{Reply}
use Rattle.rules.specs.Rows.{Offered, or_else, no_root, map_step_refusal}
use Rattle.rules.specs.Lookups.{Checked}
use Rattle.rules.proofs.Refusing.{map_checked}
use Rattle.source.specs.Steps.{walk_refusal}

module _ (o : Offered) (root : ℕ) where
  -- tables that pass are checked
  pub checks : walk_refusal o root ≡ none → Checked o
  checks e = (map_checked o (first (map_step_refusal o) e)).tables
    where
      first : (r : Option Reply) → or_else r (no_root o root) ≡ none → r ≡ none
      first none h = refl
      first (some r) h = let z : ◌≡◌ {A = ℕ} 0 1 = cc in absurd (omega arith)
