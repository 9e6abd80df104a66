-- The search for a slot's relocation with a cursor that rises with the slots: every row before it is before the slot's place, so what
-- it stops at is the first matching row of the whole table.
-- Assumes nothing.
use mathlib.Core.Path.{◌≡◌, refl, sym, ◌∙◌}
use mathlib.Core.Logic.{◌⊎◌, inl, inr, ⊎_elim}
use mathlib.Core.Bool.{Bool, true, false, not, ◌&&◌}
use mathlib.Core.Option.{Option, none, some}
use mathlib.Core.List.{List}
use Prim.Native.Nat.{ℕ, suc, ◌+◌, ◌≤◌, ◌<◌}
use native.Mathlib.Omega.{arith}
use native.Mathlib.Nat.{eq-or-lt_of_le}
use lib.Dec.{eqb, ltb}
use borrow.Author.Tests.{eq-eqb, ne_eqb, ltb-true, ltb-false, not-false}
use Rattle.rules.specs.declared.Table.TheVariants.{Relocations}
use Rattle.rules.specs.Rows.{whole_rows, below, first_from, relocation_section, relocation_offset}
use Rattle.rules.specs.Lookups.{Sound, RisingPair, relocation_with, relocations_before, or_end}
use Rattle.rules.specs.Tables.{Before}
use Rattle.rules.proofs.Searches.{first_at, first_nothing, nothing_passes, earlier_fail, before_chain}
use Rattle.rules.proofs.Passed.{below_before, before_below, relocations_rise}

before_not : (a b c d : ℕ) → Before a b c d → (eqb a c && eqb b d) ≡ false
before_not a b c d (inl l) = rw (ne_eqb a c (λ e. omega arith)) refl
before_not a b c d (inr p) = rw (eq-eqb a c p.0, ne_eqb b d (λ e. omega (arith, p.1))) refl

after_not : (a b c d : ℕ) → Before c d a b → (eqb a c && eqb b d) ≡ false
after_not a b c d (inl l) = rw (ne_eqb a c (λ e. omega arith)) refl
after_not a b c d (inr p) = rw (eq-eqb a c (sym p.0), ne_eqb b d (λ e. omega (arith, p.1))) refl

-- neither before nor there: after
past : (a b c d : ℕ) → below a b c d ≡ false → (eqb a c && eqb b d) ≡ false → Before c d a b
past a b c d n m = go (ltb a c) (ltb c a) refl refl
  where
    clash : {X : Type 0} → true ≡ false → X
    clash e = let z : ◌≡◌ {A = ℕ} 0 1 = cc in absurd (omega arith)

    level : a ≡ c → (x y : Bool) → ltb b d ≡ x → ltb d b ≡ y → Before c d a b
    level e true y lx ly = clash (sym (before_below a b c d (inr (e, ltb-true b d lx))) ∙ n)
    level e false true lx ly = inr (sym e, ltb-true d b ly)
    level e false false lx ly =
        let p = ltb-false b d lx in
        let q = ltb-false d b ly in
        let f : b ≡ d = omega arith in
        clash (sym (rw (eq-eqb a c e, eq-eqb b d f) refl) ∙ m)

    go : (x y : Bool) → ltb a c ≡ x → ltb c a ≡ y → Before c d a b
    go true y lx ly = clash (sym (before_below a b c d (inl (ltb-true a c lx))) ∙ n)
    go false true lx ly = inl (ltb-true c a ly)
    go false false lx ly =
        let p = ltb-false a c lx in
        let q = ltb-false c a ly in
        level (omega arith) (ltb b d) (ltb d b) refl refl

module _ (t : List ℕ) (home : ℕ) where
  -- every row before the cursor is before the place
  pub Behind : ℕ → ℕ → Type 0
  Behind place cur = (j : ℕ) → j < cur → Before (relocation_section t j) (relocation_offset t j) home place

  pub behind_on : (place place' cur : ℕ) → place ≤ place' → Behind place cur → Behind place' cur
  unfolding Behind
  behind_on place place' cur l f j lj = go (f j lj)
    where
      go : Before (relocation_section t j) (relocation_offset t j) home place → Before (relocation_section t j) (relocation_offset t j) home place'
      go (inl p) = inl p
      go (inr p) = inr (p.0, omega (arith, p.1))

  pub behind_more : (place cur : ℕ) → Behind place cur → below (relocation_section t cur) (relocation_offset t cur) home place ≡ true → Behind place (cur + 1)
  unfolding Behind
  behind_more place cur f e j l =
      ⊎_elim (λ (q : suc j ≡ cur + 1). let s : j ≡ cur = omega arith in rw s (below_before _ _ home place e))
      (λ (q : suc j < cur + 1). f j (omega arith))
      (eq-or-lt_of_le l)

  -- where it starts
  pub behind_first : (place : ℕ) → Behind place (relocations_before t home place)
  unfolding Behind relocations_before
  behind_first place = go (first_from (λ k. not (below (relocation_section t k) (relocation_offset t k) home place)) 0 (whole_rows Relocations t)) refl
    where
      go : (o : Option ℕ) → first_from (λ k. not (below (relocation_section t k) (relocation_offset t k) home place)) 0 (whole_rows Relocations t) ≡ o
          → (j : ℕ) → j < or_end o (whole_rows Relocations t) → Before (relocation_section t j) (relocation_offset t j) home place
      go none e j l =
          below_before _ _ home place (not-false (below (relocation_section t j) (relocation_offset t j) home place)
          (nothing_passes (λ k. not (below (relocation_section t k) (relocation_offset t k) home place)) 0 (whole_rows Relocations t) e j (omega arith) (omega arith)))
      go (some k) e j l =
          below_before _ _ home place (not-false (below (relocation_section t j) (relocation_offset t j) home place)
          (earlier_fail (λ k. not (below (relocation_section t k) (relocation_offset t k) home place)) 0 (whole_rows Relocations t) k e j (omega arith) l))

  module _ (place cur : ℕ) (behind : Behind place cur) where
    earlier_not : (j : ℕ) → j < cur → (eqb (relocation_section t j) home && eqb (relocation_offset t j) place) ≡ false
    unfolding Behind
    earlier_not j l = before_not (relocation_section t j) (relocation_offset t j) home place (behind j l)

    -- the three ways out of the loop
    pub at_end : whole_rows Relocations t ≤ cur → relocation_with t home place ≡ none
    unfolding relocation_with
    at_end l = first_nothing (λ k. eqb (relocation_section t k) home && eqb (relocation_offset t k) place) (whole_rows Relocations t) (λ j lj. earlier_not j (omega arith))

    pub at_row : cur < whole_rows Relocations t → (eqb (relocation_section t cur) home && eqb (relocation_offset t cur) place) ≡ true → relocation_with t home place ≡ some cur
    unfolding relocation_with
    at_row l e = first_at (λ k. eqb (relocation_section t k) home && eqb (relocation_offset t k) place) (whole_rows Relocations t) cur l e earlier_not

    pub at_later : Sound Relocations t → cur < whole_rows Relocations t → below (relocation_section t cur) (relocation_offset t cur) home place ≡ false
        → (eqb (relocation_section t cur) home && eqb (relocation_offset t cur) place) ≡ false → relocation_with t home place ≡ none
    unfolding relocation_with RisingPair
    at_later sound l n m =
        first_nothing (λ k. eqb (relocation_section t k) home && eqb (relocation_offset t k) place) (whole_rows Relocations t) (λ j lj. either j lj)
      where
        either : (j : ℕ) → j < whole_rows Relocations t → (eqb (relocation_section t j) home && eqb (relocation_offset t j) place) ≡ false
        either j lj = go (ltb j cur) refl
          where
            here : Before home place (relocation_section t cur) (relocation_offset t cur)
            here = past (relocation_section t cur) (relocation_offset t cur) home place n m

            later : (j ≡ cur) ⊎ (cur < j) → (eqb (relocation_section t j) home && eqb (relocation_offset t j) place) ≡ false
            later (inl e) = rw e m
            later (inr g) =
                after_not (relocation_section t j) (relocation_offset t j) home place
                (before_chain home place (relocation_section t cur) (relocation_offset t cur) (relocation_section t j) (relocation_offset t j) here (relocations_rise t sound cur j g lj))

            go : (x : Bool) → ltb j cur ≡ x → (eqb (relocation_section t j) home && eqb (relocation_offset t j) place) ≡ false
            go true e = earlier_not j (ltb-true j cur e)
            go false e = later (swap (eq-or-lt_of_le (ltb-false j cur e)))
              where
                swap : (cur ≡ j) ⊎ (cur < j) → (j ≡ cur) ⊎ (cur < j)
                swap (inl q) = inl (sym q)
                swap (inr q) = inr q
