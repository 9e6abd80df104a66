-- Lists in another order: members, the order turned round, and relocations of distinct offsets stay distinct.
-- Assumes nothing.
use mathlib.Core.Path.{◌≡◌, refl, sym, ◌∙◌, ap}
use mathlib.Core.Logic.{◌≢◌, ◌⊎◌, inl, inr}
use mathlib.Core.Bool.{Bool, true, false, cond}
use mathlib.Core.List.Memᴰ
use mathlib.Core.List.{List, [], ◌∷◌, Memᴰ}
use Rattle.rules.specs.Tables.{Relocation}
use Rattle.rules.specs.Maps.{only}
use Rattle.equality.specs.Domain.{Perm, done, keep, swap, both}
use Rattle.rules.proofs.MapsApart.{Distinct}

pub perm_member : {A : Type 0} {xs ys : List A} (x : A) → Perm xs ys → Memᴰ x ys → Memᴰ x xs
perm_member x done m = m
perm_member x (keep y p) m = go (Memᴰ.cases_cons m) (λ m. perm_member x p m)
  where
    go : {xs ys : List _} → (x ≡ y) ⊎ Memᴰ x ys → (Memᴰ x ys → Memᴰ x xs) → Memᴰ x (y ∷ xs)
    go (inl e) later = Memᴰ.head e
    go (inr m) later = Memᴰ.tail (later m)
perm_member x (swap a b zs) m = go (Memᴰ.cases_cons m)
  where
    inner : (x ≡ a) ⊎ Memᴰ x zs → Memᴰ x (a ∷ b ∷ zs)
    inner (inl e) = Memᴰ.head e
    inner (inr m) = Memᴰ.tail (Memᴰ.tail m)

    go : (x ≡ b) ⊎ Memᴰ x (a ∷ zs) → Memᴰ x (a ∷ b ∷ zs)
    go (inl e) = Memᴰ.tail (Memᴰ.head e)
    go (inr m) = inner (Memᴰ.cases_cons m)
perm_member x (both p q) m = perm_member x p (perm_member x q m)

pub perm_refl : {A : Type 0} (xs : List A) → Perm xs xs
perm_refl [] = done
perm_refl (x ∷ xs) = keep x (perm_refl xs)

pub perm_sym : {A : Type 0} {xs ys : List A} → Perm xs ys → Perm ys xs
perm_sym done = done
perm_sym (keep x p) = keep x (perm_sym p)
perm_sym (swap x y zs) = swap y x zs
perm_sym (both p q) = both (perm_sym q) (perm_sym p)

pub perm_distinct : {xs ys : List Relocation} → Perm xs ys → Distinct xs → Distinct ys
perm_distinct done d = tt
perm_distinct (keep x p) d = (λ q m. d.0 q (perm_member q p m), perm_distinct p d.1)
perm_distinct (swap a b zs) d = (λ q m. go q (Memᴰ.cases_cons m), (λ q m. d.0 q (Memᴰ.tail m), d.1.1))
  where
    go : (q : Relocation) → (q ≡ a) ⊎ Memᴰ q zs → b.offset ≢ q.offset
    go q (inl e) = λ same. d.0 b (Memᴰ.head refl) (ap (λ r. r.offset) (sym e) ∙ sym same)
    go q (inr m) = d.1.0 q m
perm_distinct (both p q) d = perm_distinct q (perm_distinct p d)

-- and what is taken out of both by a test
pub only_perm : {A : Type 0} (test : A → Bool) {xs ys : List A} → Perm xs ys → Perm (only test xs) (only test ys)
only_perm test done = done
only_perm test (keep x p) = go (test x) (only_perm test p)
  where
    go : (b : Bool) {xs ys : List _} → Perm xs ys → Perm (cond b (x ∷ xs) xs) (cond b (x ∷ ys) ys)
    go true p = keep x p
    go false p = p
only_perm test (swap x y zs) = go (test x) (test y)
  where
    go : (a b : Bool) → Perm (cond a (x ∷ cond b (y ∷ only test zs) (only test zs)) (cond b (y ∷ only test zs) (only test zs)))
        (cond b (y ∷ cond a (x ∷ only test zs) (only test zs)) (cond a (x ∷ only test zs) (only test zs)))
    go true true = swap x y (only test zs)
    go true false = perm_refl (x ∷ only test zs)
    go false true = perm_refl (y ∷ only test zs)
    go false false = perm_refl (only test zs)
only_perm test (both p q) = both (only_perm test p) (only_perm test q)
