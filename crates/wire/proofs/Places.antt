-- Numbers that are put one after another into a buffer of zeros are the places that fit, and zero after.
-- Assumes nothing.
use mathlib.Core.Path.{◌≡◌, refl, sym, ap, ◌∙◌}
use mathlib.Core.List.{List, [], ◌∷◌, ◌++◌, append_assoc}
use Prim.Native.Nat.{ℕ, ◌+◌, ◌*◌, ◌-◌, ◌/◌, ◌≤◌, ◌<◌}
use native.Mathlib.Omega.{arith}
use native.Mathlib.Numerals.{add-one}
use lib.ListN.{length, get_or, take, drop, replicate, replicate-append-replicate, length-append, length-replicate}
use lib.Seq.{take_at, take_all, take-suc, length-take-le, drop-append-add, drop_at}
use Rattle.rules.specs.Bytes.{little, bytes4, splice, padded}
use Rattle.rules.specs.Answers.{numbers, places_in}
use Rattle.wire.proofs.Laws.{numbers_length}

drop_zeros : (k n : ℕ) → k ≤ n → drop {A = ℕ} k (replicate n 0) ≡ replicate (n - k) 0
drop_zeros k n h =
    let e : n ≡ k + (n - k) = omega arith in
    ap (λ (m : ℕ). drop {A = ℕ} k (replicate m 0)) e
    ∙ ap (drop {A = ℕ} k) (sym (replicate-append-replicate k (n - k) 0))
    ∙ drop_at (replicate k 0) (replicate (n - k) 0) k (length-replicate k 0)

-- a splice at the seam of what was put and the zeros that are left
at_seam : (p vs : List ℕ) (n k : ℕ) → length p ≡ k → length vs ≤ n
    → splice (p ++ replicate n 0) k vs ≡ p ++ (vs ++ replicate (n - length vs) 0)
unfolding splice
at_seam p vs n k e h =
    ap (λ (l : List ℕ). l ++ vs ++ drop (k + length vs) (p ++ replicate n 0)) (take_at p (replicate n 0) k e)
    ∙ append_assoc p vs (drop (k + length vs) (p ++ replicate n 0))
    ∙ ap (λ (m : ℕ). p ++ (vs ++ drop (m + length vs) (p ++ replicate n 0))) (sym e)
    ∙ ap (λ (l : List ℕ). p ++ (vs ++ l)) (drop-append-add p (replicate n 0) (length vs) ∙ drop_zeros (length vs) n h)

numbers_append : (xs ys : List ℕ) → numbers (xs ++ ys) ≡ numbers xs ++ numbers ys
numbers_append [] ys = refl
numbers_append (x ∷ xs) ys = ap (λ (l : List ℕ). bytes4 little x ++ l) (numbers_append xs ys)

-- before the first
pub none_put : (n : ℕ) → replicate n 0 ≡ padded n []
unfolding padded
none_put n = let e : n ≡ n - 0 = omega arith in ap (λ (k : ℕ). replicate k 0) e

module _ (ps : List ℕ) (n i : ℕ) where
  pub front : i ≤ length ps → length (numbers (take i ps)) ≡ 4 * i
  front h = numbers_length (take i ps) ∙ ap (λ (k : ℕ). 4 * k) (length-take-le i ps h)

  pub one_more : i < length ps → numbers (take (i + 1) ps) ≡ numbers (take i ps) ++ bytes4 little (get_or ps i 0)
  one_more h =
      ap (λ (k : ℕ). numbers (take k ps)) (add-one i)
      ∙ ap numbers (take-suc ps i 0 h)
      ∙ numbers_append (take i ps) (get_or ps i 0 ∷ [])

  -- the next number, put where the first i end
  pub put_next : i < length ps → 4 * i + 4 ≤ n
      → splice (padded n (numbers (take i ps))) (4 * i) (bytes4 little (get_or ps i 0)) ≡ padded n (numbers (take (i + 1) ps))
  unfolding padded
  put_next h g =
      let v : List ℕ = bytes4 little (get_or ps i 0) in
      let e : n - length (numbers (take i ps)) ≡ n - 4 * i = omega (arith, front (omega arith)) in
      let m : n - 4 * i - 4 ≡ n - (4 * i + 4) = omega arith in
      rw (e, one_more h, length-append (numbers (take i ps)) v, front (omega arith))
      (
      at_seam (numbers (take i ps)) v (n - 4 * i) (4 * i) (front (omega arith)) (omega arith)
      ∙ sym (append_assoc (numbers (take i ps)) v (replicate (n - 4 * i - 4) 0))
      ∙ ap (λ (k : ℕ). numbers (take i ps) ++ v ++ replicate k 0) m
      )

  -- where the next does not fit, and where there is none
  pub no_room : 4 * i ≤ n → n < 4 * i + 4 → padded n (numbers (take i ps)) ≡ places_in n ps
  unfolding places_in
  no_room h g = let e : i ≡ n / 4 = omega arith in ap (λ (k : ℕ). padded n (numbers (take k ps))) e

  pub all_put : length ps ≤ i → 4 * i ≤ n → padded n (numbers (take i ps)) ≡ places_in n ps
  unfolding places_in
  all_put h g = ap (λ (l : List ℕ). padded n (numbers l)) (take_all i ps h ∙ sym (take_all (n / 4) ps (omega arith)))
