-- Two slots are the same as words of bytes just where their fields are the same.
-- Assumes nothing.
use mathlib.Core.Path.{◌≡◌, refl, sym, ap, ◌∙◌}
use mathlib.Core.Bool.{Bool, true, false, cond, ◌&&◌}
use mathlib.Core.List.{List}
use Prim.Native.Nat.{ℕ, suc, ◌+◌, ◌/◌, ◌%◌, ◌-◌, ◌<◌}
use native.Mathlib.Omega.{arith}
use lib.Dec.{ltb, eqb}
use lib.IntN.{pos, negsuc}
use borrow.Author.Tests.{eqb-true, eqb-false, eq-eqb, ne_eqb, ltb-true, ltb-false}
use Rattle.rules.specs.Bytes.{little, number2, number4, number8, signed, half16, half32, byte_at, AreBytes, u16_at, u32_at, u64_at, decode}
use Rattle.rules.specs.Examine.{same_number, same_form, same_head, same_slot}

-- ---- signed numbers
same_signed : (half m n : ℕ) → m < half + half → n < half + half → eqb m n ≡ same_number (signed half m) (signed half n)
unfolding signed
same_signed half m n lm ln = go (ltb m half) (ltb n half) refl refl
  where
    negatives : (b : Bool) → eqb m n ≡ b → b ≡ eqb (half + half - suc m) (half + half - suc n)
    negatives true e = sym (eq-eqb _ _ (ap (λ x. half + half - suc x) (eqb-true m n e)))
    negatives false e = sym (ne_eqb _ _ (λ (q : half + half - suc m ≡ half + half - suc n). eqb-false m n e (omega arith)))

    go : (p q : Bool) → ltb m half ≡ p → ltb n half ≡ q
        → eqb m n ≡ same_number (cond p (pos m) (negsuc (half + half - suc m))) (cond q (pos n) (negsuc (half + half - suc n)))
    go true true ep eq = refl
    go true false ep eq = ne_eqb m n (λ (e : m ≡ n). omega (arith, ltb-true m half ep, ltb-false n half eq))
    go false true ep eq = ne_eqb m n (λ (e : m ≡ n). omega (arith, ltb-false m half ep, ltb-true n half eq))
    go false false ep eq = negatives (eqb m n) refl

-- ---- numbers of two parts, and of four bytes
two_parts : (low low' high high' : ℕ) → low < 0x1_0000_0000 → low' < 0x1_0000_0000
    → eqb (number8 little low high) (number8 little low' high') ≡ (eqb low low' && eqb high high')
two_parts low low' high high' l l' = go (eqb low low') (eqb high high') refl refl
  where
    go : (p q : Bool) → eqb low low' ≡ p → eqb high high' ≡ q → eqb (number8 little low high) (number8 little low' high') ≡ (p && q)
    go true true e f = eq-eqb (number8 little low high) (number8 little low' high') (omega (arith, eqb-true low low' e, eqb-true high high' f))
    go true false e f = ne_eqb _ _ (λ (s : number8 little low high ≡ number8 little low' high'). eqb-false high high' f (omega arith))
    go false q e f = ne_eqb _ _ (λ (s : number8 little low high ≡ number8 little low' high'). eqb-false low low' e (omega arith))

module _ (a b c d a' b' c' d' : ℕ) (la : a < 256) (lb : b < 256) (lc : c < 256) (la' : a' < 256) (lb' : b' < 256) (lc' : c' < 256) where
  word : ℕ
  word = number4 little a b c d

  word' : ℕ
  word' = number4 little a' b' c' d'

  fields : (p q r t : Bool) → eqb a a' ≡ p → eqb (b % 16) (b' % 16) ≡ q → eqb (number2 little c d) (number2 little c' d') ≡ r → eqb (b / 16) (b' / 16) ≡ t
      → eqb word word' ≡ ((p && (q && r)) && t)
  unfolding word word'
  fields true true true true ea eb er et =
      eq-eqb word word' (omega (arith, eqb-true a a' ea, eqb-true (b % 16) (b' % 16) eb, eqb-true (number2 little c d) (number2 little c' d') er, eqb-true (b / 16) (b' / 16) et))
  fields false q r t ea eb er et = ne_eqb word word' (λ (e : word ≡ word'). eqb-false a a' ea (omega arith))
  fields true false r t ea eb er et = ne_eqb word word' (λ (e : word ≡ word'). eqb-false (b % 16) (b' % 16) eb (omega arith))
  fields true true false t ea eb er et = ne_eqb word word' (λ (e : word ≡ word'). eqb-false (number2 little c d) (number2 little c' d') er (omega arith))
  fields true true true false ea eb er et = ne_eqb word word' (λ (e : word ≡ word'). eqb-false (b / 16) (b' / 16) et (omega arith))

  by_fields : eqb (number4 little a b c d) (number4 little a' b' c' d')
      ≡ ((eqb a a' && (eqb (b % 16) (b' % 16) && eqb (number2 little c d) (number2 little c' d'))) && eqb (b / 16) (b' / 16))
  unfolding word word'
  by_fields = fields _ _ _ _ refl refl refl refl

-- ---- slots
module _ (t : List ℕ) (are : AreBytes t) (at : ℕ) where
  u16_low : u16_at little t at < half16 + half16
  unfolding u16_at
  u16_low = omega (arith, are at, are (at + 1))

  u32_low : u32_at little t at < 0x1_0000_0000
  unfolding u32_at
  u32_low = omega (arith, are at, are (at + 1), are (at + 2), are (at + 3))

module _ (x y : List ℕ) (are-x : AreBytes x) (are-y : AreBytes y) (i j : ℕ) where
  pub same_offset : eqb (u16_at little x (i + 2)) (u16_at little y (j + 2)) ≡ same_number (decode little x i).offset (decode little y j).offset
  unfolding decode
  same_offset = same_signed half16 (u16_at little x (i + 2)) (u16_at little y (j + 2)) (u16_low x are-x (i + 2)) (u16_low y are-y (j + 2))

  same_immediate : eqb (u32_at little x (i + 4)) (u32_at little y (j + 4)) ≡ same_number (decode little x i).immediate (decode little y j).immediate
  unfolding decode
  same_immediate = same_signed half32 (u32_at little x (i + 4)) (u32_at little y (j + 4)) (u32_low x are-x (i + 4)) (u32_low y are-y (j + 4))

  same_form_lem : (eqb (byte_at x i) (byte_at y j) && (eqb (byte_at x (i + 1) % 16) (byte_at y (j + 1) % 16) && eqb (u16_at little x (i + 2)) (u16_at little y (j + 2))))
      ≡ same_form (decode little x i) (decode little y j)
  unfolding same_form decode
  same_form_lem = ap (λ b. eqb (byte_at x i) (byte_at y j) && (eqb (byte_at x (i + 1) % 16) (byte_at y (j + 1) % 16) && b)) same_offset

  last_x : i + 2 + 1 ≡ i + 3
  last_x = omega arith

  last_y : j + 2 + 1 ≡ j + 3
  last_y = omega arith

  word_fields : eqb (u32_at little x i) (u32_at little y j)
      ≡ ((eqb (byte_at x i) (byte_at y j) && (eqb (byte_at x (i + 1) % 16) (byte_at y (j + 1) % 16) && eqb (u16_at little x (i + 2)) (u16_at little y (j + 2))))
      && eqb (byte_at x (i + 1) / 16) (byte_at y (j + 1) / 16))
  unfolding u32_at u16_at
  word_fields =
      rw (last_x, last_y) (by_fields (byte_at x i) (byte_at x (i + 1)) (byte_at x (i + 2)) (byte_at x (i + 3)) (byte_at y j) (byte_at y (j + 1)) (byte_at y (j + 2)) (byte_at y (j + 3))
      (are-x i) (are-x (i + 1)) (are-x (i + 2)) (are-y j) (are-y (j + 1)) (are-y (j + 2)))

  pub same_head_lem : eqb (u32_at little x i) (u32_at little y j) ≡ same_head (decode little x i) (decode little y j)
  unfolding same_head decode
  same_head_lem = word_fields ∙ ap (λ b. b && eqb (byte_at x (i + 1) / 16) (byte_at y (j + 1) / 16)) same_form_lem

  pub same_slot_lem : eqb (u64_at little x i) (u64_at little y j) ≡ same_slot (decode little x i) (decode little y j)
  unfolding same_slot u64_at
  same_slot_lem =
      two_parts (u32_at little x i) (u32_at little y j) (u32_at little x (i + 4)) (u32_at little y (j + 4)) (u32_low x are-x i) (u32_low y are-y j)
      ∙ ap (λ b. b && eqb (u32_at little x (i + 4)) (u32_at little y (j + 4))) same_head_lem
      ∙ ap (λ b. same_head (decode little x i) (decode little y j) && b) same_immediate
