-- A slot's first four bytes as one word: it has a number's value just where each of its fields has what that number says.
-- Assumes nothing.
use mathlib.Core.Path.{◌≡◌, refl}
use mathlib.Core.Bool.{Bool, true, false, cond, ◌&&◌}
use mathlib.Core.List.{List}
use Prim.Native.Nat.{ℕ, suc, ◌+◌, ◌*◌, ◌/◌, ◌%◌, ◌-◌, ◌<◌}
use native.Mathlib.Omega.{arith}
use lib.Dec.{ltb, eqb}
use lib.IntN.{pos, negsuc}
use borrow.Author.Tests.{eqb-true, eqb-false, eq-eqb, ne_eqb, ltb-false}
use Rattle.rules.specs.Object.{Insn, is_zero, is_call, is_blank}
use Rattle.rules.specs.Bytes.{little, number2, number4, signed, half16, byte_at, u16_at, u32_at, decode}

zero_test : (n : ℕ) → eqb n 0 ≡ is_zero (signed half16 n)
unfolding signed
zero_test n = either (ltb n half16) refl
  where
    either : (b : Bool) → ltb n half16 ≡ b → eqb n 0 ≡ is_zero (cond b (pos n) (negsuc (half16 + half16 - suc n)))
    either true e = refl
    either false e = ne_eqb n 0 (λ (q : n ≡ 0). omega (arith, ltb-false n half16 e))

-- opcode o, source s, and destination and offset 0
abbrev heads : ℕ → ℕ → Insn → Bool
heads o s i = eqb i.opcode o && eqb i.destination 0 && eqb i.source s && is_zero i.offset

module _ (a b c d o s : ℕ) (la : a < 256) (lb : b < 256) (lc : c < 256) (lo : o < 256) (ls : s < 16) where
  word : ℕ
  word = number4 little a b c d

  fields : (p q r t : Bool) → eqb a o ≡ p → eqb (b % 16) 0 ≡ q → eqb (b / 16) s ≡ r → eqb (number2 little c d) 0 ≡ t
      → eqb word (o + 256 * (16 * s)) ≡ (p && q && r && t)
  unfolding word
  fields true true true true ea eb es et =
      eq-eqb word _ (omega (arith, eqb-true a o ea, eqb-true (b % 16) 0 eb, eqb-true (b / 16) s es, eqb-true (c + 256 * d) 0 et))
  fields false q r t ea eb es et = ne_eqb word _ (λ (e : word ≡ o + 256 * (16 * s)). eqb-false a o ea (omega arith))
  fields true false r t ea eb es et = ne_eqb word _ (λ (e : word ≡ o + 256 * (16 * s)). eqb-false (b % 16) 0 eb (omega arith))
  fields true true false t ea eb es et = ne_eqb word _ (λ (e : word ≡ o + 256 * (16 * s)). eqb-false (b / 16) s es (omega arith))
  fields true true true false ea eb es et = ne_eqb word _ (λ (e : word ≡ o + 256 * (16 * s)). eqb-false (c + 256 * d) 0 et (omega arith))

  by_fields : eqb (number4 little a b c d) (o + 256 * (16 * s))
      ≡ (eqb a o && eqb (b % 16) 0 && eqb (b / 16) s && is_zero (signed half16 (number2 little c d)))
  unfolding word
  by_fields = rw (← zero_test) (fields _ _ _ _ refl refl refl refl)

module _ (bytes : List ℕ) (at : ℕ) (low : (k : ℕ) → byte_at bytes k < 256) where
  last : at + 2 + 1 ≡ at + 3
  last = omega arith

  test : (o s : ℕ) → o < 256 → s < 16 → eqb (u32_at little bytes at) (o + 256 * (16 * s)) ≡ heads o s (decode little bytes at)
  unfolding u32_at u16_at decode
  test o s lo ls = rw last (by_fields _ _ _ _ o s (low at) (low (at + 1)) (low (at + 2)) lo ls)

  pub call_word : eqb (u32_at little bytes at) 0x1085 ≡ is_call (decode little bytes at)
  unfolding is_call
  call_word = test 0x85 1 (omega arith) (omega arith)

  pub blank_word : eqb (u32_at little bytes at) 0 ≡ is_blank (decode little bytes at)
  unfolding is_blank
  blank_word = test 0 0 (omega arith) (omega arith)
