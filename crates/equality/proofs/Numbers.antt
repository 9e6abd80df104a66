-- The crate's wrapping arithmetic, in the domain, is exact; and an address that is no address of a function is none before and after wrapping.
-- Assumes nothing.
use mathlib.Core.Path.{◌≡◌, refl, sym, ◌∙◌, ap}
use mathlib.Core.Logic.{◌≢◌}
use mathlib.Core.Bool.{Bool, true, false, cond, ◌&&◌}
use Prim.Native.Nat.{ℕ, zero, suc, ◌+◌, ◌*◌, ◌-◌, ◌/◌, ◌%◌, ◌≤◌, ◌<◌}
use native.Mathlib.Omega.{arith}
use lib.IntN.{ℤ, pos, negsuc, sub_ℕ, ◌+ℤ◌, ◌-ℤ◌, ◌*ℤ◌, *ℤ_comm}
use lib.Dec.{ltb, eqb}
use borrow.Author.Tests.{lt-ltb, le-ltb, ltb-true, ltb-false, eqb-true, eqb-false, ne_eqb, eq-eqb}
use Rattle.rules.specs.Object.{Insn, is_zero, is_call, displacement}
use Rattle.rules.specs.Bytes.{signed, Fits, half32}
use Rattle.rules.specs.Tables.{is_at}
use Rattle.equality.specs.Crate.{modulo, 2³², 2⁶⁴, u32, u64, i32, add_u64, mul_u64, add_u32, sub_u32, add_i32, sub_i32, insn_is_call}
use Rattle.equality.specs.Domain.{2⁴⁸, top_immediate}
use Rattle.rules.proofs.Writing.{displacement_fits}
use Rattle.rules.specs.Rows.{most_image_slots}

abbrev half63 : ℕ
half63 = 0x8000_0000_0000_0000

-- an i32 as i32
pub i32_exact : (z : ℤ) → Fits half32 z → i32 z ≡ z
unfolding i32 signed
i32_exact (pos n) l =
    let same : n % 2³² ≡ n = omega arith in
    rw (same, lt-ltb n half32 l) refl
i32_exact (negsuc n) l =
    let same : 2³² - suc (n % 2³²) ≡ 2³² - suc n = omega arith in
    let high : half32 ≤ 2³² - suc n = omega arith in
    rw (same, le-ltb (2³² - suc n) half32 high) (ap negsuc (omega arith))

pub u32_exact : (n : ℕ) → n < 2³² → u32 (pos n) ≡ n
unfolding u32
u32_exact n l = omega arith

-- ins.imm + 1
pub next_fits : (z : ℤ) → Fits half32 z → z ≢ top_immediate → Fits half32 (z +ℤ pos 1)
next_fits (pos n) l top =
    let other : n ≢ 0x7fff_ffff = λ e. top (ap pos e) in
    omega arith
next_fits (negsuc n) l top = go (ltb 1 (suc n)) refl
  where
    go : (b : Bool) → ltb 1 (suc n) ≡ b → Fits half32 (cond b (negsuc (suc n - suc 1)) (pos (1 - suc n)))
    go true e = omega arith
    go false e = omega arith

pub next_exact : (z : ℤ) → Fits half32 z → z ≢ top_immediate → add_i32 z (pos 1) ≡ z +ℤ pos 1
unfolding add_i32
next_exact z l top = i32_exact (z +ℤ pos 1) (next_fits z l top)

-- an address, tested before and after wrapping
pub at_wrapped : (n : ℕ) (z : ℤ) → n < 2⁴⁸ → Fits half63 z → is_at n z ≡ eqb n (u64 z)
unfolding u64
at_wrapped n (pos m) l f = ap (eqb n) (omega arith)
at_wrapped n (negsuc m) l f = sym (ne_eqb n (2⁶⁴ - suc (m % 2⁶⁴)) (omega arith))

-- address + 8 × k
module _ (address : ℕ) (low : address < 0x2_0000_0000_0000) where
  eight_wrapped : (k : ℤ) → Fits half32 k → add_u64 address (mul_u64 (u64 k) 8) ≡ u64 (pos address +ℤ pos 8 *ℤ k)
  unfolding add_u64 mul_u64 u64
  eight_wrapped (pos c) f = omega arith
  eight_wrapped (negsuc c) f = rw more (go (ltb address (suc (8 * c + 7))) refl)
    where
      more : 8 * suc c ≡ suc (8 * c + 7)
      more = omega arith

      go : (b : Bool) → ltb address (suc (8 * c + 7)) ≡ b
          → (address + (2⁶⁴ - suc (c % 2⁶⁴)) * 8 % 2⁶⁴) % 2⁶⁴
          ≡ modulo 2⁶⁴ (cond b (negsuc (suc (8 * c + 7) - suc address)) (pos (address - suc (8 * c + 7))))
      go true e = omega (arith, ltb-true address (suc (8 * c + 7)) e)
      go false e = omega (arith, ltb-false address (suc (8 * c + 7)) e)

  eight_fits : (k : ℤ) → Fits half32 k → Fits half63 (pos address +ℤ pos 8 *ℤ k)
  eight_fits (pos c) f = omega arith
  eight_fits (negsuc c) f = rw more (go (ltb address (suc (8 * c + 7))) refl)
    where
      more : 8 * suc c ≡ suc (8 * c + 7)
      more = omega arith

      go : (b : Bool) → ltb address (suc (8 * c + 7)) ≡ b
          → Fits half63 (cond b (negsuc (suc (8 * c + 7) - suc address)) (pos (address - suc (8 * c + 7))))
      go true e = omega arith
      go false e = omega arith

  plain_wrapped : (k : ℤ) → Fits half32 k → add_u64 address (u64 k) ≡ u64 (pos address +ℤ k)
  unfolding add_u64 u64
  plain_wrapped (pos c) f = omega arith
  plain_wrapped (negsuc c) f = go (ltb address (suc c)) refl
    where
      go : (b : Bool) → ltb address (suc c) ≡ b
          → (address + (2⁶⁴ - suc (c % 2⁶⁴))) % 2⁶⁴
          ≡ modulo 2⁶⁴ (cond b (negsuc (suc c - suc address)) (pos (address - suc c)))
      go true e = omega (arith, ltb-true address (suc c) e)
      go false e = omega (arith, ltb-false address (suc c) e)

  plain_fits : (k : ℤ) → Fits half32 k → Fits half63 (pos address +ℤ k)
  plain_fits (pos c) f = omega arith
  plain_fits (negsuc c) f = go (ltb address (suc c)) refl
    where
      go : (b : Bool) → ltb address (suc c) ≡ b → Fits half63 (cond b (negsuc (suc c - suc address)) (pos (address - suc c)))
      go true e = omega arith
      go false e = omega arith

-- the three addresses of the link, tested against a function's
module _ (n : ℕ) (low : n < 2⁴⁸) (z : ℤ) (fits : Fits half32 z) where
  pub at_size_32 : (address : ℕ) → address < 2⁴⁸ → z ≢ top_immediate
      → is_at n (pos address +ℤ pos 8 *ℤ (z +ℤ pos 1)) ≡ eqb n (add_u64 address (mul_u64 (u64 (add_i32 z (pos 1))) 8))
  at_size_32 address l top =
      rw (next_exact z fits top, eight_wrapped address (omega arith) (z +ℤ pos 1) (next_fits z fits top))
      (at_wrapped n (pos address +ℤ pos 8 *ℤ (z +ℤ pos 1)) low (eight_fits address (omega arith) (z +ℤ pos 1) (next_fits z fits top)))

  pub at_size_64 : (address : ℕ) → address < 2⁴⁸ → is_at n (pos address +ℤ z) ≡ eqb n (add_u64 address (u64 z))
  at_size_64 address l =
      rw (plain_wrapped address (omega arith) z fits) (at_wrapped n (pos address +ℤ z) low (plain_fits address (omega arith) z fits))

  pub at_relative : (offset slot : ℕ) → offset < 2⁴⁸ → slot < most_image_slots → z ≢ top_immediate
      → is_at n (pos (offset + 8 * slot) +ℤ pos 8 *ℤ (z +ℤ pos 1)) ≡ eqb n (u64 (pos offset +ℤ pos slot *ℤ pos 8 +ℤ add_i32 z (pos 1) *ℤ pos 8))
  at_relative offset slot l s top =
      rw (next_exact z fits top, *ℤ_comm (z +ℤ pos 1) (pos 8), times)
      (at_wrapped n (pos (offset + 8 * slot) +ℤ pos 8 *ℤ (z +ℤ pos 1)) low (eight_fits (offset + 8 * slot) (omega arith) (z +ℤ pos 1) (next_fits z fits top)))
    where
      times : slot * 8 ≡ 8 * slot
      times = omega arith

-- the rewritten immediate
pub pointed_exact : (start here : ℕ) → start < half32 → here < half32
    → sub_i32 (sub_i32 (i32 (pos start)) (i32 (pos here))) (pos 1) ≡ displacement start here
unfolding sub_i32 displacement
pointed_exact start here l l' =
    rw (i32_exact (pos start) l, i32_exact (pos here) l', i32_exact (pos start -ℤ pos here) (fits here l'))
    (i32_exact (pos start -ℤ pos here -ℤ pos 1) (displacement_fits start here l l'))
  where
    fits : (here : ℕ) → here < half32 → Fits half32 (pos start -ℤ pos here)
    fits zero l' = omega arith
    fits (suc h) l' = go (ltb start (suc h)) refl
      where
        go : (b : Bool) → ltb start (suc h) ≡ b → Fits half32 (cond b (negsuc (suc h - suc start)) (pos (start - suc h)))
        go true e = omega arith
        go false e = omega arith

i32_high : (n : ℕ) → half32 ≤ n → n % 2³² ≡ n → i32 (pos n) ≡ negsuc (2³² - suc n)
unfolding i32 signed
i32_high n h same = rw (same, le-ltb n half32 h) refl

i32_low : (m k : ℕ) → 2³² - suc (m % 2³²) ≡ k → k < half32 → i32 (negsuc m) ≡ pos k
unfolding i32 signed
i32_low m k rest low = rw (rest, lt-ltb k half32 low) refl

-- the value's offset: the address cut to an i32, added to an i32, where the exact sum is one
pub value_exact : (a : ℤ) (n : ℕ) → Fits half32 a → Fits half32 (a +ℤ pos n) → add_i32 a (i32 (pos n)) ≡ a +ℤ pos n
unfolding add_i32
value_exact (pos x) n f g = ap (λ z. i32 (pos x +ℤ z)) (i32_exact (pos n) (omega arith)) ∙ i32_exact (pos (x + n)) g
value_exact (negsuc x) n f g = go (ltb n half32) refl
  where
    -- −2³¹ to 2³¹ − 1, so n is below 2³²
    small : (b : Bool) → ltb n (suc x) ≡ b → Fits half32 (cond b (negsuc (suc x - suc n)) (pos (n - suc x))) → n < 2³²
    small true e g = omega (arith, ltb-true n (suc x) e)
    small false e g = omega arith

    high : half32 ≤ n → n < 2³² → Fits half32 (sub_ℕ n (suc x)) → i32 (negsuc x +ℤ i32 (pos n)) ≡ sub_ℕ n (suc x)
    high h l g =
        let same : n % 2³² ≡ n = omega arith in
        let below : suc x ≤ n = omega arith in
        let rest : 2³² - suc (suc (x + (2³² - suc n)) % 2³²) ≡ n - suc x = omega arith in
        rw (i32_high n h same, le-ltb n (suc x) below) (i32_low (suc (x + (2³² - suc n))) (n - suc x) rest (rw (le-ltb n (suc x) below) at g))

    go : (b : Bool) → ltb n half32 ≡ b → i32 (negsuc x +ℤ i32 (pos n)) ≡ sub_ℕ n (suc x)
    go true e = ap (λ z. i32 (negsuc x +ℤ z)) (i32_exact (pos n) (ltb-true n half32 e)) ∙ i32_exact (sub_ℕ n (suc x)) g
    go false e = high (ltb-false n half32 e) (small (ltb n (suc x)) refl g) g

-- the call test: the three masks are one byte
small_16 : (n : ℕ) → n < 16 → n % 16 ≡ 8 → n ≡ 8
small_16 n l e = omega arith

even_16 : (n : ℕ) → 16 ≤ n → n < 18 → n % 2 ≡ 0 → n ≡ 16
even_16 n l h e = omega arith

exact : (o : ℕ) → o < 256 → o % 8 ≡ 5 → o / 16 % 16 ≡ 8 → o / 8 % 2 ≡ 0 → o ≡ 0x85
exact o l low high even =
    let sixteenth : o / 16 ≡ 8 = small_16 (o / 16) (omega arith) high in
    last (even_16 (o / 8) (from sixteenth) (below sixteenth) even)
  where
    from : o / 16 ≡ 8 → 16 ≤ o / 8
    from e = omega (arith)

    below : o / 16 ≡ 8 → o / 8 < 18
    below e = omega (arith)

    last : o / 8 ≡ 16 → o ≡ 0x85
    last e = omega arith

opcode_call : (o : ℕ) → o < 256 → (eqb (o % 8) 0x05 && eqb (o / 16 % 16 * 16) 0x80 && eqb (o / 8 % 2 * 8) 0x00) ≡ eqb o 0x85
opcode_call o l = go (eqb (o % 8) 0x05) (eqb (o / 16 % 16 * 16) 0x80) (eqb (o / 8 % 2 * 8) 0x00) refl refl refl
  where
    go : (a b c : Bool) → eqb (o % 8) 0x05 ≡ a → eqb (o / 16 % 16 * 16) 0x80 ≡ b → eqb (o / 8 % 2 * 8) 0x00 ≡ c → (a && b && c) ≡ eqb o 0x85
    go true true true p q r =
        let low : o % 8 ≡ 5 = eqb-true (o % 8) 0x05 p in
        let high : o / 16 % 16 ≡ 8 = omega (arith, eqb-true (o / 16 % 16 * 16) 0x80 q) in
        let even : o / 8 % 2 ≡ 0 = omega (arith, eqb-true (o / 8 % 2 * 8) 0x00 r) in
        sym (eq-eqb o 0x85 (exact o l low high even))
    go false b c p q r = sym (ne_eqb o 0x85 (λ e. eqb-false (o % 8) 0x05 p (omega arith)))
    go true false c p q r = sym (ne_eqb o 0x85 (λ e. eqb-false (o / 16 % 16 * 16) 0x80 q (omega arith)))
    go true true false p q r = sym (ne_eqb o 0x85 (λ e. eqb-false (o / 8 % 2 * 8) 0x00 r (omega arith)))

same_order : (x s d z : Bool) → (x && s && d && z) ≡ (x && d && s && z)
same_order false s d z = refl
same_order true false false z = refl
same_order true false true z = refl
same_order true true false z = refl
same_order true true true z = refl

pub same_call : (i : Insn) → i.opcode < 256 → insn_is_call i ≡ is_call i
unfolding insn_is_call is_call
same_call i l = ap (λ x. x && eqb i.source 1 && eqb i.destination 0 && is_zero i.offset) (opcode_call i.opcode l) ∙ same_order (eqb i.opcode 0x85) (eqb i.source 1) (eqb i.destination 0) (is_zero i.offset)

-- the records
pub line_exact : (start slot origin : ℕ) → origin ≤ slot → slot - origin < most_image_slots → start < half32
    → add_u32 (u32 (pos start)) (sub_u32 slot origin) ≡ start + (slot - origin)
unfolding add_u32 sub_u32 u32
line_exact start slot zero o d l = omega arith
line_exact start slot (suc origin) o d l = rw (le-ltb slot (suc origin) o) (omega arith)
