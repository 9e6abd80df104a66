-- Slots to bytes and back: bytes give the slots that give the bytes, and slots that fit their fields give the bytes that give the slots.
-- Assumes nothing.
use mathlib.Core.Path.{◌≡◌, refl, sym, ◌∙◌, ap}
use mathlib.Core.Bool.{Bool, true, false, cond}
use mathlib.Core.List.{List, [], ◌∷◌, ◌++◌}
use Prim.Native.Nat.{ℕ, zero, suc, ◌+◌, ◌*◌, ◌-◌, ◌/◌, ◌%◌, ◌≤◌, ◌<◌}
use native.Mathlib.Omega.{arith}
use lib.IntN.{pos, negsuc}
use lib.Dec.{ltb}
use borrow.Author.Tests.{ltb-true, ltb-false}
use lib.ListN.{length, get_or, take, drop, length-append}
use lib.Seq.{drop-cons, drop-drop, take-add, take-length}
use Rattle.rules.specs.Object.{Insn}
use Rattle.rules.specs.Faithful.{slot_at}
use Rattle.rules.specs.Link.{run}
use Rattle.rules.specs.Bytes.{Order, little, big, number2, number4, byte_at, AreBytes, u16_at, u32_at, bytes2, bytes4, signed, unsigned, Fits, half16, half32, source_of, destination_of, registers, decode, encode, slot_in, decoded, encoded}
use Rattle.rules.proofs.Writing.{signed_unsigned, append_decoded}

pub unsigned_signed : (half n : ℕ) → n < half + half → unsigned half (signed half n) ≡ n
unfolding signed unsigned
unsigned_signed half n l = go (ltb n half) refl
  where
    go : (b : Bool) → ltb n half ≡ b → unsigned half (cond b (pos n) (negsuc (half + half - suc n))) ≡ n
    go true e = refl
    go false e = omega (arith, ltb-false n half e)

-- ---- bytes to numbers to bytes

pub bytes2_of : (order : Order) (a b : ℕ) → a < 256 → b < 256 → bytes2 order (number2 order a b) ≡ a ∷ b ∷ []
bytes2_of little a b l m =
    let low : (a + 256 * b) % 256 ≡ a = omega arith in
    let high : (a + 256 * b) / 256 ≡ b = omega arith in
    rw (low, high)
bytes2_of big a b l m =
    let low : (b + 256 * a) % 256 ≡ b = omega arith in
    let high : (b + 256 * a) / 256 ≡ a = omega arith in
    rw (low, high)

module _ (a b c d : ℕ) (la : a < 256) (lb : b < 256) (lc : c < 256) (ld : d < 256) where
  n : ℕ
  n = a + 256 * (b + 256 * (c + 256 * d))

  digit0 : n % 256 ≡ a
  unfolding n
  digit0 = omega arith

  digit1 : n / 256 % 256 ≡ b
  unfolding n
  digit1 = omega arith

  digit2 : n / 65536 % 256 ≡ c
  unfolding n
  digit2 = omega arith

  digit3 : n / 16777216 ≡ d
  unfolding n
  digit3 = omega arith

  little_digits : bytes4 little n ≡ a ∷ b ∷ c ∷ d ∷ []
  little_digits = rw (digit0, digit1, digit2, digit3)

  big_digits : bytes4 big n ≡ d ∷ c ∷ b ∷ a ∷ []
  big_digits = rw (digit0, digit1, digit2, digit3)

pub bytes4_of : (order : Order) (a b c d : ℕ) → a < 256 → b < 256 → c < 256 → d < 256 → bytes4 order (number4 order a b c d) ≡ a ∷ b ∷ c ∷ d ∷ []
unfolding n
bytes4_of little a b c d la lb lc ld = little_digits a b c d la lb lc ld
bytes4_of big a b c d la lb lc ld = big_digits d c b a ld lc lb la

-- ---- numbers to bytes to numbers

pub number2_of : (order : Order) (n : ℕ) → number2 order (get_or (bytes2 order n) 0 0) (get_or (bytes2 order n) 1 0) ≡ n
number2_of little n = omega arith
number2_of big n = omega arith

pub number4_of : (order : Order) (n : ℕ)
    → number4 order (get_or (bytes4 order n) 0 0) (get_or (bytes4 order n) 1 0) (get_or (bytes4 order n) 2 0) (get_or (bytes4 order n) 3 0) ≡ n
number4_of little n = omega arith
number4_of big n = omega arith

number2_below : (order : Order) (a b : ℕ) → a < 256 → b < 256 → number2 order a b < 0x1_0000
number2_below little a b l m = omega arith
number2_below big a b l m = omega arith

number4_below : (order : Order) (a b c d : ℕ) → a < 256 → b < 256 → c < 256 → d < 256 → number4 order a b c d < 0x1_0000_0000
number4_below little a b c d la lb lc ld = omega arith
number4_below big a b c d la lb lc ld = omega arith

registers_back : (order : Order) (byte : ℕ) → registers order (source_of order byte) (destination_of order byte) ≡ byte
registers_back little byte = omega arith
registers_back big byte = omega arith

-- ---- bytes to slots to bytes
module _ (order : Order) (bytes : List ℕ) (are : AreBytes bytes) where
  pub u16_below : (at : ℕ) → u16_at order bytes at < 0x1_0000
  unfolding u16_at
  u16_below at = number2_below order _ _ (are at) (are (at + 1))

  pub u32_below : (at : ℕ) → u32_at order bytes at < 0x1_0000_0000
  unfolding u32_at
  u32_below at = number4_below order _ _ _ _ (are at) (are (at + 1)) (are (at + 2)) (are (at + 3))

  bytes2_at : (at : ℕ) → bytes2 order (u16_at order bytes at) ≡ byte_at bytes at ∷ byte_at bytes (at + 1) ∷ []
  unfolding u16_at
  bytes2_at at = bytes2_of order (byte_at bytes at) (byte_at bytes (at + 1)) (are at) (are (at + 1))

  pub bytes4_at : (at : ℕ) → bytes4 order (u32_at order bytes at) ≡ byte_at bytes at ∷ byte_at bytes (at + 1) ∷ byte_at bytes (at + 2) ∷ byte_at bytes (at + 3) ∷ []
  unfolding u32_at
  bytes4_at at =
      bytes4_of order (byte_at bytes at) (byte_at bytes (at + 1)) (byte_at bytes (at + 2)) (byte_at bytes (at + 3)) (are at) (are (at + 1)) (are (at + 2)) (are (at + 3))

  -- n bytes from a place, one after another
  abbrev from : ℕ → ℕ → List ℕ
  from at zero = []
  from at (suc n) = byte_at bytes at ∷ from (suc at) n

  pub from_part : (n at : ℕ) → at + n ≤ length bytes → from at n ≡ take n (drop at bytes)
  from_part zero at l = refl
  from_part (suc n) at l = ap (λ x. byte_at bytes at ∷ x) (from_part n (suc at) (omega arith)) ∙ sym (ap (take (suc n)) (drop-cons bytes at 0 (omega arith)))

  encode_eight : (at : ℕ) → encode order (decode order bytes at) ≡ from at 8
  unfolding encode decode
  encode_eight at =
      let e₁ : at + 1 ≡ suc at = omega arith in
      let e₂ : at + 2 ≡ suc (suc at) = omega arith in
      let e₃ : suc (suc at) + 1 ≡ suc (suc (suc at)) = omega arith in
      let e₄ : at + 4 ≡ suc (suc (suc (suc at))) = omega arith in
      let e₅ : suc (suc (suc (suc at))) + 1 ≡ suc (suc (suc (suc (suc at)))) = omega arith in
      let e₆ : suc (suc (suc (suc at))) + 2 ≡ suc (suc (suc (suc (suc (suc at))))) = omega arith in
      let e₇ : suc (suc (suc (suc at))) + 3 ≡ suc (suc (suc (suc (suc (suc (suc at)))))) = omega arith in
      rw (
        registers_back order (byte_at bytes (at + 1)),
        unsigned_signed half16 (u16_at order bytes (at + 2)) (u16_below (at + 2)),
        unsigned_signed half32 (u32_at order bytes (at + 4)) (u32_below (at + 4)),
        bytes2_at (at + 2),
        bytes4_at (at + 4),
        e₁,
        e₂,
        e₃,
        e₄,
        e₅,
        e₆,
        e₇,
      )

  pub encode_decode : (at : ℕ) → at + 8 ≤ length bytes → encode order (decode order bytes at) ≡ take 8 (drop at bytes)
  encode_decode at l = encode_eight at ∙ from_part 8 at l

  encoded_run : (n first : ℕ) → 8 * (first + n) ≤ length bytes → encoded order (run (λ slot. slot_in order bytes slot) first n) ≡ take (8 * n) (drop (8 * first) bytes)
  unfolding encoded
  encoded_run zero first l = refl
  encoded_run (suc n) first l =
      let e : 8 * suc n ≡ 8 + 8 * n = omega arith in
      let f : 8 * suc first ≡ 8 * first + 8 = omega arith in
      rw (encode_decode (8 * first) (omega arith), encoded_run n (suc first) (omega arith), e, f)
      (ap (λ x. take 8 (drop (8 * first) bytes) ++ take (8 * n) x) (sym (drop-drop 8 (8 * first) bytes)) ∙ sym (take-add 8 (8 * n) (drop (8 * first) bytes)))

  -- whole slots
  pub encoded_decoded : (n : ℕ) → length bytes ≡ 8 * n → encoded order (decoded order bytes) ≡ bytes
  unfolding decoded
  encoded_decoded n e =
      let d : length bytes / 8 ≡ n = omega arith in
      rw d (encoded_run n 0 (omega arith) ∙ ap (λ m. take m bytes) (sym e) ∙ take-length bytes)

-- ---- slots to bytes to slots

-- a slot whose fields fit their places
pub record Plain (i : Insn) : Type 0 where
  pub opcode : i.opcode < 256
  pub destination : i.destination < 16
  pub source : i.source < 16
  pub offset : Fits half16 i.offset
  pub immediate : Fits half32 i.immediate

length_encode : (order : Order) (i : Insn) → length (encode order i) ≡ 8
unfolding encode
length_encode little i = refl
length_encode big i = refl

destination_back : (order : Order) (s d : ℕ) → s < 16 → d < 16 → destination_of order (registers order s d) ≡ d
destination_back little s d ls ld = omega arith
destination_back big s d ls ld = omega arith

source_back : (order : Order) (s d : ℕ) → s < 16 → d < 16 → source_of order (registers order s d) ≡ s
source_back little s d ls ld = omega arith
source_back big s d ls ld = omega arith

offset_back : (order : Order) (i : Insn) → u16_at order (encode order i) 2 ≡ unsigned half16 i.offset
unfolding encode u16_at
offset_back little i = number2_of little (unsigned half16 i.offset)
offset_back big i = number2_of big (unsigned half16 i.offset)

immediate_back : (order : Order) (i : Insn) → u32_at order (encode order i) 4 ≡ unsigned half32 i.immediate
unfolding encode u32_at
immediate_back little i = number4_of little (unsigned half32 i.immediate)
immediate_back big i = number4_of big (unsigned half32 i.immediate)

registers_at : (order : Order) (i : Insn) → byte_at (encode order i) 1 ≡ registers order i.source i.destination
unfolding encode
registers_at little i = refl
registers_at big i = refl

opcode_at : (order : Order) (i : Insn) → byte_at (encode order i) 0 ≡ i.opcode
unfolding encode
opcode_at little i = refl
opcode_at big i = refl

pub decode_encode : (order : Order) (i : Insn) → Plain i → decode order (encode order i) 0 ≡ i
unfolding decode
decode_encode order i p =
    rw (
      opcode_at order i,
      registers_at order i,
      destination_back order i.source i.destination p.source p.destination,
      source_back order i.source i.destination p.source p.destination,
      offset_back order i,
      immediate_back order i,
      signed_unsigned half16 i.offset p.offset,
      signed_unsigned half32 i.immediate p.immediate,
    )

abbrev pub AllPlain : List Insn → Type 0
AllPlain [] = Unit {0}
AllPlain (i ∷ is) = Plain i × AllPlain is

one_slot : (order : Order) (i : Insn) → Plain i → decoded order (encode order i) ≡ i ∷ []
unfolding decoded
one_slot order i p = rw (length_encode order i) (ap (λ x. x ∷ []) (decode_encode order i p))

no_slot : (order : Order) → decoded order [] ≡ []
unfolding decoded
no_slot order = refl

pub decoded_encoded : (order : Order) (image : List Insn) → AllPlain image → decoded order (encoded order image) ≡ image
unfolding encoded
decoded_encoded order [] p = no_slot order
decoded_encoded order (i ∷ is) p =
    append_decoded order (encode order i) (encoded order is) 1 (length_encode order i)
    ∙ ap (λ x. x ++ decoded order (encoded order is)) (one_slot order i p.0)
    ∙ ap (λ x. i ∷ x) (decoded_encoded order is p.1)

pub encoded_length : (order : Order) (image : List Insn) → length (encoded order image) ≡ 8 * length image
unfolding encoded
encoded_length order [] = refl
encoded_length order (i ∷ is) = omega (arith, length-append (encode order i) (encoded order is), length_encode order i, encoded_length order is)

pub all_plain : (image : List Insn) → ((k : ℕ) → k < length image → Plain (slot_at image k)) → AllPlain image
all_plain [] f = tt
all_plain (i ∷ is) f = (f 0 (omega arith), all_plain is (λ k l. f (suc k) (omega arith)))

-- what bytes hold fits
signed_fits : (half n : ℕ) → n < half + half → Fits half (signed half n)
unfolding signed
signed_fits half n l = go (ltb n half) refl
  where
    go : (b : Bool) → ltb n half ≡ b → Fits half (cond b (pos n) (negsuc (half + half - suc n)))
    go true e = ltb-true n half e
    go false e = omega (arith, ltb-false n half e)

registers_below : (order : Order) (byte : ℕ) → byte < 256 → (destination_of order byte < 16) × (source_of order byte < 16)
registers_below little byte l = (omega arith, omega arith)
registers_below big byte l = (omega arith, omega arith)

pub decode_plain : (order : Order) (bytes : List ℕ) → AreBytes bytes → (at : ℕ) → Plain (decode order bytes at)
unfolding decode
decode_plain order bytes are at = record {
  opcode = are at;
  destination = (registers_below order (byte_at bytes (at + 1)) (are (at + 1))).0;
  source = (registers_below order (byte_at bytes (at + 1)) (are (at + 1))).1;
  offset = signed_fits half16 (u16_at order bytes (at + 2)) (u16_below order bytes are (at + 2));
  immediate = signed_fits half32 (u32_at order bytes (at + 4)) (u32_below order bytes are (at + 4));
}
