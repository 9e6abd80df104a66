-- To store an immediate's bytes is to rewrite that slot, and no other.
-- Assumes nothing.
use mathlib.Core.Path.{◌≡◌, refl, sym, ◌∙◌, ap}
use mathlib.Core.Logic.{◌≢◌}
use mathlib.Core.Bool.{Bool, true, false, cond}
use mathlib.Core.List.{List, [], ◌∷◌, ◌++◌}
use Prim.Native.Nat.{ℕ, zero, suc, ◌+◌, ◌*◌, ◌-◌, ◌/◌, ◌≤◌, ◌<◌}
use native.Mathlib.Omega.{arith}
use native.Mathlib.Decide.{ℕ_discrete, dec_lt}
use native.Mathlib.Nat.{zero-add, add-zero, add_assoc}
use lib.IntN.{ℤ, pos, negsuc, neg_ℤ, sub_ℕ, ◌+ℤ◌, +ℤ_assoc}
use lib.Dec.{ltb}
use borrow.Author.Tests.{lt-ltb, le-ltb}
use lib.ListN.{length, take, drop, length-take, length-drop, set, length-set, length-append, get_or-append}
use lib.Seq.{get_or-take, get_or-drop, get_or-append-add, get_or-set_same, get_or-set_other, set-set, ext_get_or}
use Rattle.rules.specs.Object.{Insn, displacement, calling, referring}
use Rattle.rules.specs.Faithful.{blank, slot_at}
use Rattle.rules.specs.Link.{run}
use Rattle.rules.specs.Bytes.{Order, little, big, signed, unsigned, Fits, half32, byte_at, u16_at, u32_at, bytes4, decode, decoded, splice, immediate_stored, with_immediate, source_of, destination_of, registers, source_stored, with_source}
use Rattle.rules.proofs.Splices.{splice_length, splice_before, splice_in, splice_past}
use Rattle.rules.proofs.Linking.{length_run, run_at}

pub signed_unsigned : (half : ℕ) (z : ℤ) → Fits half z → signed half (unsigned half z) ≡ z
unfolding signed unsigned
signed_unsigned half (pos n) l = rw (lt-ltb n half l) refl
signed_unsigned half (negsuc n) l =
    let big_one : half ≤ half + half - suc n = omega arith in
    rw (le-ltb (half + half - suc n) half big_one) (ap negsuc (omega arith))

unsigned_lt : (z : ℤ) → Fits half32 z → unsigned half32 z < 0x1_0000_0000
unfolding unsigned
unsigned_lt (pos n) l = omega arith
unsigned_lt (negsuc n) l = omega arith

pub length_bytes4 : (order : Order) (n : ℕ) → length (bytes4 order n) ≡ 4
length_bytes4 little n = refl
length_bytes4 big n = refl

-- bytes that agree at two places hold the same numbers there
module _ (order : Order) (b b' : List ℕ) (at at' : ℕ) where
  zeroth : byte_at b' (at' + 0) ≡ byte_at b (at + 0) → byte_at b' at' ≡ byte_at b at
  zeroth e = ap (byte_at b') (sym (add-zero at')) ∙ e ∙ ap (byte_at b) (add-zero at)

  pub u16_same : ((j : ℕ) → j < 2 → byte_at b' (at' + j) ≡ byte_at b (at + j)) → u16_at order b' at' ≡ u16_at order b at
  unfolding u16_at
  u16_same same = rw (zeroth (same 0 (omega arith)), same 1 (omega arith))

  pub u32_same : ((j : ℕ) → j < 4 → byte_at b' (at' + j) ≡ byte_at b (at + j)) → u32_at order b' at' ≡ u32_at order b at
  unfolding u32_at
  u32_same same = rw (zeroth (same 0 (omega arith)), same 1 (omega arith), same 2 (omega arith), same 3 (omega arith))

-- what was put is read back
module _ (bytes : List ℕ) (at n : ℕ) (fits : at + 4 ≤ length bytes) where
  pub read_back : (order : Order) → u32_at order (splice bytes at (bytes4 order n)) at ≡ n
  unfolding u32_at
  read_back little =
      omega (
        arith,
        splice_in bytes at (bytes4 little n) fits 0 (omega arith),
        splice_in bytes at (bytes4 little n) fits 1 (omega arith),
        splice_in bytes at (bytes4 little n) fits 2 (omega arith),
        splice_in bytes at (bytes4 little n) fits 3 (omega arith),
        ap (byte_at (splice bytes at (bytes4 little n))) (add-zero at),
      )
  read_back big =
      omega (
        arith,
        splice_in bytes at (bytes4 big n) fits 0 (omega arith),
        splice_in bytes at (bytes4 big n) fits 1 (omega arith),
        splice_in bytes at (bytes4 big n) fits 2 (omega arith),
        splice_in bytes at (bytes4 big n) fits 3 (omega arith),
        ap (byte_at (splice bytes at (bytes4 big n))) (add-zero at),
      )

-- bytes that agree at two places decode alike there
pub decode_same : (order : Order) (b b' : List ℕ) (at at' : ℕ) → ((j : ℕ) → j < 8 → byte_at b' (at' + j) ≡ byte_at b (at + j))
    → decode order b' at' ≡ decode order b at
unfolding decode
decode_same order b b' at at' same =
    rw (
      zeroth order b b' at at' (same 0 (omega arith)),
      same 1 (omega arith),
      u16_same order b b' (at + 2) (at' + 2) (λ j l. further 2 j (omega arith)),
      u32_same order b b' (at + 4) (at' + 4) (λ j l. further 4 j (omega arith)),
    )
  where
    further : (k j : ℕ) → k + j < 8 → byte_at b' (at' + k + j) ≡ byte_at b (at + k + j)
    further k j l = ap (byte_at b') (add_assoc at' k j) ∙ same (k + j) l ∙ ap (byte_at b) (sym (add_assoc at k j))

pub decoded_length : (order : Order) (bytes : List ℕ) → length (decoded order bytes) ≡ length bytes / 8
unfolding decoded
decoded_length order bytes = length_run (λ slot. decode order bytes (8 * slot)) 0 (length bytes / 8)

pub decoded_at : (order : Order) (bytes : List ℕ) (k : ℕ) → k < length bytes / 8 → slot_at (decoded order bytes) k ≡ decode order bytes (8 * k)
unfolding decoded
decoded_at order bytes k l = run_at (λ slot. decode order bytes (8 * slot)) 0 (length bytes / 8) k blank l ∙ ap (λ n. decode order bytes (8 * n)) (zero-add k)

-- bytes that differ at one slot only differ in that slot
slot_changed : (order : Order) (bytes bytes' : List ℕ) (here : ℕ) (change : Insn → Insn) → length bytes' ≡ length bytes → 8 * here + 8 ≤ length bytes
    → ((k : ℕ) → k ≢ here → decode order bytes' (8 * k) ≡ decode order bytes (8 * k)) → decode order bytes' (8 * here) ≡ change (decode order bytes (8 * here))
    → decoded order bytes' ≡ set (decoded order bytes) here (change (slot_at (decoded order bytes) here))
slot_changed order bytes bytes' here change same_length inside others own =
    ext_get_or blank _ _ slots_kept (λ k l. at_slot k (omega (arith, decoded_length order bytes')))
  where
    slots_kept : length (decoded order bytes') ≡ length (set (decoded order bytes) here (change (slot_at (decoded order bytes) here)))
    slots_kept = simp (length-set, decoded_length, same_length)

    at_slot : (k : ℕ) → k < length bytes / 8 → slot_at (decoded order bytes') k ≡ slot_at (set (decoded order bytes) here (change (slot_at (decoded order bytes) here))) k
    at_slot k l = decoded_at order bytes' k (rw same_length l) ∙ either (ℕ_discrete k here)
      where
        either : Dec (k ≡ here) → decode order bytes' (8 * k) ≡ slot_at (set (decoded order bytes) here (change (slot_at (decoded order bytes) here))) k
        either (yes e) =
            rw e (own ∙ ap change (sym (decoded_at order bytes here (omega arith)))
            ∙ sym (get_or-set_same (decoded order bytes) here _ blank (omega (arith, decoded_length order bytes))))
        either (no n) = others k n ∙ sym (decoded_at order bytes k l) ∙ sym (get_or-set_other (decoded order bytes) here k _ blank n)

module _ (order : Order) (bytes : List ℕ) (here : ℕ) (z : ℤ) (fits : Fits half32 z) (inside : 8 * here + 8 ≤ length bytes) where
  -- the immediate's four bytes
  m : List ℕ
  m = bytes4 order (unsigned half32 z)

  room : 8 * here + 4 + length m ≤ length bytes
  unfolding m
  room = omega (arith, length_bytes4 order (unsigned half32 z))

  stored_before : (k : ℕ) → k < 8 * here + 4 → byte_at (immediate_stored order bytes here z) k ≡ byte_at bytes k
  unfolding immediate_stored m
  stored_before k l = splice_before bytes (8 * here + 4) m room k l

  stored_past : (k : ℕ) → 8 * here + 8 ≤ k → byte_at (immediate_stored order bytes here z) k ≡ byte_at bytes k
  unfolding immediate_stored m
  stored_past k l = splice_past bytes (8 * here + 4) m room k (omega (arith, length_bytes4 order (unsigned half32 z)))

  decode_other : (k : ℕ) → k ≢ here → decode order (immediate_stored order bytes here z) (8 * k) ≡ decode order bytes (8 * k)
  decode_other k n = either (dec_lt k here)
    where
      either : Dec (k < here) → decode order (immediate_stored order bytes here z) (8 * k) ≡ decode order bytes (8 * k)
      either (yes l) = decode_same order bytes _ (8 * k) (8 * k) (λ j lj. stored_before (8 * k + j) (omega arith))
      either (no l) = decode_same order bytes _ (8 * k) (8 * k) (λ j lj. stored_past (8 * k + j) (omega arith))

  stored_immediate : u32_at order (immediate_stored order bytes here z) (8 * here + 4) ≡ unsigned half32 z
  unfolding immediate_stored
  stored_immediate = read_back bytes (8 * here + 4) (unsigned half32 z) (omega arith) order

  decode_here : decode order (immediate_stored order bytes here z) (8 * here) ≡ with_immediate z (decode order bytes (8 * here))
  unfolding decode
  decode_here =
      rw (
        stored_before (8 * here) (omega arith),
        stored_before (8 * here + 1) (omega arith),
        u16_same order bytes (immediate_stored order bytes here z) (8 * here + 2) (8 * here + 2) (λ j l. stored_before (8 * here + 2 + j) (omega arith)),
        stored_immediate,
        signed_unsigned half32 z fits,
      )

  pub bytes_kept : length (immediate_stored order bytes here z) ≡ length bytes
  unfolding immediate_stored m
  bytes_kept = splice_length bytes (8 * here + 4) m room

  pub stored_decoded : decoded order (immediate_stored order bytes here z) ≡ set (decoded order bytes) here (with_immediate z (slot_at (decoded order bytes) here))
  stored_decoded = slot_changed order bytes (immediate_stored order bytes here z) here (with_immediate z) bytes_kept inside decode_other decode_here

module _ (order : Order) (source : ℕ) (low : source < 16) (bytes : List ℕ) (here : ℕ) (inside : 8 * here + 8 ≤ length bytes) where
  -- the register byte
  r : ℕ
  r = registers order source (destination_of order (byte_at bytes (8 * here + 1)))

  pub source_kept : length (source_stored order source bytes here) ≡ length bytes
  unfolding source_stored
  source_kept = splice_length bytes (8 * here + 1) _ (omega arith)

  source_byte : (k : ℕ) → k ≢ 8 * here + 1 → byte_at (source_stored order source bytes here) k ≡ byte_at bytes k
  unfolding source_stored
  source_byte k n = either (dec_lt k (8 * here + 1))
    where
      either : Dec (k < 8 * here + 1) → byte_at (source_stored order source bytes here) k ≡ byte_at bytes k
      either (yes l) = splice_before bytes (8 * here + 1) _ (omega arith) k l
      either (no l) = splice_past bytes (8 * here + 1) _ (omega arith) k (omega arith)

  source_put : byte_at (source_stored order source bytes here) (8 * here + 1) ≡ r
  unfolding source_stored r
  source_put = ap (byte_at (splice bytes (8 * here + 1) (r ∷ []))) (sym (add-zero (8 * here + 1))) ∙ splice_in bytes (8 * here + 1) (r ∷ []) (omega arith) 0 (omega arith)

  source_other : (k : ℕ) → k ≢ here → decode order (source_stored order source bytes here) (8 * k) ≡ decode order bytes (8 * k)
  source_other k n = decode_same order bytes _ (8 * k) (8 * k) (λ j l. source_byte (8 * k + j) (omega arith))

  registers_of : (o : Order) (byte : ℕ) → (source_of o (registers o source (destination_of o byte)) ≡ source)
      × (destination_of o (registers o source (destination_of o byte)) ≡ destination_of o byte)
  registers_of little byte = (omega arith, omega arith)
  registers_of big byte = (omega arith, omega arith)

  source_here : decode order (source_stored order source bytes here) (8 * here) ≡ with_source source (decode order bytes (8 * here))
  unfolding decode r
  source_here =
      rw (
        source_byte (8 * here) (omega arith),
        source_put,
        u16_same order bytes (source_stored order source bytes here) (8 * here + 2) (8 * here + 2) (λ j l. source_byte (8 * here + 2 + j) (omega arith)),
        u32_same order bytes (source_stored order source bytes here) (8 * here + 4) (8 * here + 4) (λ j l. source_byte (8 * here + 4 + j) (omega arith)),
        (registers_of order (byte_at bytes (8 * here + 1))).0,
        (registers_of order (byte_at bytes (8 * here + 1))).1,
      )

  pub source_decoded : decoded order (source_stored order source bytes here) ≡ set (decoded order bytes) here (with_source source (slot_at (decoded order bytes) here))
  source_decoded = slot_changed order bytes (source_stored order source bytes here) here (with_source source) source_kept inside source_other source_here

-- whole slots side by side
module _ (order : Order) (a b : List ℕ) (n : ℕ) (whole : length a ≡ 8 * n) where
  pub append_decoded : decoded order (a ++ b) ≡ decoded order a ++ decoded order b
  append_decoded = ext_get_or blank _ _ same_length (λ k l. at_slot k (omega (arith, decoded_length order (a ++ b))) (dec_lt k n))
    where
      same_length : length (decoded order (a ++ b)) ≡ length (decoded order a ++ decoded order b)
      same_length = simp (length-append, decoded_length) (omega arith)

      first : length (decoded order a) ≡ n
      first = decoded_length order a ∙ omega arith

      past : (k m : ℕ) → k ≡ 8 * n + m → byte_at (a ++ b) k ≡ byte_at b m
      past k m e = ap (byte_at (a ++ b)) (e ∙ ap (λ x. x + m) (sym whole)) ∙ get_or-append-add a b m 0

      at_slot : (k : ℕ) → k < length (a ++ b) / 8 → Dec (k < n) → slot_at (decoded order (a ++ b)) k ≡ slot_at (decoded order a ++ decoded order b) k
      at_slot k l (yes in-a) =
          decoded_at order (a ++ b) k l
          ∙ decode_same order a (a ++ b) (8 * k) (8 * k) (λ j lj. get_or-append a b 0 (8 * k + j) (omega arith))
          ∙ sym (decoded_at order a k (omega arith)) ∙ sym (get_or-append (decoded order a) (decoded order b) blank k (omega (arith, first)))
      at_slot k l (no in_b) =
          decoded_at order (a ++ b) k l
          ∙ decode_same order b (a ++ b) (8 * (k - n)) (8 * k) (λ j lj. past (8 * k + j) (8 * (k - n) + j) (omega arith))
          ∙ sym (decoded_at order b (k - n) (omega (arith, length-append a b)))
          ∙ sym (ap (slot_at (decoded order a ++ decoded order b)) (omega (arith, first)) ∙ get_or-append-add (decoded order a) (decoded order b) (k - n) blank)

-- the bytes of `count` slots from the slot `from` on are those slots
pub part_decoded : (order : Order) (bytes : List ℕ) (from count : ℕ) → 8 * (from + count) ≤ length bytes
    → decoded order (take (8 * count) (drop (8 * from) bytes)) ≡ run (λ slot. slot_at (decoded order bytes) (from + slot)) 0 count
part_decoded order bytes from count fits = ext_get_or blank _ _ same_length (λ k l. at_slot k (omega (arith, decoded_length order part, part_length)))
  where
    part : List ℕ
    part = take (8 * count) (drop (8 * from) bytes)

    part_length : length part ≡ 8 * count
    part_length = simp (length-take, length-drop) (omega arith)

    same_length : length (decoded order part) ≡ length (run (λ slot. slot_at (decoded order bytes) (from + slot)) 0 count)
    same_length = decoded_length order part ∙ omega (arith, part_length, length_run (λ slot. slot_at (decoded order bytes) (from + slot)) 0 count)

    byte_of : (k m : ℕ) → k < 8 * count → m ≡ 8 * from + k → byte_at part k ≡ byte_at bytes m
    byte_of k m l e = get_or-take (8 * count) (drop (8 * from) bytes) k 0 l ∙ get_or-drop (8 * from) bytes k 0 ∙ ap (byte_at bytes) (sym e)

    at_slot : (k : ℕ) → k < count → slot_at (decoded order part) k ≡ slot_at (run (λ slot. slot_at (decoded order bytes) (from + slot)) 0 count) k
    at_slot k l =
        decoded_at order part k (omega (arith, part_length))
        ∙ decode_same order bytes part (8 * (from + k)) (8 * k)
        (λ j lj. byte_of (8 * k + j) (8 * (from + k) + j) (omega arith) (omega arith))
        ∙ sym (decoded_at order bytes (from + k) (omega arith))
        ∙ sym (run_at (λ slot. slot_at (decoded order bytes) (from + slot)) 0 count k blank l ∙ ap (λ x. slot_at (decoded order bytes) (from + x)) (zero-add k))

-- a displacement within an image of less than 2^31 slots fits an immediate
displacement_is : (start here : ℕ) → displacement start here ≡ sub_ℕ start (suc here)
unfolding displacement
displacement_is start here = +ℤ_assoc (pos start) (neg_ℤ (pos here)) (negsuc 0) ∙ ap (λ x. pos start +ℤ x) (less_one here)
  where
    less_one : (n : ℕ) → neg_ℤ (pos n) +ℤ negsuc 0 ≡ negsuc n
    less_one zero = refl
    less_one (suc n) = ap (λ k. negsuc (suc k)) (add-zero n)

pub displacement_fits : (start here : ℕ) → start < half32 → here < half32 → Fits half32 (displacement start here)
displacement_fits start here l l' = rw (displacement_is start here) (go (ltb start (suc here)) refl)
  where
    go : (b : Bool) → ltb start (suc here) ≡ b → Fits half32 (cond b (negsuc (suc here - suc start)) (pos (start - suc here)))
    go true e = omega arith
    go false e = omega arith

-- the link step's two rewritings, on bytes
module _ (order : Order) (bytes : List ℕ) (start here : ℕ) (l : start < half32) (l' : here < half32) (inside : 8 * here + 8 ≤ length bytes) where
  pub calling_stored : decoded order (immediate_stored order bytes here (displacement start here))
      ≡ set (decoded order bytes) here (calling (slot_at (decoded order bytes) here) start here)
  unfolding calling
  calling_stored = stored_decoded order bytes here (displacement start here) (displacement_fits start here l l') inside

  pub referring_stored : decoded order (immediate_stored order (source_stored order 4 bytes here) here (displacement start here))
      ≡ set (decoded order bytes) here (referring (slot_at (decoded order bytes) here) start here)
  unfolding referring
  referring_stored =
      stored_decoded order (source_stored order 4 bytes here) here (displacement start here) (displacement_fits start here l l') (rw (source_kept order 4 (omega arith) bytes here inside) inside)
      ∙ rw (source_decoded order 4 (omega arith) bytes here inside)
      (twice (with_immediate (displacement start here)) (decoded order bytes) (with_source 4 (slot_at (decoded order bytes) here)) (omega (arith, decoded_length order bytes)))
    where
      twice : (change : Insn → Insn) (image : List Insn) (i : Insn) → here < length image
          → set (set image here i) here (change (slot_at (set image here i) here)) ≡ set image here (change i)
      twice change image i l = rw (get_or-set_same image here i blank l) (set-set image here i (change i))
