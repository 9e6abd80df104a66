-- Where a slot leads, by its kind; and an image's slots by its bytes.
-- Assumes nothing.
use mathlib.Core.Path.{◌≡◌, refl, sym, ap, ◌∙◌}
use mathlib.Core.Bool.{true, false}
use mathlib.Core.Option as math
use mathlib.Core.Option.{none, some}
use mathlib.Core.List.{List}
use Prim.Native.Nat.{ℕ, ◌+◌, ◌*◌, ◌<◌}
use native.Mathlib.Omega.{arith}
use lib.IntN.{ℤ, pos, negsuc, ◌+ℤ◌}
use lib.ListN.{length, take}
use lib.Seq.{length-take-le, get_or-take}
use borrow.Author.Tests.{lt-ltb}
use Rattle.rules.specs.declared.Kind.{Kind}
use Rattle.rules.specs.declared.Kind.TheVariants.{CallByte}
use Rattle.std.specs.Option.{is_some}
use Rattle.std.specs.Prelude.{Option, None, Some}
use Rattle.rules.specs.Tables as tables
use Rattle.rules.specs.Object.{Insn, is_call}
use Rattle.rules.specs.Faithful.{slot_at}
use Rattle.rules.specs.Bytes.{little, slot_in}
use Rattle.rules.specs.Walk.{Move, goes, chooses, enters, kind, by_kind, leads, in_image}
use Rattle.rules.proofs.Writing.{decoded_length, decoded_at, decode_same}
use Rattle.walk.specs.Moves.{Ground, image_in, leads_in}
use Rattle.walk.proofs.Places.{slot_found, outside_test, Lies, lies}

module _ (i : Insn) (slot : ℕ) where
  pub by_kind_lem : (k : Kind) → kind i.opcode ≡ k → leads_in i slot ≡ some (by_kind k i (λ d. pos slot +ℤ d) (some (pos slot +ℤ (pos 1 +ℤ i.immediate))))
  unfolding leads
  by_kind_lem k e = ap (λ (j : Kind). some (by_kind j i (λ d. pos slot +ℤ d) (some (pos slot +ℤ (pos 1 +ℤ i.immediate))))) e

  pub calls : kind i.opcode ≡ CallByte → is_call i ≡ true → leads_in i slot ≡ some (enters (pos slot +ℤ (pos 1 +ℤ i.immediate)) (pos slot +ℤ pos 1))
  calls e t = by_kind_lem CallByte e ∙ rw t

  pub calls_not : kind i.opcode ≡ CallByte → is_call i ≡ false → leads_in i slot ≡ some (goes (pos slot +ℤ pos 1))
  calls_not e t = by_kind_lem CallByte e ∙ rw t

pub chosen : {a b c d : ℤ} → a ≡ b → c ≡ d → ◌≡◌ {A = math.Option (Move ℤ)} (some (chooses a c)) (some (chooses b d))
chosen e f = cc

pub entered : {a b c d : ℤ} → a ≡ b → c ≡ d → ◌≡◌ {A = math.Option (Move ℤ)} (some (enters a c)) (some (enters b d))
entered e f = cc

module _ {image : List ℕ} {slots : ℕ} (g : Ground image slots) where
  image_length : length (image_in image slots) ≡ slots
  image_length =
      decoded_length little (take (8 * slots) image) ∙ rw (length-take-le (8 * slots) image g.inside) (omega arith)

  image_slot : (k : ℕ) → k < slots → slot_at (image_in image slots) k ≡ slot_in little image k
  image_slot k h =
      decoded_at little (take (8 * slots) image) k (omega (arith, length-take-le (8 * slots) image g.inside))
      ∙ decode_same little image (take (8 * slots) image) (8 * k) (8 * k) (λ j l. get_or-take (8 * slots) image (8 * k + j) 0 (omega arith))

  pub image_at : (k : ℕ) → k < slots → in_image (image_in image slots) (pos k) ≡ leads_in (slot_in little image k) k
  unfolding in_image
  image_at k h = rw (image_length, lt-ltb k slots h, image_slot k h)

  pub image_outside : (at : ℤ) → None ≡ slot_found slots at → in_image (image_in image slots) at ≡ none
  unfolding in_image
  image_outside (pos n) e = rw (image_length, outside_test slots n e)
  image_outside (negsuc n) e = refl

  -- what one sees, by the slot that was found there
  abbrev pub seen : Option ℕ → math.Option (Move ℤ)
  seen None = none
  seen (Some k) = leads_in (slot_in little image k) k

  pub sees : (at : ℤ) (f : Option ℕ) → f ≡ slot_found slots at → seen f ≡ in_image (image_in image slots) at
  sees at None e = sym (image_outside at e)
  sees at (Some k) e =
      let l : Lies slots at k = lies slots at k e in
      sym (ap (in_image (image_in image slots)) l.place ∙ image_at k l.low)

  pub sees_some : (f : Option ℕ) → is_some f ≡ tables.is_some (seen f)
  sees_some None = refl
  sees_some (Some k) = refl
