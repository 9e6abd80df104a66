-- The machine's signed numbers are two's complement: what its registers hold is what document 01 reads.
-- Assumes nothing.
use mathlib.Core.Path.{◌≡◌, refl, ap, ◌∙◌}
use mathlib.Core.Bool.{Bool, true, false, cond}
use Prim.Native.Nat.{ℕ, suc, ◌+◌, ◌-◌, ◌^◌}
use lib.Dec.{ltb}
use lib.IntN.{ℤ, pos, negsuc}
use mir.Syntax.{Width, w16, w32}
use mir.Val.{to_z, of_z, bits, hbits, sel, SFits}
use Rattle.rules.specs.Bytes.{signed, unsigned, Fits, half16, half32}

-- over the width w, whose half is 2 ^ (bits − 1)
module _ (w : Width) (half : ℕ) (is-half : half ≡ 2 ^ hbits w) (is_whole : half + half ≡ 2 ^ bits w) where
  choose : (b : Bool) (x y : ℤ) → cond b x y ≡ sel b x y
  choose true x y = refl
  choose false x y = refl

  pub signed_is : (n : ℕ) → signed half n ≡ to_z w n
  unfolding signed
  signed_is n =
      choose (ltb n half) (pos n) (negsuc (half + half - suc n))
      ∙ ap (λ h. sel (ltb n h) (pos n) (negsuc (half + half - suc n))) is-half
      ∙ ap (λ t. sel (ltb n (2 ^ hbits w)) (pos n) (negsuc (t - suc n))) is_whole

  pub unsigned_is : (z : ℤ) → unsigned half z ≡ of_z w z
  unfolding unsigned
  unsigned_is (pos n) = refl
  unsigned_is (negsuc n) = ap (λ t. t - suc n) is_whole

pub signed16 : (n : ℕ) → signed half16 n ≡ to_z w16 n
signed16 = signed_is w16 half16 refl refl

pub signed32 : (n : ℕ) → signed half32 n ≡ to_z w32 n
signed32 = signed_is w32 half32 refl refl

pub unsigned32 : (z : ℤ) → unsigned half32 z ≡ of_z w32 z
unsigned32 = unsigned_is w32 half32 refl refl

pub fits32 : (z : ℤ) → Fits half32 z → SFits w32 z
fits32 (pos n) l = record { sfits = l }
fits32 (negsuc n) l = record { sfits = l }

pub sfits32 : (z : ℤ) → SFits w32 z → Fits half32 z
sfits32 (pos n) f = f.sfits
sfits32 (negsuc n) f = f.sfits
