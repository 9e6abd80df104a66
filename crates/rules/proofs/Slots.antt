-- What the tests on one slot say, and what a displacement adds up to.
-- Assumes nothing.
use mathlib.Core.Path.{◌≡◌, refl, ◌∙◌, ap}
use mathlib.Core.Bool.{Bool, true, false, cond, ◌&&◌}
use mathlib.Core.Option.{Option, some}
use Prim.Native.Nat.{ℕ}
use lib.IntN.{ℤ, pos, ◌+ℤ◌, ◌-ℤ◌, +ℤ_comm, -ℤ-+ℤ_cancel}
use borrow.Author.Tests.{eqb-true}
use Rattle.rules.specs.Object.{Insn, is_call, Named, nothing, function, missing, unclear, Object, is_wide_load, Meaning, copied, call, reference, refused, decide, meaning, displacement}
use Rattle.rules.specs.Walk.{kind, goes, enters, by_kind, leads}

and_left : (a b : Bool) → a && b ≡ true → a ≡ true
and_left true b e = refl
and_left false b e = e

-- the three tests behind the meaning
abbrev pub Fits : Bool → Bool → Meaning → Type 0
Fits c w copied = c ≡ false
Fits c w (call row) = c ≡ true
Fits c w (reference row) = w ≡ true
Fits c w (refused number) = Unit {0}

fits : (c w : Bool) (n : Named) → Fits c w (decide c w n)
unfolding decide
fits true w nothing = tt
fits true w (function row) = refl
fits true w (missing number) = tt
fits true w (unclear number) = tt
fits false true nothing = refl
fits false true (function row) = refl
fits false true (missing number) = tt
fits false true (unclear number) = tt
fits false false nothing = refl
fits false false (function row) = tt
fits false false (missing number) = tt
fits false false (unclear number) = tt

pub meaning_fits : (object : Object) (row slot : ℕ) → Fits (is_call (object.insn row slot)) (is_wide_load object row slot) (meaning object row slot)
unfolding meaning
meaning_fits object row slot = fits (is_call (object.insn row slot)) (is_wide_load object row slot) (object.named row slot)

pub call_opcode : (i : Insn) → is_call i ≡ true → i.opcode ≡ 0x85
unfolding is_call
call_opcode i e = eqb-true i.opcode 0x85 (and_left _ _ (and_left _ _ (and_left _ _ e)))

pub wide_opcode : (object : Object) (row slot : ℕ) → is_wide_load object row slot ≡ true → (object.insn row slot).opcode ≡ 0x18
unfolding is_wide_load
wide_opcode object row slot e = eqb-true (object.insn row slot).opcode 0x18 (and_left _ _ (and_left _ _ e))

module _ {Place : Type 0} (ahead : ℤ → Place) (i : Insn) where
  pub leads_call : (first : Place) → is_call i ≡ true → leads i ahead (some first) ≡ enters first (ahead (pos 1))
  unfolding leads kind
  leads_call first e =
      ap (λ k. by_kind (kind k) i ahead (some first)) (call_opcode i e)
      ∙ ap (λ c. cond c (enters first (ahead (pos 1))) (goes (ahead (pos 1)))) e

  pub leads_wide : (callee : Option Place) → i.opcode ≡ 0x18 → leads i ahead callee ≡ goes (ahead (pos 2))
  unfolding leads kind
  leads_wide callee e = ap (λ k. by_kind (kind k) i ahead callee) e

pub displaced : (start here : ℕ) → pos here +ℤ (pos 1 +ℤ displacement start here) ≡ pos start
unfolding displacement
displaced start here =
    ap (λ x. pos here +ℤ x) (+ℤ_comm (pos 1) (pos start -ℤ pos here -ℤ pos 1) ∙ -ℤ-+ℤ_cancel (pos start -ℤ pos here) (pos 1))
    ∙ +ℤ_comm (pos here) (pos start -ℤ pos here) ∙ -ℤ-+ℤ_cancel (pos start) (pos here)
