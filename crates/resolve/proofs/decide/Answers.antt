-- Each case of what is named, with the tests in the definition's order.
use mathlib.Core.Path.{◌≡◌, refl, sym, ap, ◌∙◌}
use mathlib.Core.Bool.{Bool, true, false, cond, not, ◌||◌}
use Prim.Native.Nat.{ℕ}
use native.Mathlib.Omega.{arith}
use Rattle.rules.specs.declared.Refusal.{Refusal}
use Rattle.rules.specs.Answers.{Reply, reply, refused_reply}
use Rattle.rules.specs.Object.{function, missing, reference, call, unclear, Meaning, refused, decide}
use Rattle.resolve.specs.Means.{Refuses}
use Rattle.resolve.proofs.Targets.{not_called}
use Rattle.std.specs.Prelude as prelude
use Rattle.resolve.specs.declared.Unnamed.TheVariants.{Missing, UnknownSymbol, UnknownForm}
use Rattle.resolve.proofs.decide.Goals.{in-Ok-Some+else-is_call-is_wide, in-Err-Missing+else-is_call-is_wide-2}
use Rattle.resolve.proofs.decide.Goals as goal

-- a refusal that was made with the number that the meaning has
refuses : {row slot number : ℕ} {r : Refusal} {m : Meaning} → refused_reply r ≡ reply number row slot 0 → m ≡ refused number → Refuses row slot r m
refuses {row} {slot} p e =
    let n = ap (λ (x : Reply). x.number) (sym p) in
    record { refusal = e ∙ ap refused n; places = p ∙ ap (λ (k : ℕ). reply k row slot 0) n }

always : (calls wide : Bool) (number : ℕ) → decide calls wide (unclear number) ≡ refused number
unfolding decide
always true wide number = refl
always false true number = refl
always false false number = refl

clash : {A : Type 0} → true ≡ false → A
clash e = let z : ◌≡◌ {A = ℕ} 0 1 = cc in absurd (omega arith)

points : (calls wide : Bool) (callee : ℕ) → (calls || wide) ≡ true → decide calls wide (function callee) ≡ cond (not calls) (reference callee) (call callee)
unfolding decide
points true wide callee e = refl
points false true callee e = refl
points false false callee e = clash (sym e)

unknown : (calls wide : Bool) → (calls || wide) ≡ true → decide calls wide (missing 10) ≡ refused 10
unfolding decide
unknown true wide e = refl
unknown false true e = refl
unknown false false e = clash (sym e)

not_wide : (calls wide : Bool) (callee : ℕ) → (calls || wide) ≡ false → decide calls wide (function callee) ≡ refused 6
unfolding decide
not_wide true wide callee e = clash e
not_wide false true callee e = clash e
not_wide false false callee e = refl

not_wide_missing : (calls wide : Bool) → (calls || wide) ≡ false → decide calls wide (missing 10) ≡ refused 6
unfolding decide
not_wide_missing true wide e = clash e
not_wide_missing false true e = clash e
not_wide_missing false false e = refl

pub returns-in-Ok-None : goal.returns-in-Ok-None
returns-in-Ok-None c =
    let e : c.in-Ok-None.field-0 ≡ prelude.None = rw c.in-Ok-None.is at c.in-Ok-None.field-0-is in
    rw (c.in-Ok-None.is, e, c.if-not-is_call.true) (not_called _)

pub returns-in-Ok-None-2 : goal.returns-in-Ok-None-2
unfolding decide
returns-in-Ok-None-2 c =
    let e : c.in-Ok-None-2.field-0 ≡ prelude.None = rw c.in-Ok-None-2.is at c.in-Ok-None-2.field-0-is in
    refuses c.refusal.ensures (rw (c.in-Ok-None-2.is, e, c.if-not-is_call.false))

pub returns-in-Ok-Some : goal.returns-in-Ok-Some
returns-in-Ok-Some c =
    let e : c.in-Ok-Some.field-0 ≡ prelude.Some c.in-Ok-Some.callee = rw c.in-Ok-Some.is at c.in-Ok-Some.field-0-is in
    rw (c.in-Ok-Some.is, e) (points _ _ _ c.if-is_call-is_wide.true)

pub returns-in-Err-Missing : goal.returns-in-Err-Missing
returns-in-Err-Missing c =
    let e : c.in-Err-Missing.field-0 ≡ Missing = rw c.in-Err-Missing.is at c.in-Err-Missing.field-0-is in
    refuses c.refusal-in-Err-Missing.ensures (rw (c.in-Err-Missing.is, e) (unknown _ _ c.if-is_call-is_wide-2.true))

pub returns-in-Err-UnknownSymbol : goal.returns-in-Err-UnknownSymbol
returns-in-Err-UnknownSymbol c =
    let e : c.in-Err-UnknownSymbol.field-0 ≡ UnknownSymbol = rw c.in-Err-UnknownSymbol.is at c.in-Err-UnknownSymbol.field-0-is in
    refuses c.refusal-in-Err-UnknownSymbol.ensures (rw (c.in-Err-UnknownSymbol.is, e) (always _ _ 3))

pub returns-in-Err-UnknownForm : goal.returns-in-Err-UnknownForm
returns-in-Err-UnknownForm c =
    let e : c.in-Err-UnknownForm.field-0 ≡ UnknownForm = rw c.in-Err-UnknownForm.is at c.in-Err-UnknownForm.field-0-is in
    refuses c.refusal-in-Err-UnknownForm.ensures (rw (c.in-Err-UnknownForm.is, e) (always _ _ 8))

pub returns-in-Ok-Some-2 : goal.returns-in-Ok-Some-2
returns-in-Ok-Some-2 c =
    refuses c.refusal-in-Ok-Some-2.ensures
    (elim c.in-Ok-Some-2-1.branch [
      | in-Ok-Some+else-is_call-is_wide w ↦
          let e : w.in-Ok-Some.field-0 ≡ prelude.Some w.in-Ok-Some.callee = rw w.in-Ok-Some.is at w.in-Ok-Some.field-0-is in
          rw (w.in-Ok-Some.is, e) (not_wide _ _ _ w.if-is_call-is_wide.false)
      | in-Err-Missing+else-is_call-is_wide-2 w ↦
          let e : w.in-Err-Missing.field-0 ≡ Missing = rw w.in-Err-Missing.is at w.in-Err-Missing.field-0-is in
          rw (w.in-Err-Missing.is, e) (not_wide_missing _ _ w.if-is_call-is_wide-2.false)
    ])
