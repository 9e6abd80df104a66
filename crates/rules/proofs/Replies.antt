-- A reply comes from one answer only: a promise through `reply_of` fixes the answer, and one through `refused_reply` the refusal.
-- Assumes nothing.
use mathlib.Core.Path.{◌≡◌, refl, sym, ap, ◌∙◌}
use mathlib.Core.Logic.{◌≢◌}
use mathlib.Core.Bool.{false, cond}
use Prim.Native.Nat.{ℕ}
use borrow.Author.Tests.{eqb-false}
use lib.Dec.{eqb}
use lib.ListN.{get_or}
use Rattle.rules.specs.declared.Places.{Places}
use Rattle.rules.specs.declared.Cause.{Cause}
use Rattle.rules.specs.declared.Cause.TheVariants.{TooManyRows, BrokenRow, UnknownSymbol, InvalidRelocationOffset, SectionNotFound, NotWideLoad, ValueOutside, UnknownForm, NoCode, UnknownFunction, NoRoom, LineOutside, NoRoot, BrokenInfo, NoListRoom, ShownTooLong, ShownPartial, RootNotFirst, NoSuchFunction, NotTiled, EndsElsewhere, SlotChanged, NotReference, WrongTarget, FuncInfoDiffers, LineInfoDiffers, RecordsOver}
use Rattle.rules.specs.declared.Refusal.{Refusal}
use Rattle.std.specs.Prelude.{Result, Ok, Err}
use Rattle.rules.specs.Answers.{Reply, number_of, refused_reply, reply_of}

-- the cause of a number
cause_of : ℕ → Cause
cause_of n =
    cond (eqb n 1) TooManyRows
    (cond (eqb n 2) BrokenRow
    (cond (eqb n 3) UnknownSymbol
    (cond (eqb n 4) InvalidRelocationOffset
    (cond (eqb n 5) SectionNotFound
    (cond (eqb n 6) NotWideLoad
    (cond (eqb n 7) ValueOutside
    (cond (eqb n 8) UnknownForm
    (cond (eqb n 9) NoCode
    (cond (eqb n 10) UnknownFunction
    (cond (eqb n 11) NoRoom
    (cond (eqb n 12) LineOutside
    (cond (eqb n 13) NoRoot
    (cond (eqb n 14) BrokenInfo
    (cond (eqb n 32) NoListRoom
    (cond (eqb n 33) ShownTooLong
    (cond (eqb n 34) ShownPartial
    (cond (eqb n 35) RootNotFirst
    (cond (eqb n 36) NoSuchFunction
    (cond (eqb n 37) NotTiled
    (cond (eqb n 38) EndsElsewhere
    (cond (eqb n 39) SlotChanged
    (cond (eqb n 40) NotReference
    (cond (eqb n 41) WrongTarget
    (cond (eqb n 42) FuncInfoDiffers
    (cond (eqb n 43) LineInfoDiffers
    RecordsOver)))))))))))))))))))))))))

cause_back : (c : Cause) → cause_of (number_of c) ≡ c
unfolding cause_of
cause_back TooManyRows = refl
cause_back BrokenRow = refl
cause_back UnknownSymbol = refl
cause_back InvalidRelocationOffset = refl
cause_back SectionNotFound = refl
cause_back NotWideLoad = refl
cause_back ValueOutside = refl
cause_back UnknownForm = refl
cause_back NoCode = refl
cause_back UnknownFunction = refl
cause_back NoRoom = refl
cause_back LineOutside = refl
cause_back NoRoot = refl
cause_back BrokenInfo = refl
cause_back NoListRoom = refl
cause_back ShownTooLong = refl
cause_back ShownPartial = refl
cause_back RootNotFirst = refl
cause_back NoSuchFunction = refl
cause_back NotTiled = refl
cause_back EndsElsewhere = refl
cause_back SlotChanged = refl
cause_back NotReference = refl
cause_back WrongTarget = refl
cause_back FuncInfoDiffers = refl
cause_back LineInfoDiffers = refl
cause_back RecordsOver = refl

places_in : Reply → Places
places_in r = record { 0 = get_or r.places 0 0; 1 = get_or r.places 1 0; 2 = get_or r.places 2 0 }

refusal_of : Reply → Refusal
refusal_of r = record { cause = cause_of r.number; places = places_in r }

back : (r : Refusal) → refusal_of (refused_reply r) ≡ r
unfolding refusal_of places_in
back r = ap (λ (c : Cause). record { cause = c; places = r.places }) (cause_back r.cause)

pub one_refusal : (r s : Refusal) → refused_reply r ≡ refused_reply s → r ≡ s
one_refusal r s e = sym (back r) ∙ ap refusal_of e ∙ back s

-- no refusal has the number 0
not_zero : (c : Cause) → eqb (number_of c) 0 ≡ false
not_zero TooManyRows = refl
not_zero BrokenRow = refl
not_zero UnknownSymbol = refl
not_zero InvalidRelocationOffset = refl
not_zero SectionNotFound = refl
not_zero NotWideLoad = refl
not_zero ValueOutside = refl
not_zero UnknownForm = refl
not_zero NoCode = refl
not_zero UnknownFunction = refl
not_zero NoRoom = refl
not_zero LineOutside = refl
not_zero NoRoot = refl
not_zero BrokenInfo = refl
not_zero NoListRoom = refl
not_zero ShownTooLong = refl
not_zero ShownPartial = refl
not_zero RootNotFirst = refl
not_zero NoSuchFunction = refl
not_zero NotTiled = refl
not_zero EndsElsewhere = refl
not_zero SlotChanged = refl
not_zero NotReference = refl
not_zero WrongTarget = refl
not_zero FuncInfoDiffers = refl
not_zero LineInfoDiffers = refl
not_zero RecordsOver = refl

pub refuses : (r : Refusal) → (refused_reply r).number ≢ 0
refuses r = eqb-false (number_of r.cause) 0 (not_zero r.cause)

answer_of : Reply → Result Places Refusal
answer_of r = cond (eqb r.number 0) (Ok (places_in r)) (Err (refusal_of r))

answer_back : (a : Result Places Refusal) → answer_of (reply_of a) ≡ a
unfolding answer_of places_in
answer_back (Ok p) = refl
answer_back (Err r) =
    ap (λ b. cond b (Ok (places_in (refused_reply r))) (Err (refusal_of (refused_reply r)))) (not_zero r.cause) ∙ ap Err (back r)

pub one_answer : (a b : Result Places Refusal) → reply_of a ≡ reply_of b → a ≡ b
one_answer a b e = sym (answer_back a) ∙ ap answer_of e ∙ answer_back b
