-- "The walk of demand 3", by one rule over any ground: the source's functions, or an image.
-- Assumes nothing.
use Rattle.std.specs.Prelude.{Bool, true, false, cond, ◌&&◌, ◌||◌, List, [], ◌∷◌, ℕ, zero, suc, ◌/◌, ◌%◌, ℤ, pos, negsuc, ◌+ℤ◌, ltb, leb, eqb, length}
use Rattle.std.proofs.Math.Option.{Option, none, some}
use Rattle.rules.specs.declared.Place.{Place}
use Rattle.rules.specs.declared.Kind.{Kind}
use Rattle.rules.specs.declared.Kind.TheVariants.{Plain, WideLoad, JumpByOffset, JumpByImmediate, Conditional, CallByte, Exit, Unknown}
use Rattle.rules.specs.Object.{Insn, is_call, Object, Meaning, copied, call, reference, refused, meaning}
use Rattle.rules.specs.Faithful.{slot_at}

abbrev between : ℕ → ℕ → ℕ → Bool
between low n high = leb low n && leb n high

-- "low three bits 5 or 6" (RFC 9669, section 3.3: classes JMP and JMP32)
abbrev is_jump_class : ℕ → Bool
is_jump_class opcode = eqb (opcode % 8) 5 || eqb (opcode % 8) 6

-- "with high four bits 1 to 7 or 10 to 13" (RFC 9669, section 4.3)
abbrev is_conditional : ℕ → Bool
is_conditional opcode = between 1 (opcode / 16) 7 || between 10 (opcode / 16) 13

-- "18 hex wide load; 05 jump by offset; 06 jump by immediate; 85 call byte; 95 exit; ... conditional (44); other bytes of those two classes,
-- unknown (16); the rest plain (191)"
unfoldable pub kind : ℕ → Kind
kind opcode =
    cond (eqb opcode 0x18) WideLoad
    (cond (eqb opcode 0x05) JumpByOffset
    (cond (eqb opcode 0x06) JumpByImmediate
    (cond (eqb opcode 0x85) CallByte
    (cond (eqb opcode 0x95) Exit
    (cond (is_jump_class opcode) (cond (is_conditional opcode) Conditional Unknown) Plain)))))

-- where a slot leads
pub data Move (Place : Type 0) : Type 0 where
  goes : Place → Move Place
  -- where on yes, where on no
  chooses : Place → Place → Move Place
  -- the callee's first slot, and the slot to return to
  enters : Place → Place → Move Place
  returns : Move Place
  stuck : Move Place

module _ {Place : Type 0} where
  abbrev pub entering : Option Place → Place → Move Place
  entering none back = stuck
  entering (some first) back = enters first back

  -- "Plain goes to slot + 1, wide load + 2. Jumps go to slot + 1 + offset or immediate; conditionals take one answer, yes jumps. A call pushes
  -- slot + 1 and enters the callee's first slot; other 85 slots are plain. Exit pops, or ends on an empty stack. Unknown ... stops".
  -- `ahead d` is the slot d further on, `callee` the first slot of what a call here calls
  abbrev pub by_kind : Kind → Insn → (ℤ → Place) → Option Place → Move Place
  by_kind Plain i ahead callee = goes (ahead (pos 1))
  by_kind WideLoad i ahead callee = goes (ahead (pos 2))
  by_kind JumpByOffset i ahead callee = goes (ahead (pos 1 +ℤ i.offset))
  by_kind JumpByImmediate i ahead callee = goes (ahead (pos 1 +ℤ i.immediate))
  by_kind Conditional i ahead callee = chooses (ahead (pos 1 +ℤ i.offset)) (ahead (pos 1))
  by_kind CallByte i ahead callee = cond (is_call i) (entering callee (ahead (pos 1))) (goes (ahead (pos 1)))
  by_kind Exit i ahead callee = returns
  by_kind Unknown i ahead callee = stuck

  unfoldable pub leads : Insn → (ℤ → Place) → Option Place → Move Place
  leads i ahead callee = by_kind (kind i.opcode) i ahead callee

-- what there is at a number, of `length` things
abbrev pub within {ℓ} : {A : Type ℓ} → ℕ → (ℕ → A) → ℤ → Option A
within length f (pos n) = cond (ltb n length) (some (f n)) none
within length f (negsuc n) = none

-- the source's functions: a slot of a row
abbrev pub SourcePlace : Type 0
SourcePlace = Place

abbrev pub place : ℕ → ℤ → SourcePlace
place row slot = record { row = row; slot = slot }

-- a call goes to the first slot of the function that it names
abbrev pub callee_of : Meaning → Option SourcePlace
callee_of copied = none
callee_of (call row) = some (place row (pos 0))
callee_of (reference row) = none
callee_of (refused number) = none

-- what one sees at a place: where its slot leads, or nothing outside the function
unfoldable pub in_source : Object → SourcePlace → Option (Move SourcePlace)
in_source object at =
    within (object.slots at.row) (λ slot.
    leads (object.insn at.row slot) (λ d. place at.row (at.slot +ℤ d)) (callee_of (meaning object at.row slot)))
    at.slot

-- "in the image slot + 1 + immediate"
unfoldable pub in_image : List Insn → ℤ → Option (Move ℤ)
in_image image at =
    within (length image) (λ slot.
    let i = slot_at image slot in
    leads i (λ d. at +ℤ d) (some (at +ℤ (pos 1 +ℤ i.immediate))))
    at

-- a walk: where it stands, the slots to return to, and the answers left
pub data Walk (Place : Type 0) : Type 0 where
  standing : Place → List Place → List Bool → Walk Place
  stopped : Place → List Place → Walk Place
  ended : Place → Walk Place
  left : Walk Place

module _ {Place : Type 0} (look : Place → Option (Move Place)) where
  -- "leaves when the slot it comes to, a popped one included, is outside"
  abbrev pub arriving : Option (Move Place) → Place → List Place → List Bool → Walk Place
  arriving none at stack answers = left
  arriving (some move) at stack answers = standing at stack answers

  abbrev pub arrive : Place → List Place → List Bool → Walk Place
  arrive at stack answers = arriving (look at) at stack answers

  abbrev pub choosing : Place → Place → Place → List Place → List Bool → Walk Place
  choosing at onYes onNo stack [] = stopped at stack
  choosing at onYes onNo stack (true ∷ answers) = arrive onYes stack answers
  choosing at onYes onNo stack (false ∷ answers) = arrive onNo stack answers

  abbrev pub returning : Place → List Place → List Bool → Walk Place
  returning at [] answers = ended at
  returning at (back ∷ stack) answers = arrive back stack answers

  abbrev pub moving : Option (Move Place) → Place → List Place → List Bool → Walk Place
  moving none at stack answers = left
  moving (some (goes next)) at stack answers = arrive next stack answers
  moving (some (chooses onYes onNo)) at stack answers = choosing at onYes onNo stack answers
  moving (some (enters first back)) at stack answers = arrive first (back ∷ stack) answers
  moving (some returns) at stack answers = returning at stack answers
  moving (some stuck) at stack answers = stopped at stack

  abbrev pub step : Walk Place → Walk Place
  step (standing at stack answers) = moving (look at) at stack answers
  step (stopped at stack) = stopped at stack
  step (ended at) = ended at
  step left = left

  -- `steps` steps, from the place `first` with no slot to return to
  abbrev pub walk : Place → List Bool → ℕ → Walk Place
  walk first answers zero = arrive first [] answers
  walk first answers (suc steps) = step (walk first answers steps)

-- "Both start at slot 0 with an empty stack, the source walk in the root"
abbrev pub source_walk : Object → ℕ → List Bool → ℕ → Walk SourcePlace
source_walk object root answers steps = walk (in_source object) (place root (pos 0)) answers steps

abbrev pub image_walk : List Insn → List Bool → ℕ → Walk ℤ
image_walk image answers steps = walk (in_image image) (pos 0) answers steps
