-- Demand 3: what it means that two walks go together.
-- Assumes nothing.
use Rattle.std.specs.Prelude.{◌≡◌, Bool, ℕ, ◌<◌, ℤ, pos, ◌+ℤ◌}
use mathlib.Core.List.{List, [], ◌∷◌}
use Rattle.rules.specs.Object.{Insn, Object, meaning, reference}
use Rattle.rules.specs.Faithful.{Piece, Placed, slot_at}
use Rattle.rules.specs.Walk.{Walk, standing, stopped, ended, left, SourcePlace, source_walk, image_walk, place}

-- frame by frame, so at equal depth
pub data Pairwise {A B : Type 0} (Same : A → B → Type 0) : List A → List B → Type 0 where
  no_frames : Pairwise Same [] []
  frame : {a : A} {b : B} {s : List A} {t : List B} → Same a b → Pairwise Same s t → Pairwise Same (a ∷ s) (b ∷ t)

-- nothing is said once the first walk has left
pub data Together {A B : Type 0} (Same : A → B → Type 0) : Walk A → Walk B → Type 0 where
  both_stand : {a : A} {b : B} {s : List A} {t : List B} {answers : List Bool}
      → Same a b → Pairwise Same s t → Together Same (standing a s answers) (standing b t answers)
  both_stop : {a : A} {b : B} {s : List A} {t : List B} → Same a b → Pairwise Same s t → Together Same (stopped a s) (stopped b t)
  both_end : {a : A} {b : B} → Same a b → Together Same (ended a) (ended b)
  first_left : {w : Walk B} → Together Same left w

-- the slot `there` of the image is the slot `here` of the source, in some copy of its function
abbrev pub SamePlace : List Piece → SourcePlace → ℤ → Type 0
SamePlace pieces here there = Placed pieces here.row (λ start. there ≡ pos start +ℤ here.slot)

-- the slot of the image refers, by source register 4 and its displacement, to the first slot of a copy of the function `row`
pub record RefersTo (image : List Insn) (pieces : List Piece) (row : ℕ) (here : ℕ) : Type 0 where
  pub register : (slot_at image here).source ≡ 4
  pub target : Placed pieces row (λ start. pos here +ℤ (pos 1 +ℤ (slot_at image here).immediate) ≡ pos start)

-- the image walk stands at a reference to the function `row`, with the same answers left
pub record ReferencePassed (image : List Insn) (pieces : List Piece) (row : ℕ) (answers : List Bool) (steps : ℕ) (rest : List Bool) : Type 0 where
  pub here : ℕ
  pub back : List ℤ
  pub stands : image_walk image answers steps ≡ standing (pos here) back rest
  pub refers : RefersTo image pieces row here

-- linking keeps the path
pub record KeepsPath (object : Object) (root : ℕ) (image : List Insn) (pieces : List Piece) : Type 0 where
  pub together : (answers : List Bool) (steps : ℕ)
      → Together (SamePlace pieces) (source_walk object root answers steps) (image_walk image answers steps)
  -- a reference that the source walk stands at: the image walk stands at it too
  pub references : (answers : List Bool) (steps row slot callee : ℕ) (back : List SourcePlace) (rest : List Bool)
      → source_walk object root answers steps ≡ standing (place row (pos slot)) back rest
      → meaning object row slot ≡ reference callee → ReferencePassed image pieces callee answers steps rest
  -- a slot of the image is the same place as one slot of one function only
  pub one_place : (row row' slot slot' : ℕ) (there : ℤ) → slot < object.slots row → slot' < object.slots row'
      → SamePlace pieces (place row (pos slot)) there → SamePlace pieces (place row' (pos slot')) there → (row ≡ row') × (slot ≡ slot')
