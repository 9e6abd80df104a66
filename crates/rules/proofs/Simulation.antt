-- Two walks go together if, at places that are the same, their grounds show the same.
-- Assumes nothing.
use mathlib.Core.Bool.{Bool, true, false}
use mathlib.Core.Path.{◌≡◌, refl}
use mathlib.Core.Option.{Option, none, some, IsSome}
use mathlib.Core.List.{List, [], ◌∷◌}
use Prim.Native.Nat.{ℕ, zero, suc}
use Rattle.rules.specs.Walk.{Move, goes, chooses, enters, returns, stuck, Walk, standing, stopped, ended, left, arriving, arrive, choosing, returning, moving, step, walk}
use Rattle.rules.specs.Together.{Pairwise, no_frames, frame, Together, both_stand, both_stop, both_end, first_left}

pub data SameMove {A B : Type 0} (Same : A → B → Type 0) : Move A → Move B → Type 0 where
  same_goes : {a : A} {b : B} → Same a b → SameMove Same (goes a) (goes b)
  same_chooses : {a a' : A} {b b' : B} → Same a b → Same a' b' → SameMove Same (chooses a a') (chooses b b')
  same_enters : {a a' : A} {b b' : B} → Same a b → Same a' b' → SameMove Same (enters a a') (enters b b')
  same_returns : SameMove Same returns returns
  same_stuck : SameMove Same stuck stuck

pub data SameSight {A B : Type 0} (Same : A → B → Type 0) : Option (Move A) → Option (Move B) → Type 0 where
  outside : {o : Option (Move B)} → SameSight Same none o
  inside : {m : Move A} {n : Move B} → SameMove Same m n → SameSight Same (some m) (some n)

module _ {A B : Type 0} (Same : A → B → Type 0) (look : A → Option (Move A)) (look' : B → Option (Move B))
    (sight : (a : A) (b : B) → Same a b → SameSight Same (look a) (look' b)) where
  arriving_together : {o : Option (Move A)} {o' : Option (Move B)} → SameSight Same o o'
      → {a : A} {b : B} {s : List A} {t : List B} (answers : List Bool) → Same a b → Pairwise Same s t
      → Together Same (arriving look o a s answers) (arriving look' o' b t answers)
  arriving_together outside answers here frames = first_left
  arriving_together (inside m) answers here frames = both_stand here frames

  arrive_together : {a : A} {b : B} {s : List A} {t : List B} (answers : List Bool) → Same a b → Pairwise Same s t
      → Together Same (arrive look a s answers) (arrive look' b t answers)
  arrive_together answers here frames = arriving_together (sight _ _ here) answers here frames

  choosing_together : {a a₁ a₂ : A} {b b₁ b₂ : B} {s : List A} {t : List B} (answers : List Bool)
      → Same a b → Same a₁ b₁ → Same a₂ b₂ → Pairwise Same s t
      → Together Same (choosing look a a₁ a₂ s answers) (choosing look' b b₁ b₂ t answers)
  choosing_together [] here there₁ there₂ frames = both_stop here frames
  choosing_together (true ∷ answers) here there₁ there₂ frames = arrive_together answers there₁ frames
  choosing_together (false ∷ answers) here there₁ there₂ frames = arrive_together answers there₂ frames

  returning_together : {a : A} {b : B} {s : List A} {t : List B} (answers : List Bool) → Same a b → Pairwise Same s t
      → Together Same (returning look a s answers) (returning look' b t answers)
  returning_together answers here no_frames = both_end here
  returning_together answers here (frame back frames) = arrive_together answers back frames

  moving_together : {o : Option (Move A)} {o' : Option (Move B)} → SameSight Same o o'
      → {a : A} {b : B} {s : List A} {t : List B} (answers : List Bool) → Same a b → Pairwise Same s t
      → Together Same (moving look o a s answers) (moving look' o' b t answers)
  moving_together outside answers here frames = first_left
  moving_together (inside (same_goes next)) answers here frames = arrive_together answers next frames
  moving_together (inside (same_chooses there₁ there₂)) answers here frames = choosing_together answers here there₁ there₂ frames
  moving_together (inside (same_enters first back)) answers here frames = arrive_together answers first (frame back frames)
  moving_together (inside same_returns) answers here frames = returning_together answers here frames
  moving_together (inside same_stuck) answers here frames = both_stop here frames

  step_together : {w : Walk A} {w' : Walk B} → Together Same w w' → Together Same (step look w) (step look' w')
  step_together (both_stand {answers = answers} here frames) = moving_together (sight _ _ here) answers here frames
  step_together (both_stop here frames) = both_stop here frames
  step_together (both_end here) = both_end here
  step_together first_left = first_left

  pub walk_together : {a : A} {b : B} → Same a b → (answers : List Bool) (steps : ℕ)
      → Together Same (walk look a answers steps) (walk look' b answers steps)
  walk_together here answers zero = arrive_together answers here no_frames
  walk_together here answers (suc steps) = step_together (walk_together here answers steps)

-- where a walk stands there is something to see
module _ {A : Type 0} (look : A → Option (Move A)) where
  abbrev pub Inside : Walk A → Type 0
  Inside (standing at stack answers) = IsSome (look at)
  Inside (stopped at stack) = Unit {0}
  Inside (ended at) = Unit {0}
  Inside left = Unit {0}

  arrive_inside : (at : A) (stack : List A) (answers : List Bool) → Inside (arrive look at stack answers)
  arrive_inside at stack answers = go (look at) refl
    where
      go : (o : Option (Move A)) → look at ≡ o → Inside (arriving look o at stack answers)
      go none e = tt
      go (some move) e = rw e tt

  choosing_inside : (at onYes onNo : A) (stack : List A) (answers : List Bool) → Inside (choosing look at onYes onNo stack answers)
  choosing_inside at onYes onNo stack [] = tt
  choosing_inside at onYes onNo stack (true ∷ answers) = arrive_inside onYes stack answers
  choosing_inside at onYes onNo stack (false ∷ answers) = arrive_inside onNo stack answers

  returning_inside : (at : A) (stack : List A) (answers : List Bool) → Inside (returning look at stack answers)
  returning_inside at [] answers = tt
  returning_inside at (back ∷ stack) answers = arrive_inside back stack answers

  moving_inside : (o : Option (Move A)) (at : A) (stack : List A) (answers : List Bool) → Inside (moving look o at stack answers)
  moving_inside none at stack answers = tt
  moving_inside (some (goes next)) at stack answers = arrive_inside next stack answers
  moving_inside (some (chooses onYes onNo)) at stack answers = choosing_inside at onYes onNo stack answers
  moving_inside (some (enters first back)) at stack answers = arrive_inside first (back ∷ stack) answers
  moving_inside (some returns) at stack answers = returning_inside at stack answers
  moving_inside (some stuck) at stack answers = tt

  step_inside : (w : Walk A) → Inside (step look w)
  step_inside (standing at stack answers) = moving_inside (look at) at stack answers
  step_inside (stopped at stack) = tt
  step_inside (ended at) = tt
  step_inside left = tt

  pub walk_inside : (first : A) (answers : List Bool) (steps : ℕ) → Inside (walk look first answers steps)
  walk_inside first answers zero = arrive_inside first [] answers
  walk_inside first answers (suc steps) = step_inside (walk look first answers steps)
