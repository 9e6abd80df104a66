-- A bounded run on any ground: the definition's walk, for as long as the lent frames hold its stack.
-- Assumes nothing.
use Rattle.std.specs.Prelude.{◌≡◌, Bool, cond, ◌||◌, List, [], ◌∷◌, ℕ, zero, suc, ◌-◌, eqb, ltb, length, drop}
use Rattle.std.proofs.Math.Option.{Option, none, some}
use Rattle.rules.specs.Walk.{Walk, standing, stopped, ended, left, Move, goes, chooses, enters, returns, stuck, step}

-- 1 is yes
abbrev pub answers_in : List ℕ → List Bool
answers_in [] = []
answers_in (b ∷ bs) = eqb b 1 ∷ answers_in bs

abbrev pub answers_from : List ℕ → ℕ → List Bool
answers_from answers taken = answers_in (drop taken answers)

-- a walk by numbers: the place, how many frames and how many answers are used
pub data Stood (Place : Type 0) : Type 0 where
  stands : Place → ℕ → ℕ → Stood Place
  stops : Place → ℕ → Stood Place
  ends : Place → Stood Place
  leaves : Stood Place
  -- a call found no frame
  lacks : Stood Place

module _ {Place : Type 0} where
  abbrev pub stack_in : Walk Place → List Place
  stack_in (standing at stack answers) = stack
  stack_in (stopped at stack) = stack
  stack_in (ended at) = []
  stack_in left = []

  -- does a walk's stack take more than so many frames
  abbrev pub deeper : ℕ → Walk Place → Bool
  deeper room w = ltb room (length (stack_in w))

  -- of a walk that began with so many answers
  abbrev pub stood : ℕ → Walk Place → Stood Place
  stood given (standing at stack answers) = stands at (length stack) (given - length answers)
  stood given (stopped at stack) = stops at (length stack)
  stood given (ended at) = ends at
  stood given left = leaves

  -- "a call that finds no frame stops by name": where the definition's walk goes deeper than the frames lent
  abbrev pub stood_in : ℕ → ℕ → Walk Place → Stood Place
  stood_in room given w = cond (deeper room w) lacks (stood given w)

  -- is one of the walk's states, from the first to that after so many steps, deeper than the frames lent
  unfoldable pub runs_out : ℕ → (ℕ → Walk Place) → ℕ → Bool
  runs_out room walked zero = deeper room (walked zero)
  runs_out room walked (suc steps) = runs_out room walked steps || deeper room (walked (suc steps))

  -- the walk after so many steps, unless it ran out of frames
  abbrev pub ran : ℕ → ℕ → (ℕ → Walk Place) → ℕ → Stood Place
  ran room given walked steps = cond (runs_out room walked steps) lacks (stood given (walked steps))

-- frames that are lent: how many, what each holds, and what they hold once a place is put into one
pub record Frames (Place Lent : Type 0) : Type 0 where
  pub room : Lent → ℕ
  pub held : Lent → ℕ → Place
  pub put : Lent → ℕ → Place → Lent

module _ {Place Lent : Type 0} (frames : Frames Place Lent) where
  -- the slots to return to, the latest first
  abbrev pub stack_of : Lent → ℕ → List Place
  stack_of lent zero = []
  stack_of lent (suc n) = frames.held lent n ∷ stack_of lent n

  abbrev pub walk_from : Lent → List ℕ → Place → ℕ → ℕ → Walk Place
  walk_from lent answers at depth taken = standing at (stack_of lent depth) (answers_from answers taken)

  -- a call puts the slot to return to into the first frame that is free, if there is one; nothing else is written
  abbrev pub writing : Option (Move Place) → Lent → ℕ → Lent
  writing none lent depth = lent
  writing (some (goes next)) lent depth = lent
  writing (some (chooses onYes onNo)) lent depth = lent
  writing (some (enters first back)) lent depth = cond (ltb depth (frames.room lent)) (frames.put lent depth back) lent
  writing (some returns) lent depth = lent
  writing (some stuck) lent depth = lent

  module _ (look : Place → Option (Move Place)) where
    -- the frames after a step of this walk
    abbrev pub frames_after : Lent → Walk Place → Lent
    frames_after lent (standing at stack answers) = writing (look at) lent (length stack)
    frames_after lent (stopped at stack) = lent
    frames_after lent (ended at) = lent
    frames_after lent left = lent

    -- and after so many steps: none is written once the walk has run out of them
    unfoldable pub frames_through : Lent → (ℕ → Walk Place) → ℕ → Lent
    frames_through lent walked zero = lent
    frames_through lent walked (suc steps) =
        cond (runs_out (frames.room lent) walked steps) (frames_through lent walked steps)
        (frames_after (frames_through lent walked steps) (walked steps))

    -- a step from `w`: what it comes to, and what the frames then hold
    pub record Stepped (given : ℕ) (lent after : Lent) (w : Walk Place) (s : Stood Place) : Type 0 where
      pub stand : s ≡ stood_in (frames.room lent) given (step look w)
      pub frames_are : after ≡ frames_after lent w

    -- at most so many steps of a walk
    pub record Ran (given : ℕ) (lent after : Lent) (walked : ℕ → Walk Place) (limit : ℕ) (s : Stood Place) : Type 0 where
      pub stand : s ≡ ran (frames.room lent) given walked limit
      pub frames_are : after ≡ frames_through lent walked limit
