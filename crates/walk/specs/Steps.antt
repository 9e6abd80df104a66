-- Walks over lent frames, as code takes them: over any ground, and over an image, where a frame is a slot number.
-- Assumes nothing.
use Rattle.std.specs.Prelude as prelude
use Rattle.std.specs.Prelude.{◌≡◌, cond, List, ℕ, ◌/◌, ◌≤◌, ◌<◌, ℤ, pos, length, get_or, set, Result, Ok, Err}
use Rattle.std.proofs.Math.Option.{Option}
use Rattle.rules.specs.Object.{Insn}
use Rattle.rules.specs.Bytes.{slot_size}
use Rattle.rules.specs.Lookups.{found_of}
use Rattle.rules.specs.Rows.{most_image_slots}
use Rattle.rules.specs.Tables.{is_some}
use Rattle.rules.specs.Walk.{Move, walk, within, in_image, image_walk}
use Rattle.walk.specs.Moves.{image_in}
use Rattle.walk.specs.Runs.{answers_in, Stood, stands, stops, ends, leaves, lacks, Frames, walk_from, Stepped, Ran}
use Rattle.walk.specs.declared.Here.{Here}
use Rattle.walk.specs.declared.Stand.{Stand}
use Rattle.walk.specs.declared.Stand.TheVariants.{Standing, Stopped, Ended, Left, NoFrame}
use Rattle.walk.specs.declared.TooLong.{TooLong}

module _ {Place : Type 0} where
  abbrev pub stood_of : Stand Place → Stood Place
  stood_of (Standing here) = stands here.at here.depth here.taken
  stood_of (Stopped at depth) = stops at depth
  stood_of (Ended at) = ends at
  stood_of Left = leaves
  stood_of NoFrame = lacks

  -- a lent slice; `blank` stands for what is past its end
  abbrev pub slice_frames : Place → Frames Place (List Place)
  slice_frames blank = record { room = length; held = λ frames n. get_or frames n blank; put = set }

  -- as many frames are lent as are used, and as many answers given as are taken
  pub record Fitting (frames : List Place) (answers : List ℕ) (here : Here Place) : Type 0 where
    pub deep : here.depth ≤ length frames
    pub few : here.taken ≤ length answers

  -- by the slot that was found at the place
  abbrev pub arrived_by : prelude.Option ℕ → Place → ℕ → ℕ → Stand Place
  arrived_by prelude.None at depth taken = Left
  arrived_by (prelude.Some k) at depth taken = Standing (record { at = at; depth = depth; taken = taken })

  abbrev pub frameless_by : prelude.Option ℕ → Stand Place
  frameless_by prelude.None = Left
  frameless_by (prelude.Some k) = NoFrame

  module _ (look : Place → Option (Move Place)) where
    abbrev pub arrived_at : Place → ℕ → ℕ → Stand Place
    arrived_at at depth taken = cond (is_some (look at)) (Standing (record { at = at; depth = depth; taken = taken })) Left

    -- a call for which there is no frame
    abbrev pub frameless_at : Place → Stand Place
    frameless_at first = cond (is_some (look first)) NoFrame Left

    -- a step, and at most so many from a first place: the frames before and after, and what it comes to
    abbrev pub SteppedOver : Place → List Place → List Place → List ℕ → Here Place → Stand Place → Type 0
    SteppedOver blank frames after answers here s =
        Stepped (slice_frames blank) look (length answers) frames after
        (walk_from (slice_frames blank) frames answers here.at here.depth here.taken) (stood_of s)

    abbrev pub RanOver : Place → List Place → List Place → List ℕ → Place → ℕ → Stand Place → Type 0
    RanOver blank frames after answers first limit s =
        Ran (slice_frames blank) look (length answers) frames after (walk look first (answers_in answers)) limit (stood_of s)

-- of so many slots
abbrev pub arrived_in : ℕ → ℤ → ℕ → ℕ → Stand ℤ
arrived_in slots at depth taken = arrived_by (found_of (within slots (λ n. n) at)) at depth taken

abbrev pub frameless_in : ℕ → ℤ → Stand ℤ
frameless_in slots first = frameless_by (found_of (within slots (λ n. n) first))

abbrev pub image_frames : Frames ℤ (List ℤ)
image_frames = slice_frames (pos 0)

-- at most so many steps from an image's first slot
abbrev pub ImageRan : List Insn → List ℤ → List ℤ → List ℕ → ℕ → Stand ℤ → Type 0
ImageRan image frames after answers limit s =
    Ran image_frames (in_image image) (length answers) frames after (image_walk image (answers_in answers)) limit (stood_of s)

-- of an image's whole slots, which are no more than an image may hold
abbrev pub ImageWalked : List ℕ → List ℤ → List ℤ → List ℕ → ℕ → Result (Stand ℤ) TooLong → Type 0
ImageWalked image frames after answers limit (Ok s) =
    (length image / slot_size ≤ most_image_slots)
    × ImageRan (image_in image (length image / slot_size)) frames after answers limit s
ImageWalked image frames after answers limit (Err e) = (most_image_slots < length image / slot_size) × (after ≡ frames)
