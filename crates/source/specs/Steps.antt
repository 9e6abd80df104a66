-- The source walk over lent frames: a frame is a row and a slot number.
-- Assumes nothing.
use Rattle.std.specs.Prelude.{◌≡◌, cond, List, ℕ, eqb, ℤ, pos, length, Result, Ok, Err}
use Rattle.std.proofs.Math.Option.{Option, none, some}
use Rattle.rules.specs.declared.Refusal.{Refusal}
use Rattle.rules.specs.Answers.{Reply, refused_reply}
use Rattle.rules.specs.Rows.{Offered, or_else, no_root, map_step_refusal}
use Rattle.rules.specs.Lookups.{found_of}
use Rattle.rules.specs.Walk.{within, SourcePlace, place, in_source, source_walk}
use Rattle.walk.specs.Runs.{answers_in, Frames, Ran}
use Rattle.walk.specs.Steps.{stood_of, slice_frames, arrived_by}
use Rattle.walk.specs.declared.Stand.{Stand}
use Rattle.walk.specs.declared.Stand.TheVariants.{Left, NoFrame}
use Rattle.source.specs.Moves.{object_in}

abbrev pub source_frames : Frames SourcePlace (List SourcePlace)
source_frames = slice_frames (place 0 (pos 0))

-- in a function of so many slots
abbrev pub arrived_at : ℕ → ℕ → ℤ → ℕ → ℕ → Stand SourcePlace
arrived_at slots row at depth taken = arrived_by (found_of (within slots (λ n. n) at)) (place row at) depth taken

-- a call, of a function of so many slots, for which there is no frame
abbrev pub frameless_at : ℕ → Stand SourcePlace
frameless_at slots = cond (eqb slots 0) Left NoFrame

-- at most so many steps from the root's first slot: the frames before and after, and what it comes to
abbrev pub SourceRan : Offered → ℕ → List SourcePlace → List SourcePlace → List ℕ → ℕ → Stand SourcePlace → Type 0
SourceRan o root frames after answers limit s =
    Ran source_frames (in_source (object_in o)) (length answers) frames after (source_walk (object_in o) root (answers_in answers)) limit (stood_of s)

-- "1 over all tables given, then 2, both by table number; then 13": the walk is given tables 1 to 4 and 6
abbrev pub walk_refusal : Offered → ℕ → Option Reply
walk_refusal o root = or_else (map_step_refusal o) (no_root o root)

-- over offered tables, of which table 5 is empty
abbrev pub SourceWalked : Offered → ℕ → List SourcePlace → List SourcePlace → List ℕ → ℕ → Result (Stand SourcePlace) Refusal → Type 0
SourceWalked o root frames after answers limit (Ok s) = (walk_refusal o root ≡ none) × SourceRan o root frames after answers limit s
SourceWalked o root frames after answers limit (Err r) = (walk_refusal o root ≡ some (refused_reply r)) × (after ≡ frames)
