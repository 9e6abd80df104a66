-- The steps over a held tables file: what it offers to each, and what a link with its list leaves.
-- Assumes nothing.
use Rattle.std.specs.Prelude.{◌≡◌, Result, Ok, Err, List, ℕ, take}
use Rattle.rules.specs.declared.Places.{Places}
use Rattle.rules.specs.declared.Refusal as told
use Rattle.rules.specs.Rows.{Offered, map_step_offer, link_offer}
use Rattle.rules.specs.Entries.{PiecesResult}
use Rattle.rules.specs.Lent.{Buffers}
use Rattle.rules.specs.Pieces.{pieces_bytes}
use Rattle.linker.specs.Linker.{Outcomes}
use Rattle.tell.specs.Files.{table_in}
use Rattle.clerk.specs.Counts.{IsPrefixLen}
use Rattle.clerk.specs.declared.steps.Made.{Made}

-- ---- what a held file offers to each step

abbrev pub held_maps : List ℕ → List ℕ → Offered
held_maps file instructions = map_step_offer (table_in file 0) (table_in file 1) (table_in file 2) (table_in file 3) (table_in file 4) instructions

abbrev pub held_offer : List ℕ → List ℕ → Offered
held_offer file instructions = link_offer (table_in file 0) (table_in file 1) (table_in file 2) (table_in file 3) instructions (table_in file 6) (table_in file 7)

-- ---- the link with its list

-- its answer, and the bytes of its list, none where it refuses
abbrev pub made_answer : Result Made told.Refusal → Result Places told.Refusal
made_answer (Ok made) = Ok made.places
made_answer (Err why) = Err why

abbrev pub made_bytes : Result Made told.Refusal → ℕ
made_bytes (Ok made) = made.bytes
made_bytes (Err why) = 0

-- the reply and all four outputs; the bytes counted in the last of them are the list and nothing else
pub record MadeBy (result : PiecesResult) (b : Buffers) (pieces : List ℕ) (r : Result Made told.Refusal) : Type 0 where
  pub outcomes : Outcomes b (made_answer r) result.link
  pub pieces_are : pieces ≡ result.pieces
  pub list_is : take (made_bytes r) pieces ≡ pieces_bytes result.list
  pub counts : IsPrefixLen (made_bytes r) pieces
