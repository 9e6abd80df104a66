-- The records of an image (document 01): the root's unchanged, then those of each piece, in order. And what stands against adding a function.
-- Assumes nothing.
use Rattle.std.specs.Prelude.{cond, ◌&&◌, List, [], ◌∷◌, ◌++◌, map, ℕ, suc, ◌+◌, ◌-◌, leb, ltb, length}
use Rattle.std.proofs.Math.Option.{Option, none, some}
use Rattle.rules.specs.Faithful.{Piece}
use Rattle.rules.specs.Link.{State, Refusal, refusal, Outcome, link}
use Rattle.rules.specs.Tables.{FunctionRecord, LineRecord, Tables, row_of, function_records_of, lines_of, object_of}

-- "Appended function records all get the start as slot"
abbrev pub started_at : ℕ → FunctionRecord → FunctionRecord
started_at start r = record { slot = start; kind = r.kind }

abbrev pub first_slot : List LineRecord → ℕ
first_slot [] = 0
first_slot (l ∷ ls) = l.slot

-- "Appended line records become start + (slot − slot of that function's first line record)"
abbrev pub rebased : ℕ → ℕ → LineRecord → LineRecord
rebased origin start l = record { slot = start + (l.slot - origin); file = l.file; line = l.line; column = l.column }

-- "12 if that difference is negative or not below the function's slots": the first such record
abbrev pub stray : ℕ → ℕ → ℕ → List LineRecord → Option ℕ
stray slots origin k [] = none
stray slots origin k (l ∷ ls) = cond (leb origin l.slot && ltb (l.slot - origin) slots) (stray slots origin (suc k) ls) (some k)

-- how many an image may hold
pub record Room : Type 0 where
  pub slots : ℕ
  pub functions : ℕ
  pub lines : ℕ

module _ (tables : Tables) where
  abbrev pub added_functions : List Piece → List FunctionRecord
  added_functions [] = []
  added_functions (p ∷ ps) = map (started_at p.start) (function_records_of tables p.row) ++ added_functions ps

  abbrev pub added_lines : List Piece → List LineRecord
  added_lines [] = []
  added_lines (p ∷ ps) = map (rebased (first_slot (lines_of tables p.row)) p.start) (lines_of tables p.row) ++ added_lines ps

  unfoldable pub image_functions : ℕ → List Piece → List FunctionRecord
  image_functions root placed = function_records_of tables root ++ added_functions placed

  unfoldable pub image_lines : ℕ → List Piece → List LineRecord
  image_lines root placed = lines_of tables root ++ added_lines placed

  -- "room for instructions, function records, line records (11 each, in the buffer and under the limit)", with as many there already
  unfoldable pub room_for : Room → ℕ → ℕ → ℕ → ℕ → Option Refusal
  room_for room slots functions lines row =
      cond (leb (slots + (row_of tables row).slots) room.slots)
      (cond (leb (functions + length (function_records_of tables row)) room.functions)
      (cond (leb (lines + length (lines_of tables row)) room.lines) none (some (refusal 11 row 0)))
      (some (refusal 11 row 0)))
      (some (refusal 11 row 0))

  -- the line record of that function that 12 refuses
  unfoldable pub stray_line : ℕ → Option ℕ
  stray_line row = stray (row_of tables row).slots (first_slot (lines_of tables row)) 0 (lines_of tables row)

  abbrev pub then_stray : Option Refusal → Option ℕ → ℕ → Option Refusal
  then_stray (some why) k row = some why
  then_stray none (some k) row = some (refusal 12 row k)
  then_stray none none row = none

  -- "Appending needs room ..., then 12"
  unfoldable pub admits : Room → ℕ → ℕ → State → Option Refusal
  admits room root row state =
      then_stray (room_for room (length state.image) (length (image_functions root state.placed)) (length (image_lines root state.placed)) row) (stray_line row) row

  -- "The root needs room too, but its records meet no 12"
  abbrev pub root_admits : Room → ℕ → Option Refusal
  root_admits room root = room_for room 0 0 0 root

  unfoldable pub link_step : Room → ℕ → Outcome
  link_step room root = link (object_of tables) (admits room root) (root_admits room root) root
