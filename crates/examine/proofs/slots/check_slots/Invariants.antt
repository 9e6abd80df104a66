-- The invariant: nothing is wrong with the slots before slot n, and the cursor is not past the place of slot n.
use mathlib.Core.Path.{◌≡◌}
use mathlib.Core.Option.{Option}
use mathlib.Core.List.{List, []}
use Prim.Native.Nat.{ℕ, ◌+◌, ◌*◌, ◌-◌, ◌≤◌}
use Rattle.rules.specs.Answers.{Reply}
use Rattle.rules.specs.Rows.{Offered, map_step_offer, function_slots, function_section, function_offset}
use Rattle.rules.specs.Examine.{first_wrong}
use Rattle.examine.proofs.Meanings.{slot_test}
use Rattle.examine.proofs.slots.check_slots.Given as goal

abbrev pub tables_in : List ℕ → List ℕ → List ℕ → List ℕ → List ℕ → Offered
tables_in code symbols functions relocations instructions = map_step_offer code symbols functions relocations [] instructions

pub record Looked (wrong : ℕ → Option Reply) (count n : ℕ) (held relocations : List ℕ) (from section at place : ℕ) : Type 0 where
  pub most : n ≤ count
  pub same : first_wrong wrong 0 count ≡ first_wrong wrong n (count - n)
  pub table : held ≡ relocations
  pub home : from ≡ section
  pub low : at ≤ place

abbrev pub invariant-loop-n : goal.invariant-loop-n
invariant-loop-n l =
    Looked (slot_test (tables_in l.names.code.now l.names.symbols.now l.names.functions.now l.names.relocations.now l.instructions) l.image l.pieces l.piece.k l.piece.row l.piece.start.0)
    (function_slots l.names.functions.now l.piece.row) l.n l.cursor.relocations.now l.names.relocations.now
    l.cursor.home (function_section l.names.functions.now l.piece.row) l.cursor.offset.0 (function_offset l.names.functions.now l.piece.row + 8 * l.n)
