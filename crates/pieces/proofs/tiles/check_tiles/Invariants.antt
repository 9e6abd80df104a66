-- The invariant: the pieces from here on, the next of which should start at `at`, give what was asked. Those passed are few,
-- and have few slots each, so that `at` fits.
use mathlib.Core.Path.{◌≡◌}
use mathlib.Core.List.{List}
use Prim.Native.Nat.{ℕ, ◌*◌, ◌≤◌}
use Rattle.rules.specs.Rows.{most_function_slots}
use Rattle.rules.specs.Pieces.{pieces_of}
use Rattle.rules.specs.Examine.{tiles_wrong}
use Rattle.pieces.specs.Tiling.{functions_offer, functions_only}
use Rattle.pieces.proofs.Tiling.{Left}
use Rattle.pieces.proofs.tiles.check_tiles.Given as goal

pub record Walked (functions pieces : List ℕ) (end at k : ℕ) : Type 0 where
  pub low : at ≤ most_function_slots * k
  pub same : tiles_wrong (functions_only functions) end 0 0 (pieces_of pieces) ≡ Left (functions_offer functions) pieces end k at

abbrev pub invariant-loop-k : goal.invariant-loop-k
invariant-loop-k l = Walked l.functions l.pieces l.end.0 l.at l.k
