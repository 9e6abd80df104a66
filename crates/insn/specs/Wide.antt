-- A wide load among the slots before `end`, on bytes.
-- Assumes nothing.
use Rattle.std.specs.Prelude.{Bool, List, ℕ}
use Rattle.rules.specs.Bytes.{little, slot_in}
use Rattle.rules.specs.Object.{is_wide_in}

unfoldable pub wide_load_in : List ℕ → ℕ → ℕ → Bool
wide_load_in code slot end = is_wide_in (slot_in little code) end slot
