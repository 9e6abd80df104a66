-- Two runs that come to the same.
-- Assumes nothing.
use Rattle.std.specs.Prelude.{ℕ}
use Rattle.walk.specs.Runs.{Stood, stands, stops, ends, leaves, lacks}

-- at the same place, at equal depth, after equally many answers; nothing is said once the first has left
pub data Alike {A B : Type 0} (Same : A → B → Type 0) : Stood A → Stood B → Type 0 where
  both_stand : {a : A} {b : B} (depth taken : ℕ) → Same a b → Alike Same (stands a depth taken) (stands b depth taken)
  both_stop : {a : A} {b : B} (depth : ℕ) → Same a b → Alike Same (stops a depth) (stops b depth)
  both_end : {a : A} {b : B} → Same a b → Alike Same (ends a) (ends b)
  both_lack : Alike Same lacks lacks
  first_left : {s : Stood B} → Alike Same leaves s
