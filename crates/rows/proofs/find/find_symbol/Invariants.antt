-- The invariant: no row before has the index.
use mathlib.Core.Path.{◌≡◌}
use mathlib.Core.Bool.{false}
use Prim.Native.Nat.{ℕ, ◌<◌}
use Rattle.rows.specs.Matches.{symbol_matches}
use Rattle.rows.proofs.find.find_symbol.Given as goal

abbrev pub invariant-loop-k : goal.invariant-loop-k
invariant-loop-k l = (j : ℕ) → j < l.k → symbol_matches l.t l.index j ≡ false
