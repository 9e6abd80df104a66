-- The invariant: nothing is wrong with the records before record j, so what is left to look at gives what was asked.
use mathlib.Core.Path.{◌≡◌}
use mathlib.Core.Bool.{Bool}
use Prim.Native.Nat.{ℕ, ◌-◌, ◌≤◌}
use Rattle.rules.specs.Answers.{number_of}
use Rattle.rules.specs.Examine.{first_wrong}
use Rattle.examine.specs.Recorded.{record_wrong, Decides}
use Rattle.examine.proofs.records.check_run.Given as goal

abbrev pub invariant-loop-j : goal.invariant-loop-j
invariant-loop-j g l = record {
  most : l.j ≤ l.count;
  same : (test : ℕ → Bool) → Decides (λ j to b. goal.F-post g l.same j to b) l.count l.n l.at test
      → first_wrong (record_wrong (number_of l.cause) l.k l.n l.at test) 0 l.count ≡ first_wrong (record_wrong (number_of l.cause) l.k l.n l.at test) l.j (l.count - l.j);
}
