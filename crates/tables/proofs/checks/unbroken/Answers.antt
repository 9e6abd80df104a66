-- The number of the first broken row.
use mathlib.Core.Path.{◌≡◌, sym, ◌∙◌}
use mathlib.Core.Option.{some}
use Prim.Native.Nat.{◌≤◌}
use native.Mathlib.Omega.{arith}
use Rattle.rules.specs.Rows.{first_broken}
use Rattle.rows.proofs.Laws.{found_some}
use Rattle.tables.proofs.Refusals.{broken_low}
use Rattle.tables.proofs.checks.unbroken.Goals.{After-number}
use Rattle.tables.proofs.checks.unbroken.Goals as goal

row_found : (c : After-number) → first_broken c.args.table c.args.t.now ≡ some c.in-Some.k
row_found c =
    let a = c.args in
    found_some (first_broken a.table a.t.now) c.in-Some.k (sym c.first_broken.ensures ∙ c.in-Some.is)

row_low : (c : After-number) → c.in-Some.k ≤ 0xFFFF_FFFF
row_low c =
    broken_low c.args.table c.args.t.now c.in-Some.k c.requires (row_found c)

pub overflow_cast-k : goal.overflow_cast-k
overflow_cast-k c = record { fits = omega (arith, row_low c) }
