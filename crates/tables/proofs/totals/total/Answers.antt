-- The sum of the rows' counts, each below 2^32.
use mathlib.Core.Path.{refl, ◌∙◌}
use mathlib.Core.List.{List}
use Prim.Native.Nat.{ℕ, ◌*◌, ◌≤◌}
use native.Mathlib.Omega.{arith}
use borrow.Author.Rules.{rules}
use borrow.Author.Tests.{tests}
use Rattle.std.specs.List.{sum_by, range_with_len}
use Rattle.std.proofs.lemmas.Iterator.{YieldsList-from_range, YieldsList-from_map}
use Rattle.std.proofs.lemmas.Iterator.Consumers.{YieldsList-at, sum_by_from_yields_List, fits_by_from_yields_list}
use Rattle.rules.specs.declared.Table.TheVariants.{Functions}
use Rattle.rules.specs.Rows.{whole_rows, count_of, total}
use Rattle.tables.proofs.Sums.{sum_is, sum_low}
use Rattle.tables.proofs.totals.total.Goals.{After-map}
use Rattle.tables.proofs.totals.total.Goals as goal

abbrev rows : After-map → List ℕ
rows c = range_with_len 0 (whole_rows Functions c.args.functions.now)

abbrev count : After-map → ℕ → ℕ
count c = count_of c.args.table c.args.functions.now

low : (c : After-map) → sum_by (count c) (rows c) ≤ 0x1_0000_0000 * whole_rows Functions c.args.functions.now
low c =
    let n = whole_rows Functions c.args.functions.now in
    omega (arith, sum_is (count c) n, sum_low c.args.table c.args.functions.now (λ i. (c.type_inv.functions i).fits) n)

pub sum-requires-clause-fits : goal.sum-requires-clause-fits
sum-requires-clause-fits c = fits_by_from_yields_list (count c) (rows c) c.map.result _
    (YieldsList-from_map _ (count c) (YieldsList-at c.map.ensures.source (YieldsList-from_range 0 (whole_rows Functions c.args.functions.now) _ refl (omega arith))) c.map.ensures.closure
    (λ x r q k. search (rules, tests)))
    (omega (arith, low c, c.requires))

pub returns : goal.returns
unfolding total
returns c =
    let m = (goal.at.returns c).After-map in
    let n = whole_rows Functions c.args.functions.now in
    let is = sum_by_from_yields_List (count m) (rows m) c.map.result c.sum.result c.sum.ensures.ran
    (YieldsList-from_map _ (count m) (YieldsList-at c.map.ensures.source (YieldsList-from_range 0 (whole_rows Functions c.args.functions.now) _ refl (omega arith))) c.map.ensures.closure
    (λ x r q k. search (rules, tests))) in
    (is ∙ sum_is (count m) n, omega (arith, is, low m, c.requires))
