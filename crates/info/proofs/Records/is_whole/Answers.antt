-- Each test decides one conjunct of the definition, in its order.
use mathlib.Core.Path.{◌≡◌, refl, sym, ◌∙◌}
use mathlib.Core.Bool.{true, false}
use Prim.Native.Nat.{◌*◌, ◌≤◌, ◌<◌}
use native.Mathlib.Omega.{arith}
use borrow.Author.Tests.{eqb-true, eq-eqb, le-leb, lt-leb}
use lib.ListN.{length}
use Rattle.std.proofs.Common.{rules}
use Rattle.rules.specs.Bytes.{little}
use Rattle.rules.specs.Rows.{row_size}
use Rattle.rules.specs.Readers.{is_whole}
use Rattle.info.specs.Promises.{table_in, info_in}
use Rattle.info.proofs.Records.is_whole.Goals.{then-size-row_size, else-size-row_size, Then-self-size}
use Rattle.info.proofs.Records.is_whole.Goals as goal

passed : (c : Then-self-size) → (row_size (table_in c.args.self) ≤ c.args.self.size) × (c.args.self.count * c.args.self.size ≡ length c.args.self.bytes.now)
passed c = elim c.if-size-row_size.branch [
  | then-size-row_size w ↦ (omega (arith, w.if-size-row_size.true, c.row_size.ensures.0), eqb-true _ _ (sym w.value-is ∙ c.if-self-size.true))
  | else-size-row_size w ↦ let z : true ≡ false = sym c.if-self-size.true ∙ w.value-is ∙ lt-leb _ _ w.if-size-row_size.false in cc
]

pub returns-then-self-size : goal.returns-then-self-size
unfolding is_whole
returns-then-self-size c =
    let r = c.args.self in
    let p = passed (goal.at.returns-then-self-size c).Then-self-size in
    simp (le-leb _ _ p.0, eq-eqb _ _ p.1) c.begin_on_slots.ensures

pub returns-else-self-size : goal.returns-else-self-size
unfolding is_whole
returns-else-self-size c =
    let r = c.args.self in
    elim c.if-size-row_size.branch [
      | then-size-row_size w ↦
          let large : row_size (table_in r) ≤ r.size = omega (arith, w.if-size-row_size.true, c.row_size.ensures.0) in
          simp (le-leb _ _ large, sym w.value-is ∙ c.if-self-size.false) c.if-self-size.false
      | else-size-row_size w ↦
          let small : r.size < row_size (table_in r) = omega (arith, w.if-size-row_size.false) in
          simp (lt-leb _ _ small) c.if-self-size.false
    ]
