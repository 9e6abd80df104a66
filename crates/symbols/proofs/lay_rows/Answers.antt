-- Each turn adds the next row.
use Rattle.std.proofs.Common.{◌*◌, arith, length, ap, ◌∙◌, ◌≡◌}
use lib.ListN.{take, length-take}
use lib.Seq.{get_or-take}
use Rattle.rules.specs.Bytes.{splice}
use Rattle.symbols.specs.declared.Symbol.{Symbol}
use Rattle.symbols.specs.Symbols.{row_bytes, rows_needed}
use Rattle.symbols.proofs.Laws.{no_symbol, lay_start, lay_on, lay_end, needed_min, needed_few}
use Rattle.symbols.proofs.lay_rows.Goals.{After-min-n}
use Rattle.symbols.proofs.lay_rows.Goals as goal

needed : (c : After-min-n) → c.min-n.result ≡ rows_needed (length c.args.rows.now)
needed c = c.min-n.ensures ∙ needed_min (length c.args.rows.now)

-- the rows that are gone through are those
many : (c : After-min-n) → length (take c.min-n.result c.args.rows.now) ≡ rows_needed (length c.args.rows.now)
many c = length-take c.min-n.result c.args.rows.now ∙ omega (arith, needed c, needed_few (length c.args.rows.now))

pub loop-i-init : goal.loop-i-init
loop-i-init c = lay_start c.args.rows.now c.args.out.now

pub loop-i-preserved : goal.loop-i-preserved
loop-i-preserved c =
    lay_on c.args.rows.now c.args.out.now c.requires c.loop-i.i c.loop-i.out c.loop-i.invariant (omega (arith, many (goal.at.loop-i-preserved c).After-min-n)) c.put_row.new.out c.put_row.auto.out
    (c.put_row.ensures
    ∙ ap (λ (s : Symbol). splice c.loop-i.out (24 * c.loop-i.i) (row_bytes s)) (get_or-take c.min-n.result c.args.rows.now c.loop-i.i no_symbol (omega (arith, c.loop-i-test.true, length-take c.min-n.result c.args.rows.now))))

pub returns : goal.returns
returns c =
    let a = (goal.at.returns c).After-min-n in
    (needed a, lay_end c.args.rows.now c.args.out.now c.loop-i.i c.loop-i.out c.loop-i.invariant (omega (arith, many a)))
