-- The fields are put one after another, each where the last one ends.
use mathlib.Core.Path.{◌≡◌, ◌∙◌}
use Prim.Native.Nat.{◌*◌}
use lib.ListN.{length}
use Rattle.rules.specs.declared.Table.TheVariants.{Symbols}
use Rattle.rules.specs.Rows.{row_size}
use Rattle.symbols.proofs.Laws.{row_put}
use Rattle.symbols.proofs.Fits.{padding_seven}
use Rattle.symbols.proofs.put_row.Goals.{After-put_u64}
use Rattle.symbols.proofs.put_row.Goals as goal

seven : (a : After-put_u64) → length a.args.s.padding ≡ 7
seven a = padding_seven a.args.s _ a.well_formed.1.1.0

pub returns : goal.returns
returns c =
    c.copy.ensures
    ∙ row_put c.args.out.now (row_size Symbols * c.args.k) c.args.s c.put_u32.new.out c.put_u32-2.new.out c.put_u64.new.out c.requires
    (seven (goal.at.returns c).After-put_u64) c.put_u32.ensures c.put_u32-2.ensures c.put_u64.ensures
