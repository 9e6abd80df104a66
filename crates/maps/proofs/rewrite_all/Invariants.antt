-- The invariant: rewriting the functions that are left gives table 6 and the count.
use Prim.Native.Nat.{◌≤◌}
use Rattle.rules.specs.declared.Table.TheVariants.{Relocations}
use Rattle.rules.specs.Lent.{lent_maps}
use Rattle.rules.specs.Rows.{whole_rows}
use Rattle.maps.proofs.Rewriting.{RewriteRows}
use Rattle.maps.proofs.rewrite_all.Given as goal

abbrev pub invariant-loop-row : goal.invariant-loop-row
invariant-loop-row l =
    RewriteRows (lent_maps l.names l.maps l.initial.instructions) l.instructions l.row l.first.0 l.count × (l.near ≤ whole_rows Relocations l.names.relocations.now)
