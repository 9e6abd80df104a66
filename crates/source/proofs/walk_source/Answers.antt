-- Tables that are refused are not walked; those that pass are checked, and the run is the definition's.
use mathlib.Core.Path.{sym}
use Rattle.source.proofs.Entry.{checks}
use Rattle.source.proofs.walk_source.Goals as goal

pub invariant_of-ground : goal.invariant_of-ground
invariant_of-ground c = record { source = checks _ c.args.root (sym c.in_ok-check_source.ensures) }
