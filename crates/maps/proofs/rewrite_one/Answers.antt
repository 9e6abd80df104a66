-- What applies is changed at its place.
use mathlib.Core.Path.{subst}
use Rattle.std.specs.Prelude.{Ok}
use Rattle.rules.specs.Lent.{lent_maps}
use Rattle.judge.specs.Judged.{Judges}
use Rattle.maps.proofs.Rewriting.{change_rewritten}
use Rattle.maps.proofs.rewrite_one.Goals as goal

pub returns : goal.returns
returns c =
    let a = c.args in
    change_rewritten c.requires _ (subst (λ change. Judges (lent_maps a.names a.maps.now a.instructions.now) a.row a.first.0 a.k (Ok change)) c.in-Ok-Some.field-0-is c.in-Ok-Some.ensures) _ c.apply.ensures
