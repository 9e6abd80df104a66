-- The law of partition_point over the rows: those before its answer are before the place, those from it on are not.
use mathlib.Core.Path.{◌≡◌}
use Rattle.std.proofs.Common.{rules, of_calls}
use Rattle.std.proofs.lemmas.Fn.{always_returns_same}
use Rattle.rows.specs.Matches.{relocation_is_before}
use Rattle.rows.proofs.Bound.{rows_of, parted, point_is}
use Rattle.rows.proofs.find.relocations_before.Goals as goal

pub returns : goal.returns
returns c =
    let t = c.args.t.now in
    let home = c.args.home in
    let offset = c.args.offset.0 in
    let r = c.partition_point.result in
    let same : c.as_chunks.result.0.now ≡ rows_of t = c.as_chunks.ensures.front in
    let point = c.partition_point.ensures.partitioned (λ row. relocation_is_before row home offset 0) (always_returns_same _ _ _ (λ a r f k. search (rules, of_calls))) (rw same (parted t c.requires home offset)) in
    point_is t c.requires home offset r (rw same at c.partition_point.ensures.bound) (rw same at point)
