-- The law of partition_point over the rows: the pieces before its answer start before the place, those from it on do not.
use mathlib.Core.Path.{◌≡◌}
use Rattle.std.proofs.Common.{rules, of_calls}
use Rattle.std.proofs.lemmas.Fn.{always_returns_same}
use Rattle.pieces.specs.Tiling.{start_is_before}
use Rattle.pieces.proofs.Targets.{rows_of, parted, point_is}
use Rattle.pieces.proofs.tiles.starts_before.Goals as goal

pub returns : goal.returns
returns c =
    let t = c.args.pieces.now in
    let place = c.args.place in
    let r = c.partition_point.result in
    let same : c.as_chunks.result.0.now ≡ rows_of t = c.as_chunks.ensures.front in
    let point = c.partition_point.ensures.partitioned (λ row. start_is_before row place 0) (always_returns_same _ _ _ (λ a r f k. search (rules, of_calls))) (rw same (parted t c.requires place)) in
    point_is t c.requires place r (rw same at c.partition_point.ensures.bound) (rw same at point)
