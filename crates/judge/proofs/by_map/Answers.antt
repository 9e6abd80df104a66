-- No map, then no wide load, then the map's data.
use mathlib.Core.Path.{◌≡◌, sym, ◌∙◌}
use mathlib.Core.Option.{Option, some}
use Prim.Native.Nat.{ℕ}
use native.Mathlib.Omega.{arith}
use borrow.Author.Tests.{not-true, not-false}
use Rattle.judge.specs.Verdicts.{map_found}
use Rattle.rows.proofs.Laws.{found_some, found_none}
use Rattle.judge.proofs.Laws.{map_inside, no_map_says, not_wide_says, map_says}
use Rattle.judge.proofs.by_map.Goals.{After-find_map, In-Some}
use Rattle.judge.proofs.by_map.Goals as goal

abbrev looked : After-find_map → Option ℕ
looked n = map_found n.args.maps.now n.args.symbol n.args.home

found : (t : In-Some) → looked (goal.at.In-Some t).After-find_map ≡ some t.in-Some.m
found t = found_some (looked (goal.at.In-Some t).After-find_map) _ (sym t.find_map.ensures ∙ t.in-Some.is)

pub returns-in_default : goal.returns-in_default
returns-in_default c =
    let a = c.args in
    no_map_says a.maps.now a.symbol a.home a.address.0 a.site
    (found_none (looked (goal.at.returns-in_default c).After-find_map) (sym c.find_map.ensures ∙ c.in_default.is)) _ c.refused.ensures

pub returns-then-not-site : goal.returns-then-not-site
returns-then-not-site c =
    let a = c.args in
    not_wide_says a.maps.now a.symbol a.home a.address.0 a.site _ (found (goal.at.returns-then-not-site c).In-Some) (not-true _ c.if-not-site.true) _ c.refused-then-not-site.ensures

pub by_data-requires : goal.by_data-requires
by_data-requires c =
    let l = map_inside c.args.maps.now c.args.symbol c.args.home _ (found (goal.at.by_data-requires c).In-Some) in
    record { map_inside = omega arith; address_low = c.requires.1; wide_load = not-false _ c.if-not-site.false }

pub returns : goal.returns
returns c =
    let a = c.args in
    map_says a.maps.now a.symbol a.home a.address.0 a.site _ (found (goal.at.returns c).In-Some) (not-false _ c.if-not-site.false) _ c.by_data.ensures
