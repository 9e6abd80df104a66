-- Every record's number, read where the record begins in the data.
use mathlib.Core.Path.{refl, ◌∙◌}
use mathlib.Core.Bool.{Bool}
use Prim.Native.Nat.{ℕ}
use native.Mathlib.Omega.{arith}
use borrow.Author.Rules.{rules}
use borrow.Author.Tests.{tests}
use Rattle.std.proofs.lemmas.Iterator.{YieldsList-from_range}
use Rattle.std.proofs.lemmas.Iterator.Search.{all_from_yields_List}
use Rattle.rules.specs.Bytes.{little}
use Rattle.info.specs.Promises.{info_in}
use Rattle.info.proofs.Chunks.{on_slot, all_is}
use Rattle.info.proofs.Records.begin_on_slots.Goals as goal

pub returns : goal.returns
returns c =
    let r = c.args.self in
    let test : ℕ → Bool = on_slot little (info_in r) in
    all_from_yields_List test _ _ c.all.result c.all.ensures.ran (YieldsList-from_range 0 r.count r.count refl (omega arith)) (λ x b q k. search (rules, tests))
    ∙ all_is little (info_in r) 0 r.count
