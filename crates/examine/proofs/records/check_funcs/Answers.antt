-- Records are the same where each field is.
use mathlib.Core.Bool.{Bool}
use Prim.Native.Nat.{ℕ, ◌+◌}
use Rattle.std.proofs.Common.{rules, of_calls}
use Rattle.rules.specs.Bytes.{little}
use Rattle.rules.specs.Rows.{func_info_row}
use Rattle.rules.specs.Examine.{same_function_record}
use Rattle.examine.specs.Recorded.{func_of, record_wrong}
use Rattle.examine.proofs.Same.{same_funcs}
use Rattle.examine.proofs.records.check_funcs.Goals as goal

pub returns : goal.returns
unfolding Rattle.examine.specs.Recorded.func_wrong
returns c =
    let a = c.args in
    let p = a.piece in
    let test : ℕ → Bool = λ j. same_function_record (func_info_row little a.shown.now (p.funcs + j)) (func_of p.k p.start.0 (func_info_row little a.func_info.now (p.part.funcs + j))) in
    c.check_run.ensures test (λ j l t b k. search (rules, of_calls, same_funcs))
