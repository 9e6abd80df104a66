-- What `examine` says yes to keeps the path: demand 3 of the entry itself.
-- Assumes nothing.
use mathlib.Core.Path.{◌≡◌, sym, ap, ◌∙◌}
use Prim.Native.Nat.{ℕ}
use Rattle.std.specs.Prelude.{Result}
use Rattle.rules.specs.declared.Places.{Places}
use Rattle.rules.specs.declared.Refusal.{Refusal}
use Rattle.rules.specs.Bytes.{little, AreBytes}
use Rattle.rules.specs.Answers.{reply_of}
use Rattle.rules.specs.Rows.{Offered}
use Rattle.rules.specs.Examine.{Shown, examine_entry}
use Rattle.rules.specs.Demand3.{ShownKept}
use Rattle.rules.proofs.Verdicts.{examined_keeps_path}

pub examine_keeps_path : (o : Offered) (root : ℕ) (s : Shown) (a : Result Places Refusal) → reply_of a ≡ examine_entry little o root s → AreBytes s.func_info → AreBytes s.line_info
    → (reply_of a).number ≡ 0 → ShownKept little o root s
examine_keeps_path o root s a said functions lines yes-is = examined_keeps_path little o root s functions lines (sym (ap (λ r. r.number) said) ∙ yes-is)
