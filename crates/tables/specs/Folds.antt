-- One table's refusal, else what the later tables say: the links that a check is made of.
-- Assumes nothing.
use Rattle.std.specs.Prelude.{Bool, cond, List, ℕ, ◌*◌, eqb, ltb, length}
use Rattle.std.proofs.Math.Option.{Option, none, some}
use Rattle.rules.specs.declared.Table.{Table}
use Rattle.rules.specs.declared.Table.TheVariants.{Functions}
use Rattle.rules.specs.Answers.{Reply, reply}
use Rattle.rules.specs.Rows.{table_number, row_size, whole_rows, total, or_broken}

-- 1
abbrev pub or_too_many : Bool → Table → Option Reply → Option Reply
or_too_many many table later = cond many (some (reply 1 (table_number table) 0 0)) later

-- 2, by the total: row 0
abbrev pub or_wrong_total : Table → List ℕ → List ℕ → Option Reply → Option Reply
or_wrong_total table t functions later = or_broken (cond (eqb (length t) (row_size table * total table functions)) none (some 0)) table later

-- 13
abbrev pub or_no_root : List ℕ → ℕ → Option Reply
or_no_root functions root = cond (ltb root (whole_rows Functions functions)) none (some (reply 13 0 0 0))
