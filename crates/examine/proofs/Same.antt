-- A record of an image against one of a piece, field by field; and one record's judgement.
-- Assumes nothing.
use mathlib.Core.Path.{◌≡◌, refl, sym, ap, ◌∙◌}
use mathlib.Core.Bool.{Bool, true, false, cond, ◌&&◌}
use mathlib.Core.Option.{Option, none, some}
use Prim.Native.Nat.{ℕ, ◌+◌, ◌≤◌, ◌<◌}
use borrow.Author.Tests.{lt-ltb, le-ltb}
use lib.Dec.{eqb, leb}
use lib.ListN.{length}
use Rattle.rules.specs.declared.Table.TheVariants.{FuncInfo, LineInfo}
use Rattle.rules.specs.Bytes.{little}
use Rattle.rules.specs.Answers.{Reply, reply}
use Rattle.rules.specs.Tables.{FunctionRecord, LineRecord, Tables}
use Rattle.rules.specs.Rows.{whole_rows, table_number, or_else, func_info_row, line_info_row}
use Rattle.rules.specs.Examine.{Shown, claim_of, same_function_record, same_line_record, over_wrong}
use Rattle.rules.proofs.Linking.{length_run}
use Rattle.examine.specs.declared.records.FuncRecord as code
use Rattle.examine.specs.declared.records.LineRecord as lines
use Rattle.examine.specs.Recorded.{func_read, line_read, record_wrong, over}

-- ---- a record's judgement by a test
module _ (number k n at : ℕ) (test : ℕ → Bool) (j : ℕ) where
  pub missing : n ≤ at + j → record_wrong number k n at test j ≡ some (reply number k j (at + j))
  missing l = ap (λ b. cond (b && test j) none (some (reply number k j (at + j)))) (le-ltb (at + j) n l)

  tested : at + j < n → record_wrong number k n at test j ≡ cond (test j) none (some (reply number k j (at + j)))
  tested l = ap (λ b. cond (b && test j) none (some (reply number k j (at + j)))) (lt-ltb (at + j) n l)

  pub differs : at + j < n → test j ≡ false → record_wrong number k n at test j ≡ some (reply number k j (at + j))
  differs l e = tested l ∙ ap (λ b. cond b none (some (reply number k j (at + j)))) e

  pub same_there : at + j < n → test j ≡ true → record_wrong number k n at test j ≡ none
  same_there l e = tested l ∙ ap (λ b. cond b none (some (reply number k j (at + j)))) e

-- ---- records as code has them, compared field by field
pub same_funcs : (r s : code.FuncRecord) {a b : FunctionRecord} → func_read r ≡ a → func_read s ≡ b
    → (eqb r.slot s.slot && eqb r.kind s.kind) ≡ same_function_record a b
unfolding same_function_record
same_funcs r s e f = rw (sym e, sym f) refl

pub same_lines : (r s : lines.LineRecord) {a b : LineRecord} → line_read r ≡ a → line_read s ≡ b
    → (eqb r.slot s.slot && (eqb r.file s.file && (eqb r.line s.line && eqb r.column s.column))) ≡ same_line_record a b
unfolding same_line_record
same_lines r s e f = rw (sym e, sym f) refl

-- ---- 44
module _ (tables : Tables) (s : Shown) (f l : ℕ) where
  decided : Bool → Bool → Option Reply
  decided a b = cond a (cond b none (some (reply 44 (table_number LineInfo) l 0))) (some (reply 44 (table_number FuncInfo) f 0))

  over_is : over_wrong tables (claim_of little s) f l ≡ decided (leb (whole_rows FuncInfo s.func_info) f) (leb (whole_rows LineInfo s.line_info) l)
  unfolding over_wrong claim_of decided
  over_is =
      ap (λ n. decided (leb n f) (leb (length (claim_of little s).lines) l)) (length_run (func_info_row little s.func_info) 0 (whole_rows FuncInfo s.func_info))
      ∙ ap (λ n. decided (leb (whole_rows FuncInfo s.func_info) f) (leb n l)) (length_run (line_info_row little s.line_info) 0 (whole_rows LineInfo s.line_info))

  -- function records first, then line records
  pub over_parts : over_wrong tables (claim_of little s) f l ≡ or_else (over FuncInfo s.func_info f) (over LineInfo s.line_info l)
  unfolding decided
  over_parts = over_is ∙ go (leb (whole_rows FuncInfo s.func_info) f) (over LineInfo s.line_info l)
    where
      go : (b : Bool) (x : Option Reply) → cond b x (some (reply 44 (table_number FuncInfo) f 0)) ≡ or_else (cond b none (some (reply 44 (table_number FuncInfo) f 0))) x
      go true x = refl
      go false x = refl
