-- One turn of the loops that copy records: the record that is put next is the next of the run.
-- Assumes nothing.
use mathlib.Core.Path.{◌≡◌, sym, ap, ◌∙◌}
use mathlib.Core.List.{List, [], ◌∷◌, map}
use Prim.Native.Nat.{ℕ, zero, suc, ◌+◌, ◌-◌, ◌*◌, ◌≤◌, ◌<◌}
use native.Mathlib.Omega.{arith}
use lib.ListN.{length}
use Rattle.rules.specs.declared.Table.TheVariants.{LineInfo}
use Rattle.rules.specs.Bytes.{little, splice}
use Rattle.rules.specs.Answers.{numbers}
use Rattle.rules.specs.Link.{run}
use Rattle.rules.specs.Tables.{FunctionRecord, LineRecord}
use Rattle.rules.specs.Rows.{record_slot, record_type, record_file, record_line, record_column, func_info_row, line_info_row}
use Rattle.rules.specs.Records.{started_at, rebased, first_slot}
use Rattle.rules.specs.Entries.{func_info_bytes, line_info_bytes}
use Rattle.rules.proofs.Splices.{splice_nothing}
use Rattle.merge.proofs.Laws.{func_linked, line_linked, packed, put_more, func_one, line_one, func_sized, line_sized}

abbrev pub started : ℕ → List ℕ → ℕ → FunctionRecord
started start t k = started_at start (func_info_row little t k)

abbrev pub moved : ℕ → ℕ → List ℕ → ℕ → LineRecord
moved origin start t k = rebased origin start (line_info_row little t k)

-- what an output holds after k records
unfoldable pub funcs_put : List ℕ → ℕ → ℕ → List ℕ → ℕ → ℕ → List ℕ
funcs_put t first start out at k = splice out (8 * at) (packed func_one (run (started start t) first k))

unfoldable pub lines_put : List ℕ → ℕ → ℕ → ℕ → List ℕ → ℕ → ℕ → List ℕ
lines_put t first origin start out at k = splice out (16 * at) (packed line_one (run (moved origin start t) first k))

-- at first nothing, and at last all
pub funcs_none : (t : List ℕ) (first start : ℕ) (out : List ℕ) (at : ℕ) → out ≡ funcs_put t first start out at 0
unfolding funcs_put
funcs_none t first start out at = splice_nothing out (8 * at)

pub lines_none : (t : List ℕ) (first origin start : ℕ) (out : List ℕ) (at : ℕ) → out ≡ lines_put t first origin start out at 0
unfolding lines_put
lines_none t first origin start out at = splice_nothing out (16 * at)

pub funcs_all : (t : List ℕ) (first start : ℕ) (out : List ℕ) (at k count : ℕ) → k ≡ count
    → funcs_put t first start out at k ≡ splice out (8 * at) (func_info_bytes little (map (started_at start) (run (func_info_row little t) first count)))
unfolding funcs_put
funcs_all t first start out at k count e = rw e (ap (splice out (8 * at)) (sym (func_linked (started_at start) (func_info_row little t) first count)))

pub lines_all : (t : List ℕ) (first origin start : ℕ) (out : List ℕ) (at k count : ℕ) → k ≡ count → (0 < count → origin ≡ record_slot little LineInfo t first)
    → lines_put t first origin start out at k
    ≡ splice out (16 * at) (line_info_bytes little (map (rebased (first_slot (run (line_info_row little t) first count)) start) (run (line_info_row little t) first count)))
unfolding lines_put
lines_all t first origin start out at k zero e o = rw e
lines_all t first origin start out at k (suc n) e o =
    let h : origin ≡ record_slot little LineInfo t first = o (omega arith) in
    rw e
    (ap (λ (z : ℕ). splice out (16 * at) (packed line_one (run (moved z start t) first (suc n)))) h
    ∙ ap (splice out (16 * at)) (sym (line_linked (rebased (record_slot little LineInfo t first) start) (line_info_row little t) first (suc n))))

pub func_turn : (t : List ℕ) (first start : ℕ) (out out' : List ℕ) (at k kind : ℕ) → out' ≡ funcs_put t first start out at k → kind ≡ record_type little t (first + k)
    → 8 * (at + k) + 8 ≤ length out → splice out' (8 * (at + k)) (numbers (start ∷ kind ∷ [])) ≡ funcs_put t first start out at (k + 1)
unfolding funcs_put func_one
func_turn t first start out out' at k kind held e fits =
    ap (λ d. splice d (8 * (at + k)) (numbers (start ∷ kind ∷ []))) held
    ∙ ap (λ n. splice (splice out (8 * at) (packed func_one (run (started start t) first k))) (8 * (at + k)) (numbers (start ∷ n ∷ []))) e
    ∙ put_more func_one 8 func_sized out (8 * at) (started start t) first k (8 * (at + k)) (omega arith) fits

pub line_turn : (t : List ℕ) (first origin start : ℕ) (out out' : List ℕ) (at k slot file line column : ℕ) → out' ≡ lines_put t first origin start out at k
    → slot ≡ record_slot little LineInfo t (first + k) → file ≡ record_file little t (first + k) → line ≡ record_line little t (first + k) → column ≡ record_column little t (first + k)
    → 16 * (at + k) + 16 ≤ length out
    → splice out' (16 * (at + k)) (numbers ((start + (slot - origin)) ∷ file ∷ line ∷ column ∷ [])) ≡ lines_put t first origin start out at (k + 1)
unfolding lines_put line_one
line_turn t first origin start out out' at k slot file line column held es ef el ec fits =
    ap (λ d. splice d (16 * (at + k)) (numbers ((start + (slot - origin)) ∷ file ∷ line ∷ column ∷ []))) held
    ∙ rw (es, ef, el, ec) (put_more line_one 16 line_sized out (16 * at) (moved origin start t) first k (16 * (at + k)) (omega arith) fits)
