-- The records of a piece over the bytes of the tables are those of the definitions.
-- Assumes nothing.
use mathlib.Core.Path.{◌≡◌, refl, sym, ap, ◌∙◌}
use mathlib.Core.Bool.{Bool, true, false, cond, ◌&&◌}
use mathlib.Core.Option.{Option, none, some}
use mathlib.Core.List.{List, map}
use Prim.Native.Nat.{ℕ, zero, suc, ◌+◌, ◌*◌, ◌≤◌, ◌<◌}
use native.Mathlib.Nat.{zero-add}
use native.Mathlib.Omega.{arith}
use borrow.Author.Tests.{ltb-true}
use lib.Dec.{ltb}
use lib.ListN.{length, get_or}
use Rattle.rules.specs.declared.Table.TheVariants.{Functions, FuncInfo, LineInfo}
use Rattle.rules.specs.Bytes.{little}
use Rattle.rules.specs.Faithful.{piece}
use Rattle.rules.specs.Link.{run}
use Rattle.rules.specs.Answers.{Reply, reply}
use Rattle.rules.specs.Tables.{Tables, row_of, function_records_of, lines_of}
use Rattle.rules.specs.Records.{started_at, rebased, first_slot, stray_line}
use Rattle.rules.specs.Rows.{row_size, whole_rows, summed, Offered, function_slots, function_func_info, function_line_info, record_slot, func_info_row, line_info_row, tables_of}
use Rattle.rules.specs.Examine.{Shown, Claim, claim_of, no_function_record, no_line_record, same_function_record, same_line_record, piece_functions, piece_lines, function_wrong, stray_wrong, first_wrong}
use Rattle.rules.specs.Examine as examine
use Rattle.rules.proofs.Linking.{length_run, run_at}
use Rattle.rules.proofs.Reading.{row_is, functions_are, lines_are}
use Rattle.merge.specs.Merge.{stray_in}
use Rattle.merge.proofs.Strays.{first_slot_lem, near_in}
use Rattle.examine.specs.Recorded.{func_of, line_of, func_wrong, line_wrong, stray_reply, stray_of, Movable}
use Rattle.examine.proofs.Firsts.{alike, all_right}

-- ---- parts of runs
map_at : {A B : Type 0} (h : A → B) (f : ℕ → A) (from n j : ℕ) (d : B) → j < n → get_or (map h (run f from n)) j d ≡ h (f (from + j))
map_at h f from zero j d l = absurd (omega arith)
map_at h f from (suc n) zero d l = let e : from ≡ from + 0 = omega arith in ap (λ m. h (f m)) e
map_at h f from (suc n) (suc j) d l =
    let e : suc from + j ≡ from + suc j = omega arith in
    map_at h f (suc from) n j d (omega arith) ∙ ap (λ m. h (f m)) e

-- a test of a record that is there, and of one that is not
there : {A : Type 0} (f : ℕ → A) (n at : ℕ) (d : A) (same : A → Bool)
    → (ltb at (length (run f 0 n)) && same (get_or (run f 0 n) at d)) ≡ (ltb at n && same (f at))
there f n at d same = ap (λ m. ltb at m && same (get_or (run f 0 n) at d)) (length_run f 0 n) ∙ go (ltb at n) refl
  where
    go : (b : Bool) → ltb at n ≡ b → (b && same (get_or (run f 0 n) at d)) ≡ (b && same (f at))
    go true e = ap same (run_at f 0 n at d (ltb-true at n e) ∙ ap f (zero-add at))
    go false e = refl

module _ (o : Offered) (s : Shown) (row start : ℕ) (is_row : row < whole_rows Functions o.functions) where
  T : Tables
  T = tables_of little o

  C : Claim
  C = claim_of little s

  -- ---- function records
  module _ (first : ℕ) (begins : first ≡ summed (function_func_info o.functions) 0 row)
      (inside : row_size FuncInfo * (first + function_func_info o.functions row) ≤ length o.func_info) where
    own : function_records_of (tables_of little o) row ≡ run (func_info_row little o.func_info) first (function_func_info o.functions row)
    own = functions_are little o row is_row (omega arith) ∙ ap (λ n. run (func_info_row little o.func_info) n (function_func_info o.functions row)) (sym begins)

    pub func_count : length (function_records_of (tables_of little o) row) ≡ function_func_info o.functions row
    func_count = ap length own ∙ length_run (func_info_row little o.func_info) first (function_func_info o.functions row)

    func_is : (k j : ℕ) → j < function_func_info o.functions row
        → get_or (piece_functions T C k (piece row start)) j no_function_record ≡ func_of k start (func_info_row little o.func_info (first + j))
    unfolding piece_functions T C
    func_is zero j l = ap (λ x. get_or x j no_function_record) own ∙ run_at (func_info_row little o.func_info) first (function_func_info o.functions row) j no_function_record l
    func_is (suc k) j l =
        ap (λ x. get_or (map (started_at start) x) j no_function_record) own
        ∙ map_at (started_at start) (func_info_row little o.func_info) first (function_func_info o.functions row) j no_function_record l

    func_alike : (k at j : ℕ) → j < function_func_info o.functions row
        → function_wrong T C k at (piece row start) j ≡ func_wrong o.func_info first s.func_info at k start j
    unfolding function_wrong func_wrong claim_of C
    func_alike k at j l =
        ap (λ x. cond (ltb (at + j) (length C.functions) && same_function_record (get_or C.functions (at + j) no_function_record) x) none (some (reply 42 k j (at + j)))) (func_is k j l)
        ∙ ap (λ b. cond b none (some (reply 42 k j (at + j))))
        (there (func_info_row little s.func_info) (whole_rows FuncInfo s.func_info) (at + j) no_function_record (λ r. same_function_record r (func_of k start (func_info_row little o.func_info (first + j)))))

    pub funcs_alike : (k at : ℕ)
        → first_wrong (function_wrong (tables_of little o) (claim_of little s) k at (piece row start)) 0 (length (function_records_of (tables_of little o) row))
        ≡ first_wrong (func_wrong o.func_info first s.func_info at k start) 0 (function_func_info o.functions row)
    unfolding T C
    funcs_alike k at =
        ap (first_wrong (function_wrong T C k at (piece row start)) 0) func_count
        ∙ alike (function_wrong T C k at (piece row start)) (func_wrong o.func_info first s.func_info at k start) 0 (function_func_info o.functions row)
        (λ j l h. func_alike k at j (omega arith))

  -- ---- line records
  module _ (first : ℕ) (begins : first ≡ summed (function_line_info o.functions) 0 row)
      (inside : row_size LineInfo * (first + function_line_info o.functions row) ≤ length o.line_info) where
    own_lines : lines_of (tables_of little o) row ≡ run (line_info_row little o.line_info) first (function_line_info o.functions row)
    own_lines = lines_are little o row is_row (omega arith) ∙ ap (λ n. run (line_info_row little o.line_info) n (function_line_info o.functions row)) (sym begins)

    pub line_count : length (lines_of (tables_of little o) row) ≡ function_line_info o.functions row
    line_count = ap length own_lines ∙ length_run (line_info_row little o.line_info) first (function_line_info o.functions row)

    line_is : (k j : ℕ) → j < function_line_info o.functions row
        → get_or (piece_lines T C k (piece row start)) j no_line_record ≡ line_of k (record_slot little LineInfo o.line_info first) start (line_info_row little o.line_info (first + j))
    unfolding piece_lines T C
    line_is zero j l = ap (λ x. get_or x j no_line_record) own_lines ∙ run_at (line_info_row little o.line_info) first (function_line_info o.functions row) j no_line_record l
    line_is (suc k) j l =
        ap (λ x. get_or (map (rebased (first_slot x) start) x) j no_line_record) own_lines
        ∙ ap (λ n. get_or (map (rebased n start) (run (line_info_row little o.line_info) first (function_line_info o.functions row))) j no_line_record)
        (first_slot_lem (line_info_row little o.line_info) first (function_line_info o.functions row) (omega arith))
        ∙ map_at (rebased (record_slot little LineInfo o.line_info first) start) (line_info_row little o.line_info) first (function_line_info o.functions row) j no_line_record l

    line_alike : (k at j : ℕ) → j < function_line_info o.functions row
        → examine.line_wrong T C k at (piece row start) j ≡ line_wrong o.line_info first s.line_info at k start j
    unfolding examine.line_wrong line_wrong claim_of C
    line_alike k at j l =
        ap (λ x. cond (ltb (at + j) (length C.lines) && same_line_record (get_or C.lines (at + j) no_line_record) x) none (some (reply 43 k j (at + j)))) (line_is k j l)
        ∙ ap (λ b. cond b none (some (reply 43 k j (at + j))))
        (there (line_info_row little s.line_info) (whole_rows LineInfo s.line_info) (at + j) no_line_record
        (λ r. same_line_record r (line_of k (record_slot little LineInfo o.line_info first) start (line_info_row little o.line_info (first + j)))))

    pub lines_alike : (k at : ℕ)
        → first_wrong (examine.line_wrong (tables_of little o) (claim_of little s) k at (piece row start)) 0 (length (lines_of (tables_of little o) row))
        ≡ first_wrong (line_wrong o.line_info first s.line_info at k start) 0 (function_line_info o.functions row)
    unfolding T C
    lines_alike k at =
        ap (first_wrong (examine.line_wrong T C k at (piece row start)) 0) line_count
        ∙ alike (examine.line_wrong T C k at (piece row start)) (line_wrong o.line_info first s.line_info at k start) 0 (function_line_info o.functions row)
        (λ j l h. line_alike k at j (omega arith))

    row_slots : (row_of (tables_of little o) row).slots ≡ function_slots o.functions row
    row_slots = ap (λ f. f.slots) (row_is little o row is_row)

    stray_is : stray_line (tables_of little o) row ≡ stray_in o.functions o.line_info row
    unfolding stray_line
    stray_is = rw (row_slots, own_lines, begins)

    reply_is : (found : Option ℕ) → examine.stray_reply T C row found ≡ stray_reply row found
    reply_is none = refl
    reply_is (some j) = refl

    pub stray_alike : (k : ℕ) → stray_wrong (tables_of little o) (claim_of little s) k (piece row start) ≡ stray_of k row (stray_in o.functions o.line_info row)
    unfolding stray_wrong T C
    stray_alike zero = refl
    stray_alike (suc k) = reply_is (stray_line (tables_of little o) row) ∙ ap (stray_reply row) stray_is

-- ---- records that can be moved
none_strays : (row : ℕ) (found : Option ℕ) → stray_reply row found ≡ none → found ≡ none
none_strays row none e = refl
none_strays row (some j) e = let z : ◌≡◌ {A = ℕ} 0 1 = cc in absurd (omega arith)

module _ (functions line_info : List ℕ) (row first start : ℕ) (begins : first ≡ summed (function_line_info functions) 0 row)
    (ends : start + function_slots functions row < 0x1_0000_0000) where
  pub movable : (k : ℕ) → stray_of k row (stray_in functions line_info row) ≡ none → (j : ℕ) → j < function_line_info functions row
      → Movable k (record_slot little LineInfo line_info first) start (line_info_row little line_info (first + j))
  movable zero e j l = tt
  movable (suc k) e j l =
      let n = near_in functions line_info row first (function_line_info functions row) start begins refl ends (none_strays row (stray_in functions line_info row) e) j l in
      (n.low, n.sum)

-- ---- records that stand in the image
stand : (wrong : ℕ → Option Reply) (at most n : ℕ) → ((j : ℕ) → wrong j ≡ none → at + j < most) → at ≤ most → first_wrong wrong 0 n ≡ none → at + n ≤ most
stand wrong at most zero f l e = omega arith
stand wrong at most (suc n) f l e = omega (arith, f n (all_right wrong 0 (suc n) e n (omega arith) (omega arith)))

passes : (a b : Bool) (r : Reply) → cond (a && b) none (some r) ≡ none → a ≡ true
passes true b r e = refl
passes false b r e = let z : ◌≡◌ {A = ℕ} 0 1 = cc in absurd (omega arith)

module _ (tables : Tables) (s : Shown) (k at row start n : ℕ) where
  functions_long : length (claim_of little s).functions ≡ whole_rows FuncInfo s.func_info
  unfolding claim_of
  functions_long = length_run (func_info_row little s.func_info) 0 (whole_rows FuncInfo s.func_info)

  lines_long : length (claim_of little s).lines ≡ whole_rows LineInfo s.line_info
  unfolding claim_of
  lines_long = length_run (line_info_row little s.line_info) 0 (whole_rows LineInfo s.line_info)

  pub funcs_stand : at ≤ whole_rows FuncInfo s.func_info → first_wrong (function_wrong tables (claim_of little s) k at (piece row start)) 0 n ≡ none
      → at + n ≤ whole_rows FuncInfo s.func_info
  unfolding function_wrong
  funcs_stand l e = stand (function_wrong tables (claim_of little s) k at (piece row start)) at (whole_rows FuncInfo s.func_info) n (λ j f. omega (arith, functions_long, ltb-true (at + j) (length (claim_of little s).functions) (passes _ _ _ f))) l e

  pub lines_stand : at ≤ whole_rows LineInfo s.line_info → first_wrong (examine.line_wrong tables (claim_of little s) k at (piece row start)) 0 n ≡ none
      → at + n ≤ whole_rows LineInfo s.line_info
  unfolding examine.line_wrong
  lines_stand l e = stand (examine.line_wrong tables (claim_of little s) k at (piece row start)) at (whole_rows LineInfo s.line_info) n (λ j f. omega (arith, lines_long, ltb-true (at + j) (length (claim_of little s).lines) (passes _ _ _ f))) l e
