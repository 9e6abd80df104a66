-- The examiner reads the records of an image piece by piece; nothing is wrong exactly where they are the pieces' records, one after another.
-- Assumes nothing.
use mathlib.Core.Path.{◌≡◌, refl, sym, ap, ◌∙◌, subst}
use mathlib.Core.Logic.{◌↔◌}
use mathlib.Core.Bool.{true, ◌&&◌}
use mathlib.Core.Option.{Option, none, some}
use mathlib.Core.List.{List, [], ◌∷◌, ◌++◌, map}
use Prim.Native.Nat.{ℕ, zero, suc, ◌+◌, ◌-◌, ◌≤◌, ◌<◌}
use native.Mathlib.Decide.{ℕ_discrete}
use native.Mathlib.Omega.{arith}
use lib.Dec.{eqb, leb, ltb}
use lib.ListN.{length, get_or, take, drop, length-map, length-take, length-drop, take-append-drop, drop_of_length-le}
use lib.Seq.{get_or-take, get_or-drop, ext_get_or, drop-drop, take-append_seam, drop-append_seam}
use Rattle.rules.specs.Faithful.{Piece}
use Rattle.rules.specs.Answers.{reply}
use Rattle.rules.specs.Tables.{FunctionRecord, LineRecord, Tables, row_of, function_records_of, lines_of}
use Rattle.rules.specs.Records.{started_at, rebased, first_slot, stray, stray_line, added_functions, added_lines}
use Rattle.rules.specs.Accepted.{LinesInside}
use Rattle.rules.specs.Examine.{Claim, first_wrong, no_function_record, no_line_record, same_function_record, same_line_record, piece_functions, piece_lines, function_wrong, line_wrong, stray_reply, stray_wrong}
use Rattle.rules.proofs.ExamineLaws.{chain, pair, and_both, eqb_is, ltb_is, leb_is, cond_none, test_none, first_none, all_same, Each, each_is}

-- ---- a part of a list

module _ {A : Type 0} (d : A) (xs : List A) (at : ℕ) where
  -- element by element
  abbrev Alike : List A → Type 0
  Alike ys = (j : ℕ) → j < length ys → (at + j < length xs) × (get_or xs (at + j) d ≡ get_or ys j d)

  in_part : (n j : ℕ) → j < n → get_or (take n (drop at xs)) j d ≡ get_or xs (at + j) d
  in_part n j l = get_or-take n (drop at xs) j d l ∙ get_or-drop at xs j d

  part_is : (ys : List A) → Alike ys ↔ (take (length ys) (drop at xs) ≡ ys)
  part_is ys = (to, from)
    where
      long : Alike ys → Dec (length ys ≡ 0) → length (take (length ys) (drop at xs)) ≡ length ys
      long h (yes e) = omega (arith, length-take (length ys) (drop at xs))
      long h (no e) = omega (arith, length-take (length ys) (drop at xs), length-drop at xs, (h (length ys - 1) (omega arith)).0)

      to : Alike ys → take (length ys) (drop at xs) ≡ ys
      to h =
          let same = long h (ℕ_discrete (length ys) 0) in
          ext_get_or d _ _ same (λ j l. let m : j < length ys = omega arith in in_part (length ys) j m ∙ (h j m).1)

      from : take (length ys) (drop at xs) ≡ ys → Alike ys
      from e j l = (
        omega (arith, length-take (length ys) (drop at xs), length-drop at xs, ap length e),
        sym (in_part (length ys) j l) ∙ ap (λ x. get_or x j d) e,
      )

  -- and what comes after it
  part_then : (ys zs : List A) → ((take (length ys) (drop at xs) ≡ ys) × (drop (at + length ys) xs ≡ zs)) ↔ (drop at xs ≡ ys ++ zs)
  part_then ys zs = (
    λ h. sym (take-append-drop (length ys) (drop at xs)) ∙ ap (λ x. x ++ drop (length ys) (drop at xs)) h.0 ∙ ap (λ x. ys ++ x) (drop-drop (length ys) at xs ∙ h.1),
    λ e. (ap (take (length ys)) e ∙ take-append_seam ys zs, sym (drop-drop (length ys) at xs) ∙ ap (drop (length ys)) e ∙ drop-append_seam ys zs),
  )

  -- the same, of as many as they are known to be
  part_of : (ys zs : List A) (n : ℕ) → length ys ≡ n
      → (((j : ℕ) → j < n → (at + j < length xs) × (get_or xs (at + j) d ≡ get_or ys j d)) × (drop (at + n) xs ≡ zs)) ↔ (drop at xs ≡ ys ++ zs)
  part_of ys zs n e =
      subst (λ m. (((j : ℕ) → j < m → (at + j < length xs) × (get_or xs (at + j) d ≡ get_or ys j d)) × (drop (at + m) xs ≡ zs)) ↔ (drop at xs ≡ ys ++ zs)) e
      (chain (pair (part_is ys) (λ e. e, λ e. e)) (part_then ys zs))

pub over_is : {A : Type 0} (xs : List A) (at : ℕ) → (length xs ≤ at) ↔ (drop at xs ≡ [])
over_is xs at = (λ l. drop_of_length-le xs l, λ e. omega (arith, length-drop at xs, ap length e))

-- ---- one record

same_function : (a b : FunctionRecord) → (same_function_record a b ≡ true) ↔ (a ≡ b)
unfolding same_function_record
same_function a b =
    chain (chain (and_both (eqb a.slot b.slot) (eqb a.kind b.kind)) (pair (eqb_is a.slot b.slot) (eqb_is a.kind b.kind)))
    (λ h k. record { slot = h.0 k; kind = h.1 k }, λ e. (ap (λ (r : FunctionRecord). r.slot) e, ap (λ (r : FunctionRecord). r.kind) e))

same_line : (a b : LineRecord) → (same_line_record a b ≡ true) ↔ (a ≡ b)
unfolding same_line_record
same_line a b =
    chain (chain (and_both (eqb a.slot b.slot) (eqb a.file b.file && (eqb a.line b.line && eqb a.column b.column)))
    (pair (eqb_is a.slot b.slot) (chain (and_both (eqb a.file b.file) (eqb a.line b.line && eqb a.column b.column))
    (pair (eqb_is a.file b.file) (chain (and_both (eqb a.line b.line) (eqb a.column b.column)) (pair (eqb_is a.line b.line) (eqb_is a.column b.column))))))) (
      λ h k. record { slot = h.0 k; file = h.1.0 k; line = h.1.1.0 k; column = h.1.1.1 k },
      λ e. (ap (λ (r : LineRecord). r.slot) e, (ap (λ (r : LineRecord). r.file) e, (ap (λ (r : LineRecord). r.line) e, ap (λ (r : LineRecord). r.column) e))),
    )

module _ (tables : Tables) (claim : Claim) where
  -- ---- one piece's

  as_many_functions : (k : ℕ) (p : Piece) → length (piece_functions tables claim k p) ≡ length (function_records_of tables p.row)
  unfolding piece_functions
  as_many_functions zero p = refl
  as_many_functions (suc k) p = length-map (function_records_of tables p.row) (started_at p.start)

  as_many_lines : (k : ℕ) (p : Piece) → length (piece_lines tables claim k p) ≡ length (lines_of tables p.row)
  unfolding piece_lines
  as_many_lines zero p = refl
  as_many_lines (suc k) p = length-map (lines_of tables p.row) (rebased (first_slot (lines_of tables p.row)) p.start)

  function_none : (k at : ℕ) (p : Piece) (j : ℕ) → (function_wrong tables claim k at p j ≡ none)
      ↔ ((at + j < length claim.functions) × (get_or claim.functions (at + j) no_function_record ≡ get_or (piece_functions tables claim k p) j no_function_record))
  unfolding function_wrong
  function_none k at p j =
      chain (chain (test_none (ltb (at + j) (length claim.functions) && same_function_record (get_or claim.functions (at + j) no_function_record) (get_or (piece_functions tables claim k p) j no_function_record)) (reply 42 k j (at + j)))
      (and_both (ltb (at + j) (length claim.functions)) (same_function_record (get_or claim.functions (at + j) no_function_record) (get_or (piece_functions tables claim k p) j no_function_record))))
      (pair (ltb_is (at + j) (length claim.functions)) (same_function (get_or claim.functions (at + j) no_function_record) (get_or (piece_functions tables claim k p) j no_function_record)))

  line_none : (k at : ℕ) (p : Piece) (j : ℕ) → (line_wrong tables claim k at p j ≡ none)
      ↔ ((at + j < length claim.lines) × (get_or claim.lines (at + j) no_line_record ≡ get_or (piece_lines tables claim k p) j no_line_record))
  unfolding line_wrong
  line_none k at p j =
      chain (chain (test_none (ltb (at + j) (length claim.lines) && same_line_record (get_or claim.lines (at + j) no_line_record) (get_or (piece_lines tables claim k p) j no_line_record)) (reply 43 k j (at + j)))
      (and_both (ltb (at + j) (length claim.lines)) (same_line_record (get_or claim.lines (at + j) no_line_record) (get_or (piece_lines tables claim k p) j no_line_record))))
      (pair (ltb_is (at + j) (length claim.lines)) (same_line (get_or claim.lines (at + j) no_line_record) (get_or (piece_lines tables claim k p) j no_line_record)))

  -- all of a piece's, and then what is after them
  pub functions_then : (k at : ℕ) (p : Piece) (after : List FunctionRecord)
      → ((first_wrong (function_wrong tables claim k at p) 0 (length (function_records_of tables p.row)) ≡ none) × (drop (at + length (function_records_of tables p.row)) claim.functions ≡ after))
      ↔ (drop at claim.functions ≡ piece_functions tables claim k p ++ after)
  functions_then k at p after =
      chain (pair (chain (first_none (function_wrong tables claim k at p) (length (function_records_of tables p.row))) (all_same (length (function_records_of tables p.row)) _ _ (function_none k at p))) (λ e. e, λ e. e))
      (part_of no_function_record claim.functions at (piece_functions tables claim k p) after (length (function_records_of tables p.row)) (as_many_functions k p))

  pub lines_then : (k at : ℕ) (p : Piece) (after : List LineRecord)
      → ((first_wrong (line_wrong tables claim k at p) 0 (length (lines_of tables p.row)) ≡ none) × (drop (at + length (lines_of tables p.row)) claim.lines ≡ after))
      ↔ (drop at claim.lines ≡ piece_lines tables claim k p ++ after)
  lines_then k at p after =
      chain (pair (chain (first_none (line_wrong tables claim k at p) (length (lines_of tables p.row))) (all_same (length (lines_of tables p.row)) _ _ (line_none k at p))) (λ e. e, λ e. e))
      (part_of no_line_record claim.lines at (piece_lines tables claim k p) after (length (lines_of tables p.row)) (as_many_lines k p))

  -- ---- all of the pieces', from piece k on

  abbrev pub functions_from : ℕ → List Piece → List FunctionRecord
  functions_from k [] = []
  functions_from k (p ∷ ps) = piece_functions tables claim k p ++ functions_from (suc k) ps

  abbrev pub lines_from : ℕ → List Piece → List LineRecord
  lines_from k [] = []
  lines_from k (p ∷ ps) = piece_lines tables claim k p ++ lines_from (suc k) ps

  -- past the first piece, what is added
  pub functions_added : (k : ℕ) (ps : List Piece) → functions_from (suc k) ps ≡ added_functions tables ps
  unfolding piece_functions
  functions_added k [] = refl
  functions_added k (p ∷ ps) = ap (λ x. map (started_at p.start) (function_records_of tables p.row) ++ x) (functions_added (suc k) ps)

  pub lines_added : (k : ℕ) (ps : List Piece) → lines_from (suc k) ps ≡ added_lines tables ps
  unfolding piece_lines
  lines_added k [] = refl
  lines_added k (p ∷ ps) = ap (λ x. map (rebased (first_slot (lines_of tables p.row)) p.start) (lines_of tables p.row) ++ x) (lines_added (suc k) ps)

  -- ---- no line record that 12 refuses

  stray_none : (slots origin k : ℕ) (ls : List LineRecord) → (stray slots origin k ls ≡ none) ↔ Each (λ l. (origin ≤ l.slot) × (l.slot - origin < slots)) ls
  stray_none slots origin k [] = (λ e. tt, λ h. refl)
  stray_none slots origin k (l ∷ ls) =
      chain (cond_none (leb origin l.slot && ltb (l.slot - origin) slots) (stray slots origin (suc k) ls) k)
      (pair (chain (and_both (leb origin l.slot) (ltb (l.slot - origin) slots)) (pair (leb_is origin l.slot) (ltb_is (l.slot - origin) slots))) (stray_none slots origin (suc k) ls))

  abbrev pub Inside : ℕ → Piece → Type 0
  Inside zero p = Unit {0}
  Inside (suc k) p = LinesInside tables p.row

  pub inside_none : (k : ℕ) (p : Piece) → (stray_wrong tables claim k p ≡ none) ↔ Inside k p
  unfolding stray_wrong stray_line
  inside_none zero p = (λ e. tt, λ h. refl)
  inside_none (suc k) p =
      chain (chain (reply_none (stray_line tables p.row)) (stray_none (row_of tables p.row).slots (first_slot (lines_of tables p.row)) 0 (lines_of tables p.row)))
      (each_is (λ l. (first_slot (lines_of tables p.row) ≤ l.slot) × (l.slot - first_slot (lines_of tables p.row) < (row_of tables p.row).slots)) (lines_of tables p.row))
    where
      reply_none : (o : Option ℕ) → (stray_reply tables claim p.row o ≡ none) ↔ (o ≡ none)
      reply_none none = (λ e. refl, λ e. refl)
      reply_none (some j) = (λ e. let z : ◌≡◌ {A = ℕ} 0 1 = cc in absurd (omega arith), λ e. let z : ◌≡◌ {A = ℕ} 0 1 = cc in absurd (omega arith))
