-- Whatever the examiner finds wrong has a number that is not 0.
-- Assumes nothing.
use mathlib.Core.Path.{◌≡◌, refl, subst}
use mathlib.Core.Logic.{◌≢◌}
use mathlib.Core.Bool.{Bool, true, false, cond, ◌&&◌}
use mathlib.Core.Option.{Option, none, some}
use mathlib.Core.List.{List, [], ◌∷◌}
use Prim.Native.Nat.{ℕ, zero, suc, ◌+◌, ◌*◌, ◌%◌}
use native.Mathlib.Omega.{arith}
use lib.Dec.{eqb, leb, ltb}
use lib.ListN.{length, get_or}
use Rattle.rules.specs.declared.Table.TheVariants.{Instructions, FuncInfo, LineInfo}
use Rattle.rules.specs.Object.{Insn, Object, Meaning, copied, call, reference, refused, meaning}
use Rattle.rules.specs.Faithful.{Piece, slot_at}
use Rattle.rules.specs.Answers.{Reply}
use Rattle.rules.specs.Bytes.{Order}
use Rattle.rules.specs.Tables.{Tables, function_records_of, lines_of, object_of}
use Rattle.rules.specs.Records.{stray_line}
use Rattle.rules.specs.Rows.{row_size, most_image_slots, most_image_functions, most_image_lines, Offered, table_number, or_else, tables_of}
use Rattle.rules.specs.Pieces.{piece_size}
use Rattle.rules.specs.Examine.{Shown, Claim, claim_of, list_number, size_wrong, sizes_wrong, root_wrong, piece_wrong, tiles_wrong, same_form, same_head, same_slot, target_of, starts_at, slot_wrong, first_wrong, no_function_record, no_line_record, same_function_record, same_line_record, piece_functions, piece_lines, function_wrong, line_wrong, stray_reply, stray_wrong, slots_wrong, wrong_in, over_wrong, pieces_wrong, claim_wrong, examine_refusal}
use Rattle.rules.proofs.Refusing.{link_number}
use Rattle.rules.proofs.Numbered.{meaning_numbered}

-- a reply's number, if there is one
record NotZero (x : Option Reply) : Type 0 where
  number : (r : Reply) → x ≡ some r → r.number ≢ 0

nothing : NotZero none
nothing = record { number = λ r e. let z : ◌≡◌ {A = ℕ} 0 1 = cc in absurd (omega arith) }

a_reply : (r : Reply) → r.number ≢ 0 → NotZero (some r)
a_reply r n = record { number = λ q e. let same : r ≡ q = cc in subst (λ (x : Reply). x.number ≢ 0) same n }

either_of : {a b : Option Reply} → NotZero a → NotZero b → NotZero (or_else a b)
either_of {a} {b} l r = go a l
  where
    go : (a : Option Reply) → NotZero a → NotZero (or_else a b)
    go none l = r
    go (some x) l = l

tested : (t : Bool) {later : Option Reply} (r : Reply) → r.number ≢ 0 → NotZero later → NotZero (cond t later (some r))
tested true r n l = l
tested false r n l = a_reply r n

first_of : (wrong : ℕ → Option Reply) (j n : ℕ) → ((k : ℕ) → NotZero (wrong k)) → NotZero (first_wrong wrong j n)
first_of wrong j zero h = nothing
first_of wrong j (suc n) h = either_of (h j) (first_of wrong (suc j) n h)

size : (table bytes most : ℕ) (rows : List ℕ) → NotZero (size_wrong table bytes most rows)
unfolding size_wrong
size table bytes most rows = tested (leb (length rows) (bytes * most)) _ (λ e. omega arith) (tested (eqb (length rows % bytes) 0) _ (λ e. omega arith) nothing)

sizes : (s : Shown) → NotZero (sizes_wrong s)
unfolding sizes_wrong
sizes s =
    either_of (size (table_number Instructions) (row_size Instructions) most_image_slots s.image)
    (either_of (size (table_number FuncInfo) (row_size FuncInfo) most_image_functions s.func_info)
    (either_of (size (table_number LineInfo) (row_size LineInfo) most_image_lines s.line_info) (size list_number piece_size most_image_slots s.pieces)))

root_first : (root : ℕ) (ps : List Piece) → NotZero (root_wrong root ps)
unfolding root_wrong
root_first root [] = a_reply _ (λ e. omega arith)
root_first root (p ∷ ps) = tested (eqb p.row root && eqb p.start 0) _ (λ e. omega arith) nothing

tiles : (object : Object) (end k at : ℕ) (ps : List Piece) → NotZero (tiles_wrong object end k at ps)
unfolding tiles_wrong piece_wrong
tiles object end k at [] = tested (eqb at end) _ (λ e. omega arith) nothing
tiles object end k at (p ∷ ps) =
    either_of (tested (ltb p.row object.rows) _ (λ e. omega arith) (tested (eqb p.start at) _ (λ e. omega arith) nothing))
    (tiles object end (suc k) (at + object.slots p.row) ps)

slot_of : (pieces : List Piece) (k row slot here : ℕ) (source i : Insn) (m : Meaning) → ((number : ℕ) → m ≡ refused number → number ≢ 0)
    → NotZero (slot_wrong pieces k row slot here source i m)
unfolding slot_wrong
slot_of pieces k row slot here source i copied n = tested (same_slot i source) _ (λ e. omega arith) nothing
slot_of pieces k row slot here source i (call callee) n =
    tested (same_head i source) _ (λ e. omega arith) (tested (starts_at (target_of here i) callee pieces) _ (λ e. omega arith) nothing)
slot_of pieces k row slot here source i (reference callee) n =
    tested (same_form i source) _ (λ e. omega arith) (tested (eqb i.source 4) _ (λ e. omega arith) (tested (starts_at (target_of here i) callee pieces) _ (λ e. omega arith) nothing))
slot_of pieces k row slot here source i (refused number) n = a_reply _ (n number refl)

module _ (tables : Tables) (claim : Claim) where
  slots : (k : ℕ) (p : Piece) → NotZero (slots_wrong tables claim k p)
  unfolding slots_wrong
  slots k p =
      first_of _ 0 ((object_of tables).slots p.row) (λ slot. slot_of claim.pieces k p.row slot (p.start + slot) ((object_of tables).insn p.row slot)
      (slot_at claim.image (p.start + slot)) (meaning (object_of tables) p.row slot) (meaning_numbered tables p.row slot))

  strays : (k : ℕ) (p : Piece) → NotZero (stray_wrong tables claim k p)
  unfolding stray_wrong
  strays zero p = nothing
  strays (suc k) p = go (stray_line tables p.row)
    where
      go : (o : Option ℕ) → NotZero (stray_reply tables claim p.row o)
      go none = nothing
      go (some j) = a_reply _ (λ e. omega arith)

  function_of : (k at : ℕ) (p : Piece) (j : ℕ) → NotZero (function_wrong tables claim k at p j)
  unfolding function_wrong
  function_of k at p j =
      tested (ltb (at + j) (length claim.functions)
      && same_function_record (get_or claim.functions (at + j) no_function_record) (get_or (piece_functions tables claim k p) j no_function_record)) _ (λ e. omega arith) nothing

  line_record_of : (k at : ℕ) (p : Piece) (j : ℕ) → NotZero (line_wrong tables claim k at p j)
  unfolding line_wrong
  line_record_of k at p j =
      tested (ltb (at + j) (length claim.lines) && same_line_record (get_or claim.lines (at + j) no_line_record) (get_or (piece_lines tables claim k p) j no_line_record)) _ (λ e. omega arith) nothing

  piece_of : (k f l : ℕ) (p : Piece) → NotZero (wrong_in tables claim k f l p)
  unfolding wrong_in
  piece_of k f l p =
      either_of (slots k p)
      (either_of (first_of (function_wrong tables claim k f p) 0 (length (function_records_of tables p.row)) (function_of k f p))
      (either_of (strays k p) (first_of (line_wrong tables claim k l p) 0 (length (lines_of tables p.row)) (line_record_of k l p))))

  pieces : (k f l : ℕ) (ps : List Piece) → NotZero (pieces_wrong tables claim k f l ps)
  unfolding pieces_wrong over_wrong
  pieces k f l [] = tested (leb (length claim.functions) f) _ (λ e. omega arith) (tested (leb (length claim.lines) l) _ (λ e. omega arith) nothing)
  pieces k f l (p ∷ ps) =
      either_of (piece_of k f l p)
      (pieces (suc k) (f + length (function_records_of tables p.row)) (l + length (lines_of tables p.row)) ps)

  whole_claim : (root : ℕ) → NotZero (claim_wrong tables claim root)
  unfolding claim_wrong
  whole_claim root =
      either_of (root_first root claim.pieces)
      (either_of (tiles (object_of tables) (length claim.image) 0 0 claim.pieces) (pieces 0 0 0 claim.pieces))

module _ (order : Order) (o : Offered) (root : ℕ) (s : Shown) where
  not_zero : NotZero (examine_refusal order o root s)
  unfolding examine_refusal
  not_zero =
      either_of (record { number = λ r. link_number o r root })
      (either_of (sizes s) (whole_claim (tables_of order o) (claim_of order s) root))

  pub examine_number : (r : Reply) → examine_refusal order o root s ≡ some r → r.number ≢ 0
  examine_number = not_zero.number
