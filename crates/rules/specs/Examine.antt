-- An image from elsewhere, examined (document 02, W1): "takes the tables, a root row, an image with its records and a claimed list of pieces
-- (function row and start)". What is wrong first, if anything is, in this order: the tables and the root, by the link's own 1, 2 and 13; the
-- sizes of what is shown; the pieces; then, piece by piece, its slots and its records; then records that are over. Executable.
-- Assumes nothing.
use Rattle.std.specs.Prelude.{Bool, false, cond, ◌&&◌, ◌||◌, List, [], ◌∷◌, map, ℕ, zero, suc, ◌+◌, ◌*◌, ◌/◌, ◌%◌, ℤ, pos, negsuc, ◌+ℤ◌, eqb, leb, ltb, length, get_or}
use Rattle.std.proofs.Math.Option.{Option, none, some}
use Rattle.rules.specs.declared.Table.TheVariants.{Instructions, FuncInfo, LineInfo}
use Rattle.rules.specs.Object.{Insn, Object, Meaning, copied, call, reference, refused, meaning}
use Rattle.rules.specs.Faithful.{Piece, slot_at}
use Rattle.rules.specs.Bytes.{Order, decoded}
use Rattle.rules.specs.Answers.{Reply, reply}
use Rattle.rules.specs.Tables.{FunctionRecord, LineRecord, Tables, is_at, function_records_of, lines_of, object_of}
use Rattle.rules.specs.Records.{started_at, rebased, first_slot, stray_line}
use Rattle.rules.specs.Rows.{row_size, most_image_slots, most_image_functions, most_image_lines, Offered, table_number, or_else, link_refusal, func_info_row, line_info_row, rows_of, tables_of}
use Rattle.rules.specs.Pieces.{piece_size, pieces_of}

-- what is shown: an image, its records, and the list
pub record Shown : Type 0 where
  pub image : List ℕ
  pub func_info : List ℕ
  pub line_info : List ℕ
  pub pieces : List ℕ

abbrev pub shown : List ℕ → List ℕ → List ℕ → List ℕ → Shown
shown image func_info line_info pieces = record { image = image; func_info = func_info; line_info = line_info; pieces = pieces }

-- and the same, read
pub record Claim : Type 0 where
  pub image : List Insn
  pub functions : List FunctionRecord
  pub lines : List LineRecord
  pub pieces : List Piece

unfoldable pub claim_of : Order → Shown → Claim
claim_of order s = record {
  image = decoded order s.image;
  functions = rows_of FuncInfo (func_info_row order s.func_info) s.func_info;
  lines = rows_of LineInfo (line_info_row order s.line_info) s.line_info;
  pieces = pieces_of s.pieces;
}

-- ---- the sizes: whole rows, "an image over 01's limits". The list is 9; each piece has a slot, so no image has more pieces than slots

abbrev pub list_number : ℕ
list_number = 9

-- 33: more than an image can hold, a partial row counted as one. 34: a partial row, after so many whole ones
unfoldable pub size_wrong : ℕ → ℕ → ℕ → List ℕ → Option Reply
size_wrong number size most bytes =
    cond (leb (length bytes) (size * most))
    (cond (eqb (length bytes % size) 0) none (some (reply 34 number (length bytes / size) 0)))
    (some (reply 33 number 0 0))

unfoldable pub sizes_wrong : Shown → Option Reply
sizes_wrong s =
    or_else (size_wrong (table_number Instructions) (row_size Instructions) most_image_slots s.image)
    (or_else (size_wrong (table_number FuncInfo) (row_size FuncInfo) most_image_functions s.func_info)
    (or_else (size_wrong (table_number LineInfo) (row_size LineInfo) most_image_lines s.line_info)
    (size_wrong list_number piece_size most_image_slots s.pieces)))

-- ---- the pieces

-- 35: "the first piece is the root at 0"
unfoldable pub root_wrong : ℕ → List Piece → Option Reply
root_wrong root [] = some (reply 35 0 0 0)
root_wrong root (p ∷ ps) = cond (eqb p.row root && eqb p.start 0) none (some (reply 35 0 0 0))

module _ (object : Object) where
  -- piece k, where it should start at `at`. 36: its row is no row of table 3; 37: it starts elsewhere
  unfoldable pub piece_wrong : ℕ → ℕ → Piece → Option Reply
  piece_wrong k at p =
      cond (ltb p.row object.rows)
      (cond (eqb p.start at) none (some (reply 37 k at 0)))
      (some (reply 36 k p.row 0))

  -- "the pieces tile the image in list order": from piece k on, which should start at `at`. 38: they end elsewhere than the image
  unfoldable pub tiles_wrong : ℕ → ℕ → ℕ → List Piece → Option Reply
  tiles_wrong end k at [] = cond (eqb at end) none (some (reply 38 k at 0))
  tiles_wrong end k at (p ∷ ps) = or_else (piece_wrong k at p) (tiles_wrong end (suc k) (at + object.slots p.row) ps)

-- ---- a slot

abbrev pub same_number : ℤ → ℤ → Bool
same_number (pos m) (pos n) = eqb m n
same_number (pos m) (negsuc n) = false
same_number (negsuc m) (pos n) = false
same_number (negsuc m) (negsuc n) = eqb m n

-- all that a reference may not change
unfoldable pub same_form : Insn → Insn → Bool
same_form i j = eqb i.opcode j.opcode && (eqb i.destination j.destination && same_number i.offset j.offset)

-- all that a call may not change
unfoldable pub same_head : Insn → Insn → Bool
same_head i j = same_form i j && eqb i.source j.source

unfoldable pub same_slot : Insn → Insn → Bool
same_slot i j = same_head i j && same_number i.immediate j.immediate

-- where a slot of the image points to
abbrev pub target_of : ℕ → Insn → ℤ
target_of here i = pos here +ℤ (pos 1 +ℤ i.immediate)

-- "points to the start of a piece of the right function": any will do
unfoldable pub starts_at : ℤ → ℕ → List Piece → Bool
starts_at target row [] = false
starts_at target row (p ∷ ps) = (eqb p.row row && is_at p.start target) || starts_at target row ps

-- the slot `i`, at `here` in the image, where slot `slot` of piece k should stand, a copy of `source` in the function `row`. A source slot that
-- the link refuses has the link's own number and places. 39: more is changed than may be; 40: a reference without source register 4;
-- 41: it points to no start of a piece of the function that its source names
unfoldable pub slot_wrong : List Piece → ℕ → ℕ → ℕ → ℕ → Insn → Insn → Meaning → Option Reply
slot_wrong pieces k row slot here source i copied = cond (same_slot i source) none (some (reply 39 k slot here))
slot_wrong pieces k row slot here source i (call callee) =
    cond (same_head i source)
    (cond (starts_at (target_of here i) callee pieces) none (some (reply 41 k slot callee)))
    (some (reply 39 k slot here))
slot_wrong pieces k row slot here source i (reference callee) =
    cond (same_form i source)
    (cond (eqb i.source 4)
    (cond (starts_at (target_of here i) callee pieces) none (some (reply 41 k slot callee)))
    (some (reply 40 k slot callee)))
    (some (reply 39 k slot here))
slot_wrong pieces k row slot here source i (refused number) = some (reply number row slot 0)

-- the first of n, from number j on, that has something wrong
abbrev pub first_wrong : (ℕ → Option Reply) → ℕ → ℕ → Option Reply
first_wrong wrong j zero = none
first_wrong wrong j (suc n) = or_else (wrong j) (first_wrong wrong (suc j) n)

-- ---- records, "by the merge rule": the first piece's unchanged, later ones as appended

abbrev pub no_function_record : FunctionRecord
no_function_record = record { slot = 0; kind = 0 }

abbrev pub no_line_record : LineRecord
no_line_record = record { slot = 0; file = 0; line = 0; column = 0 }

unfoldable pub same_function_record : FunctionRecord → FunctionRecord → Bool
same_function_record a b = eqb a.slot b.slot && eqb a.kind b.kind

unfoldable pub same_line_record : LineRecord → LineRecord → Bool
same_line_record a b = eqb a.slot b.slot && (eqb a.file b.file && (eqb a.line b.line && eqb a.column b.column))

module _ (tables : Tables) (claim : Claim) where
  -- the records of piece k
  unfoldable pub piece_functions : ℕ → Piece → List FunctionRecord
  piece_functions zero p = function_records_of tables p.row
  piece_functions (suc k) p = map (started_at p.start) (function_records_of tables p.row)

  unfoldable pub piece_lines : ℕ → Piece → List LineRecord
  piece_lines zero p = lines_of tables p.row
  piece_lines (suc k) p = map (rebased (first_slot (lines_of tables p.row)) p.start) (lines_of tables p.row)

  -- 42 and 43: record j of piece k, which should be record `at` + j of the image, is not, or there is none
  unfoldable pub function_wrong : ℕ → ℕ → Piece → ℕ → Option Reply
  function_wrong k at p j =
      cond (ltb (at + j) (length claim.functions)
      && same_function_record (get_or claim.functions (at + j) no_function_record) (get_or (piece_functions k p) j no_function_record))
      none (some (reply 42 k j (at + j)))

  unfoldable pub line_wrong : ℕ → ℕ → Piece → ℕ → Option Reply
  line_wrong k at p j =
      cond (ltb (at + j) (length claim.lines)
      && same_line_record (get_or claim.lines (at + j) no_line_record) (get_or (piece_lines k p) j no_line_record))
      none (some (reply 43 k j (at + j)))

  -- 12, of every piece but the first: "the root's records meet no 12"
  abbrev pub stray_reply : ℕ → Option ℕ → Option Reply
  stray_reply row none = none
  stray_reply row (some j) = some (reply 12 row j 0)

  unfoldable pub stray_wrong : ℕ → Piece → Option Reply
  stray_wrong zero p = none
  stray_wrong (suc k) p = stray_reply p.row (stray_line tables p.row)

  unfoldable pub slots_wrong : ℕ → Piece → Option Reply
  slots_wrong k p =
      first_wrong (λ slot. slot_wrong claim.pieces k p.row slot (p.start + slot) ((object_of tables).insn p.row slot)
      (slot_at claim.image (p.start + slot)) (meaning (object_of tables) p.row slot)) 0 ((object_of tables).slots p.row)

  -- piece k, whose function records should stand from `f` on in the image, and its line records from `l` on
  unfoldable pub wrong_in : ℕ → ℕ → ℕ → Piece → Option Reply
  wrong_in k f l p =
      or_else (slots_wrong k p)
      (or_else (first_wrong (function_wrong k f p) 0 (length (function_records_of tables p.row)))
      (or_else (stray_wrong k p)
      (first_wrong (line_wrong k l p) 0 (length (lines_of tables p.row)))))

  -- 44: "none over". The first that is
  unfoldable pub over_wrong : ℕ → ℕ → Option Reply
  over_wrong f l =
      cond (leb (length claim.functions) f)
      (cond (leb (length claim.lines) l) none (some (reply 44 (table_number LineInfo) l 0)))
      (some (reply 44 (table_number FuncInfo) f 0))

  unfoldable pub pieces_wrong : ℕ → ℕ → ℕ → List Piece → Option Reply
  pieces_wrong k f l [] = over_wrong f l
  pieces_wrong k f l (p ∷ ps) =
      or_else (wrong_in k f l p)
      (pieces_wrong (suc k) (f + length (function_records_of tables p.row)) (l + length (lines_of tables p.row)) ps)

  unfoldable pub claim_wrong : ℕ → Option Reply
  claim_wrong root =
      or_else (root_wrong root claim.pieces)
      (or_else (tiles_wrong (object_of tables) (length claim.image) 0 0 claim.pieces)
      (pieces_wrong 0 0 0 claim.pieces))

-- ---- the whole

unfoldable pub examine_refusal : Order → Offered → ℕ → Shown → Option Reply
examine_refusal order o root s = or_else (link_refusal o root) (or_else (sizes_wrong s) (claim_wrong (tables_of order o) (claim_of order s) root))

-- 0 is yes: how many pieces
abbrev pub verdict : ℕ → Option Reply → Reply
verdict pieces none = reply 0 pieces 0 0
verdict pieces (some r) = r

unfoldable pub examine_entry : Order → Offered → ℕ → Shown → Reply
examine_entry order o root s = verdict (length s.pieces / piece_size) (examine_refusal order o root s)
