-- The two steps as the daemon calls them: from the bytes offered to the number, the places and what every lent buffer then holds.
-- Assumes nothing.
use Rattle.std.specs.Prelude.{cond, List, [], ◌∷◌, ◌++◌, ℕ, suc, ◌*◌, ◌/◌, min, ltb, length}
use Rattle.std.proofs.Math.Option.{Option, none, some}
use Rattle.rules.specs.declared.Table.TheVariants.{Functions, Instructions, FuncInfo, LineInfo}
use Rattle.rules.specs.Object.{Insn}
use Rattle.rules.specs.Faithful.{Piece, piece}
use Rattle.rules.specs.Bytes.{Order, bytes4, encoded, padded}
use Rattle.rules.specs.Link.{Refusal, Outcome, linked, refuses, unfinished}
use Rattle.rules.specs.Tables.{FunctionRecord, LineRecord, Tables}
use Rattle.rules.specs.Maps as Maps
use Rattle.rules.specs.Maps.{MapOutcome, mapped, map_step}
use Rattle.rules.specs.Records.{Room, image_functions, image_lines, link_step}
use Rattle.rules.specs.Answers.{Reply, reply}
use Rattle.rules.specs.Rows.{row_size, most_image_slots, most_image_functions, most_image_lines, whole_rows, Offered, tables_of, map_step_refusal, link_refusal}
use Rattle.rules.specs.Pieces.{piece_size, pieces_bytes}

-- records as the rows of tables 7 and 8
abbrev pub func_info_bytes : Order → List FunctionRecord → List ℕ
func_info_bytes order [] = []
func_info_bytes order (r ∷ rs) = bytes4 order r.slot ++ (bytes4 order r.kind ++ func_info_bytes order rs)

abbrev pub line_info_bytes : Order → List LineRecord → List ℕ
line_info_bytes order [] = []
line_info_bytes order (r ∷ rs) =
    bytes4 order r.slot ++ (bytes4 order r.file ++ (bytes4 order r.line ++ (bytes4 order r.column ++ line_info_bytes order rs)))

abbrev pub refusal_reply : Refusal → Reply
refusal_reply why = reply why.number why.row why.place 0

-- ---- the map step: "rewrites table 6 in place, only once nothing is refused; no refusal touches it"

pub record MapResult : Type 0 where
  pub reply : Reply
  pub instructions : List ℕ

abbrev pub map_result : Reply → List ℕ → MapResult
map_result r instructions = record { reply = r; instructions = instructions }

abbrev pub by_map_outcome : Order → List ℕ → MapOutcome → MapResult
by_map_outcome order before (mapped image count) = map_result (reply 0 count 0 0) (encoded order image)
by_map_outcome order before (Maps.refuses why) = map_result (refusal_reply why) before

abbrev pub unless_map_refused : Order → Offered → Option Reply → MapResult
unless_map_refused order o (some r) = map_result r o.instructions
unless_map_refused order o none = by_map_outcome order o.instructions (map_step (tables_of order o))

unfoldable pub map_entry : Order → Offered → MapResult
map_entry order o = unless_map_refused order o (map_step_refusal o)

-- ---- the link: "A refused link has written zero everywhere in its outputs. An accepted one has zero after the used bytes"

-- the lengths of the three outputs
pub record Outputs : Type 0 where
  pub image : ℕ
  pub func_info : ℕ
  pub line_info : ℕ

-- what the limits leave room for
abbrev pub most_room : Room
most_room = record { slots = most_image_slots; functions = most_image_functions; lines = most_image_lines }

-- "room for instructions, function records, line records (11 each, in the buffer and under the limit)"
abbrev pub room_in : Outputs → Room
room_in lent = record {
  slots = min (lent.image / row_size Instructions) most_room.slots;
  functions = min (lent.func_info / row_size FuncInfo) most_room.functions;
  lines = min (lent.line_info / row_size LineInfo) most_room.lines;
}

pub record LinkResult : Type 0 where
  pub reply : Reply
  pub image : List ℕ
  pub func_info : List ℕ
  pub line_info : List ℕ

abbrev pub refused_link : Outputs → Reply → LinkResult
refused_link lent r = record { reply = r; image = padded lent.image []; func_info = padded lent.func_info []; line_info = padded lent.line_info [] }

-- "done: link: slots, function records, line records"
abbrev pub accepted_link : Order → Outputs → List Insn → List FunctionRecord → List LineRecord → LinkResult
accepted_link order lent image functions lines = record {
  reply = reply 0 (length image) (length functions) (length lines);
  image = padded lent.image (encoded order image);
  func_info = padded lent.func_info (func_info_bytes order functions);
  line_info = padded lent.line_info (line_info_bytes order lines);
}

abbrev pub by_outcome : Order → Tables → ℕ → Outputs → Outcome → LinkResult
by_outcome order tables root lent (linked final) =
    accepted_link order lent final.image (image_functions tables root final.placed) (image_lines tables root final.placed)
by_outcome order tables root lent (refuses why) = refused_link lent (refusal_reply why)
-- never: `step_finishes`
by_outcome order tables root lent unfinished = refused_link lent (reply 0 0 0 0)

abbrev pub unless_link_refused : Order → Offered → ℕ → Outputs → Option Reply → LinkResult
unless_link_refused order o root lent (some r) = refused_link lent r
unless_link_refused order o root lent none = by_outcome order (tables_of order o) root lent (link_step (tables_of order o) (room_in lent) root)

unfoldable pub link_entry : Order → Offered → ℕ → Outputs → LinkResult
link_entry order o root lent = unless_link_refused order o root lent (link_refusal o root)

-- ---- the link with its list (document 02, W1): "Every image we link is accepted with its true list"

-- the pieces in order of placing, the root first; none of a refused link
abbrev pub list_of : ℕ → Outcome → List Piece
list_of root (linked final) = piece root 0 ∷ final.placed
list_of root (refuses why) = []
list_of root unfinished = []

abbrev pub unless_list_refused : Order → Offered → ℕ → Outputs → Option Reply → List Piece
unless_list_refused order o root lent (some r) = []
unless_list_refused order o root lent none = list_of root (link_step (tables_of order o) (room_in lent) root)

unfoldable pub link_list : Order → Offered → ℕ → Outputs → List Piece
link_list order o root lent = unless_list_refused order o root lent (link_refusal o root)

pub record PiecesResult : Type 0 where
  pub link : LinkResult
  pub list : List Piece
  pub pieces : List ℕ

-- a list of each function once, and of the root's copy
abbrev pub list_room : Offered → ℕ
list_room o = piece_size * suc (whole_rows Functions o.functions)

-- 32, before every other: the buffer for the list is shorter than that; all outputs are then zero
abbrev pub list_refused : Outputs → ℕ → PiecesResult
list_refused lent size = record { link = refused_link lent (reply 32 0 0 0); list = []; pieces = padded size [] }

unfoldable pub link_pieces_entry : Order → Offered → ℕ → Outputs → ℕ → PiecesResult
link_pieces_entry order o root lent size =
    cond (ltb size (list_room o)) (list_refused lent size)
    (record {
      link = link_entry order o root lent;
      list = link_list order o root lent;
      pieces = padded size (pieces_bytes (link_list order o root lent));
    })
