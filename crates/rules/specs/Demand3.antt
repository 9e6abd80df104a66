-- Demand 3, "Linking keeps the path", of an accepted link, over the bytes that the entry reads and writes.
-- Assumes nothing.
use Rattle.std.specs.Prelude.{◌≡◌, Bool, true, List, ◌∷◌, ℕ, ◌*◌, pos, length, get_or, take}
use Rattle.std.proofs.Math.Option.{some}
use Rattle.rules.specs.declared.Table.TheVariants.{Instructions, FuncInfo, LineInfo}
use Rattle.rules.specs.Object.{Object, is_call, is_wide_load, call, reference, meaning}
use Rattle.rules.specs.Faithful.{Piece, piece, Faithful}
use Rattle.rules.specs.Walk.{standing, SourcePlace, place, source_walk}
use Rattle.rules.specs.Together.{KeepsPath}
use Rattle.rules.specs.Bytes.{Order, decoded}
use Rattle.rules.specs.Tables.{Symbol, Relocation, Tables, row_of, refers_to_code, relocation_at, object_of}
use Rattle.rules.specs.Maps.{symbol_of}
use Rattle.rules.specs.Records.{image_functions, image_lines}
use Rattle.rules.specs.Rows.{row_size, Offered, tables_of}
use Rattle.rules.specs.Entries.{LinkResult, PiecesResult, func_info_bytes, line_info_bytes}
use Rattle.rules.specs.Pieces.{piece_size, pieces_of, list_rows}
use Rattle.rules.specs.Examine.{Shown, shown}

-- the counts that the places say, and the used bytes of each output
abbrev pub count : LinkResult → ℕ → ℕ
count r k = get_or r.reply.places k 0

abbrev pub used_image : LinkResult → List ℕ
used_image r = take (row_size Instructions * count r 0) r.image

abbrev pub used_func_info : LinkResult → List ℕ
used_func_info r = take (row_size FuncInfo * count r 1) r.func_info

abbrev pub used_line_info : LinkResult → List ℕ
used_line_info r = take (row_size LineInfo * count r 2) r.line_info

-- the list of a link that is done, and all that it then shows
abbrev pub used_pieces : PiecesResult → List ℕ
used_pieces r = take (piece_size * list_rows r.pieces) r.pieces

abbrev pub shown_of : PiecesResult → Shown
shown_of r = shown (used_image r.link) (used_func_info r.link) (used_line_info r.link) (used_pieces r)

-- the callee of a call that the walk comes to
pub record Calls (object : Object) (row slot : ℕ) : Type 0 where
  pub callee : ℕ
  pub is : meaning object row slot ≡ call callee

-- "A function reference is a wide load whose relocation refers to code"
pub record FunctionReference (tables : Tables) (row slot : ℕ) : Type 0 where
  pub wide : is_wide_load (object_of tables) row slot ≡ true
  pub relocation : Relocation
  pub relocates : relocation_at tables (row_of tables row) slot ≡ some relocation
  pub symbol : Symbol
  pub known : symbol_of tables relocation ≡ some symbol
  pub code : refers_to_code tables symbol.kind symbol.home ≡ true

-- the function that a slot refers to
pub record Refers (object : Object) (row slot : ℕ) : Type 0 where
  pub callee : ℕ
  pub is : meaning object row slot ≡ reference callee

-- what the pieces, the root and those after it, make of an image and its records, as bytes
pub record PathKeptBy (order : Order) (o : Offered) (root : ℕ) (image func_info line_info : List ℕ) (others : List Piece) : Type 0 where
  -- "demand 2's layout": the pieces tile the image in order, root first, and each slot is its source slot with only the permitted fields rewritten
  pub layout : Faithful (object_of (tables_of order o)) root (decoded order image) (piece root 0 ∷ others)
  -- the records are those of the pieces
  pub functions : func_info ≡ func_info_bytes order (image_functions (tables_of order o) root others)
  pub lines : line_info ≡ line_info_bytes order (image_lines (tables_of order o) root others)
  -- "both stand at the same slot of the same function, at equal call depth, and end together", and the references passed
  pub path : KeepsPath (object_of (tables_of order o)) root (decoded order image) (piece root 0 ∷ others)
  -- the source walk never comes to a call that names nothing
  pub named : (answers : List Bool) (steps row slot : ℕ) (back : List SourcePlace) (rest : List Bool)
      → source_walk (object_of (tables_of order o)) root answers steps ≡ standing (place row (pos slot)) back rest
      → is_call ((object_of (tables_of order o)).insn row slot) ≡ true → Calls (object_of (tables_of order o)) row slot
  -- nor to a function reference that names nothing: `path.references` is said of each
  pub referred : (answers : List Bool) (steps row slot : ℕ) (back : List SourcePlace) (rest : List Bool)
      → source_walk (object_of (tables_of order o)) root answers steps ≡ standing (place row (pos slot)) back rest
      → FunctionReference (tables_of order o) row slot → Refers (object_of (tables_of order o)) row slot

-- of a link's three outputs, whose counts are the layout's totals
pub record PathKept (order : Order) (o : Offered) (root : ℕ) (r : LinkResult) : Type 0 where
  pub others : List Piece
  pub kept : PathKeptBy order o root (used_image r) (used_func_info r) (used_line_info r) others
  pub slots : length (decoded order (used_image r)) ≡ count r 0
  pub functions_count : length (image_functions (tables_of order o) root others) ≡ count r 1
  pub lines_count : length (image_lines (tables_of order o) root others) ≡ count r 2

-- of an image from elsewhere, with the list that it is shown with
pub record ShownKept (order : Order) (o : Offered) (root : ℕ) (s : Shown) : Type 0 where
  pub others : List Piece
  pub list : pieces_of s.pieces ≡ piece root 0 ∷ others
  pub kept : PathKeptBy order o root s.image s.func_info s.line_info others
