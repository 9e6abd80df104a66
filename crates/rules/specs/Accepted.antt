-- What a yes of the examiner means (document 02, W1), with no order of search in it: tables and a root that meet no 1, 2 or 13, sizes, the layout
-- of demand 2 with the pieces claimed, and the records that the merge rule gives for them.
-- Assumes nothing.
use Rattle.std.specs.Prelude.{◌≡◌, ℕ, ◌-◌, ◌*◌, ◌%◌, ◌≤◌, ◌<◌, length}
use Rattle.std.proofs.Math.Option.{none}
use mathlib.Core.List.{List, ◌∷◌, Memᴰ}
use Rattle.rules.specs.declared.Table.TheVariants.{Instructions, FuncInfo, LineInfo}
use Rattle.rules.specs.Faithful.{Piece, piece, Faithful}
use Rattle.rules.specs.Bytes.{Order}
use Rattle.rules.specs.Tables.{LineRecord, Tables, row_of, lines_of, object_of}
use Rattle.rules.specs.Records.{first_slot, image_functions, image_lines}
use Rattle.rules.specs.Rows.{row_size, most_image_slots, most_image_functions, most_image_lines, Offered, link_refusal, tables_of}
use Rattle.rules.specs.Pieces.{piece_size}
use Rattle.rules.specs.Examine.{Shown, Claim, claim_of}

-- whole rows, and no more than that many
pub record Sized (size most : ℕ) (bytes : List ℕ) : Type 0 where
  pub whole : length bytes % size ≡ 0
  pub few : length bytes ≤ size * most

-- no line record of the function is one that 12 refuses
abbrev pub LinesInside : Tables → ℕ → Type 0
LinesInside tables row = (l : LineRecord) → Memᴰ l (lines_of tables row)
    → (first_slot (lines_of tables row) ≤ l.slot) × (l.slot - first_slot (lines_of tables row) < (row_of tables row).slots)

-- of what is read: `others` are the pieces after the first
pub record Holds (tables : Tables) (root : ℕ) (claim : Claim) (others : List Piece) : Type 0 where
  pub list : claim.pieces ≡ piece root 0 ∷ others
  pub rows : (p : Piece) → Memᴰ p (piece root 0 ∷ others) → p.row < (object_of tables).rows
  pub layout : Faithful (object_of tables) root claim.image (piece root 0 ∷ others)
  pub inside : (p : Piece) → Memᴰ p others → LinesInside tables p.row
  pub functions : claim.functions ≡ image_functions tables root others
  pub lines : claim.lines ≡ image_lines tables root others

pub record Accepted (order : Order) (o : Offered) (root : ℕ) (s : Shown) : Type 0 where
  pub tables : link_refusal o root ≡ none
  pub image_size : Sized (row_size Instructions) most_image_slots s.image
  pub functions_size : Sized (row_size FuncInfo) most_image_functions s.func_info
  pub lines_size : Sized (row_size LineInfo) most_image_lines s.line_info
  pub list_whole : length s.pieces % piece_size ≡ 0
  pub others : List Piece
  pub holds : Holds (tables_of order o) root (claim_of order s) others
