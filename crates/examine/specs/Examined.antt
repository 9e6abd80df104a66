-- What is known on the way to a yes: after the tables, after the sizes, after the list.
-- Assumes nothing.
use Rattle.std.specs.Prelude.{◌≡◌, ℕ, ◌≤◌, ◌<◌, length}
use Rattle.std.proofs.Math.Option.{none}
use Rattle.rules.specs.declared.Table.TheVariants.{FuncInfo, LineInfo}
use Rattle.rules.specs.Bytes.{little, decoded}
use Rattle.rules.specs.Tables.{object_of}
use Rattle.rules.specs.Rows.{whole_rows, Offered, tables_of}
use Rattle.rules.specs.Lookups.{LinkChecked}
use Rattle.rules.specs.Pieces.{pieces_of}
use Rattle.rules.specs.Examine.{Shown, sizes_wrong, tiles_wrong}
use Rattle.pieces.specs.Tiling.{listed}

pub record Sized (o : Offered) (s : Shown) : Type 0 where
  pub checked : LinkChecked o
  pub sized : sizes_wrong s ≡ none

pub record Listed (o : Offered) (s : Shown) : Type 0 where
  pub sizes : Sized o s
  pub tiles : tiles_wrong (object_of (tables_of little o)) (length (decoded little s.image)) 0 0 (pieces_of s.pieces) ≡ none

-- piece k, with so many records before its own, all of which stand in the image
pub record Pieced (o : Offered) (s : Shown) (k funcs lines : ℕ) : Type 0 where
  pub list : Listed o s
  pub is_piece : k < listed s.pieces
  pub funcs_low : funcs ≤ whole_rows FuncInfo s.func_info
  pub lines_low : lines ≤ whole_rows LineInfo s.line_info
