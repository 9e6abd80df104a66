-- The list that the starts of a link make: the root at 0, then each function where the piece before it ends.
-- Assumes nothing.
use Rattle.std.specs.Prelude.{◌≡◌, cond, List, [], ◌∷◌, ◌++◌, ℕ, zero, suc, ◌+◌, ◌*◌, ◌≤◌, ◌<◌, eqb, ltb, length, get_or}
use Rattle.std.proofs.Math.Option.{Option, none, some}
use Rattle.rules.specs.declared.Table.TheVariants.{Functions}
use Rattle.rules.specs.Bytes.{little, bytes4, splice}
use Rattle.rules.specs.Faithful.{Piece, piece}
use Rattle.rules.specs.Lookups.{Sound}
use Rattle.rules.specs.Pieces.{piece_size, pieces_bytes}
use Rattle.rules.specs.Rows.{whole_rows, function_slots, first_from, most_image_slots}

-- a row of a list
unfoldable pub piece_bytes : ℕ → ℕ → List ℕ
piece_bytes row start = bytes4 little row ++ bytes4 little start

-- the first of n functions that starts there
unfoldable pub row_at : List ℕ → ℕ → ℕ → Option ℕ
row_at starts n at = first_from (λ row. eqb (get_or starts row 0) at) 0 n

-- a function that starts there, and those after it; nothing where no function does
abbrev pub and_next : Option ℕ → ℕ → (ℕ → List Piece) → List Piece
and_next none at next = []
and_next (some row) at next = piece row at ∷ next row

-- the pieces from `at` to `end`, at most `most` of them
unfoldable pub in_order : (ℕ → ℕ) → List ℕ → ℕ → ℕ → ℕ → ℕ → List Piece
in_order slots starts n end zero at = []
in_order slots starts n end (suc most) at =
    cond (ltb at end) (and_next (row_at starts n at) at (λ row. in_order slots starts n end most (at + slots row))) []

-- the list of a link of that root, from the starts and the image's slots: at most each function, and the root's first piece
abbrev pub list_from : List ℕ → List ℕ → ℕ → ℕ → List Piece
list_from functions starts root end =
    piece root 0
    ∷ in_order (function_slots functions) starts (whole_rows Functions functions) end (whole_rows Functions functions) (function_slots functions root)

-- a checked table 3, a row of it, an image that is one, and room for each function and for the root's first piece
pub record Lists (functions : List ℕ) (root end : ℕ) (out : List ℕ) : Type 0 where
  pub sound : Sound Functions functions
  pub root_in : root < whole_rows Functions functions
  pub few : end ≤ most_image_slots
  pub room : piece_size * suc (whole_rows Functions functions) ≤ length out

pub record Puts (functions starts : List ℕ) (root end : ℕ) (before after : List ℕ) (count : ℕ) : Type 0 where
  pub written : after ≡ splice before 0 (pieces_bytes (list_from functions starts root end))
  pub counted : count ≡ length (list_from functions starts root end)
