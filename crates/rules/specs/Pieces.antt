-- A list of pieces as bytes: rows of two little-endian u32, function row and start.
-- Assumes nothing.
use Rattle.std.specs.Prelude.{cond, List, [], ◌∷◌, ◌++◌, ℕ, zero, suc, ◌+◌, ◌-◌, ◌*◌, ◌/◌, eqb, length}
use Rattle.rules.specs.Faithful.{Piece, piece}
use Rattle.rules.specs.Link.{run}
use Rattle.rules.specs.Bytes.{little, u32_at, bytes4}

abbrev pub piece_size : ℕ
piece_size = 8

unfoldable pub piece_row : List ℕ → ℕ → ℕ
piece_row t k = u32_at little t (piece_size * k)

unfoldable pub piece_start : List ℕ → ℕ → ℕ
piece_start t k = u32_at little t (piece_size * k + 4)

abbrev pub piece_at : List ℕ → ℕ → Piece
piece_at t k = piece (piece_row t k) (piece_start t k)

-- the pieces of the whole rows
unfoldable pub pieces_of : List ℕ → List Piece
pieces_of t = run (piece_at t) 0 (length t / piece_size)

unfoldable pub pieces_bytes : List Piece → List ℕ
pieces_bytes [] = []
pieces_bytes (p ∷ ps) = bytes4 little p.row ++ (bytes4 little p.start ++ pieces_bytes ps)

-- where a list that has a row ends in a buffer with zero after it, as its reader tells: before the first row after row 0 whose start is 0, or
-- with the buffer. From row k on, n rows at most
abbrev pub rows_to : List ℕ → ℕ → ℕ → ℕ
rows_to t k zero = k
rows_to t k (suc n) = cond (eqb (piece_start t k) 0) k (rows_to t (suc k) n)

abbrev pub list_rows : List ℕ → ℕ
list_rows t = rows_to t 1 (length t / piece_size - 1)
