-- What stands beside a slot of an image.
-- Assumes nothing.
use Rattle.std.specs.Prelude.{◌≡◌, Bool, true, false, cond, Option, None, Some, List, [], ◌∷◌, ℕ, zero, suc, ◌+◌, ◌-◌, ◌*◌, ◌/◌, ◌≤◌, eqb, leb, ltb, length}
use Rattle.rules.specs.declared.Table.TheVariants.{LineInfo}
use Rattle.rules.specs.Bytes.{little, u32_at}
use Rattle.rules.specs.Rows.{row_size, whole_rows}
use Rattle.rules.specs.Pieces.{piece_size, piece_row, piece_start}
use Rattle.tell.specs.Text.{bytes_line, copy_line, no_copy_line, source_line, no_source_line, blank_line}
use Rattle.tell.specs.declared.listing.Source.{Source}
use Rattle.tell.specs.declared.listing.Line.{Line}

abbrev pub pick_found : Bool → Option ℕ → Option ℕ → Option ℕ
pick_found true a b = a
pick_found false a b = b

-- of the n records of `size` bytes from record `from` on, the last whose slot, which it has at `key`, is at most `slot`
unfoldable pub last_at : List ℕ → ℕ → ℕ → ℕ → ℕ → ℕ → Option ℕ
last_at records size key from slot zero = None
last_at records size key from slot (suc n) =
    pick_found (leb (u32_at little records (size * (from + n) + key)) slot) (Some (from + n)) (last_at records size key from slot n)

-- a record that was found stands in the bytes whole, and at or before the slot
abbrev pub Stands : ℕ → ℕ → List ℕ → ℕ → Option ℕ → Type 0
Stands size key records slot (Some k) = (size * k + size ≤ length records) × (u32_at little records (size * k + key) ≤ slot)
Stands size key records slot None = Unit {0}

-- the piece that a slot belongs to: the last that starts at or before it
unfoldable pub piece_at : List ℕ → ℕ → Option ℕ
piece_at pieces slot = last_at pieces piece_size 4 0 slot (length pieces / piece_size)

-- the last line record at or before a slot of the piece at `start`: of the root's `own` records for a slot of the root, else of those
-- after them
unfoldable pub line_at : List ℕ → ℕ → ℕ → ℕ → Option ℕ
line_at lines own start slot =
    pick_found (eqb start 0)
    (last_at lines (row_size LineInfo) 0 0 slot (cond (ltb own (whole_rows LineInfo lines)) own (whole_rows LineInfo lines)))
    (last_at lines (row_size LineInfo) 0 own slot (whole_rows LineInfo lines - own))

-- the function of that piece, where the piece starts, and the function's slot
abbrev pub source_of : List ℕ → ℕ → Option ℕ → Option Source
source_of pieces slot (Some k) = Some (record { function = piece_row pieces k; start = piece_start pieces k; slot = slot - piece_start pieces k })
source_of pieces slot None = None

unfoldable pub source_at : List ℕ → ℕ → Option Source
source_at pieces slot = source_of pieces slot (piece_at pieces slot)

abbrev pub pick_line : Bool → Option Line → Option Line → Option Line
pick_line true a b = a
pick_line false a b = b

-- "slot, file, line, column"; a record that stands before the piece's start is another piece's
abbrev pub line_in : List ℕ → ℕ → Option ℕ → Option Line
line_in lines start (Some k) =
    pick_line (ltb (u32_at little lines (row_size LineInfo * k)) start) None
    (Some (record { file = u32_at little lines (row_size LineInfo * k + 4); line = u32_at little lines (row_size LineInfo * k + 8); column = u32_at little lines (row_size LineInfo * k + 12) }))
line_in lines start None = None

unfoldable pub line_of : List ℕ → ℕ → ℕ → ℕ → Option Line
line_of lines own start slot = line_in lines start (line_at lines own start slot)

-- ---- a line of the listing, and three numbers to each line of the text

-- a copy's: "file, line, column", or that there is no line record
abbrev pub copy_lines : Option Line → List ℕ
copy_lines (Some place) = bytes_line ∷ copy_line ∷ source_line ∷ blank_line ∷ blank_line ∷ []
copy_lines None = bytes_line ∷ copy_line ∷ no_source_line ∷ blank_line ∷ blank_line ∷ []

abbrev pub copy_numbers : ℕ → ℕ → ℕ → ℕ → ℕ → Option Line → List ℕ
copy_numbers slot low high function from (Some place) =
    slot ∷ low ∷ high ∷ function ∷ from ∷ 0 ∷ place.file ∷ place.line ∷ place.column ∷ 0 ∷ 0 ∷ 0 ∷ 0 ∷ 0 ∷ 0 ∷ []
copy_numbers slot low high function from None = slot ∷ low ∷ high ∷ function ∷ from ∷ 0 ∷ 0 ∷ 0 ∷ 0 ∷ 0 ∷ 0 ∷ 0 ∷ 0 ∷ 0 ∷ 0 ∷ []

-- a slot's: its number and its two words, the function and slot that it is a copy of, its line record
abbrev pub RowOf : ℕ → List ℕ → ℕ → ℕ → ℕ → Option Source → List ℕ → List ℕ → Type 0
RowOf own records slot low high (Some source) lines numbers =
    (lines ≡ copy_lines (line_of records own source.start slot))
    × (numbers ≡ copy_numbers slot low high source.function source.slot (line_of records own source.start slot))
RowOf own records slot low high None lines numbers =
    (lines ≡ bytes_line ∷ no_copy_line ∷ blank_line ∷ blank_line ∷ blank_line ∷ []) × (numbers ≡ slot ∷ low ∷ high ∷ 0 ∷ 0 ∷ 0 ∷ 0 ∷ 0 ∷ 0 ∷ 0 ∷ 0 ∷ 0 ∷ 0 ∷ 0 ∷ 0 ∷ [])
