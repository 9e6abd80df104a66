-- Rows of table 2 as their bytes, and how much of them is laid out for a link to read.
-- Assumes nothing.
use Rattle.std.specs.Prelude.{cond, List, [], ◌∷◌, ◌++◌, ℕ, suc, ◌*◌, ◌/◌, ◌%◌, ltb, length, take}
use Rattle.rules.specs.declared.Table.TheVariants.{Symbols}
use Rattle.rules.specs.Link.{run}
use Rattle.rules.specs.Bytes.{little, byte_at, bytes4, splice}
use Rattle.rules.specs.Rows.{row_size, most_rows}
use Rattle.symbols.specs.declared.Symbol.{Symbol}

-- a u64, least byte first
abbrev pub bytes8 : ℕ → List ℕ
bytes8 n = bytes4 little (n % 0x1_0000_0000) ++ bytes4 little (n / 0x1_0000_0000)

-- "index u32, section u32 or none, address u64, kind u8 (0 other, 1 Text, 2 Section), 7 padding"
unfoldable pub row_bytes : Symbol → List ℕ
row_bytes s = bytes4 little s.index ++ (bytes4 little s.section ++ (bytes8 s.address ++ (s.kind ∷ run (byte_at s.padding) 0 7)))

-- the table of the same rows as bytes
unfoldable pub bytes_of : List Symbol → List ℕ
bytes_of [] = []
bytes_of (s ∷ ss) = row_bytes s ++ bytes_of ss

-- the rows that a link has to see: one over the limit gives refusal 1, whatever follows
abbrev pub rows_needed : ℕ → ℕ
rows_needed count = cond (ltb (suc (most_rows Symbols)) count) (suc (most_rows Symbols)) count

-- room for the most of them
abbrev pub rows_room : ℕ
rows_room = row_size Symbols * suc (most_rows Symbols)

-- what a lent buffer holds with them laid out: the rest is as it was
unfoldable pub laid_in : List Symbol → List ℕ → List ℕ
laid_in rows out = splice out 0 (bytes_of (take (rows_needed (length rows)) rows))
