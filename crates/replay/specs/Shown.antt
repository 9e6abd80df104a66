-- The lines that are written.
-- Assumes nothing.
use Rattle.std.specs.Prelude.{List, [], ◌∷◌, ◌++◌, ℕ, ◌+◌, ◌*◌, ◌%◌, ◌/◌, ◌^◌, false, length, fold, flat_map, codes}
use Rattle.std.specs.Fmt.{decimal, digit_glyph}
use Rattle.replay.specs.declared.show.Answer.{Answer}
use Rattle.replay.specs.Input.{code_of}

-- s * 31 + byte for each byte, modulo 2^32, from 1
abbrev pub checksum : List ℕ → ℕ
checksum bytes = fold (λ s b. (s * 31 + b) % 2 ^ 32) 1 bytes

-- two digits for each byte
abbrev pub hex_digits : List ℕ → List ℕ
hex_digits bytes = flat_map (λ b. digit_glyph false (b / 16) ∷ digit_glyph false (b % 16) ∷ []) bytes

-- INDEX KIND NUMBER | places |
abbrev pub head_of : Answer → List ℕ
head_of a = decimal a.index ++ (codes " " ++ (decimal (code_of a.kind) ++ (codes " " ++ (decimal a.number ++ (codes " | " ++ (hex_digits a.places.now ++ codes " |"))))))

-- a link: the checksums of its three outputs
abbrev pub link_line : Answer → List ℕ → List ℕ → List ℕ → List ℕ
link_line a image funcs lines = head_of a ++ (codes " " ++ (decimal (checksum image) ++ (codes " " ++ (decimal (checksum funcs) ++ (codes " " ++ (decimal (checksum lines) ++ codes "\n"))))))

-- the map step, and a reader of all records: their output's
abbrev pub output_line : Answer → List ℕ → List ℕ
output_line a bytes = head_of a ++ (codes " " ++ (decimal (checksum bytes) ++ codes "\n"))

-- a reader of one record: the record's, and its length
abbrev pub record_line : Answer → List ℕ → List ℕ
record_line a found = head_of a ++ (codes " " ++ (decimal (checksum found) ++ (codes " " ++ (decimal (length found) ++ codes "\n"))))
