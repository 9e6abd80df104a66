-- A line of words: lines of a text, with numbers in the places that they keep for them. '#' keeps one for a number in decimal, '~' in
-- decimal as a column of four, '$' for its four bytes in hexadecimal, '%' for the same with a space before each; '^' stands for a line's end, and the text's own lines end in a line feed.
-- Assumes nothing.
use Rattle.std.specs.Prelude.{Bool, true, false, cond, not, ◌||◌, Option, None, Some, List, [], ◌∷◌, ◌++◌, ℕ, zero, suc, ◌+◌, ◌-◌, ◌/◌, ◌%◌, ◌^◌, eqb, leb, ltb, length, get_or, take, replicate}
use Rattle.tell.specs.declared.lines.Mark.{Mark}
use Rattle.tell.specs.declared.lines.Mark.TheVariants.{Decimal, Column, Bytes, Spaced}

-- the bytes that a line has room for
abbrev pub line_room : ℕ
line_room = 192

-- what is left of its room behind so many words
abbrev pub zeros_behind : ℕ → List ℕ
zeros_behind used = replicate (line_room - used) 0

-- a line's words are what they were, and `more`; what would stand past the end of its room is left out
unfoldable pub added : List ℕ → List ℕ → List ℕ
added more before = before ++ take (line_room - length before) more

-- ---- numbers

-- a digit, or what stands for a zero before the first digit: a space or nothing
abbrev pub place_of : Bool → Bool → ℕ → List ℕ
place_of true blank d = (48 + d) ∷ []
place_of false true d = 32 ∷ []
place_of false false d = []

-- whether digit k from the last is shown: one that was shown stands before it, it is none of 0, or it is the last
abbrev pub shows : Bool → ℕ → ℕ → Bool
shows begun k d = begun || not (eqb d 0) || eqb k 1

-- the last k digits; spaces stand in the last `width` places before the first that is shown
unfoldable pub numeral : ℕ → Bool → ℕ → ℕ → List ℕ
numeral zero begun width n = []
numeral (suc k) begun width n =
    place_of (shows begun (suc k) (n / 10 ^ k % 10)) (leb (suc k) width) (n / 10 ^ k % 10)
    ++ numeral k (shows begun (suc k) (n / 10 ^ k % 10)) width n

-- of a u32, in decimal
abbrev pub decimal : ℕ → ℕ → List ℕ
decimal width n = numeral 10 false width n

abbrev pub hex_of : ℕ → ℕ
hex_of d = cond (ltb d 10) (48 + d) (87 + d)

-- a byte, and a number's last k bytes, the least first
abbrev pub byte_words : ℕ → List ℕ
byte_words n = hex_of (n / 16 % 16) ∷ hex_of (n % 16) ∷ []

unfoldable pub bytes_words : ℕ → Bool → ℕ → List ℕ
bytes_words zero spaced n = []
bytes_words (suc k) spaced n = place_of false spaced 0 ++ (byte_words n ++ bytes_words k spaced (n / 256))

-- ---- a text's bytes

abbrev pub pick_mark : Bool → Mark → Option Mark → Option Mark
pick_mark true a b = Some a
pick_mark false a b = b

-- '#', '~', '$', '%'
abbrev pub mark_of : ℕ → Option Mark
mark_of t = pick_mark (eqb t 35) Decimal (pick_mark (eqb t 126) Column (pick_mark (eqb t 36) Bytes (pick_mark (eqb t 37) Spaced None)))

abbrev pub marked : Mark → ℕ → List ℕ
marked Decimal n = decimal 1 n
marked Column n = decimal 4 n
marked Bytes n = bytes_words 4 false n
marked Spaced n = bytes_words 4 true n

-- '^' stands for a line's end, any other byte but a mark for itself
abbrev pub plain : ℕ → ℕ
plain t = cond (eqb t 94) 10 t

abbrev pub piece_at : Option Mark → ℕ → ℕ → List ℕ
piece_at (Some mark) t n = marked mark n
piece_at None t n = plain t ∷ []

abbrev pub piece_of : ℕ → ℕ → List ℕ
piece_of t n = piece_at (mark_of t) t n

-- 1 for the mark of a number
abbrev pub takes_at : Option Mark → ℕ
takes_at (Some mark) = 1
takes_at None = 0

abbrev pub takes_of : ℕ → ℕ
takes_of t = takes_at (mark_of t)

-- 1 for the end of a text's line
abbrev pub ends_of : ℕ → ℕ
ends_of t = cond (eqb t 10) 1 0

-- what stands behind a text's first line
unfoldable pub behind : List ℕ → List ℕ
behind [] = []
behind (t ∷ ts) = cond (eqb t 10) ts (behind ts)

-- the text from its line k on
unfoldable pub line_from : List ℕ → ℕ → List ℕ
line_from [] k = []
line_from (t ∷ ts) k = cond (eqb k 0) (t ∷ ts) (line_from ts (k - ends_of t))

-- the words of a text's line, with the numbers from number j on
unfoldable pub words_in : List ℕ → List ℕ → ℕ → List ℕ
words_in [] numbers j = []
words_in (t ∷ ts) numbers j = cond (eqb t 10) [] (piece_of t (get_or numbers j 0) ++ words_in ts numbers (j + takes_of t))

-- lines of a text, one after the other, each with the next three numbers from number j on
unfoldable pub spoken : List ℕ → List ℕ → List ℕ → ℕ → List ℕ
spoken text [] numbers j = []
spoken text (k ∷ ks) numbers j = words_in (line_from text k) numbers j ++ spoken text ks numbers (j + 3)
