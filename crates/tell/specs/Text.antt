-- The lines of the tool's text by number, as its promises name them (src/text.rt has the text, and the numbers for code).
-- Assumes nothing.
use Rattle.std.specs.Prelude.{ℕ}

-- lines 1 to 27 say why: the numbers 1 to 14, then 32 to 44

-- a table by its number; its name stands so many lines further on, and that of the list of pieces 9
abbrev pub table_line : ℕ
table_line = 35

-- ---- the places of a refusal

abbrev pub end_line : ℕ
end_line = 45

abbrev pub row_line : ℕ
row_line = 46

abbrev pub slot_line : ℕ
slot_line = 47

abbrev pub call_line : ℕ
call_line = 48

abbrev pub function_line : ℕ
function_line = 49

abbrev pub record_line : ℕ
record_line = 50

-- ---- and of what an examiner finds

abbrev pub after_line : ℕ
after_line = 51

abbrev pub over_line : ℕ
over_line = 52

abbrev pub piece_line : ℕ
piece_line = 53

abbrev pub starts_line : ℕ
starts_line = 54

abbrev pub ends_line : ℕ
ends_line = 55

abbrev pub piece_slot_line : ℕ
piece_slot_line = 56

abbrev pub names_line : ℕ
names_line = 57

abbrev pub piece_record_line : ℕ
piece_record_line = 58

-- ---- a slot of the image

abbrev pub bytes_line : ℕ
bytes_line = 59

abbrev pub copy_line : ℕ
copy_line = 60

abbrev pub no_copy_line : ℕ
no_copy_line = 61

abbrev pub source_line : ℕ
source_line = 62

abbrev pub no_source_line : ℕ
no_source_line = 63

-- ---- nothing

abbrev pub blank_line : ℕ
blank_line = 84
