-- What an answer is told with: lines of a text, by document 01's table "Numbers returned" and, from 32 on, ours (rules, specs/Answers). And a
-- number in digits.
-- Assumes nothing.
use Rattle.std.specs.Prelude.{Bool, cond, ◌||◌, Option, None, Some, List, [], ◌∷◌, ℕ, ◌+◌, ◌-◌, ◌*◌, eqb, ltb, get_or}
use Rattle.tell.specs.declared.words.Told.{Told}
use Rattle.tell.specs.Text.{table_line, end_line, row_line, slot_line, call_line, function_line, record_line, after_line, over_line, piece_line, starts_line, ends_line, piece_slot_line, names_line, piece_record_line, blank_line}

-- ---- an answer

-- the line that says why
abbrev pub reason_line : ℕ → ℕ
reason_line n = cond (ltb 31 n) (n - 17) n

-- by that line, the one that names the places: 2 a row; 3 to 9 function and slot; 10 caller and slot; 11 a function; 12 function and line record.
-- Then 34 whole rows; 36 piece and function; 37 and 38 pieces and a slot of the image; 39 piece, slot and slot of the image; 40 and 41 piece,
-- slot and function; 42 and 43 piece, record and record of the image; 44 a record
abbrev pub place_lines : List ℕ
place_lines =
    end_line ∷ end_line ∷ row_line ∷ slot_line ∷ slot_line ∷ slot_line ∷ slot_line ∷ slot_line ∷ slot_line ∷ slot_line ∷ call_line ∷ function_line ∷ record_line ∷ end_line ∷ end_line
    ∷ end_line ∷ end_line ∷ after_line ∷ end_line ∷ piece_line ∷ starts_line ∷ ends_line ∷ piece_slot_line ∷ names_line ∷ names_line ∷ piece_record_line ∷ piece_record_line ∷ over_line ∷ []

abbrev pub place_line : ℕ → ℕ
place_line k = get_or place_lines k end_line

-- 33, 34 and 44 name a run of what is shown: 6 to 9
abbrev pub names_run : ℕ → Bool
names_run n = eqb n 33 || (eqb n 34 || eqb n 44)

-- how it begins, done or refused; then "link: slots, function records, line records; map step: relocations applied", pieces for an examination, or the
-- reason and the places: 1 "table, 0"; 2 "table, row"; 3 to 9 "function, slot"; 10 "caller, slot"; 11 "function being added, 0"; 12
-- "function, record"
abbrev pub answer_lines : Told → ℕ → ℕ → ℕ → List ℕ
answer_lines t accepts refuses done =
    cond (eqb t.number 0) (accepts ∷ done ∷ blank_line ∷ blank_line ∷ blank_line ∷ [])
    (cond (ltb t.number 3)
    (refuses ∷ reason_line t.number ∷ table_line ∷ (table_line + t.a) ∷ place_line (reason_line t.number) ∷ [])
    (cond (names_run t.number)
    (refuses ∷ reason_line t.number ∷ (table_line + t.a) ∷ place_line (reason_line t.number) ∷ blank_line ∷ [])
    (refuses ∷ reason_line t.number ∷ place_line (reason_line t.number) ∷ blank_line ∷ blank_line ∷ [])))

-- three to each of those lines
abbrev pub answer_numbers : Told → ℕ → List ℕ
answer_numbers t root = root ∷ 0 ∷ 0 ∷ t.a ∷ t.b ∷ t.c ∷ t.a ∷ t.b ∷ t.c ∷ t.b ∷ 0 ∷ 0 ∷ t.b ∷ 0 ∷ 0 ∷ []

-- ---- decimal digits, one at least, that a u32 holds

-- 48 to 57 count 0 to 9
abbrev pub digit_of : ℕ → Option ℕ
digit_of b = cond (ltb b 48) None (cond (ltb 57 b) None (Some (b - 48)))

-- a digit after those that count n
abbrev pub add_digit : ℕ → Option ℕ → Option ℕ
add_digit n None = None
add_digit n (Some d) = cond (ltb 0xFFFF_FFFF (10 * n + d)) None (Some (10 * n + d))

abbrev pub go_on : Option ℕ → (ℕ → Option ℕ) → Option ℕ
go_on None f = None
go_on (Some n) f = f n

-- the digits that are left, after those that count n
unfoldable pub digits_in : ℕ → List ℕ → Option ℕ
digits_in n [] = Some n
digits_in n (b ∷ bs) = go_on (add_digit n (digit_of b)) (λ m. digits_in m bs)

unfoldable pub number_in : List ℕ → Option ℕ
number_in [] = None
number_in (b ∷ bs) = digits_in 0 (b ∷ bs)
