-- A tables file as it is held: eight u32 lengths, then tables 1 to 5, 7 and 8. Table 6 has a buffer of its own.
-- Assumes nothing.
use Rattle.std.specs.Prelude.{Bool, true, false, cond, List, [], ℕ, zero, suc, ◌+◌, ◌-◌, ◌*◌, eqb, leb, length, take, drop}
use Rattle.rules.specs.declared.Table.{Table}
use Rattle.rules.specs.Rows.{table_number}
use Rattle.rules.specs.Bytes.{little, u32_at}

-- how many tables stand before one
abbrev pub place_of : Table → ℕ
place_of table = table_number table - 1

-- the bytes of table i + 1
abbrev pub length_in : List ℕ → ℕ → ℕ
length_in file i = u32_at little file (4 * i)

-- and those that stand among the others
abbrev pub held_in : List ℕ → ℕ → ℕ
held_in file i = cond (eqb i 5) 0 (length_in file i)

-- where table i + 1 begins
unfoldable pub start_of : List ℕ → ℕ → ℕ
start_of file zero = 32
start_of file (suc i) = start_of file i + held_in file i

abbrev pub pick_bytes : Bool → List ℕ → List ℕ
pick_bytes true a = a
pick_bytes false a = []

-- its bytes, none where the file does not hold it whole
unfoldable pub table_in : List ℕ → ℕ → List ℕ
table_in file i = pick_bytes (leb (start_of file i + held_in file i) (length file)) (take (held_in file i) (drop (start_of file i) file))
