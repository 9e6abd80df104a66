-- Inputs of the record readers, and the two answers to each, ours and then the crate's, by computation: inside the readers' domain; and outside each
-- of its clauses, of function records and of line records.
-- Assumes nothing.
use mathlib.Core.Path.{◌≡◌, refl}
use mathlib.Core.List.{List, [], ◌∷◌, ◌++◌, map}
use Prim.Native.Nat.{ℕ, ◌≤◌}
use native.Mathlib.Omega.{arith}
use lib.ListN.{replicate}
use Rattle.rules.specs.Bytes.{Order, little, big, u32_at, bytes4, padded}
use Rattle.rules.specs.Tables.{FunctionRecord, LineRecord}
use Rattle.rules.specs.Answers.{Reply, reply}
use Rattle.rules.specs.Readers.{Info, Read, is_whole, read_records}
use Rattle.equality.specs.Crate.{Result, ok, err, panics, too_deep}
use Rattle.equality.specs.Info.{SecInfo, chunks, read_at, read_func_info, read_line_info, parse_func, parse_line, crate_func_info_bytes, crate_line_info_bytes}
use Rattle.equality.specs.Readers.{Records, func, line, table_of, RecordOf, crate_reads, crate_bytes, ReaderClause, record_size, whole_data, on_the_grid, has_room, ReaderHolds}

pub record ReaderInput : Type 0 where
  pub order : Order
  pub info : Info
  pub room : ℕ

abbrev input : Order → ℕ → ℕ → List ℕ → ℕ → ReaderInput
input order size count bytes room = record { order = order; info = record { size = size; count = count; bytes = bytes }; room = room }

-- records as .BTF.ext has them, with a byte offset
abbrev func_data : Order → ℕ → ℕ → List ℕ
func_data order offset kind = bytes4 order offset ++ bytes4 order kind

abbrev line_data : Order → ℕ → ℕ → ℕ → ℕ → List ℕ
line_data order offset file number column = bytes4 order offset ++ (bytes4 order file ++ (bytes4 order number ++ bytes4 order column))

abbrev tail : List ℕ
tail = 9 ∷ 9 ∷ 9 ∷ 9 ∷ []

-- one record, and two
abbrev one_func : List ℕ
one_func = func_data little 16 3

abbrev two_funcs : List ℕ
two_funcs = one_func ++ func_data little 0xFFFF_FFF8 0x0102_0304

abbrev one_line : List ℕ
one_line = line_data little 16 3 4 5

abbrev two_lines : List ℕ
two_lines = one_line ++ line_data little 0xFFFF_FFF8 0x0102_0304 6 0xFFFF_FFFF

-- no data; two records; with a tail, and an output that is longer than the rows; the same in the other order
abbrev pub inside : Records → List ReaderInput
inside func =
    input little 8 0 [] 0
    ∷ input little 8 2 two_funcs 16
    ∷ input little 12 2 (one_func ++ (tail ++ (func_data little 8 4 ++ tail))) 19
    ∷ input big 12 2 (func_data big 16 3 ++ (tail ++ (func_data big 8 4 ++ tail))) 16
    ∷ []
inside line =
    input little 16 0 [] 0
    ∷ input little 16 2 two_lines 32
    ∷ input little 20 2 (one_line ++ (tail ++ (line_data little 8 6 7 8 ++ tail))) 35
    ∷ input big 20 2 (line_data big 16 3 4 5 ++ (tail ++ (line_data big 8 6 7 8 ++ tail))) 32
    ∷ []

-- outside a clause, and inside the others
abbrev pub inputs_for : Records → ReaderClause → List ReaderInput
-- a size just too small, without data; size 0, without data and with a count; a size that cuts a record
inputs_for func record_size = input little 7 0 [] 0 ∷ input little 0 0 [] 0 ∷ input little 0 2 [] 16 ∷ input little 4 2 (func_data little 16 8) 16 ∷ []
inputs_for line record_size = input little 15 0 [] 0 ∷ input little 0 0 [] 0 ∷ input little 0 2 [] 32 ∷ input little 8 2 (line_data little 16 3 8 5) 32 ∷ []
-- a last record without its tail; a last record that is cut; a count above the records, and one below
inputs_for func whole_data =
    input little 12 2 (one_func ++ (tail ++ func_data little 8 4)) 16
    ∷ input little 8 2 (one_func ++ bytes4 little 8) 16
    ∷ input little 8 5 one_func 40
    ∷ input little 8 0 one_func 0
    ∷ []
inputs_for line whole_data =
    input little 20 2 (one_line ++ (tail ++ line_data little 8 6 7 8)) 32
    ∷ input little 16 2 (one_line ++ bytes4 little 8) 32
    ∷ input little 16 5 one_line 80
    ∷ input little 16 0 one_line 0
    ∷ []
-- a byte offset between two slots, of the first record and of the second
inputs_for func on_the_grid = input little 8 1 (func_data little 12 3) 8 ∷ input little 8 2 (one_func ++ func_data little 0xFFFF_FFFF 4) 16 ∷ []
inputs_for line on_the_grid = input little 16 1 (line_data little 12 3 4 5) 16 ∷ input little 16 2 (one_line ++ line_data little 0xFFFF_FFFF 6 7 8) 32 ∷ []
-- an output that lacks a byte, and none
inputs_for func has_room = input little 8 1 one_func 7 ∷ input little 8 2 two_funcs 0 ∷ []
inputs_for line has_room = input little 16 1 one_line 15 ∷ input little 16 2 two_lines 0 ∷ []

-- ---- what each answers

pub data Seen (A : Type 0) : Type 0 where
  -- ours: the reply, and the output
  wrote : Reply → List ℕ → Seen A
  -- the crate's: `num_info`, the records, their encoded bytes
  reads : ℕ → List A → List ℕ → Seen A
  panicked never : Seen A

abbrev seen_ours : {A : Type 0} → Read → Seen A
seen_ours r = wrote r.reply r.out

abbrev seen_crate : {A : Type 0} → (List A → List ℕ) → Result (SecInfo A) → Seen A
seen_crate bytes (ok s) = reads s.num_info s.info (bytes s.info)
seen_crate bytes (err e) = never
seen_crate bytes panics = panicked
seen_crate bytes too_deep = never

abbrev both : (t : Records) → ReaderInput → List (Seen (RecordOf t))
both t i =
    seen_ours (read_records i.order (table_of t) i.info i.room)
    ∷ seen_crate (crate_bytes t i.order) (crate_reads t i.order i.info)
    ∷ []

abbrev func_record_of : ℕ → ℕ → FunctionRecord
func_record_of slot kind = record { slot = slot; kind = kind }

abbrev line_record_of : ℕ → ℕ → ℕ → ℕ → LineRecord
line_record_of slot file number column = record { slot = slot; file = file; line = number; column = column }

-- numbers below 256 as four bytes each, little and big
abbrev small : List ℕ → List ℕ
small [] = []
small (n ∷ ns) = n ∷ 0 ∷ 0 ∷ 0 ∷ small ns

abbrev small_big : List ℕ → List ℕ
small_big [] = []
small_big (n ∷ ns) = 0 ∷ 0 ∷ 0 ∷ n ∷ small_big ns

-- both read: the output is the crate's bytes, with zeros after them
abbrev equally : {A : Type 0} → ℕ → List A → List ℕ → ℕ → List (Seen A)
equally n records bytes zeros = wrote (reply 0 n 0 0) (bytes ++ replicate zeros 0) ∷ reads n records bytes ∷ []

-- ours refuses, with an output of zeros, and the crate ...
abbrev refused : {A : Type 0} → ℕ → ℕ → Seen A → List (Seen A)
refused number room crate = wrote (reply number 0 0 0) (replicate room 0) ∷ crate ∷ []

abbrev answers_inside : (t : Records) → List (List (Seen (RecordOf t)))
answers_inside func =
    equally 0 [] [] 0
    ∷ equally 2 (func_record_of 2 3 ∷ func_record_of 0x1FFF_FFFF 0x0102_0304 ∷ []) (small (2 ∷ 3 ∷ []) ++ (255 ∷ 255 ∷ 255 ∷ 31 ∷ 4 ∷ 3 ∷ 2 ∷ 1 ∷ [])) 0
    ∷ equally 2 (func_record_of 2 3 ∷ func_record_of 1 4 ∷ []) (small (2 ∷ 3 ∷ 1 ∷ 4 ∷ [])) 3
    ∷ equally 2 (func_record_of 2 3 ∷ func_record_of 1 4 ∷ []) (small_big (2 ∷ 3 ∷ 1 ∷ 4 ∷ [])) 0
    ∷ []
answers_inside line =
    equally 0 [] [] 0
    ∷ equally 2 (line_record_of 2 3 4 5 ∷ line_record_of 0x1FFF_FFFF 0x0102_0304 6 0xFFFF_FFFF ∷ [])
    (small (2 ∷ 3 ∷ 4 ∷ 5 ∷ []) ++ (255 ∷ 255 ∷ 255 ∷ 31 ∷ 4 ∷ 3 ∷ 2 ∷ 1 ∷ 6 ∷ 0 ∷ 0 ∷ 0 ∷ 255 ∷ 255 ∷ 255 ∷ 255 ∷ [])) 0
    ∷ equally 2 (line_record_of 2 3 4 5 ∷ line_record_of 1 6 7 8 ∷ []) (small (2 ∷ 3 ∷ 4 ∷ 5 ∷ 1 ∷ 6 ∷ 7 ∷ 8 ∷ [])) 3
    ∷ equally 2 (line_record_of 2 3 4 5 ∷ line_record_of 1 6 7 8 ∷ []) (small_big (2 ∷ 3 ∷ 4 ∷ 5 ∷ 1 ∷ 6 ∷ 7 ∷ 8 ∷ [])) 0
    ∷ []

abbrev answers_to : (t : Records) → ReaderClause → List (List (Seen (RecordOf t)))
answers_to func record_size = refused 14 0 (reads 0 [] []) ∷ refused 14 0 panicked ∷ refused 14 16 panicked ∷ refused 14 16 panicked ∷ []
answers_to line record_size = refused 14 0 (reads 0 [] []) ∷ refused 14 0 panicked ∷ refused 14 32 panicked ∷ refused 14 32 panicked ∷ []
answers_to func whole_data =
    refused 14 16 (reads 2 (func_record_of 2 3 ∷ func_record_of 1 4 ∷ []) (small (2 ∷ 3 ∷ 1 ∷ 4 ∷ [])))
    ∷ refused 14 16 panicked
    ∷ refused 14 40 (reads 5 (func_record_of 2 3 ∷ []) (small (2 ∷ 3 ∷ [])))
    ∷ refused 14 0 (reads 0 (func_record_of 2 3 ∷ []) (small (2 ∷ 3 ∷ [])))
    ∷ []
answers_to line whole_data =
    refused 14 32 (reads 2 (line_record_of 2 3 4 5 ∷ line_record_of 1 6 7 8 ∷ []) (small (2 ∷ 3 ∷ 4 ∷ 5 ∷ 1 ∷ 6 ∷ 7 ∷ 8 ∷ [])))
    ∷ refused 14 32 panicked
    ∷ refused 14 80 (reads 5 (line_record_of 2 3 4 5 ∷ []) (small (2 ∷ 3 ∷ 4 ∷ 5 ∷ [])))
    ∷ refused 14 0 (reads 0 (line_record_of 2 3 4 5 ∷ []) (small (2 ∷ 3 ∷ 4 ∷ 5 ∷ [])))
    ∷ []
answers_to func on_the_grid =
    refused 14 8 (reads 1 (func_record_of 1 3 ∷ []) (small (1 ∷ 3 ∷ [])))
    ∷ refused 14 16 (reads 2 (func_record_of 2 3 ∷ func_record_of 0x1FFF_FFFF 4 ∷ []) (small (2 ∷ 3 ∷ []) ++ (255 ∷ 255 ∷ 255 ∷ 31 ∷ small (4 ∷ []))))
    ∷ []
answers_to line on_the_grid =
    refused 14 16 (reads 1 (line_record_of 1 3 4 5 ∷ []) (small (1 ∷ 3 ∷ 4 ∷ 5 ∷ [])))
    ∷ refused 14 32 (reads 2 (line_record_of 2 3 4 5 ∷ line_record_of 0x1FFF_FFFF 6 7 8 ∷ []) (small (2 ∷ 3 ∷ 4 ∷ 5 ∷ []) ++ (255 ∷ 255 ∷ 255 ∷ 31 ∷ small (6 ∷ 7 ∷ 8 ∷ []))))
    ∷ []
answers_to func has_room =
    refused 11 7 (reads 1 (func_record_of 2 3 ∷ []) (small (2 ∷ 3 ∷ [])))
    ∷ refused 11 0 (reads 2 (func_record_of 2 3 ∷ func_record_of 0x1FFF_FFFF 0x0102_0304 ∷ []) (small (2 ∷ 3 ∷ []) ++ (255 ∷ 255 ∷ 255 ∷ 31 ∷ 4 ∷ 3 ∷ 2 ∷ 1 ∷ [])))
    ∷ []
answers_to line has_room =
    refused 11 15 (reads 1 (line_record_of 2 3 4 5 ∷ []) (small (2 ∷ 3 ∷ 4 ∷ 5 ∷ [])))
    ∷ refused 11 0 (reads 2 (line_record_of 2 3 4 5 ∷ line_record_of 0x1FFF_FFFF 0x0102_0304 6 0xFFFF_FFFF ∷ [])
    (small (2 ∷ 3 ∷ 4 ∷ 5 ∷ []) ++ (255 ∷ 255 ∷ 255 ∷ 31 ∷ 4 ∷ 3 ∷ 2 ∷ 1 ∷ 6 ∷ 0 ∷ 0 ∷ 0 ∷ 255 ∷ 255 ∷ 255 ∷ 255 ∷ [])))
    ∷ []

pub answered_inside : (t : Records) → map (both t) (inside t) ≡ answers_inside t
unfolding u32_at padded is_whole read_records chunks read_at read_func_info read_line_info parse_func parse_line crate_func_info_bytes crate_line_info_bytes
answered_inside func = refl
answered_inside line = refl

pub answered : (t : Records) (x : ReaderClause) → map (both t) (inputs_for t x) ≡ answers_to t x
unfolding u32_at padded is_whole read_records chunks read_at read_func_info read_line_info parse_func parse_line crate_func_info_bytes crate_line_info_bytes
answered func record_size = refl
answered func whole_data = refl
answered func on_the_grid = refl
answered func has_room = refl
answered line record_size = refl
answered line whole_data = refl
answered line on_the_grid = refl
answered line has_room = refl

-- ---- each clause, applied to an input outside it, is absurd by computation
abbrev Outside : ReaderClause → Records → ReaderInput → Type 0
Outside c t i = ReaderHolds c t i.order i.info i.room → ⊥

pub excluded_size : Outside record_size func (input little 7 0 [] 0) × Outside record_size line (input little 15 0 [] 0)
excluded_size = (λ h. let e : 8 ≤ 7 = h in omega arith, λ h. let e : 16 ≤ 15 = h in omega arith)

pub excluded_data : Outside whole_data func (input little 8 5 one_func 40) × Outside whole_data line (input little 16 5 one_line 80)
excluded_data = (λ h. let e : ◌≡◌ {A = ℕ} 40 8 = h in omega arith, λ h. let e : ◌≡◌ {A = ℕ} 80 16 = h in omega arith)

pub excluded_offset : Outside on_the_grid func (input little 8 1 (func_data little 12 3) 8)
    × Outside on_the_grid line (input little 16 1 (line_data little 12 3 4 5) 16)
unfolding u32_at
excluded_offset = (λ h. let e : ◌≡◌ {A = ℕ} 4 0 = h 0 (omega arith) in omega arith, λ h. let e : ◌≡◌ {A = ℕ} 4 0 = h 0 (omega arith) in omega arith)

pub excluded_room : Outside has_room func (input little 8 1 one_func 7) × Outside has_room line (input little 16 1 one_line 15)
excluded_room = (λ h. let e : 8 ≤ 7 = h in omega arith, λ h. let e : 16 ≤ 15 = h in omega arith)
