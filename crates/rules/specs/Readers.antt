-- "Record readers" (kernel page on BTF, struct bpf_func_info and struct bpf_line_info): the rows of table 7 or 8 from .BTF.ext data.
-- Assumes nothing.
use Rattle.std.specs.Prelude.{Bool, true, cond, ◌&&◌, List, [], ◌++◌, ℕ, zero, suc, ◌+◌, ◌-◌, ◌*◌, ◌/◌, ◌%◌, eqb, leb, ltb, length, take, drop}
use Rattle.rules.specs.declared.Table.{Table}
use Rattle.rules.specs.Bytes.{Order, u32_at, bytes4, padded}
use Rattle.rules.specs.Answers.{Reply, reply}
use Rattle.rules.specs.Rows.{row_size}

-- what is given: "record size and count (u32) and data"
pub record Info : Type 0 where
  pub size : ℕ
  pub count : ℕ
  pub bytes : List ℕ

-- "a byte offset is not a multiple of 8": records k to k + n − 1 are on the grid
abbrev pub on_grid : Order → Info → ℕ → ℕ → Bool
on_grid order info k zero = true
on_grid order info k (suc n) = eqb (u32_at order info.bytes (info.size * k) % 8) 0 && on_grid order info (suc k) n

-- no 14: a size below 8 (function) or 16 (line), which are the rows' sizes; count × size the data length; on the grid
unfoldable pub is_whole : Order → Table → Info → Bool
is_whole order table info =
    leb (row_size table) info.size && (eqb (info.count * info.size) (length info.bytes) && on_grid order info 0 info.count)

-- "Slot = byte offset / 8. A longer record's tail is ignored": record k as a row
abbrev pub row_of_record : Order → Table → Info → ℕ → List ℕ
row_of_record order table info k =
    bytes4 order (u32_at order info.bytes (info.size * k) / 8) ++ take (row_size table - 4) (drop (info.size * k + 4) info.bytes)

abbrev pub rows_of_records : Order → Table → Info → ℕ → ℕ → List ℕ
rows_of_records order table info k zero = []
rows_of_records order table info k (suc n) = row_of_record order table info k ++ rows_of_records order table info (suc k) n

-- the reply, and what a lent output of `size` bytes then holds: "11 if it is too short, after 14. Refused: all zero. Accepted: zero after the rows"
pub record Read : Type 0 where
  pub reply : Reply
  pub out : List ℕ

abbrev pub read : Reply → List ℕ → Read
read r out = record { reply = r; out = out }

unfoldable pub read_records : Order → Table → Info → ℕ → Read
read_records order table info room =
    cond (is_whole order table info)
    (cond (leb (info.count * row_size table) room)
    (read (reply 0 info.count 0 0) (padded room (rows_of_records order table info 0 info.count)))
    (read (reply 11 0 0 0) (padded room [])))
    (read (reply 14 0 0 0) (padded room []))

-- "record k, tail included, is given back as the part of the caller's data where it stands; after the same 14 checks, k too large is 14"
abbrev pub has_record : Order → Table → Info → ℕ → Bool
has_record order table info k = is_whole order table info && ltb k info.count

unfoldable pub record_part : Order → Table → Info → ℕ → List ℕ
record_part order table info k = cond (has_record order table info k) (take info.size (drop (info.size * k) info.bytes)) []

-- "and a companion entry returns its number"
unfoldable pub record_reply : Order → Table → Info → ℕ → Reply
record_reply order table info k = cond (has_record order table info k) (reply 0 info.count 0 0) (reply 14 0 0 0)
