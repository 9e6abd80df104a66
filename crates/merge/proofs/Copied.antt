-- What is copied as bytes is what the definitions say of a row.
-- Assumes nothing.
use mathlib.Core.Path.{◌≡◌, sym}
use mathlib.Core.List.{List, map}
use Prim.Native.Nat.{ℕ, ◌+◌, ◌*◌, ◌≤◌}
use lib.ListN.{length, take, drop}
use Rattle.rules.specs.Bytes.{little, AreBytes}
use Rattle.rules.specs.Rows.{function_slots, function_func_info, function_line_info, summed, func_info_row, line_info_row}
use Rattle.rules.specs.Link.{run}
use Rattle.rules.specs.Records.{started_at, rebased, first_slot}
use Rattle.rules.specs.Entries.{func_info_bytes, line_info_bytes}
use Rattle.merge.specs.Merge.{slot_bytes, func_bytes, line_bytes, func_rows, line_rows}
use Rattle.merge.proofs.Laws.{func_bytes_part, line_bytes_part}

module _ (functions : List ℕ) (row : ℕ) (t : List ℕ) (first count : ℕ) where
  pub slots_copied : first ≡ summed (function_slots functions) 0 row → count ≡ function_slots functions row → take (8 * count) (drop (8 * first) t) ≡ slot_bytes functions t row
  unfolding slot_bytes
  slots_copied e f = rw (e, f)

  pub funcs_moved : (start : ℕ) → first ≡ summed (function_func_info functions) 0 row → count ≡ function_func_info functions row
      → func_info_bytes little (map (started_at start) (run (func_info_row little t) first count)) ≡ func_bytes functions t row start
  unfolding func_bytes
  funcs_moved start e f = rw (e, f)

  pub lines_moved : (start : ℕ) → first ≡ summed (function_line_info functions) 0 row → count ≡ function_line_info functions row
      → line_info_bytes little (map (rebased (first_slot (run (line_info_row little t) first count)) start) (run (line_info_row little t) first count)) ≡ line_bytes functions t row start
  unfolding line_bytes
  lines_moved start e f = rw (e, f)

  module _ (are : AreBytes t) where
    pub funcs_copied : first ≡ summed (function_func_info functions) 0 row → count ≡ function_func_info functions row → 8 * (first + count) ≤ length t
        → take (8 * count) (drop (8 * first) t) ≡ func_info_bytes little (func_rows functions t row)
    funcs_copied e f l = rw (← e, ← f) (sym (func_bytes_part t are first count l))

    pub lines_copied : first ≡ summed (function_line_info functions) 0 row → count ≡ function_line_info functions row → 16 * (first + count) ≤ length t
        → take (16 * count) (drop (16 * first) t) ≡ line_info_bytes little (line_rows functions t row)
    lines_copied e f l = rw (← e, ← f) (sym (line_bytes_part t are first count l))
