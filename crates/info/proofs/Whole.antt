-- What the tests settle: that every record lies within the data; which of its three answers a reader gives.
-- Assumes nothing.
use mathlib.Core.Path.{◌≡◌, refl}
use mathlib.Core.Bool.{Bool, true, false, ◌&&◌}
use mathlib.Core.List.{[]}
use Prim.Native.Nat.{ℕ, zero, suc, ◌+◌, ◌*◌, ◌%◌, ◌≤◌, ◌<◌}
use native.Mathlib.Omega.{arith}
use native.Mathlib.Nat.{mul-le-mul_left, mul_comm, mul-suc, zero-add, add-zero}
use native.Mathlib.Numerals.{add-one}
use borrow.Author.Tests.{eqb-true, leb-true, ltb-true, le-leb, lt-leb}
use lib.Dec.{leb, ltb, eqb}
use lib.ListN.{length}
use Rattle.rules.specs.declared.Table.{Table}
use Rattle.rules.specs.Bytes.{Order, u32_at, padded}
use Rattle.rules.specs.Answers.{reply}
use Rattle.rules.specs.Rows.{row_size}
use Rattle.rules.specs.Readers.{Info, on_grid, is_whole, has_record, rows_of_records, read, read_records}

-- piece k ends within n pieces
pub one_more_fits : (size k n : ℕ) → k < n → size * k + size ≤ n * size
one_more_fits size k n h = rw (mul_comm n size) (omega (arith, mul-suc size k, mul-le-mul_left size h))

pub next : (size k : ℕ) → size * k + size ≡ size * (k + 1)
next size k = rw (add-one k) (omega (arith, mul-suc size k))

both : (a b : Bool) → a && b ≡ true → (a ≡ true) × (b ≡ true)
both true b e = (refl, e)
both false b e = cc

grid_at : (order : Order) (info : Info) (k n i : ℕ) → on_grid order info k n ≡ true → i < n
    → u32_at order info.bytes (info.size * (k + i)) % 8 ≡ 0
grid_at order info k zero i e l = absurd (omega arith)
grid_at order info k (suc n) zero e l =
    rw (add-zero k) (eqb-true _ _ (both (eqb (u32_at order info.bytes (info.size * k) % 8) 0) (on_grid order info (suc k) n) e).0)
grid_at order info k (suc n) (suc i) e l =
    let s : k + suc i ≡ suc k + i = omega arith in
    rw s (grid_at order info (suc k) n i (both (eqb (u32_at order info.bytes (info.size * k) % 8) 0) (on_grid order info (suc k) n) e).1 (omega arith))

module _ (order : Order) (table : Table) (info : Info) (whole : is_whole order table info ≡ true) where
  tests : (leb (row_size table) info.size ≡ true) × ((eqb (info.count * info.size) (length info.bytes) ≡ true) × (on_grid order info 0 info.count ≡ true))
  unfolding is_whole
  tests =
      let p = both (leb (row_size table) info.size) (eqb (info.count * info.size) (length info.bytes) && on_grid order info 0 info.count) whole in
      (p.0, both (eqb (info.count * info.size) (length info.bytes)) (on_grid order info 0 info.count) p.1)

  pub whole_size : row_size table ≤ info.size
  whole_size = leb-true _ _ tests.0

  pub whole_length : info.count * info.size ≡ length info.bytes
  whole_length = eqb-true _ _ tests.1.0

  pub whole_grid : (k : ℕ) → k < info.count → u32_at order info.bytes (info.size * k) % 8 ≡ 0
  whole_grid k l = rw zero-add at (grid_at order info 0 info.count k tests.1.1 l)

  pub whole_within : (k : ℕ) → k < info.count → info.size * k + info.size ≤ length info.bytes
  whole_within k l = omega (arith, one_more_fits info.size k info.count l, whole_length)

  pub read_done : (room : ℕ) → info.count * row_size table ≤ room
      → read_records order table info room ≡ read (reply 0 info.count 0 0) (padded room (rows_of_records order table info 0 info.count))
  unfolding read_records
  read_done room h = simp (whole, le-leb _ _ h)

  pub read_short : (room : ℕ) → room < info.count * row_size table → read_records order table info room ≡ read (reply 11 0 0 0) (padded room [])
  unfolding read_records
  read_short room h = simp (whole, lt-leb _ _ h)

-- a record that there is ends within the data
pub record_within : (order : Order) (table : Table) (info : Info) (k : ℕ) → has_record order table info k ≡ true → info.size * k + info.size ≤ length info.bytes
record_within order table info k e =
    let p = both (is_whole order table info) (ltb k info.count) e in
    whole_within order table info p.0 k (ltb-true _ _ p.1)

pub read_broken : (order : Order) (table : Table) (info : Info) (room : ℕ) → is_whole order table info ≡ false
    → read_records order table info room ≡ read (reply 14 0 0 0) (padded room [])
unfolding read_records
read_broken order table info room e = simp e
