-- Demand 2 of the record readers: in their domain the crate reads, and our rows are its encoded bytes, of function records and of line records.
-- Assumes nothing.
use mathlib.Core.Path.{◌≡◌, refl, sym, ap, ◌∙◌}
use mathlib.Core.Bool.{true}
use mathlib.Core.List.{List, ◌∷◌}
use Prim.Native.Nat.{ℕ, zero, suc, ◌+◌, ◌-◌, ◌*◌, ◌%◌, ◌≤◌, ◌<◌}
use native.Mathlib.Omega.{arith}
use lib.ListN.{length, take, replicate}
use lib.Seq.{take_at}
use borrow.Author.Tests.{le-leb, lt-ltb, eq-eqb}
use Rattle.rules.specs.declared.Table.{Table}
use Rattle.rules.specs.Link.{run}
use Rattle.rules.specs.Bytes.{Order, u32_at, padded}
use Rattle.rules.specs.Answers.{reply}
use Rattle.rules.specs.Rows.{row_size, Offered, tables_of}
use Rattle.rules.specs.Readers.{Info, on_grid, is_whole, row_of_record, rows_of_records, read, read_records, record_part}
use Rattle.rules.proofs.Linking.{length_run}
use Rattle.equality.specs.Crate.{Result, ok, bind}
use Rattle.equality.specs.Info.{SecInfo, chunks, collect, parse, put_all, parse_func, parse_line, read_func_info, read_line_info, bytes_of_func, bytes_of_line, crate_func_info_bytes, crate_line_info_bytes}
use Rattle.equality.specs.Readers.{Records, func, line, table_of, RecordOf, crate_reads, crate_bytes, read_table, record_size, whole_data, on_the_grid, has_room, ReaderDomain, SameRecords, EqualRecords}
use Rattle.equality.proofs.Records.{chunk, chunks_are, collect_run, func_at, line_at, func_read, line_read, func_row, line_row, rows_run, func_bytes_long, line_bytes_long, func_back, line_back}

-- what the clauses say is what our tests ask
pub grid_passes : (order : Order) (info : Info) (k n : ℕ)
    → ((j : ℕ) → k ≤ j → j < k + n → u32_at order info.bytes (info.size * j) % 8 ≡ 0) → on_grid order info k n ≡ true
grid_passes order info k zero each = refl
grid_passes order info k (suc n) each =
    rw (each k (omega arith) (omega arith)) (grid_passes order info (suc k) n (λ j a b. each j (omega arith) (omega arith)))

module _ (order : Order) (table : Table) (info : Info) (room : ℕ) (fits : row_size table ≤ info.size) (whole : info.count * info.size ≡ length info.bytes)
    (grid : (k : ℕ) → k < info.count → u32_at order info.bytes (info.size * k) % 8 ≡ 0) (roomy : info.count * row_size table ≤ room) where
  ours_reads : read_records order table info room ≡ read (reply 0 info.count 0 0) (padded room (rows_of_records order table info 0 info.count))
  unfolding read_records is_whole
  ours_reads =
      rw (
        le-leb (row_size table) info.size fits,
        eq-eqb (info.count * info.size) (length info.bytes) whole,
        grid_passes order info 0 info.count (λ j a b. grid j (omega arith)),
        le-leb (info.count * row_size table) room roomy,
      )
      refl

-- the rows that the reply counts
used : (room n : ℕ) (rows : List ℕ) → length rows ≡ n → take n (padded room rows) ≡ rows
unfolding padded
used room n rows e = take_at rows (replicate (room - length rows) 0) n e

-- both tables, once: `at k` is record k, which the crate reads from chunk k, and its bytes are row k
module _ (t : Records) (order : Order) (info : Info) (room : ℕ) (domain : ReaderDomain t order info room) (fits : row_size (table_of t) ≤ info.size)
    (some_size : 0 < info.size) (read_one : List ℕ → Result (RecordOf t)) (bytes_of : RecordOf t → List ℕ) (at : ℕ → RecordOf t)
    (parses : crate_reads t order info ≡ parse read_one info.count info.size info.bytes)
    (reads : (k : ℕ) → k < info.count → read_one (chunk info.size info.bytes k) ≡ ok (at k))
    (puts : (rs : List (RecordOf t)) → crate_bytes t order rs ≡ put_all bytes_of rs)
    (rows : (k : ℕ) → k < info.count → bytes_of (at k) ≡ row_of_record order (table_of t) info k)
    (long : (rs : List (RecordOf t)) → length (crate_bytes t order rs) ≡ row_size (table_of t) * length rs)
    (back : (rs : List (RecordOf t)) → read_table t order (crate_bytes t order rs) ≡ rs) where
  abbrev records : List (RecordOf t)
  records = run at 0 info.count

  abbrev given : List (RecordOf t) → Result (SecInfo (RecordOf t))
  given rs = ok (record { num_info = info.count; info = rs })

  counted : length records ≡ info.count
  counted = length_run at 0 info.count

  parsed : crate_reads t order info ≡ given records
  parsed =
      parses
      ∙ ap (λ x. bind x (λ cs. bind (collect read_one cs) given)) (chunks_are info.size info.count info.bytes some_size (domain.holds whole_data tt))
      ∙ ap (λ x. bind x given) (collect_run read_one (chunk info.size info.bytes) at 0 info.count (λ j a b. reads j (omega arith)))

  ours : read_records order (table_of t) info room ≡ read (reply 0 info.count 0 0) (padded room (rows_of_records order (table_of t) info 0 info.count))
  ours = ours_reads order (table_of t) info room fits (domain.holds whole_data tt) (domain.holds on_the_grid tt) (domain.holds has_room tt)

  out : (read_records order (table_of t) info room).out ≡ padded room (crate_bytes t order records)
  out =
      ap (λ r. r.out) ours
      ∙ ap (padded room) (sym (puts records ∙ rows_run order (table_of t) info bytes_of at 0 info.count (λ j a b. rows j (omega arith))))

  same : SameRecords t order room (read_records order (table_of t) info room) (crate_reads t order info)
  same = record {
    sec_info = record { num_info = info.count; info = records };
    is_ok = parsed;
    num = sym counted;
    replied = ap (λ r. r.reply) ours;
    written = out;
    offered = ap (λ x. read_table t order (take (row_size (table_of t) * info.count) x)) out
        ∙ ap (read_table t order)
        (used room (row_size (table_of t) * info.count) (crate_bytes t order records) (long records ∙ ap (λ (n : ℕ). row_size (table_of t) * n) counted))
        ∙ back records;
  }

run_same : {A : Type 0} (f g : ℕ → A) (k n : ℕ) → ((j : ℕ) → k ≤ j → j < k + n → f j ≡ g j) → run f k n ≡ run g k n
run_same f g k zero each = refl
run_same f g k (suc n) each = rw (each k (omega arith) (omega arith)) (ap (λ x. g k ∷ x) (run_same f g (suc k) n (λ j a b. each j (omega arith) (omega arith))))

-- a record size has room for the fields
fields : (t : Records) (order : Order) (info : Info) (room : ℕ) → ReaderDomain t order info room → (row_size (table_of t) ≤ info.size) × (0 < info.size)
fields func order info room domain = (domain.holds record_size tt, omega (arith, domain.holds record_size tt))
fields line order info room domain = (domain.holds record_size tt, omega (arith, domain.holds record_size tt))

pub demand_2_readers : (t : Records) → EqualRecords (λ c. Unit {0}) t
unfolding parse_func parse_line crate_func_info_bytes crate_line_info_bytes
demand_2_readers func order info room domain =
    let f = fields func order info room domain in
    let whole = domain.holds whole_data tt in
    same func order info room domain f.0 f.1 (read_func_info order) (bytes_of_func order) (func_at order info) refl
    (λ k l. func_read order info f.1 whole k l f.0) (λ rs. refl) (λ k l. func_row order info f.1 whole domain.bytes k l f.0)
    (func_bytes_long order) (func_back order)
demand_2_readers line order info room domain =
    let f = fields line order info room domain in
    let whole = domain.holds whole_data tt in
    same line order info room domain f.0 f.1 (read_line_info order) (bytes_of_line order) (line_at order info) refl
    (λ k l. line_read order info f.1 whole k l f.0) (λ rs. refl) (λ k l. line_row order info f.1 whole domain.bytes k l f.0)
    (line_bytes_long order) (line_back order)

-- "record k, tail included, is given back as the part of the caller's data where it stands": it is the crate's chunk
pub record_parts : (t : Records) (order : Order) (info : Info) (room : ℕ) → ReaderDomain t order info room
    → chunks info.size info.bytes ≡ ok (run (record_part order (table_of t) info) 0 info.count)
unfolding record_part is_whole
record_parts t order info room domain =
    let f = fields t order info room domain in
    chunks_are info.size info.count info.bytes f.1 (domain.holds whole_data tt)
    ∙ ap ok (run_same (chunk info.size info.bytes) (record_part order (table_of t) info) 0 info.count (λ j a b. part j (omega arith)))
  where
    part : (k : ℕ) → k < info.count → chunk info.size info.bytes k ≡ record_part order (table_of t) info k
    part k l =
        rw (
          le-leb (row_size (table_of t)) info.size (fields t order info room domain).0,
          eq-eqb (info.count * info.size) (length info.bytes) (domain.holds whole_data tt),
          grid_passes order info 0 info.count (λ j a b. domain.holds on_the_grid tt j (omega arith)),
          lt-ltb k info.count l,
        )
        refl

-- `read_table` is how the link reads tables 7 and 8
pub table_7 : (order : Order) (o : Offered) → (tables_of order o).function_records ≡ read_table func order o.func_info
unfolding tables_of
table_7 order o = refl

pub table_8 : (order : Order) (o : Offered) → (tables_of order o).line_records ≡ read_table line order o.line_info
unfolding tables_of
table_8 order o = refl
