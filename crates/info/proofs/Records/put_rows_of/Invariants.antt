-- The invariant: the data left begins with record k, and the output holds the first k rows, and zero after them.
use mathlib.Core.Path.{◌≡◌}
use mathlib.Core.List.{List}
use Prim.Native.Nat.{ℕ, ◌*◌, ◌≤◌}
use lib.ListN.{length, drop}
use Rattle.rules.specs.declared.Table.{Table}
use Rattle.rules.specs.Bytes.{little, padded}
use Rattle.rules.specs.Readers.{Info, rows_of_records}
use Rattle.info.specs.Promises.{table_in, info_in}
use Rattle.info.proofs.Records.put_rows_of.Given as goal

pub record Far (table : Table) (info : Info) (first out left : List ℕ) (size k : ℕ) : Type 0 where
  pub most : k ≤ info.count
  pub sized : size ≡ info.size
  pub left_is : left ≡ drop (info.size * k) info.bytes
  pub kept : length out ≡ length first
  pub rows : out ≡ padded (length first) (rows_of_records little table info 0 k)

abbrev pub invariant-loop-k : goal.invariant-loop-k
invariant-loop-k l =
    (goal.iterator-loop-k).can_next l.k-iterator × (goal.iterator-loop-k).is_finite l.k-iterator
    × Far (table_in l.self) (info_in l.self) l.initial.out l.out l.k-iterator.iter.rest.now l.k-iterator.iter.size l.k-iterator.count
