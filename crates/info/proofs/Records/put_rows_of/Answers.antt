-- A turn puts the row of the record with which the data left begins.
use mathlib.Core.Path.{◌≡◌, sym, ap, ◌∙◌}
use Prim.Native.Nat.{ℕ, ◌-◌, ◌*◌, ◌≤◌, ◌<◌}
use native.Mathlib.Omega.{arith}
use lib.ListN.{length, drop, length-drop, length-append}
use Rattle.std.proofs.Common.{rules}
use Rattle.rules.specs.Bytes.{little, padded}
use Rattle.rules.specs.Rows.{row_size}
use Rattle.rules.specs.Readers.{rows_of_records}
use Rattle.info.specs.Promises.{table_in, info_in}
use Rattle.info.proofs.Whole.{one_more_fits}
use Rattle.info.proofs.Written.{Within}
use Rattle.info.proofs.Chunks.{cut, turned, one_left, none_left}
use Rattle.info.proofs.Records.put_rows_of.Goals.{In-Some}
use Rattle.info.proofs.Records.put_rows_of.Goals as goal

within : (c : In-Some) → Within (table_in c.args.self) (info_in c.args.self)
within c k l =
    let r = c.args.self in
    omega (arith, one_more_fits r.size k r.count l, c.requires.ready.record_holds, c.requires.ready.data_holds)

pub loop-k-preserved : goal.loop-k-preserved
loop-k-preserved c =
    let r = c.args.self in
    let s = c.in-Some.ensures.steps in
    let f = c.loop-k.invariant.2 in
    let k = c.loop-k.k-iterator.count in
    let parts = cut (info_in r) k _ c.in-Some.record.now c.next.new.self.iter.rest.now f.left_is s.0.1.0 (s.0.1.1 ∙ f.sized) in
    let left : length c.loop-k.k-iterator.iter.rest.now ≡ length r.bytes.now - r.size * k = ap length f.left_is ∙ length-drop (r.size * k) r.bytes.now in
    let long : r.size ≤ length c.loop-k.k-iterator.iter.rest.now = simp s.0.1.0 (simp length-append (omega (arith, s.0.1.1, f.sized))) in
    let row_is : c.args.row ≡ row_size (table_in r) = c.requires.sized in
    let more : k < r.count = one_left (info_in r) k c.requires.ready.data_holds (omega (arith, c.requires.ready.record_holds, c.requires.ready.slot)) (omega (arith, c.requires.ready.record_holds, c.requires.ready.slot)) in (
      search rules,
      search rules,
      record {
        most = omega (arith, s.2);
        sized = s.0.0 ∙ f.sized;
        left_is = parts.1 ∙ ap (λ (n : ℕ). drop (r.size * n) r.bytes.now) (sym s.2);
        kept = c.copy.auto.out ∙ c.put_u32.auto.out ∙ f.kept;
        rows = turned little (table_in r) (info_in r) (within (goal.at.loop-k-preserved c).In-Some) (length c.args.out.now) c.args.row k c.in-Some.k c.slot_in.result c.in-Some.record.now
            c.loop-k.out c.put_u32.new.out c.copy.new.out row_is s.1 c.requires.ready.record_holds parts.0 c.slot_in.ensures f.rows c.put_u32.ensures c.copy.ensures more
            (rw row_is (omega (arith, one_more_fits (row_size (table_in r)) k r.count more, c.requires.ready.output_holds)))
            ∙ ap (λ (n : ℕ). padded (length c.args.out.now) (rows_of_records little (table_in r) (info_in r) 0 n)) (sym s.2);
      },
    )

pub returns : goal.returns
returns c =
    let f = c.loop-k.invariant.2 in
    let s = c.in-None.ensures.steps in
    let r = c.args.self in
    let k = c.loop-k.k-iterator.count in
    let left : length c.loop-k.k-iterator.iter.rest.now ≡ length r.bytes.now - r.size * k = ap length f.left_is ∙ length-drop (r.size * k) r.bytes.now in
    let end : k ≡ r.count = none_left (info_in r) k c.requires.ready.data_holds (omega (arith, s.0.1.0, f.sized)) f.most in
    f.rows ∙ ap (λ (n : ℕ). padded (length c.args.out.now) (rows_of_records little (table_in r) (info_in r) 0 n)) end
