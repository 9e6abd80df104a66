-- A record that there is ends within the data; before that the definition too has nothing.
use mathlib.Core.Path.{◌≡◌, sym, ap, ◌∙◌}
use mathlib.Core.Bool.{true, false}
use Prim.Native.Nat.{ℕ, ◌+◌, ◌-◌, ◌*◌}
use native.Mathlib.Omega.{arith}
use native.Mathlib.Nat.{add_comm}
use lib.ListN.{take, drop}
use Rattle.rules.specs.Bytes.{little}
use Rattle.rules.specs.Readers.{has_record, record_part}
use Rattle.info.specs.Promises.{table_in, info_in}
use Rattle.info.proofs.Whole.{record_within}
use Rattle.info.proofs.Records.record.Goals.{Else-not-has_record}
use Rattle.info.proofs.Records.record.Goals as goal

there : (c : Else-not-has_record) → has_record little (table_in c.args.self) (info_in c.args.self) c.args.k ≡ true
there c = sym c.has_record.ensures ∙ c.if-not-has_record.false

pub returns-then-not-has_record : goal.returns-then-not-has_record
unfolding record_part
returns-then-not-has_record c = record {
  bytes = simp (sym c.has_record.ensures ∙ c.if-not-has_record.true);
  stands = λ h. let z : true ≡ false = sym h ∙ sym c.has_record.ensures ∙ c.if-not-has_record.true in cc;
}

pub slice_bounds-result-end-2 : goal.slice_bounds-result-end-2
slice_bounds-result-end-2 c = record_within little (table_in c.args.self) (info_in c.args.self) c.args.k (there (goal.at.slice_bounds-result-end-2 c).Else-not-has_record)

pub returns : goal.returns
unfolding record_part
returns c =
    let a = c.args in
    let r = a.self in
    let e : r.size * a.k + r.size - r.size * a.k ≡ r.size = omega arith in
    record {
      bytes = simp (there (goal.at.returns c).Else-not-has_record) (ap (λ (n : ℕ). take n (drop (r.size * a.k) r.bytes.now)) e);
      stands = λ h. ap (λ (n : ℕ). (r.bytes.ref_ptr.0, n)) (add_comm (r.size * a.k) r.bytes.ref_ptr.1);
    }
