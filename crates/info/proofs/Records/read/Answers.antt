-- The output is wiped before the tests, which are the definition's, so that a refusal leaves zeros; past them the rows are put into the zeros.
use mathlib.Core.Path.{◌≡◌, sym, ap, ◌∙◌}
use mathlib.Core.Bool.{true}
use mathlib.Core.List.{[]}
use Prim.Native.Nat.{ℕ, ◌*◌, ◌≤◌, ◌<◌}
use native.Mathlib.Omega.{arith}
use lib.ListN.{length}
use Rattle.rules.specs.Bytes.{little, padded}
use Rattle.rules.specs.Rows.{row_size}
use Rattle.rules.specs.Readers.{Read, is_whole}
use Rattle.info.specs.Promises.{table_in, info_in}
use Rattle.info.proofs.Whole.{whole_size, whole_length, read_done, read_short, read_broken}
use Rattle.info.proofs.Written.{padded_none}
use Rattle.info.proofs.Records.read.Goals.{After-wipe, Else-not-is_whole, After-row_size-row}
use Rattle.info.proofs.Records.read.Goals as goal

zeros : (c : After-wipe) → c.wipe.new.out ≡ padded (length c.args.out.now) []
zeros c = c.wipe.ensures ∙ padded_none (length c.args.out.now)

whole : (c : Else-not-is_whole) → is_whole little (table_in c.args.self) (info_in c.args.self) ≡ true
whole c = sym c.is_whole.ensures ∙ c.if-not-is_whole.false

-- the rows' bytes as the code and the definition count them
rows_take : (c : After-row_size-row) → c.args.self.count * c.row_size-row.result ≡ c.args.self.count * row_size (table_in c.args.self)
rows_take c = ap (λ (n : ℕ). c.args.self.count * n) c.row_size-row.ensures.0

pub returns-then-not-is_whole : goal.returns-then-not-is_whole
returns-then-not-is_whole c =
    let r = c.args.self in
    let e = read_broken little (table_in r) (info_in r) (length c.args.out.now) (sym c.is_whole.ensures ∙ c.if-not-is_whole.true) in
    record { reply = c.refusal.ensures ∙ sym (ap (λ (v : Read). v.reply) e); out = zeros (goal.at.returns-then-not-is_whole c).After-wipe ∙ sym (ap (λ (v : Read). v.out) e) }

pub returns-then-out-self : goal.returns-then-out-self
returns-then-out-self c =
    let r = c.args.self in
    let short : length c.args.out.now < r.count * row_size (table_in r) = omega (arith, c.if-out-self.true, c.wipe.auto.out, rows_take (goal.at.returns-then-out-self c).After-row_size-row) in
    let e = read_short little (table_in r) (info_in r) (whole (goal.at.returns-then-out-self c).Else-not-is_whole) (length c.args.out.now) short in
    record { reply = c.refusal-then-out-self.ensures ∙ sym (ap (λ (v : Read). v.reply) e); out = zeros (goal.at.returns-then-out-self c).After-wipe ∙ sym (ap (λ (v : Read). v.out) e) }

pub put_rows-requires : goal.put_rows-requires
put_rows-requires c =
    let r = c.args.self in
    let w = whole (goal.at.put_rows-requires c).Else-not-is_whole in record {
      slot = omega (arith, c.row_size-row.ensures);
      record_holds = whole_size little (table_in r) (info_in r) w;
      data_holds = whole_length little (table_in r) (info_in r) w;
      output_holds = omega (arith, c.if-out-self.false, rows_take (goal.at.put_rows-requires c).After-row_size-row);
      zero_before = zeros (goal.at.put_rows-requires c).After-wipe ∙ ap (λ (n : ℕ). padded n []) (sym c.wipe.auto.out);
    }

pub returns : goal.returns
returns c =
    let r = c.args.self in
    let room : r.count * row_size (table_in r) ≤ length c.args.out.now = omega (arith, c.if-out-self.false, c.wipe.auto.out, rows_take (goal.at.returns c).After-row_size-row) in
    let e = read_done little (table_in r) (info_in r) (whole (goal.at.returns c).Else-not-is_whole) (length c.args.out.now) room in
    record { reply = sym (ap (λ (v : Read). v.reply) e); out = rw c.wipe.auto.out at c.put_rows.ensures ∙ sym (ap (λ (v : Read). v.out) e) }
