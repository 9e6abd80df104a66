-- Every entry tells an answer as the definition it was proved of says it: what is told follows the definition, not the answer.
-- Assumes nothing.
use mathlib.Core.Path.{◌≡◌, refl, sym, ap, ◌∙◌}
use mathlib.Core.Bool.{Bool, true, false, cond}
use mathlib.Core.List.{List, []}
use Prim.Native.Nat.{ℕ, ◌*◌}
use borrow.Author.Tests.{eq-eqb, ne_eqb}
use lib.Dec.{eqb}
use lib.ListN.{length, take, drop}
use Rattle.std.specs.Prelude.{Result}
use Rattle.rules.specs.declared.Places.{Places}
use Rattle.rules.specs.declared.Refusal.{Refusal}
use Rattle.rules.specs.declared.Table.{Table}
use Rattle.rules.specs.Bytes.{little}
use Rattle.rules.specs.Answers.{Reply, reply, reply_of, places_in}
use Rattle.rules.specs.Entries.{MapResult, LinkResult, PiecesResult}
use Rattle.rules.specs.Readers.{Info, read_records, has_record, record_part, record_reply}
use Rattle.info.specs.Promises.{ReadAs}
use Rattle.rules.specs.Lent.{Buffers}
use Rattle.linker.specs.declared.Listed.{Listed}
use Rattle.linker.specs.Linker.{Outcomes, list_answer, ListedOutcomes}
use Rattle.answers.specs.Told.{Told}
use Rattle.barkruffle.specs.Promises.{LinkTold, ListTold, MapTold, ReadTold, Placed, Stands}

-- three numbers written are the reply's places
pub told : {before after three : List ℕ} {r : ℕ} {x : Reply}
    → r ≡ x.number → three ≡ x.places → after ≡ places_in (length before) three → Told before after r x
told {before = before} n p e = record { number = n; places = e ∙ ap (places_in (length before)) p }

pub told_as : {before after : List ℕ} {r : ℕ} {x y : Reply} → x ≡ y → Told before after r x → Told before after r y
told_as {before = before} e t = record {
  number = t.number ∙ ap (λ (z : Reply). z.number) e;
  places = t.places ∙ ap (λ (z : Reply). places_in (length before) z.places) e;
}

pub link_told : {before after : List ℕ} {r : ℕ} {b : Buffers} {a : Result Places Refusal} {link : LinkResult}
    → Outcomes b a link → Told before after r (reply_of a) → LinkTold before after b r link
link_told h t = record { told = told_as h.reply t; image = h.image; funcs = h.funcs; lines = h.lines }

pub list_told : {before after list : List ℕ} {r : ℕ} {b : Buffers} {a : Result Listed Refusal} {entry : PiecesResult}
    → ListedOutcomes b list a entry → Told before after r (reply_of (list_answer a)) → ListTold before after b list r entry
list_told h t = record { link = link_told h.outcomes t; pieces = h.pieces }

pub map_told : {before after table6 : List ℕ} {r : ℕ} {x : Reply} {map : MapResult}
    → x ≡ map.reply → table6 ≡ map.instructions → Told before after r x → MapTold before after table6 r map
map_told e i t = record { told = told_as e t; instructions = i }

pub read_told : {before after room output : List ℕ} {r : ℕ} {a : Result Places Refusal} {table : Table} {info : Info}
    → ReadAs table info room output a → Told before after r (reply_of a) → ReadTold before after output r (read_records little table info (length room))
read_told h t = record { told = told_as h.reply t; out = h.out }

-- ---- where a record stands
pub nowhere : {m n size k : ℕ} → n ≡ m → (n ≡ 0 → ⊥) → Placed (eqb m 0) size k 0 0
nowhere {m} {n} {size} {k} e h =
    let f : eqb m 0 ≡ false = ne_eqb m 0 (λ z. h (e ∙ z)) in
    record { starts = ap (λ (b : Bool). cond b (size * k) 0) (sym f); lasts = ap (λ (b : Bool). cond b size 0) (sym f) }

pub there : {m n size k : ℕ} → n ≡ m → n ≡ 0 → Placed (eqb m 0) size k (size * k) size
there {m} {n} {size} {k} e z =
    let f : eqb m 0 ≡ true = eq-eqb m 0 (sym e ∙ z) in
    record { starts = ap (λ (b : Bool). cond b (size * k) 0) (sym f); lasts = ap (λ (b : Bool). cond b size 0) (sym f) }

numbered : (b : Bool) (n : ℕ) → eqb (cond b (reply 0 n 0 0) (reply 14 0 0 0)).number 0 ≡ b
numbered true n = refl
numbered false n = refl

same_test : (a : Result Places Refusal) (table : Table) (info : Info) (k : ℕ)
    → reply_of a ≡ record_reply little table info k → eqb (reply_of a).number 0 ≡ has_record little table info k
unfolding record_reply
same_test a table info k e = ap (λ (z : Reply). eqb z.number 0) e ∙ numbered (has_record little table info k) info.count

parted : (b : Bool) (size at : ℕ) (bytes : List ℕ)
    → take (cond b size 0) (drop (cond b at 0) bytes) ≡ cond b (take size (drop at bytes)) []
parted true size at bytes = refl
parted false size at bytes = refl

part_is : (table : Table) (info : Info) (k start len : ℕ)
    → Placed (has_record little table info k) info.size k start len → take len (drop start info.bytes) ≡ record_part little table info k
unfolding record_part
part_is table info k start len p =
    ap (λ (n : ℕ). take n (drop start info.bytes)) p.lasts
    ∙ ap (λ (n : ℕ). take (cond (has_record little table info k) info.size 0) (drop n info.bytes)) p.starts
    ∙ parted (has_record little table info k) info.size (info.size * k) info.bytes

pub stands : (a : Result Places Refusal) (table : Table) (info : Info) (k start len : ℕ)
    → reply_of a ≡ record_reply little table info k → Placed (eqb (reply_of a).number 0) info.size k start len → Stands table info k start len
stands a table info k start len e p =
    let same = same_test a table info k e in
    let q : Placed (has_record little table info k) info.size k start len = record {
      starts = p.starts ∙ ap (λ (b : Bool). cond b (info.size * k) 0) same;
      lasts = p.lasts ∙ ap (λ (b : Bool). cond b info.size 0) same;
    } in
    record { placed = q; part = part_is table info k start len q }
