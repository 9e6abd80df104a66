-- The list beside the link: what `put_list` makes of the starts is the list of the pieces that the link placed.
-- Assumes nothing.
use mathlib.Core.Path.{◌≡◌, refl, sym, ap, subst, ◌∙◌}
use mathlib.Core.Logic.{◌≢◌}
use mathlib.Core.Bool.{cond}
use mathlib.Core.Option.{Option, none, some}
use mathlib.Core.List.{List, [], ◌∷◌}
use Prim.Native.Nat.{ℕ, ◌≤◌, ◌<◌}
use native.Mathlib.Omega.{arith}
use borrow.Author.Tests.{lt-ltb, le-ltb}
use lib.ListN.{length, get_or, replicate, length-replicate}
use Rattle.std.specs.Prelude.{Ok, Err}
use Rattle.rules.specs.declared.Refusal as told
use Rattle.rules.specs.declared.Table.TheVariants.{Functions}
use Rattle.rules.specs.Faithful.{piece}
use Rattle.rules.specs.Bytes.{little, padded}
use Rattle.rules.specs.Link as Link
use Rattle.rules.specs.Link.{Outcome, linked, refuses, unfinished}
use Rattle.rules.specs.Tables.{object_of}
use Rattle.rules.specs.Records.{link_step}
use Rattle.rules.specs.Answers.{Reply, reply, reply_of, refused_reply}
use Rattle.rules.specs.Rows.{whole_rows, Offered, function_slots, tables_of, link_refusal}
use Rattle.rules.specs.Pieces.{pieces_bytes}
use Rattle.rules.specs.Entries.{Outputs, room_in, by_outcome, unless_link_refused, link_entry, list_of, unless_list_refused, link_list, PiecesResult, list_room, list_refused, link_pieces_entry}
use Rattle.rules.specs.Lent.{Buffers, buffers, lent_by}
use Rattle.rules.proofs.Ending.{Finished}
use Rattle.rules.proofs.Demand3.{step_finishes}
use Rattle.rules.proofs.Numbered.{Numbered, step_numbered}
use Rattle.rules.proofs.Placing.{placed_distinct, list_in_order, placed_rows, rows_filled, placed_few_rows}
use Rattle.rules.proofs.Reading.{rows_are}
use Rattle.rules.proofs.Refusing as Refusing
use Rattle.rules.proofs.Replies as Replies
use Rattle.pieces.specs.InOrder.{in_order, list_from, Lists, Puts}
use Rattle.pieces.proofs.Listing.{pieces_length, order_length, splice_zeros}
use Rattle.pieces.proofs.Starting.{Located, Once, in_order_lem}
use Rattle.linker.specs.declared.Linked.{Linked}
use Rattle.linker.specs.Linker.{start_number, StartsAre, Outcomes, Accounts, Wiped, StartedOutcomes, ListedOutcomes}
use Rattle.linker.proofs.Extending.{object_slots}
use Rattle.linker.proofs.Whole.{zeros_padded, wiped}

module _ (o : Offered) (root : ℕ) (lent : Outputs) where
  -- a refused link has no list
  no_list : (link_entry little o root lent).reply.number ≢ 0 → link_list little o root lent ≡ []
  unfolding link_entry link_list
  no_list n = go (link_refusal o root) n
    where
      by : (out : Outcome) → ((by_outcome little (tables_of little o) root lent out).reply.number ≡ 0 → ⊥) → list_of root out ≡ []
      by (linked s) n = absurd (n refl)
      by (refuses why) n = refl
      by unfinished n = refl

      go : (x : Option Reply) → ((unless_link_refused little o root lent x).reply.number ≡ 0 → ⊥) → unless_list_refused little o root lent x ≡ []
      go (some r) n = refl
      go none n = by (link_step (tables_of little o) (room_in lent) root) n

  -- an accepted one ends in a state
  record Accepted : Type 0 where
    passed : link_refusal o root ≡ none
    final : Link.State
    ends : link_step (tables_of little o) (room_in lent) root ≡ linked final

  accepted : (link_entry little o root lent).reply.number ≡ 0 → Accepted
  unfolding link_entry
  accepted ok = go (link_refusal o root) refl ok
    where
      by : link_refusal o root ≡ none → (out : Outcome) → link_step (tables_of little o) (room_in lent) root ≡ out → Finished out → Numbered out
          → (by_outcome little (tables_of little o) root lent out).reply.number ≡ 0 → Accepted
      by p (linked s) e f n z = record { passed = p; final = s; ends = e }
      by p (refuses why) e f n z = absurd (n z)
      by p unfinished e f n z = absurd f

      go : (x : Option Reply) → link_refusal o root ≡ x → (unless_link_refused little o root lent x).reply.number ≡ 0 → Accepted
      go none e z = by e (link_step (tables_of little o) (room_in lent) root) refl (step_finishes little o lent root) (step_numbered (tables_of little o) (room_in lent) root) z
      go (some r) e z = absurd (Refusing.link_number o r root e z)

  module _ (a : Accepted) where
    slots_said : get_or (link_entry little o root lent).reply.places 0 0 ≡ length a.final.image
    unfolding link_entry
    slots_said =
        ap (λ x. get_or (unless_link_refused little o root lent x).reply.places 0 0) a.passed
        ∙ ap (λ out. get_or (by_outcome little (tables_of little o) root lent out).reply.places 0 0) a.ends

    list_is : link_list little o root lent ≡ piece root 0 ∷ a.final.placed
    unfolding link_list
    list_is = ap (unless_list_refused little o root lent) a.passed ∙ ap (list_of root) a.ends

    object_rows : (object_of (tables_of little o)).rows ≡ whole_rows Functions o.functions
    unfolding object_of
    object_rows = rows_are little o

    root_in : root < whole_rows Functions o.functions
    root_in = Refusing.root_is_row o root a.passed

    same : (row : ℕ) → row < whole_rows Functions o.functions → (object_of (tables_of little o)).slots row ≡ function_slots o.functions row
    same row l = object_slots (Refusing.link_checked o root a.passed) row l

    once : Once (object_of (tables_of little o)) (whole_rows Functions o.functions) ((object_of (tables_of little o)).slots root) (length a.final.image) a.final.placed
    once = record {
      low = rows_filled little o root a.passed root (omega (arith, object_rows, root_in));
      tiled = list_in_order (tables_of little o) (room_in lent) root a.final a.ends;
      inside = λ p m. omega (arith, object_rows, placed_rows (tables_of little o) (room_in lent) root a.final a.ends p m);
      slots = λ row l. rows_filled little o root a.passed row (omega (arith, object_rows));
      once = placed_distinct (tables_of little o) (room_in lent) root a.final a.ends;
    }

    located : (starts : List ℕ) → StartsAre o a.final.placed starts → Located starts (whole_rows Functions o.functions) a.final.placed
    located starts are = record {
      at_start = λ row start l e. are row l ∙ ap start_number e;
      at_none = λ row l e. are row l ∙ ap start_number e;
    }

    listed : (starts : List ℕ) → StartsAre o a.final.placed starts → list_from o.functions starts root (length a.final.image) ≡ link_list little o root lent
    listed starts are =
        ap (λ ps. piece root 0 ∷ ps)
        (subst
        (λ first. in_order (function_slots o.functions) starts (whole_rows Functions o.functions) (length a.final.image) (whole_rows Functions o.functions) first ≡ a.final.placed)
        (same root root_in)
        (in_order_lem (object_of (tables_of little o)) (function_slots o.functions) starts (whole_rows Functions o.functions) ((object_of (tables_of little o)).slots root) (length a.final.image) a.final.placed
        same once (located starts are) (whole_rows Functions o.functions) (placed_few_rows little o root a.passed (room_in lent) a.final a.ends)))
        ∙ sym list_is

-- ---- the entry, by what its callees promise
module _ (o : Offered) (root : ℕ) (b : Buffers) (size : ℕ) where
  abbrev entry : PiecesResult
  entry = record {
    link = link_entry little o root (lent_by b);
    list = link_list little o root (lent_by b);
    pieces = padded size (pieces_bytes (link_list little o root (lent_by b)));
  }

  entry_short : size < list_room o → link_pieces_entry little o root (lent_by b) size ≡ list_refused (lent_by b) size
  unfolding link_pieces_entry
  entry_short l = ap (λ x. cond x (list_refused (lent_by b) size) entry) (lt-ltb size (list_room o) l)

  entry_long : list_room o ≤ size → link_pieces_entry little o root (lent_by b) size ≡ entry
  unfolding link_pieces_entry
  entry_long l = ap (λ x. cond x (list_refused (lent_by b) size) entry) (le-ltb size (list_room o) l)

  pub no_room : {z : Buffers} {p : List ℕ} → Wiped b z → p ≡ replicate size 0 → (why : told.Refusal) → refused_reply why ≡ reply 32 0 0 0 → size < list_room o
      → ListedOutcomes z p (Err why) (link_pieces_entry little o root (lent_by b) size)
  no_room {z} {p} w zp why is short =
      subst (ListedOutcomes z p (Err why)) (sym (entry_short short)) (record {
        outcomes = wiped o root b z w (reply 32 0 0 0) (Err why) is;
        pieces = zp ∙ zeros_padded size;
        counted = refl;
      })

  module _ (long : list_room o ≤ size) {b' : Buffers} where
    pub list_refused_lem : {why : told.Refusal} {p : List ℕ} → StartedOutcomes o root (lent_by b) b' (Err why) → p ≡ replicate size 0
        → ListedOutcomes b' p (Err why) (link_pieces_entry little o root (lent_by b) size)
    unfolding pieces_bytes
    list_refused_lem {why} {p} x zp =
        let none_listed : link_list little o root (lent_by b) ≡ [] = no_list o root (lent_by b) (λ z. Replies.refuses why (ap (λ (y : Reply). y.number) x.outcomes.reply ∙ z)) in
        subst (ListedOutcomes b' p (Err why)) (sym (entry_long long)) (record {
          outcomes = x.outcomes;
          pieces = zp ∙ zeros_padded size ∙ ap (λ ps. padded size (pieces_bytes ps)) (sym none_listed);
          counted = ap length (sym none_listed);
        })

    module _ {l : Linked} (x : StartedOutcomes o root (lent_by b) b' (Ok l)) where
      ends : Accepted o root (lent_by b)
      ends = accepted o root (lent_by b) (sym (ap (λ (y : Reply). y.number) x.outcomes.reply))

      slots_are : l.places.0 ≡ length ends.final.image
      slots_are = ap (λ (y : Reply). get_or y.places 0 0) x.outcomes.reply ∙ slots_said o root (lent_by b) ends

      accounts : Accounts o ends.final l.starts
      accounts = x.accounts ends.passed ends.final ends.ends

      -- what `put_list` asks
      pub lists : {p : List ℕ} → p ≡ replicate size 0 → Lists o.functions root l.places.0 p
      lists zp = record {
        sound = (Refusing.link_checked o root ends.passed).tables.functions;
        root_in = Refusing.root_is_row o root ends.passed;
        few = omega (arith, slots_are, accounts.few);
        room = omega (arith, ap length zp, length-replicate {A = ℕ} size 0);
      }

      list_same : list_from o.functions l.starts root l.places.0 ≡ link_list little o root (lent_by b)
      list_same = ap (list_from o.functions l.starts root) slots_are ∙ listed o root (lent_by b) ends l.starts accounts.starts_are

      list_fits : length (pieces_bytes (list_from o.functions l.starts root l.places.0)) ≤ size
      list_fits =
          let n : ℕ = whole_rows Functions o.functions in
          omega (
            arith,
            pieces_length (list_from o.functions l.starts root l.places.0),
            order_length (function_slots o.functions) l.starts n l.places.0 n (function_slots o.functions root),
          )

      pub list_done : {p p' : List ℕ} {count : ℕ} → p ≡ replicate size 0 → Puts o.functions l.starts root l.places.0 p p' count
          → ListedOutcomes b' p' (Ok (record { places = l.places; count = count })) (link_pieces_entry little o root (lent_by b) size)
      list_done {p} {p'} {count} zp puts =
          subst (ListedOutcomes b' p' (Ok (record { places = l.places; count = count }))) (sym (entry_long long)) (record {
            outcomes = x.outcomes;
            pieces = puts.written ∙ splice_zeros size p _ zp list_fits ∙ ap (λ ps. padded size (pieces_bytes ps)) list_same;
            counted = puts.counted ∙ ap length list_same;
          })
