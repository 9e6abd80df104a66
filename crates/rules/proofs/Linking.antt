-- Whatever the link step accepts is faithful, with the pieces in the order in which it placed them.
-- Assumes nothing.
use mathlib.Core.Path.{◌≡◌, refl, sym, ◌∙◌, ap, subst}
use mathlib.Core.Bool.{Bool, true, false, cond}
use mathlib.Core.Option.{Option, none, some}
use mathlib.Core.List.Memᴰ
use mathlib.Core.List.{List, [], ◌∷◌, append_assoc, Memᴰ}
use mathlib.Core.Logic.{◌⊎◌, inl, inr}
use Prim.Native.Nat.{ℕ, zero, suc, ◌+◌, ◌≤◌, ◌<◌, zero-le}
use native.Mathlib.Nat.{eq-or-lt_of_le, add-zero, add-suc, suc-add, zero-add}
use native.Mathlib.Omega.{arith}
use lib.ListN.{length, length-append, get_or-append, get_or}
use lib.Seq.{get_or-set_same, get_or-append-add}
use lib.Dec.{eqb}
use borrow.Author.Tests.{eqb-true}
use Rattle.rules.specs.Object.{Insn, Object, Meaning, copied, call, reference, refused, meaning, calling, referring}
use Rattle.rules.specs.Faithful.{Piece, piece, blank, slot_at, Placed, LinkOf, Linked, Faithful}
use Rattle.rules.specs.Link.{State, Refusal, Outcome, linked, refuses, unfinished, and_then, run, slots_of, start_of, extended, rewritten, pointing, at_slot, visit, unless, append, root_only, link}
use Rattle.rules.proofs.Grown.{linked_more, Grown, grown_refl, grown_rewritten, grown_longer, grown_placed, grown_then}

-- an outcome is one of three
abbrev Accepted : Outcome → Type 0
Accepted (linked state) = Unit {0}
Accepted (refuses why) = ⊥
Accepted unfinished = ⊥

accepted : {o : Outcome} {state : State} → o ≡ linked state → Accepted o
accepted e = rw e tt

unless_none : (o : Option Refusal) (outcome : Outcome) (state : State) → unless o outcome ≡ linked state → outcome ≡ linked state
unless_none none outcome state e = e
unless_none (some why) outcome state e = absurd (accepted e)

-- the slots of one function
pub length_run {ℓ} : {A : Type ℓ} (f : ℕ → A) (from count : ℕ) → length (run f from count) ≡ count
length_run f from zero = refl
length_run f from (suc count) = ap suc (length_run f (suc from) count)

pub run_at {ℓ} : {A : Type ℓ} (f : ℕ → A) (from count k : ℕ) (d : A) → k < count → get_or (run f from count) k d ≡ f (from + k)
run_at f from zero k d l = absurd (omega arith)
run_at f from (suc count) zero d l = ap f (sym (add-zero from))
run_at f from (suc count) (suc k) d l = run_at f (suc from) count k d (omega arith) ∙ ap f (suc-add from k ∙ sym (add-suc from k))

-- a start that is found is a piece's
pub found : (row start : ℕ) (ps : List Piece) → start_of row ps ≡ some start → Memᴰ (piece row start) ps
found row start [] e = let z : ◌≡◌ {A = ℕ} 0 1 = cc in absurd (omega arith)
found row start (p ∷ ps) e = go (eqb p.row row) refl e (λ t. found row start ps t)
  where
    go : (b : Bool) → eqb p.row row ≡ b → cond b (some p.start) (start_of row ps) ≡ some start
        → (start_of row ps ≡ some start → Memᴰ (piece row start) ps) → Memᴰ (piece row start) (p ∷ ps)
    go true t e later =
        let rows : p.row ≡ row = eqb-true p.row row t in
        let starts : p.start ≡ start = cc in
        Memᴰ.head (λ i. record { row = sym rows i; start = sym starts i })
    go false t e later = Memᴰ.tail (later e)

module _ (object : Object) where
  -- the state grew, and has a copy of `row` at the old end
  pub record Appended (row : ℕ) (before after : State) : Type 0 where
    pub grown : Grown object (length before.image) 0 before after
    pub copy : Memᴰ (piece row (length before.image)) after.placed

  -- the slot `here` is settled, and the visit went on
  record Settled (here : ℕ) (Right : State → Type 0) (next : State → Outcome) (before final : State) : Type 0 where
    after : State
    grown : Grown object here (suc here) before after
    right : Right after
    rest : next after ≡ linked final

  -- the slots from `slot` on, `count` of them, are settled, and no other that stood before has changed
  pub record Visited (row start count slot : ℕ) (before after : State) : Type 0 where
    pub grown : Grown object (start + slot) (start + slot + count) before after
    pub own : (k : ℕ) → slot ≤ k → k < slot + count → Linked object after.placed row k (start + k) (slot_at after.image (start + k))

  module _ (append : ℕ → State → Outcome)
      (append_ok : (row : ℕ) (before after : State) → append row before ≡ linked after → Appended row before after) where
    pointing_ok : (o : Option ℕ) (callee here : ℕ) (rewrite : ℕ → Insn → Insn) (source : Insn) (next : State → Outcome) (before final : State)
        → start_of callee before.placed ≡ o → here < length before.image → slot_at before.image here ≡ source
        → pointing object append o callee here rewrite next before ≡ linked final
        → Settled here (λ after. Placed after.placed callee (λ start. slot_at after.image here ≡ rewrite start source)) next before final
    pointing_ok (some start) callee here rewrite source next before final s l raw e = record {
      after = rewritten here (rewrite start) before;
      grown = grown_rewritten object here (rewrite start) before;
      right = record { start = start; among = found callee start before.placed s; holds = get_or-set_same before.image here _ blank l ∙ ap (rewrite start) raw };
      rest = e;
    }
    pointing_ok none callee here rewrite source next before final s l raw e = go (append callee before) refl e
      where
        start : ℕ
        start = length before.image

        go : (o : Outcome) → append callee before ≡ o → and_then o (λ after. next (rewritten here (rewrite start) after)) ≡ linked final
            → Settled here (λ after. Placed after.placed callee (λ start. slot_at after.image here ≡ rewrite start source)) next before final
        go (linked mid) a e =
            let ok = append_ok callee before mid a in
            record {
              after = rewritten here (rewrite start) mid;
              grown = grown_then object here (suc here) ok.grown (grown_rewritten object here (rewrite start) mid) (omega arith) (omega arith) (omega arith) (omega arith) (omega arith);
              right = record {
                start = start;
                among = ok.copy;
                holds = get_or-set_same mid.image here _ blank (omega (arith, grown_longer object ok.grown)) ∙ ap (rewrite start) (ok.grown.kept_below here l l ∙ raw);
              };
              rest = e;
            }
        go (refuses why) a e = absurd (accepted e)
        go unfinished a e = absurd (accepted e)

    slot_ok : (m : Meaning) (row slot here : ℕ) (next : State → Outcome) (before final : State)
        → here < length before.image → slot_at before.image here ≡ object.insn row slot
        → at_slot object append m row slot here next before ≡ linked final
        → Settled here (λ after. LinkOf after.placed (object.insn row slot) here (slot_at after.image here) m) next before final
    slot_ok copied row slot here next before final l raw e = record {
      after = before;
      grown = grown_refl object here (suc here) before;
      right = raw;
      rest = e;
    }
    slot_ok (call callee) row slot here next before final l raw e =
        pointing_ok (start_of callee before.placed) callee here (λ start i. calling i start here) (object.insn row slot) next before final refl l raw e
    slot_ok (reference callee) row slot here next before final l raw e =
        pointing_ok (start_of callee before.placed) callee here (λ start i. referring i start here) (object.insn row slot) next before final refl l raw e
    slot_ok (refused number) row slot here next before final l raw e = absurd (accepted e)

    pub visit_ok : (row start count slot : ℕ) (before final : State) → start + slot + count ≤ length before.image
        → ((k : ℕ) → slot ≤ k → k < slot + count → slot_at before.image (start + k) ≡ object.insn row k)
        → visit object append row start count slot before ≡ linked final → Visited row start count slot before final
    unfolding visit Linked
    visit_ok row start zero slot before final l raw e =
        let same : before ≡ final = cc in
        record {
          grown = subst (λ x. Grown object (start + slot) (start + slot + 0) before x) same (grown_refl object (start + slot) (start + slot + 0) before);
          own = λ k low high. absurd (omega arith);
        }
    visit_ok row start (suc count) slot before final l raw e =
        let s = slot_ok (meaning object row slot) row slot (start + slot) (λ after. visit object append row start count (suc slot) after) before final
        (omega arith) (raw slot (omega arith) (omega arith)) e in
        go s (visit_ok row start count (suc slot) s.after final (omega (arith, grown_longer object s.grown))
        (λ k low high. s.grown.kept_above (start + k) (omega arith) (omega arith) ∙ raw k (omega arith) (omega arith)) s.rest)
      where
        go : (s : Settled (start + slot) (λ after. LinkOf after.placed (object.insn row slot) (start + slot) (slot_at after.image (start + slot)) (meaning object row slot))
            (λ after. visit object append row start count (suc slot) after) before final)
            → Visited row start count (suc slot) s.after final → Visited row start (suc count) slot before final
        go s v = record {
          grown = grown_then object (start + slot) (start + slot + suc count) s.grown v.grown (omega arith) (omega arith) (omega arith) (omega arith) (omega arith);
          own = λ k low high. either k high (eq-or-lt_of_le low);
        }
          where
            either : (k : ℕ) → k < slot + suc count → (slot ≡ k) ⊎ (slot < k) → Linked object final.placed row k (start + k) (slot_at final.image (start + k))
            either k high (inl at) =
                subst (λ k. Linked object final.placed row k (start + k) (slot_at final.image (start + k))) at
                (rw (v.grown.kept_below (start + slot) (omega arith) (omega (arith, grown_longer object s.grown)))
                (linked_more object (grown_placed object v.grown) row slot (start + slot) _ s.right))
            either k high (inr past) = v.own k past (omega arith)

  pub slots_length : (row : ℕ) → length (slots_of object row) ≡ object.slots row
  slots_length row = length_run (object.insn row) 0 (object.slots row)

  pub slots_at : (row k : ℕ) → k < object.slots row → slot_at (slots_of object row) k ≡ object.insn row k
  slots_at row k l = run_at (object.insn row) 0 (object.slots row) k blank l ∙ ap (object.insn row) (zero-add k)

  pub extended_fits : (row : ℕ) (state : State) → length state.image + 0 + object.slots row ≤ length (extended object row state).image
  extended_fits row state = omega (arith, length-append state.image (slots_of object row), slots_length row)

  pub extended_raw : (row : ℕ) (state : State) (k : ℕ) → 0 ≤ k → k < 0 + object.slots row
      → slot_at (extended object row state).image (length state.image + k) ≡ object.insn row k
  extended_raw row state k low high = get_or-append-add state.image (slots_of object row) k blank ∙ slots_at row k (omega arith)

  -- what holds of each slot of a first piece, and of each of the others, holds of all
  with_first : {q : Piece} {more : List Piece} (P : Piece → ℕ → Type 0) → ((slot : ℕ) → slot < object.slots q.row → P q slot)
      → ((p : Piece) → Memᴰ p more → (slot : ℕ) → slot < object.slots p.row → P p slot)
      → (p : Piece) → Memᴰ p (q ∷ more) → (slot : ℕ) → slot < object.slots p.row → P p slot
  with_first P first others p (Memᴰ.head e) slot l = rw e (first slot (rw e at l))
  with_first P first others p (Memᴰ.tail m) slot l = others p m slot l

  appended : (row : ℕ) (before after : State) → Visited row (length before.image) (object.slots row) 0 (extended object row before) after → Appended row before after
  appended row before after v = record {
    grown = record {
      more = piece row (length before.image) ∷ v.grown.more;
      placed_more = v.grown.placed_more ∙ append_assoc before.placed (piece row (length before.image) ∷ []) v.grown.more;
      tiled = (refl, rw longer at v.grown.tiled);
      links = with_first (λ p slot. Linked object after.placed p.row slot (p.start + slot) (slot_at after.image (p.start + slot)))
          (λ slot l. v.own slot zero-le (omega arith)) v.grown.links;
      kept_below = λ k l b. v.grown.kept_below k (omega arith) (omega (arith, longer)) ∙ get_or-append before.image (slots_of object row) blank k b;
      kept_above = λ k l b. v.grown.kept_below k (omega arith) (omega (arith, longer)) ∙ get_or-append before.image (slots_of object row) blank k b;
    };
    copy = grown_placed object v.grown (piece row (length before.image)) (Memᴰ.append_right before.placed (Memᴰ.head refl));
  }
    where
      longer : length (extended object row before).image ≡ length before.image + object.slots row
      longer = length-append before.image (slots_of object row) ∙ ap (λ n. length before.image + n) (slots_length row)

  whole : (root : ℕ) (final : State) → Visited root 0 (object.slots root) 0 (root_only object root) final
      → Faithful object root final.image (piece root 0 ∷ final.placed)
  whole root final v = record {
    others = final.placed;
    root_first = refl;
    tiled = (refl, rw (zero-add (object.slots root), v.grown.placed_more) (rw (slots_length root) at v.grown.tiled));
    linked = with_first (λ p slot. Linked object (piece root 0 ∷ final.placed) p.row slot (p.start + slot) (slot_at final.image (p.start + slot)))
        (λ slot l. linked_more object (λ q m. Memᴰ.tail m) root slot (0 + slot) _ (v.own slot zero-le (omega arith)))
        (λ p m slot l. linked_more object (λ q m. Memᴰ.tail m) p.row slot (p.start + slot) _ (v.grown.links p (rw v.grown.placed_more at m) slot l));
  }

  module _ (admits : ℕ → State → Option Refusal) where
    pub append_ok : (fuel row : ℕ) (before after : State) → append object admits fuel row before ≡ linked after → Appended row before after
    unfolding append
    append_ok zero row before after e = absurd (accepted e)
    append_ok (suc fuel) row before after e =
        appended row before after
        (visit_ok (append object admits fuel) (append_ok fuel) row (length before.image) (object.slots row) 0 (extended object row before) after
        (extended_fits row before) (extended_raw row before) (unless_none (admits row before) _ after e))

    pub link_faithful : (rootRefusal : Option Refusal) (root : ℕ) (final : State) → link object admits rootRefusal root ≡ linked final
        → Faithful object root final.image (piece root 0 ∷ final.placed)
    unfolding link
    link_faithful rootRefusal root final e =
        whole root final
        (visit_ok (append object admits object.rows) (append_ok object.rows) root 0 (object.slots root) 0 (root_only object root) final
        (omega (arith, slots_length root)) (λ k low high. rw (zero-add k) (slots_at root k (omega arith))) (unless_none rootRefusal _ final e))
