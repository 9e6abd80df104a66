-- The examiner's tests on the pieces and on one slot, against the layout of demand 2: tiled, and linked.
-- Assumes nothing.
use mathlib.Core.Path.{◌≡◌, sym, ap, ◌∙◌, subst}
use mathlib.Core.Logic.{◌↔◌, ◌⊎◌, inl, inr}
use mathlib.Core.Bool.{true, cond, ◌&&◌}
use mathlib.Core.Option.{none, some}
use mathlib.Core.List.Memᴰ
use mathlib.Core.List.{List, [], ◌∷◌, Memᴰ}
use Prim.Native.Nat.{ℕ, suc, ◌+◌, ◌<◌}
use native.Mathlib.Omega.{arith}
use borrow.Author.Tests.{eqb-true, eq-eqb}
use lib.IntN.{ℤ, pos, ◌+ℤ◌, ◌-ℤ◌, +ℤ_comm, +ℤ-neg_ℤ_cancel}
use lib.Dec.{eqb, ltb}
use Rattle.rules.specs.Object.{Insn, Object, Meaning, copied, call, reference, refused, displacement, calling, referring}
use Rattle.rules.specs.Faithful.{Piece, piece, Tile, Placed, LinkOf}
use Rattle.rules.specs.Answers.{reply}
use Rattle.rules.specs.Tables.{is_at}
use Rattle.rules.specs.Examine.{root_wrong, piece_wrong, tiles_wrong, same_number, same_form, same_head, same_slot, target_of, starts_at, slot_wrong}
use Rattle.rules.proofs.Slots.{displaced}
use Rattle.rules.proofs.ExamineLaws.{chain, pair, either, back, and_both, or_either, eqb_is, ltb_is, same_number_lem, is_at_lem, some_none, or_none_lem, cond_none, test_none, Each}

-- ---- the pieces

pub root_none : (root : ℕ) (ps : List Piece) → (root_wrong root ps ≡ none) ↔ ((others : List Piece) × (ps ≡ piece root 0 ∷ others))
unfolding root_wrong
root_none root [] = (λ e. absurd (some_none e), λ h. let z : ◌≡◌ {A = ℕ} 0 1 = cc h.1 in absurd (omega arith))
root_none root (p ∷ ps) = (to, from)
  where
    test : (cond (eqb p.row root && eqb p.start 0) none (some (reply 35 0 0 0)) ≡ none) ↔ ((eqb p.row root ≡ true) × (eqb p.start 0 ≡ true))
    test = chain (test_none (eqb p.row root && eqb p.start 0) (reply 35 0 0 0)) (and_both (eqb p.row root) (eqb p.start 0))

    to : cond (eqb p.row root && eqb p.start 0) none (some (reply 35 0 0 0)) ≡ none → (others : List Piece) × (p ∷ ps ≡ piece root 0 ∷ others)
    to e =
        let t = test.0 e in
        let row = eqb-true p.row root t.0 in
        let start = eqb-true p.start 0 t.1 in
        (ps, λ k. record { row = row k; start = start k } ∷ ps)

    from : (others : List Piece) × (p ∷ ps ≡ piece root 0 ∷ others) → cond (eqb p.row root && eqb p.start 0) none (some (reply 35 0 0 0)) ≡ none
    from h =
        let e : p ≡ piece root 0 = cc h.1 in
        test.1 (eq-eqb _ _ (ap (λ (q : Piece). q.row) e), eq-eqb _ _ (ap (λ (q : Piece). q.start) e))

module _ (object : Object) where
  piece_none : (k at : ℕ) (p : Piece) → (piece_wrong object k at p ≡ none) ↔ ((p.row < object.rows) × (p.start ≡ at))
  unfolding piece_wrong
  piece_none k at p =
      chain (cond_none (ltb p.row object.rows) (cond (eqb p.start at) none (some (reply 37 k at 0))) (reply 36 k p.row 0))
      (pair (ltb_is p.row object.rows) (chain (test_none (eqb p.start at) (reply 37 k at 0)) (eqb_is p.start at)))

  pub tiles_none : (end k at : ℕ) (ps : List Piece) → (tiles_wrong object end k at ps ≡ none) ↔ (Each (λ p. p.row < object.rows) ps × Tile object at ps end)
  unfolding tiles_wrong
  tiles_none end k at [] = chain (chain (test_none (eqb at end) (reply 38 k at 0)) (eqb_is at end)) (λ e. (tt, e), λ p. p.1)
  tiles_none end k at (p ∷ ps) =
      chain (chain (or_none_lem (piece_wrong object k at p) (tiles_wrong object end (suc k) (at + object.slots p.row) ps))
      (pair (piece_none k at p) (tiles_none end (suc k) (at + object.slots p.row) ps)))
      (λ h. ((h.0.0, h.1.0), (h.0.1, h.1.1)), λ h. ((h.0.0, h.1.0), (h.0.1, h.1.1)))

-- ---- a slot

abbrev Form : Insn → Insn → Type 0
Form i j = (i.opcode ≡ j.opcode) × (i.destination ≡ j.destination) × (i.offset ≡ j.offset)

same_form_lem : (i j : Insn) → (same_form i j ≡ true) ↔ Form i j
unfolding same_form
same_form_lem i j =
    chain (chain (and_both (eqb i.opcode j.opcode) (eqb i.destination j.destination && same_number i.offset j.offset))
    (pair (eqb_is i.opcode j.opcode)
    (chain (and_both (eqb i.destination j.destination) (same_number i.offset j.offset))
    (pair (eqb_is i.destination j.destination) (same_number_lem i.offset j.offset)))))
    (λ h. (h.0, h.1.0, h.1.1), λ h. (h.0, (h.1, h.2)))

same_head_lem : (i j : Insn) → (same_head i j ≡ true) ↔ (Form i j × (i.source ≡ j.source))
unfolding same_head
same_head_lem i j = chain (and_both (same_form i j) (eqb i.source j.source)) (pair (same_form_lem i j) (eqb_is i.source j.source))

-- the five fields
insn : {i j : Insn} → Form i j → i.source ≡ j.source → i.immediate ≡ j.immediate → i ≡ j
insn f s m = λ k. record { opcode = f.0 k; destination = f.1 k; source = s k; offset = f.2 k; immediate = m k }

form_of : {i j : Insn} → i ≡ j → Form i j
form_of e = (ap (λ (i : Insn). i.opcode) e, ap (λ (i : Insn). i.destination) e, ap (λ (i : Insn). i.offset) e)

source_of_lem : {i j : Insn} → i ≡ j → i.source ≡ j.source
source_of_lem e = ap (λ (i : Insn). i.source) e

immediate_of : {i j : Insn} → i ≡ j → i.immediate ≡ j.immediate
immediate_of e = ap (λ (i : Insn). i.immediate) e

same_slot_lem : (i j : Insn) → (same_slot i j ≡ true) ↔ (i ≡ j)
unfolding same_slot
same_slot_lem i j =
    chain (chain (and_both (same_head i j) (same_number i.immediate j.immediate)) (pair (same_head_lem i j) (same_number_lem i.immediate j.immediate)))
    (λ h. insn h.0.0 h.0.1 h.1, λ e. ((form_of e, source_of_lem e), immediate_of e))

-- a slot points to the start for which its immediate was made, and to no other
cancel : (n : ℕ) (a b : ℤ) → pos n +ℤ a ≡ pos n +ℤ b → a ≡ b
cancel n a b e =
    sym (+ℤ-neg_ℤ_cancel a (pos n)) ∙ ap (λ x. x -ℤ pos n) (+ℤ_comm a (pos n) ∙ e ∙ +ℤ_comm (pos n) b) ∙ +ℤ-neg_ℤ_cancel b (pos n)

target_is : (i : Insn) (here start : ℕ) → (target_of here i ≡ pos start) ↔ (i.immediate ≡ displacement start here)
target_is i here start = (
  λ e. cancel 1 _ _ (cancel here _ _ (e ∙ sym (displaced start here))),
  λ e. ap (λ x. pos here +ℤ (pos 1 +ℤ x)) e ∙ displaced start here,
)

-- the first piece, or a later one
module _ (Holds : ℕ → Type 0) (row : ℕ) (p : Piece) (ps : List Piece) where
  placed_cons : Placed (p ∷ ps) row Holds ↔ (((p.row ≡ row) × Holds p.start) ⊎ Placed ps row Holds)
  placed_cons = (λ h. to h (Memᴰ.cases_cons h.among), from)
    where
      to : (h : Placed (p ∷ ps) row Holds) → (piece row h.start ≡ p) ⊎ Memᴰ (piece row h.start) ps → ((p.row ≡ row) × Holds p.start) ⊎ Placed ps row Holds
      to h (inl e) = inl (sym (ap (λ (q : Piece). q.row) e), subst (λ (q : Piece). Holds q.start) e h.holds)
      to h (inr m) = inr (record { start = h.start; among = m; holds = h.holds })

      from : ((p.row ≡ row) × Holds p.start) ⊎ Placed ps row Holds → Placed (p ∷ ps) row Holds
      from (inl (e, h)) = record { start = p.start; among = Memᴰ.head (λ k. record { row = sym e k; start = p.start }); holds = h }
      from (inr h) = record { start = h.start; among = Memᴰ.tail h.among; holds = h.holds }

starts_at_lem : (target : ℤ) (row : ℕ) (ps : List Piece) → (starts_at target row ps ≡ true) ↔ Placed ps row (λ start. target ≡ pos start)
unfolding starts_at
starts_at_lem target row [] = (λ e. let z : ◌≡◌ {A = ℕ} 0 1 = cc in absurd (omega arith), λ h. absurd (Memᴰ.not-nil h.among))
starts_at_lem target row (p ∷ ps) =
    chain (chain (or_either (eqb p.row row && is_at p.start target) (starts_at target row ps))
    (either (chain (and_both (eqb p.row row) (is_at p.start target)) (pair (eqb_is p.row row) (is_at_lem p.start target))) (starts_at_lem target row ps)))
    (back (placed_cons (λ start. target ≡ pos start) row p ps))

placed_same : {P Q : ℕ → Type 0} (row : ℕ) (ps : List Piece) → ((start : ℕ) → P start → Q start) → Placed ps row P → Placed ps row Q
placed_same row ps f h = record { start = h.start; among = h.among; holds = f h.start h.holds }

-- where the slot may point to, and what its other fields are
points_at : (i : Insn) (here row : ℕ) (ps : List Piece) → (starts_at (target_of here i) row ps ≡ true) ↔ Placed ps row (λ start. i.immediate ≡ displacement start here)
points_at i here row ps =
    chain (starts_at_lem (target_of here i) row ps)
    (placed_same row ps (λ start. (target_is i here start).0), placed_same row ps (λ start. (target_is i here start).1))

pub link_none : (pieces : List Piece) (k row slot here : ℕ) (source i : Insn) (m : Meaning)
    → (slot_wrong pieces k row slot here source i m ≡ none) ↔ LinkOf pieces source here i m
unfolding slot_wrong calling referring
link_none pieces k row slot here source i copied = chain (test_none (same_slot i source) (reply 39 k slot here)) (same_slot_lem i source)
link_none pieces k row slot here source i (call callee) =
    chain (chain (cond_none (same_head i source) (cond (starts_at (target_of here i) callee pieces) none (some (reply 41 k slot callee))) (reply 39 k slot here))
    (pair (same_head_lem i source) (chain (test_none (starts_at (target_of here i) callee pieces) (reply 41 k slot callee)) (points_at i here callee pieces)))) (
      λ h. placed_same callee pieces (λ start m. insn h.0.0 h.0.1 m) h.1,
      λ h. ((form_of h.holds, source_of_lem h.holds), placed_same callee pieces (λ start e. immediate_of e) h),
    )
link_none pieces k row slot here source i (reference callee) =
    chain (chain (cond_none (same_form i source) (cond (eqb i.source 4) (cond (starts_at (target_of here i) callee pieces) none (some (reply 41 k slot callee))) (some (reply 40 k slot callee))) (reply 39 k slot here))
    (pair (same_form_lem i source) (chain (cond_none (eqb i.source 4) (cond (starts_at (target_of here i) callee pieces) none (some (reply 41 k slot callee))) (reply 40 k slot callee))
    (pair (eqb_is i.source 4) (chain (test_none (starts_at (target_of here i) callee pieces) (reply 41 k slot callee)) (points_at i here callee pieces)))))) (
      λ h. placed_same callee pieces (λ start m. insn h.0 h.1.0 m) h.1.1,
      λ h. (form_of h.holds, (source_of_lem h.holds, placed_same callee pieces (λ start e. immediate_of e) h)),
    )
link_none pieces k row slot here source i (refused number) = (λ e. some_none e, λ t. absurd t)
