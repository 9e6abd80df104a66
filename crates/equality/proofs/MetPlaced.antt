-- In an accepted link the callees reached are rows of the pieces after the root: so "reached callees differ in address" can be read off the image's pieces.
-- Assumes nothing.
use mathlib.Core.Path.{◌≡◌, refl, subst}
use mathlib.Core.Logic.{◌⊎◌, inl, inr}
use mathlib.Core.Option.{Option, none, some}
use mathlib.Core.List.Memᴰ
use mathlib.Core.List.{List, [], ◌∷◌, ◌++◌, Memᴰ}
use Prim.Native.Nat.{ℕ, zero, suc, ◌+◌}
use lib.ListN.{length}
use Rattle.rules.specs.Object.{Insn, Object, Meaning, copied, call, reference, refused, meaning, calling, referring}
use Rattle.rules.specs.Faithful.{Piece, piece}
use Rattle.rules.specs.Link.{State, Refusal, Outcome, linked, refuses, unfinished, and_then, start_of, extended, rewritten, pointing, at_slot, visit, unless, append, root_only, link}
use Rattle.rules.specs.Tables.{Tables, row_of, object_of}
use Rattle.rules.specs.Records.{Room, admits, root_admits, link_step}
use Rattle.equality.specs.Met.{afterwards, pointing_met, slot_met, visit_met, unless_met, append_met, link_met}
use Rattle.equality.specs.Domain.{reached}
use Rattle.rules.proofs.Linking.{found, Appended, append_ok}

pub record Has (r : ℕ) (pieces : List Piece) : Type 0 where
  pub start : ℕ
  pub among : Memᴰ (piece r start) pieces

-- an accepted outcome has a piece of each of `rows`, and of each that had one before
pub record Lands (rows : List ℕ) (before : List Piece) (final : State) : Type 0 where
  pub new : (r : ℕ) → Memᴰ r rows → Has r final.placed
  pub old : (r : ℕ) → Has r before → Has r final.placed

abbrev Landed : Outcome → List ℕ → List Piece → Type 0
Landed (linked final) rows before = Lands rows before final
Landed (refuses why) rows before = Unit {0}
Landed unfinished rows before = Unit {0}

-- a callee that is placed by then
lands_more : (o : Outcome) (rows more : List ℕ) (before pieces : List Piece) → ((r : ℕ) → Memᴰ r more → Has r pieces ⊎ Memᴰ r rows)
    → ((r : ℕ) → Has r before → Has r pieces) → Landed o rows pieces → Landed o more before
lands_more (linked final) rows more before pieces split grows l = record {
  new = λ r m. either r (split r m);
  old = λ r h. l.old r (grows r h);
}
  where
    either : (r : ℕ) → Has r pieces ⊎ Memᴰ r rows → Has r final.placed
    either r (inl h) = l.old r h
    either r (inr m) = l.new r m
lands_more (refuses why) rows more before pieces split grows l = tt
lands_more unfinished rows more before pieces split grows l = tt

module _ (object : Object) (append : ℕ → State → Outcome) (met : ℕ → State → List ℕ)
    (grows : (row : ℕ) (before after : State) → append row before ≡ linked after → Appended object row before after)
    (lands : (row : ℕ) (s : State) → Landed (append row s) (met row s) s.placed) where
  pointing_lands : (o : Option ℕ) (callee here : ℕ) (rewrite : ℕ → Insn → Insn) (next : State → Outcome) (nextMet : State → List ℕ) (s : State)
      → start_of callee s.placed ≡ o → ((after : State) → Landed (next after) (nextMet after) after.placed)
      → Landed (pointing object append o callee here rewrite next s) (callee ∷ pointing_met object append met o callee here rewrite nextMet s) s.placed
  pointing_lands (some start) callee here rewrite next nextMet s e rest =
      lands_more (next (rewritten here (rewrite start) s)) (nextMet (rewritten here (rewrite start) s)) (callee ∷ nextMet (rewritten here (rewrite start) s)) s.placed s.placed
      (λ r m. either r (Memᴰ.cases_cons m)) (λ r h. h) (rest (rewritten here (rewrite start) s))
    where
      either : (r : ℕ) → (r ≡ callee) ⊎ Memᴰ r (nextMet (rewritten here (rewrite start) s)) → Has r s.placed ⊎ Memᴰ r (nextMet (rewritten here (rewrite start) s))
      either r (inl same) = inl (rw same (record { start = start; among = found callee start s.placed e }))
      either r (inr m) = inr m
  pointing_lands none callee here rewrite next nextMet s e rest = go (append callee s) refl (lands callee s)
    where
      change : State → State
      change after = rewritten here (rewrite (length s.image)) after

      go : (o : Outcome) → append callee s ≡ o → Landed o (met callee s) s.placed
          → Landed (and_then o (λ after. next (change after))) (callee ∷ (met callee s ++ afterwards o (λ after. nextMet (change after)))) s.placed
      go (linked mid) a l =
          lands_more (next (change mid)) (nextMet (change mid)) (callee ∷ (met callee s ++ nextMet (change mid))) s.placed mid.placed
          (λ r m. either r (Memᴰ.cases_cons m)) l.old (rest (change mid))
        where
          inner : (r : ℕ) → Memᴰ r (met callee s) ⊎ Memᴰ r (nextMet (change mid)) → Has r mid.placed ⊎ Memᴰ r (nextMet (change mid))
          inner r (inl m) = inl (l.new r m)
          inner r (inr m) = inr m

          either : (r : ℕ) → (r ≡ callee) ⊎ Memᴰ r (met callee s ++ nextMet (change mid)) → Has r mid.placed ⊎ Memᴰ r (nextMet (change mid))
          either r (inl same) = inl (rw same (record { start = length s.image; among = (grows callee s mid a).copy }))
          either r (inr m) = inner r (Memᴰ.append_cases (met callee s) m)
      go (refuses why) a l = tt
      go unfinished a l = tt

  slot_lands : (m : Meaning) (row slot here : ℕ) (next : State → Outcome) (nextMet : State → List ℕ) (s : State)
      → ((after : State) → Landed (next after) (nextMet after) after.placed) → Landed (at_slot object append m row slot here next s) (slot_met object append met m here nextMet s) s.placed
  slot_lands copied row slot here next nextMet s rest = rest s
  slot_lands (call callee) row slot here next nextMet s rest =
      pointing_lands (start_of callee s.placed) callee here (λ start i. calling i start here) next nextMet s refl rest
  slot_lands (reference callee) row slot here next nextMet s rest =
      pointing_lands (start_of callee s.placed) callee here (λ start i. referring i start here) next nextMet s refl rest
  slot_lands (refused number) row slot here next nextMet s rest = tt

  visit_lands : (row start count slot : ℕ) (s : State) → Landed (visit object append row start count slot s) (visit_met object append met row start count slot s) s.placed
  unfolding visit visit_met
  visit_lands row start zero slot s = record { new = λ r m. absurd (Memᴰ.not-nil m); old = λ r h. h }
  visit_lands row start (suc count) slot s =
      slot_lands (meaning object row slot) row slot (start + slot) (λ after. visit object append row start count (suc slot) after)
      (λ after. visit_met object append met row start count (suc slot) after) s (λ after. visit_lands row start count (suc slot) after)

module _ (object : Object) (admits : ℕ → State → Option Refusal) where
  unless_lands : (o : Option Refusal) (outcome : Outcome) (rows : List ℕ) (before : List Piece) → Landed outcome rows before → Landed (unless o outcome) (unless_met o rows) before
  unless_lands none outcome rows before l = l
  unless_lands (some why) outcome rows before l = tt

  append_lands : (fuel row : ℕ) (s : State) → Landed (append object admits fuel row s) (append_met object admits fuel row s) s.placed
  unfolding append append_met
  append_lands zero row s = tt
  append_lands (suc fuel) row s =
      unless_lands (admits row s) _ _ s.placed
      (lands_more (visit object (append object admits fuel) row (length s.image) (object.slots row) 0 (extended object row s))
      (visit_met object (append object admits fuel) (append_met object admits fuel) row (length s.image) (object.slots row) 0 (extended object row s))
      (visit_met object (append object admits fuel) (append_met object admits fuel) row (length s.image) (object.slots row) 0 (extended object row s))
      s.placed (extended object row s).placed (λ r m. inr m) (λ r h. record { start = h.start; among = Memᴰ.append_left (piece row (length s.image) ∷ []) h.among })
      (visit_lands object (append object admits fuel) (append_met object admits fuel) (append_ok object admits fuel) (append_lands fuel) row (length s.image) (object.slots row) 0
      (extended object row s)))

  pub link_lands : (rootRefusal : Option Refusal) (root : ℕ) → Landed (link object admits rootRefusal root) (link_met object admits rootRefusal root) []
  unfolding link link_met
  link_lands rootRefusal root =
      unless_lands rootRefusal _ _ []
      (visit_lands object (append object admits object.rows) (append_met object admits object.rows) (append_ok object admits object.rows) (append_lands object.rows) root 0
      (object.slots root) 0 (root_only object root))

module _ (tables : Tables) (room : Room) (root : ℕ) (final : State) (accepted : link_step tables room root ≡ linked final) where
  pub reached_placed : (r : ℕ) → Memᴰ r (reached tables room root) → Has r final.placed
  unfolding link_step reached
  reached_placed =
      let l : Landed (link (object_of tables) (admits tables room root) (root_admits tables room root) root) (link_met (object_of tables) (admits tables room root) (root_admits tables room root) root) [] =
      link_lands (object_of tables) (admits tables room root) (root_admits tables room root) root in
      (subst (λ o. Landed o (link_met (object_of tables) (admits tables room root) (root_admits tables room root) root) []) accepted l).new

  -- the clause of the domain, from the pieces
  pub differ_by_pieces : ((p q : Piece) → Memᴰ p final.placed → Memᴰ q final.placed → (row_of tables p.row).address ≡ (row_of tables q.row).address → p.row ≡ q.row)
      → (a b : ℕ) → Memᴰ a (reached tables room root) → Memᴰ b (reached tables room root) → (row_of tables a).address ≡ (row_of tables b).address → a ≡ b
  differ_by_pieces pieces a b ma mb e =
      let p = reached_placed a ma in
      let q = reached_placed b mb in
      pieces (piece a p.start) (piece b q.start) p.among q.among e
