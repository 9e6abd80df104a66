-- The link step's fuel, the number of rows, is enough: each function inside another leaves one less to be placed.
-- Assumes nothing.
use mathlib.Core.Path.{◌≡◌, refl, ap}
use mathlib.Core.Bool.{Bool, true, false, cond}
use mathlib.Core.Option.{Option, none, some}
use mathlib.Core.Logic.{◌⊎◌, inl, inr}
use mathlib.Core.List.{List, [], ◌∷◌, ◌++◌}
use Prim.Native.Nat.{ℕ, zero, suc, ◌+◌, ◌≤◌, ◌<◌}
use native.Mathlib.Nat.{eq-or-lt_of_le, le_of_suc-le-suc}
use native.Mathlib.Omega.{arith}
use lib.ListN.{length}
use lib.Dec.{eqb}
use borrow.Author.Tests.{eq-eqb}
use Rattle.rules.specs.Object.{Insn, is_call, Named, nothing, function, missing, unclear, Object, is_wide_load, Meaning, copied, call, reference, refused, decide, meaning, calling, referring}
use Rattle.rules.specs.Faithful.{Piece, piece}
use Rattle.rules.specs.Link.{State, Refusal, Outcome, linked, refuses, unfinished, and_then, start_of, extended, rewritten, pointing, at_slot, visit, unless, append, root_only, link}
use Rattle.rules.proofs.Linking.{append_ok}

abbrev pub Finished : Outcome → Type 0
Finished (linked state) = Unit {0}
Finished (refuses why) = Unit {0}
Finished unfinished = ⊥

-- a function that is named is a row
abbrev pub NamesRow : ℕ → Named → Type 0
NamesRow rows nothing = Unit {0}
NamesRow rows (function row) = row < rows
NamesRow rows (missing number) = Unit {0}
NamesRow rows (unclear number) = Unit {0}

abbrev pub MeansRow : ℕ → Meaning → Type 0
MeansRow rows copied = Unit {0}
MeansRow rows (call row) = row < rows
MeansRow rows (reference row) = row < rows
MeansRow rows (refused number) = Unit {0}

pub means_row : (rows : ℕ) (c w : Bool) (n : Named) → NamesRow rows n → MeansRow rows (decide c w n)
unfolding decide
means_row rows true w nothing h = tt
means_row rows true w (function row) h = h
means_row rows true w (missing number) h = tt
means_row rows true w (unclear number) h = tt
means_row rows false true nothing h = tt
means_row rows false true (function row) h = h
means_row rows false true (missing number) h = tt
means_row rows false true (unclear number) h = tt
means_row rows false false nothing h = tt
means_row rows false false (function row) h = tt
means_row rows false false (missing number) h = tt
means_row rows false false (unclear number) h = tt

-- 1 for a function that is not placed
abbrev pub unless_found : Option ℕ → ℕ
unless_found none = 1
unless_found (some start) = 0

abbrev pub unplaced : ℕ → List Piece → ℕ
unplaced zero ps = 0
unplaced (suc row) ps = unless_found (start_of row ps) + unplaced row ps

at_most_one : (o : Option ℕ) → unless_found o ≤ 1
at_most_one none = omega arith
at_most_one (some start) = omega arith

pub unplaced_le : (rows : ℕ) (ps : List Piece) → unplaced rows ps ≤ rows
unplaced_le zero ps = omega arith
unplaced_le (suc row) ps = omega (arith, at_most_one (start_of row ps), unplaced_le row ps)

-- what is placed stays placed
found_still : (row : ℕ) (ps qs : List Piece) → unless_found (start_of row (ps ++ qs)) ≤ unless_found (start_of row ps)
found_still row [] qs = at_most_one (start_of row qs)
found_still row (p ∷ ps) qs = go (eqb p.row row) (found_still row ps qs)
  where
    go : (b : Bool) → unless_found (start_of row (ps ++ qs)) ≤ unless_found (start_of row ps)
        → unless_found (cond b (some p.start) (start_of row (ps ++ qs))) ≤ unless_found (cond b (some p.start) (start_of row ps))
    go true later = omega arith
    go false later = later

found_now : (row start : ℕ) (ps : List Piece) → unless_found (start_of row (ps ++ (piece row start ∷ []))) ≡ 0
found_now row start [] = rw (eq-eqb row row refl) refl
found_now row start (p ∷ ps) = go (eqb p.row row) (found_now row start ps)
  where
    go : (b : Bool) → unless_found (start_of row (ps ++ (piece row start ∷ []))) ≡ 0
        → unless_found (cond b (some p.start) (start_of row (ps ++ (piece row start ∷ [])))) ≡ 0
    go true later = refl
    go false later = later

unplaced_still : (rows : ℕ) (ps qs : List Piece) → unplaced rows (ps ++ qs) ≤ unplaced rows ps
unplaced_still zero ps qs = omega arith
unplaced_still (suc row) ps qs = omega (arith, found_still row ps qs, unplaced_still row ps qs)

-- to place one more leaves one less
pub unplaced_less : (rows row start : ℕ) (ps : List Piece) → row < rows → start_of row ps ≡ none
    → unplaced rows (ps ++ (piece row start ∷ [])) < unplaced rows ps
unplaced_less zero row start ps l e = absurd (omega arith)
unplaced_less (suc rows) row start ps l e = go (eq-or-lt_of_le (le_of_suc-le-suc l)) (λ l'. unplaced_less rows row start ps l' e)
  where
    go : (row ≡ rows) ⊎ (row < rows) → (row < rows → unplaced rows (ps ++ (piece row start ∷ [])) < unplaced rows ps)
        → unplaced (suc rows) (ps ++ (piece row start ∷ [])) < unplaced (suc rows) ps
    go (inl same) later =
        rw (← same) (omega (arith, found_now row start ps, ap unless_found e, unplaced_still row ps (piece row start ∷ [])))
    go (inr less) later = omega (arith, later less, found_still rows ps (piece row start ∷ []))

module _ (object : Object) (names : (row slot : ℕ) → NamesRow object.rows (object.named row slot)) where
  unfoldable pub left : State → ℕ
  left state = unplaced object.rows state.placed

  module _ (append : ℕ → State → Outcome) (fuel : ℕ)
      (finishes : (row : ℕ) (state : State) → row < object.rows → start_of row state.placed ≡ none → left state ≤ fuel → Finished (append row state))
      (grows : (row : ℕ) (before after : State) → append row before ≡ linked after → left after ≤ left before) where
    pointing_finishes : (o : Option ℕ) (callee here : ℕ) (rewrite : ℕ → Insn → Insn) (next : State → Outcome) (state : State)
        → start_of callee state.placed ≡ o → callee < object.rows → left state ≤ fuel
        → ((after : State) → left after ≤ fuel → Finished (next after)) → Finished (pointing object append o callee here rewrite next state)
    unfolding left
    pointing_finishes (some start) callee here rewrite next state e l f rest = rest (rewritten here (rewrite start) state) f
    pointing_finishes none callee here rewrite next state e l f rest = go (append callee state) refl (finishes callee state l e f)
      where
        go : (o : Outcome) → append callee state ≡ o → Finished o
            → Finished (and_then o (λ after. next (rewritten here (rewrite (length state.image)) after)))
        go (linked after) a ok = rest (rewritten here (rewrite (length state.image)) after) (omega (arith, grows callee state after a))
        go (refuses why) a ok = tt
        go unfinished a ok = ok

    slot_finishes : (m : Meaning) (row slot here : ℕ) (next : State → Outcome) (state : State) → MeansRow object.rows m → left state ≤ fuel
        → ((after : State) → left after ≤ fuel → Finished (next after)) → Finished (at_slot object append m row slot here next state)
    slot_finishes copied row slot here next state m f rest = rest state f
    slot_finishes (call callee) row slot here next state m f rest =
        pointing_finishes (start_of callee state.placed) callee here (λ start i. calling i start here) next state refl m f rest
    slot_finishes (reference callee) row slot here next state m f rest =
        pointing_finishes (start_of callee state.placed) callee here (λ start i. referring i start here) next state refl m f rest
    slot_finishes (refused number) row slot here next state m f rest = tt

    visit_finishes : (row start count slot : ℕ) (state : State) → left state ≤ fuel → Finished (visit object append row start count slot state)
    unfolding visit meaning
    visit_finishes row start zero slot state f = tt
    visit_finishes row start (suc count) slot state f =
        slot_finishes (meaning object row slot) row slot (start + slot) (λ after. visit object append row start count (suc slot) after) state
        (means_row object.rows (is_call (object.insn row slot)) (is_wide_load object row slot) (object.named row slot) (names row slot)) f
        (λ after f'. visit_finishes row start count (suc slot) after f')

  unless_finishes : (o : Option Refusal) (outcome : Outcome) → Finished outcome → Finished (unless o outcome)
  unless_finishes none outcome f = f
  unless_finishes (some why) outcome f = tt

  module _ (admits : ℕ → State → Option Refusal) where
    pub append_grows : (fuel row : ℕ) (before after : State) → append object admits fuel row before ≡ linked after → left after ≤ left before
    unfolding left
    append_grows fuel row before after e =
        let g = (append_ok object admits fuel row before after e).grown in
        rw g.placed_more (unplaced_still object.rows before.placed g.more)

    append_finishes : (fuel row : ℕ) (state : State) → row < object.rows → start_of row state.placed ≡ none → left state ≤ fuel
        → Finished (append object admits fuel row state)
    unfolding append left
    append_finishes zero row state l e f = absurd (omega (arith, unplaced_less object.rows row 0 state.placed l e))
    append_finishes (suc fuel) row state l e f =
        unless_finishes (admits row state) _
        (visit_finishes (append object admits fuel) fuel (append_finishes fuel) (append_grows fuel) row (length state.image) (object.slots row) 0
        (extended object row state) (omega (arith, unplaced_less object.rows row (length state.image) state.placed l e)))

    pub never_unfinished : (rootRefusal : Option Refusal) (root : ℕ) → Finished (link object admits rootRefusal root)
    unfolding link left
    never_unfinished rootRefusal root =
        unless_finishes rootRefusal _
        (visit_finishes (append object admits object.rows) object.rows (append_finishes object.rows) (append_grows object.rows) root 0
        (object.slots root) 0 (root_only object root) (unplaced_le object.rows []))
