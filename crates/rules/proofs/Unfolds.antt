-- The link step's recursion without fuel: with as much as there are rows, `append` meets document 01's equation.
-- Assumes nothing.
use mathlib.Core.Path.{◌≡◌, refl, ap}
use mathlib.Core.Option.{Option, none, some}
use Prim.Native.Nat.{ℕ, zero, suc, ◌+◌, ◌≤◌, ◌<◌}
use native.Mathlib.Omega.{arith}
use lib.ListN.{length}
use Rattle.rules.specs.Object.{Insn, is_call, Object, is_wide_load, Meaning, copied, call, reference, refused, meaning, calling, referring}
use Rattle.rules.specs.Link.{State, Refusal, Outcome, linked, refuses, unfinished, and_then, start_of, extended, rewritten, pointing, at_slot, visit, unless, append}
use Rattle.rules.proofs.Ending.{NamesRow, MeansRow, means_row, unplaced_le, unplaced_less, left, append_grows}

module _ (object : Object) (names : (row slot : ℕ) → NamesRow object.rows (object.named row slot)) where
  module _ (f g : ℕ → State → Outcome) (fuel : ℕ)
      (agree : (row : ℕ) (state : State) → row < object.rows → start_of row state.placed ≡ none → left object names state ≤ fuel → f row state ≡ g row state)
      (grows : (row : ℕ) (before after : State) → g row before ≡ linked after → left object names after ≤ left object names before) where
    pointing_same : (o : Option ℕ) (callee here : ℕ) (rewrite : ℕ → Insn → Insn) (next next' : State → Outcome) (state : State)
        → start_of callee state.placed ≡ o → callee < object.rows → left object names state ≤ fuel
        → ((after : State) → left object names after ≤ fuel → next after ≡ next' after)
        → pointing object f o callee here rewrite next state ≡ pointing object g o callee here rewrite next' state
    unfolding left
    pointing_same (some start) callee here rewrite next next' state e l b rest = rest (rewritten here (rewrite start) state) b
    pointing_same none callee here rewrite next next' state e l b rest = rw (agree callee state l e b) (go (g callee state) refl)
      where
        go : (o : Outcome) → g callee state ≡ o
            → and_then o (λ after. next (rewritten here (rewrite (length state.image)) after)) ≡ and_then o (λ after. next' (rewritten here (rewrite (length state.image)) after))
        go (linked after) a = rest (rewritten here (rewrite (length state.image)) after) (omega (arith, grows callee state after a))
        go (refuses why) a = refl
        go unfinished a = refl

    slot_same : (m : Meaning) (row slot here : ℕ) (next next' : State → Outcome) (state : State) → MeansRow object.rows m → left object names state ≤ fuel
        → ((after : State) → left object names after ≤ fuel → next after ≡ next' after)
        → at_slot object f m row slot here next state ≡ at_slot object g m row slot here next' state
    slot_same copied row slot here next next' state m b rest = rest state b
    slot_same (call callee) row slot here next next' state m b rest =
        pointing_same (start_of callee state.placed) callee here (λ start i. calling i start here) next next' state refl m b rest
    slot_same (reference callee) row slot here next next' state m b rest =
        pointing_same (start_of callee state.placed) callee here (λ start i. referring i start here) next next' state refl m b rest
    slot_same (refused number) row slot here next next' state m b rest = refl

    visit_same : (row start count slot : ℕ) (state : State) → left object names state ≤ fuel
        → visit object f row start count slot state ≡ visit object g row start count slot state
    unfolding visit meaning
    visit_same row start zero slot state b = refl
    visit_same row start (suc count) slot state b =
        slot_same (meaning object row slot) row slot (start + slot) (λ after. visit object f row start count (suc slot) after)
        (λ after. visit object g row start count (suc slot) after) state
        (means_row object.rows (is_call (object.insn row slot)) (is_wide_load object row slot) (object.named row slot) (names row slot)) b
        (λ after b'. visit_same row start count (suc slot) after b')

  module _ (admits : ℕ → State → Option Refusal) where
    -- what is more than enough makes no difference
    append_same : (fuel fuel' row : ℕ) (state : State) → row < object.rows → start_of row state.placed ≡ none
        → left object names state ≤ fuel → left object names state ≤ fuel' → append object admits fuel row state ≡ append object admits fuel' row state
    unfolding append left
    append_same zero fuel' row state l e b b' = absurd (omega (arith, unplaced_less object.rows row 0 state.placed l e))
    append_same (suc fuel) zero row state l e b b' = absurd (omega (arith, unplaced_less object.rows row 0 state.placed l e))
    append_same (suc fuel) (suc fuel') row state l e b b' =
        ap (unless (admits row state))
        (visit_same (append object admits fuel) (append object admits fuel') (left object names (extended object row state))
        (λ row state l e b''. append_same fuel fuel' row state l e (omega (arith, less)) (omega (arith, less)))
        (append_grows object names admits fuel')
        row (length state.image) (object.slots row) 0 (extended object row state) (omega arith))
      where
        less : left object names (extended object row state) < left object names state
        less = unplaced_less object.rows row (length state.image) state.placed l e

    pub append_unfolds : (row : ℕ) (state : State) → row < object.rows → start_of row state.placed ≡ none
        → append object admits object.rows row state
        ≡ unless (admits row state)
        (visit object (append object admits object.rows) row (length state.image) (object.slots row) 0 (extended object row state))
    unfolding append left
    append_unfolds row state l e =
        let b = unplaced_le object.rows state.placed in
        append_same object.rows (suc object.rows) row state l e b (omega arith)
