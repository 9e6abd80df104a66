-- What rewriting a slot and adding a function both keep, an accepted link has.
-- Assumes nothing.
use mathlib.Core.Path.{◌≡◌, refl}
use mathlib.Core.Option.{Option, none, some}
use Prim.Native.Nat.{ℕ, zero, suc, ◌+◌}
use lib.ListN.{length}
use Rattle.rules.specs.Object.{Insn, Object, Meaning, copied, call, reference, refused, meaning, calling, referring}
use Rattle.rules.specs.Link.{State, Refusal, Outcome, linked, refuses, unfinished, and_then, start_of, extended, rewritten, pointing, at_slot, visit, unless, append, root_only, link}

-- of the function that a slot goes to, if it goes to one
abbrev pub Goes : (ℕ → Type 0) → Meaning → Type 0
Goes To copied = Unit {0}
Goes To (call callee) = To callee
Goes To (reference callee) = To callee
Goes To (refused number) = Unit {0}

-- `To` holds of every function that a slot goes to
module _ (object : Object) (To : ℕ → Type 0) (goes : (row slot : ℕ) → Goes To (meaning object row slot)) (Kept : State → Type 0)
    (rewriting : (here : ℕ) (rewrite : Insn → Insn) (state : State) → Kept state → Kept (rewritten here rewrite state)) where
  -- of an outcome: what an accepted one has
  abbrev Keeps : Outcome → Type 0
  Keeps (linked state) = Kept state
  Keeps (refuses why) = Unit {0}
  Keeps unfinished = Unit {0}

  module _ (append : ℕ → State → Outcome)
      (append_keeps : (row : ℕ) (state : State) → To row → start_of row state.placed ≡ none → Kept state → Keeps (append row state)) where
    pointing_keeps : (o : Option ℕ) (callee here : ℕ) (rewrite : ℕ → Insn → Insn) (next : State → Outcome) (state : State) → To callee
        → start_of callee state.placed ≡ o → ((after : State) → Kept after → Keeps (next after)) → Kept state
        → Keeps (pointing object append o callee here rewrite next state)
    pointing_keeps (some start) callee here rewrite next state to s rest k = rest _ (rewriting here (rewrite start) state k)
    pointing_keeps none callee here rewrite next state to s rest k = go (append callee state) (append_keeps callee state to s k)
      where
        go : (o : Outcome) → Keeps o → Keeps (and_then o (λ after. next (rewritten here (rewrite (length state.image)) after)))
        go (linked after) k = rest _ (rewriting here (rewrite (length state.image)) after k)
        go (refuses why) k = tt
        go unfinished k = tt

    slot_keeps : (m : Meaning) (row slot here : ℕ) (next : State → Outcome) (state : State) → Goes To m
        → ((after : State) → Kept after → Keeps (next after)) → Kept state → Keeps (at_slot object append m row slot here next state)
    slot_keeps copied row slot here next state to rest k = rest state k
    slot_keeps (call callee) row slot here next state to rest k =
        pointing_keeps (start_of callee state.placed) callee here (λ start i. calling i start here) next state to refl rest k
    slot_keeps (reference callee) row slot here next state to rest k =
        pointing_keeps (start_of callee state.placed) callee here (λ start i. referring i start here) next state to refl rest k
    slot_keeps (refused number) row slot here next state to rest k = tt

    visit_keeps : (row start count slot : ℕ) (state : State) → Kept state → Keeps (visit object append row start count slot state)
    unfolding visit
    visit_keeps row start zero slot state k = k
    visit_keeps row start (suc count) slot state k =
        slot_keeps (meaning object row slot) row slot (start + slot) (λ after. visit object append row start count (suc slot) after) state (goes row slot)
        (λ after k. visit_keeps row start count (suc slot) after k) k

  module _ (admits : ℕ → State → Option Refusal)
      (adding : (row : ℕ) (state : State) → To row → admits row state ≡ none → start_of row state.placed ≡ none → Kept state → Kept (extended object row state)) where
    unless_keeps : (o : Option Refusal) (outcome : Outcome) → (o ≡ none → Keeps outcome) → Keeps (unless o outcome)
    unless_keeps none outcome k = k refl
    unless_keeps (some why) outcome k = tt

    append_keeps : (fuel row : ℕ) (state : State) → To row → start_of row state.placed ≡ none → Kept state → Keeps (append object admits fuel row state)
    unfolding append
    append_keeps zero row state to s k = tt
    append_keeps (suc fuel) row state to s k =
        unless_keeps (admits row state) _
        (λ a. visit_keeps (append object admits fuel) (append_keeps fuel) row (length state.image) (object.slots row) 0 (extended object row state)
        (adding row state to a s k))

    pub link_keeps_to : (rootRefusal : Option Refusal) (root : ℕ) (final : State) → (rootRefusal ≡ none → Kept (root_only object root))
        → link object admits rootRefusal root ≡ linked final → Kept final
    unfolding link
    link_keeps_to rootRefusal root final k e =
        let keeps : Keeps (link object admits rootRefusal root) =
        unless_keeps rootRefusal _ (λ a. visit_keeps (append object admits object.rows) (append_keeps object.rows) root 0 (object.slots root) 0
        (root_only object root) (k a)) in
        rw e at keeps

goes_anywhere : (m : Meaning) → Goes (λ row. Unit {0}) m
goes_anywhere copied = tt
goes_anywhere (call callee) = tt
goes_anywhere (reference callee) = tt
goes_anywhere (refused number) = tt

-- and with nothing known of the functions that slots go to
pub link_keeps : (object : Object) (Kept : State → Type 0)
    → ((here : ℕ) (rewrite : Insn → Insn) (state : State) → Kept state → Kept (rewritten here rewrite state)) → (admits : ℕ → State → Option Refusal)
    → ((row : ℕ) (state : State) → admits row state ≡ none → start_of row state.placed ≡ none → Kept state → Kept (extended object row state))
    → (rootRefusal : Option Refusal) (root : ℕ) (final : State) → (rootRefusal ≡ none → Kept (root_only object root))
    → link object admits rootRefusal root ≡ linked final → Kept final
link_keeps object Kept rewriting admits adding =
    link_keeps_to object (λ row. Unit {0}) (λ row slot. goes_anywhere (meaning object row slot)) Kept rewriting admits (λ row state to. adding row state)
