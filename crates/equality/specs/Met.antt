-- "reached callees": those that the link step comes to, by the link step of `rules` (specs/Link.antt) once more, with a list of them for its answer.
-- Assumes nothing.
use Rattle.std.proofs.Math.Option.{Option, none, some}
use Rattle.std.specs.Prelude.{List, [], ◌∷◌, ◌++◌, ℕ, zero, suc, ◌+◌, length}
use Rattle.rules.specs.Object.{Insn, Object, Meaning, copied, call, reference, refused, meaning, calling, referring}
use Rattle.rules.specs.Link.{State, Refusal, Outcome, linked, refuses, unfinished, start_of, extended, rewritten, root_only, append}

abbrev pub afterwards : Outcome → (State → List ℕ) → List ℕ
afterwards (linked state) next = next state
afterwards (refuses why) next = []
afterwards unfinished next = []

module _ (object : Object) (append : ℕ → State → Outcome) (met : ℕ → State → List ℕ) where
  abbrev pub pointing_met : Option ℕ → ℕ → ℕ → (ℕ → Insn → Insn) → (State → List ℕ) → State → List ℕ
  pointing_met (some start) callee here rewrite next state = next (rewritten here (rewrite start) state)
  pointing_met none callee here rewrite next state =
      met callee state ++ afterwards (append callee state) (λ after. next (rewritten here (rewrite (length state.image)) after))

  abbrev pub slot_met : Meaning → ℕ → (State → List ℕ) → State → List ℕ
  slot_met copied here next state = next state
  slot_met (call callee) here next state = callee ∷ pointing_met (start_of callee state.placed) callee here (λ start i. calling i start here) next state
  slot_met (reference callee) here next state = callee ∷ pointing_met (start_of callee state.placed) callee here (λ start i. referring i start here) next state
  slot_met (refused number) here next state = []

  unfoldable pub visit_met : ℕ → ℕ → ℕ → ℕ → State → List ℕ
  visit_met row start zero slot state = []
  visit_met row start (suc count) slot state = slot_met (meaning object row slot) (start + slot) (λ after. visit_met row start count (suc slot) after) state

abbrev pub unless_met : Option Refusal → List ℕ → List ℕ
unless_met none rows = rows
unless_met (some why) rows = []

module _ (object : Object) (admits : ℕ → State → Option Refusal) where
  unfoldable pub append_met : ℕ → ℕ → State → List ℕ
  append_met zero row state = []
  append_met (suc fuel) row state =
      unless_met (admits row state)
      (visit_met object (append object admits fuel) (append_met fuel) row (length state.image) (object.slots row) 0 (extended object row state))

  unfoldable pub link_met : Option Refusal → ℕ → List ℕ
  link_met rootRefusal root =
      unless_met rootRefusal (visit_met object (append object admits object.rows) (append_met object.rows) root 0 (object.slots root) 0 (root_only object root))
