-- "Link step" (kernel page on BPF LLVM relocations): append and visit, depth first, slot by slot. Executable.
-- Assumes nothing.
use Rattle.std.specs.Prelude.{cond, List, [], ◌∷◌, ◌++◌, ℕ, zero, suc, ◌+◌, eqb, length, set}
use Rattle.std.proofs.Math.Option.{Option, none, some}
use Rattle.rules.specs.Object.{Insn, Object, Meaning, copied, call, reference, refused, meaning, calling, referring}
use Rattle.rules.specs.Faithful.{Piece, piece, slot_at}

-- the image so far, and the functions appended to it, in order. "The root is not placed at the start"
pub record State : Type 0 where
  pub image : List Insn
  pub placed : List Piece

pub record Refusal : Type 0 where
  pub number : ℕ
  pub row : ℕ
  pub place : ℕ

abbrev pub refusal : ℕ → ℕ → ℕ → Refusal
refusal number row place = record { number = number; row = row; place = place }

pub data Outcome : Type 0 where
  linked : State → Outcome
  refuses : Refusal → Outcome
  -- never returned: `never_unfinished`
  unfinished : Outcome

abbrev pub and_then : Outcome → (State → Outcome) → Outcome
and_then (linked state) next = next state
and_then (refuses why) next = refuses why
and_then unfinished next = unfinished

-- f at `from`, and at the numbers after it, `count` of them
abbrev pub run {ℓ} : {A : Type ℓ} → (ℕ → A) → ℕ → ℕ → List A
run f from zero = []
run f from (suc count) = f from ∷ run f (suc from) count

abbrev pub slots_of : Object → ℕ → List Insn
slots_of object row = run (object.insn row) 0 (object.slots row)

-- where a function is placed
abbrev pub start_of : ℕ → List Piece → Option ℕ
start_of row [] = none
start_of row (p ∷ ps) = cond (eqb p.row row) (some p.start) (start_of row ps)

abbrev pub extended : Object → ℕ → State → State
extended object row state = record {
  image = state.image ++ slots_of object row;
  placed = state.placed ++ (piece row (length state.image) ∷ []);
}

-- the slot `here` rewritten in place
abbrev pub rewritten : ℕ → (Insn → Insn) → State → State
rewritten here rewrite state = record { image = set state.image here (rewrite (slot_at state.image here)); placed = state.placed }

module _ (object : Object) (append : ℕ → State → Outcome) where
  -- "If that pair is not yet placed, append the function, place it, and visit all its slots before going on"; then the slot `here` is
  -- rewritten for its start
  abbrev pub pointing : Option ℕ → ℕ → ℕ → (ℕ → Insn → Insn) → (State → Outcome) → State → Outcome
  pointing (some start) callee here rewrite next state = next (rewritten here (rewrite start) state)
  pointing none callee here rewrite next state = and_then (append callee state) (λ after. next (rewritten here (rewrite (length state.image)) after))

  abbrev pub at_slot : Meaning → ℕ → ℕ → ℕ → (State → Outcome) → State → Outcome
  at_slot copied row slot here next state = next state
  at_slot (call callee) row slot here next state = pointing (start_of callee state.placed) callee here (λ start i. calling i start here) next state
  at_slot (reference callee) row slot here next state = pointing (start_of callee state.placed) callee here (λ start i. referring i start here) next state
  at_slot (refused number) row slot here next state = refuses (refusal number row slot)

  -- "Each function's slots are visited in rising order": of the function `row`, which starts at `start`, `count` slots from `slot` on
  unfoldable pub visit : ℕ → ℕ → ℕ → ℕ → State → Outcome
  visit row start zero slot state = linked state
  visit row start (suc count) slot state =
      at_slot (meaning object row slot) row slot (start + slot) (λ after. visit row start count (suc slot) after) state

abbrev pub unless : Option Refusal → Outcome → Outcome
unless none outcome = outcome
unless (some why) outcome = refuses why

-- "The image starts as the root with its records unchanged"
abbrev pub root_only : Object → ℕ → State
root_only object root = record { image = slots_of object root; placed = [] }

-- `admits` says what stands against adding a function: "Appending needs room ..., then 12"
module _ (object : Object) (admits : ℕ → State → Option Refusal) where
  -- one level of `fuel` for each function inside another
  unfoldable pub append : ℕ → ℕ → State → Outcome
  append zero row state = unfinished
  append (suc fuel) row state =
      unless (admits row state) (visit object (append fuel) row (length state.image) (object.slots row) 0 (extended object row state))

  unfoldable pub link : Option Refusal → ℕ → Outcome
  link rootRefusal root = unless rootRefusal (visit object (append object.rows) root 0 (object.slots root) 0 (root_only object root))
