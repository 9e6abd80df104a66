-- Two uses of `link_keeps`: an accepted image is within the room, and every function added passed what `admits` tests of it.
-- Assumes nothing.
use mathlib.Core.Path.{◌≡◌}
use mathlib.Core.Option.{Option, none}
use mathlib.Core.Logic.{◌⊎◌, inl, inr}
use mathlib.Core.List.Memᴰ
use mathlib.Core.List.{[], ◌∷◌, Memᴰ}
use Prim.Native.Nat.{ℕ, ◌+◌, ◌≤◌}
use native.Mathlib.Omega.{arith}
use lib.ListN.{length, length-set, length-append}
use Rattle.rules.specs.Object.{Object}
use Rattle.rules.specs.Faithful.{Piece, piece}
use Rattle.rules.specs.Link.{State, Refusal, linked, slots_of, link}
use Rattle.rules.proofs.Linking.{length_run}
use Rattle.rules.proofs.Invariant.{link_keeps}

module _ (object : Object) (admits : ℕ → State → Option Refusal) (rootRefusal : Option Refusal) (root : ℕ) (final : State)
    (accepted : link object admits rootRefusal root ≡ linked final) where
  pub within_room : (limit : ℕ) → (rootRefusal ≡ none → object.slots root ≤ limit)
      → ((row : ℕ) (state : State) → admits row state ≡ none → length state.image + object.slots row ≤ limit) → length final.image ≤ limit
  within_room limit root-fits fits =
      link_keeps object (λ state. length state.image ≤ limit) (λ here rewrite state k. simp length-set k) admits
      (λ row state a s k. omega (arith, fits row state a, length-append state.image (slots_of object row), length_run (object.insn row) 0 (object.slots row)))
      rootRefusal root final (λ a. omega (arith, root-fits a, length_run (object.insn root) 0 (object.slots root))) accepted

  pub all_fit : (Fit : ℕ → Type 0) → ((row : ℕ) (state : State) → admits row state ≡ none → Fit row) → (p : Piece) → Memᴰ p final.placed → Fit p.row
  all_fit Fit fits =
      link_keeps object (λ state. (p : Piece) → Memᴰ p state.placed → Fit p.row) (λ here rewrite state k. k) admits
      (λ row state a s k p m. either row state (fits row state a) k p (Memᴰ.append_cases state.placed m))
      rootRefusal root final (λ a p m. absurd (Memᴰ.not-nil m)) accepted
    where
      either : (row : ℕ) (state : State) → Fit row → ((p : Piece) → Memᴰ p state.placed → Fit p.row)
          → (p : Piece) → Memᴰ p state.placed ⊎ Memᴰ p (piece row (length state.image) ∷ []) → Fit p.row
      either row state f k p (inl m) = k p m
      either row state f k p (inr m) = rw (Memᴰ.eq_of_singleton m) f
