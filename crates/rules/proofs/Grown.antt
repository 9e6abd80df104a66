-- How the state grows while slots are visited.
-- Assumes nothing.
use mathlib.Core.Path.{◌≡◌, refl, sym, ◌∙◌, ap}
use mathlib.Core.Logic.{◌⊎◌, inl, inr}
use mathlib.Core.List.Memᴰ
use mathlib.Core.List.{List, [], ◌++◌, append-nil, append_assoc, Memᴰ}
use Prim.Native.Nat.{ℕ, suc, ◌+◌, ◌≤◌, ◌<◌}
use native.Mathlib.Omega.{arith}
use lib.ListN.{length, length-set}
use lib.Seq.{get_or-set_other}
use Rattle.rules.specs.Object.{Insn, Object, Meaning, copied, call, reference, refused, meaning}
use Rattle.rules.specs.Faithful.{Piece, piece, blank, slot_at, Tile, LinkOf, Linked}
use Rattle.rules.specs.Link.{State, rewritten}
use Rattle.rules.proofs.Tiles.{tile_le, tile_fits, tile_append}

-- more pieces leave a right link right
link_of_more : {P Q : List Piece} → ((p : Piece) → Memᴰ p P → Memᴰ p Q) → (i j : Insn) (here : ℕ) (m : Meaning)
    → LinkOf P i here j m → LinkOf Q i here j m
link_of_more sub i j here copied l = l
link_of_more sub i j here (call row) l = record { start = l.start; among = sub (piece row l.start) l.among; holds = l.holds }
link_of_more sub i j here (reference row) l = record { start = l.start; among = sub (piece row l.start) l.among; holds = l.holds }
link_of_more sub i j here (refused number) l = l

pub linked_more : (object : Object) {P Q : List Piece} → ((p : Piece) → Memᴰ p P → Memᴰ p Q) → (row slot here : ℕ) (i : Insn)
    → Linked object P row slot here i → Linked object Q row slot here i
unfolding Linked
linked_more object sub row slot here i l = link_of_more sub (object.insn row slot) i here (meaning object row slot) l

-- pieces were added at the end, all linked; of the slots that stood before, those from `low` up to `high` may have changed
pub record Grown (object : Object) (low high : ℕ) (before after : State) : Type 0 where
  pub more : List Piece
  pub placed_more : after.placed ≡ before.placed ++ more
  pub tiled : Tile object (length before.image) more (length after.image)
  pub links : (p : Piece) → Memᴰ p more → (slot : ℕ) → slot < object.slots p.row
      → Linked object after.placed p.row slot (p.start + slot) (slot_at after.image (p.start + slot))
  pub kept_below : (k : ℕ) → k < low → k < length before.image → slot_at after.image k ≡ slot_at before.image k
  pub kept_above : (k : ℕ) → high ≤ k → k < length before.image → slot_at after.image k ≡ slot_at before.image k

module _ (object : Object) where
  pub grown_refl : (low high : ℕ) (state : State) → Grown object low high state state
  grown_refl low high state = record {
    more = [];
    placed_more = sym (append-nil state.placed);
    tiled = refl;
    links = λ p m. absurd (Memᴰ.not-nil m);
    kept_below = λ k l b. refl;
    kept_above = λ k l b. refl;
  }

  pub grown_rewritten : (here : ℕ) (rewrite : Insn → Insn) (state : State) → Grown object here (suc here) state (rewritten here rewrite state)
  grown_rewritten here rewrite state = record {
    more = [];
    placed_more = sym (append-nil state.placed);
    tiled = sym (length-set state.image here _);
    links = λ p m. absurd (Memᴰ.not-nil m);
    kept_below = λ k l b. get_or-set_other state.image here k _ blank (omega arith);
    kept_above = λ k l b. get_or-set_other state.image here k _ blank (omega arith);
  }

  module _ {low high : ℕ} {before after : State} (g : Grown object low high before after) where
    pub grown_longer : length before.image ≤ length after.image
    grown_longer = tile_le object g.more (length before.image) (length after.image) g.tiled

    pub grown_placed : (p : Piece) → Memᴰ p before.placed → Memᴰ p after.placed
    grown_placed p m = rw g.placed_more (Memᴰ.append_left g.more m)

    -- a slot of an added piece
    pub grown_inside : (p : Piece) → Memᴰ p g.more → (slot : ℕ) → slot < object.slots p.row
        → (length before.image ≤ p.start + slot) × (p.start + slot < length after.image)
    grown_inside p m slot l =
        let t = tile_fits object (length before.image) (length after.image) m g.tiled in
        (omega arith, omega arith)

  pub grown_then : {low₁ high₁ low₂ high₂ : ℕ} {a b c : State} (low high : ℕ) → Grown object low₁ high₁ a b → Grown object low₂ high₂ b c
      → low ≤ low₁ → low ≤ low₂ → high₁ ≤ high → high₂ ≤ high → high₂ ≤ length a.image → Grown object low high a c
  grown_then {a = a} {b = b} {c = c} low high g h l₁ l₂ h₁ h₂ e = record {
    more = g.more ++ h.more;
    placed_more = h.placed_more ∙ ap (λ x. x ++ h.more) g.placed_more ∙ append_assoc a.placed g.more h.more;
    tiled = tile_append object g.more h.more (length a.image) (length b.image) (length c.image) g.tiled h.tiled;
    links = λ p m slot l. either p slot l (Memᴰ.append_cases g.more m);
    kept_below = λ k l b. h.kept_below k (omega arith) (omega (arith, grown_longer g)) ∙ g.kept_below k (omega arith) b;
    kept_above = λ k l b. h.kept_above k (omega arith) (omega (arith, grown_longer g)) ∙ g.kept_above k (omega arith) b;
  }
    where
      either : (p : Piece) (slot : ℕ) → slot < object.slots p.row → Memᴰ p g.more ⊎ Memᴰ p h.more
          → Linked object c.placed p.row slot (p.start + slot) (slot_at c.image (p.start + slot))
      either p slot l (inl m) =
          let in_b = grown_inside g p m slot l in
          rw (h.kept_above (p.start + slot) (omega arith) in_b.1)
          (linked_more object (grown_placed h) p.row slot (p.start + slot) _ (g.links p m slot l))
      either p slot l (inr m) = h.links p m slot l
