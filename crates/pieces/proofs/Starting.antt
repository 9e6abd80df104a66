-- Pieces that tile an image, each function once, are in the order of their starts: the starts alone give the list back.
-- Assumes nothing.
use mathlib.Core.Path.{◌≡◌, refl, sym, ap, ◌∙◌}
use mathlib.Core.Bool.{false}
use mathlib.Core.Option.{Option, none, some}
use mathlib.Core.List.{List, [], ◌∷◌, Memᴰ}
use Prim.Native.Nat.{ℕ, zero, suc, ◌+◌, ◌≤◌, ◌<◌}
use native.Mathlib.Omega.{arith}
use borrow.Author.Tests.{eq-eqb, ne_eqb}
use lib.Dec.{eqb}
use lib.ListN.{length, get_or}
use Rattle.rules.specs.Object.{Object}
use Rattle.rules.specs.Faithful.{Piece, piece, Tile}
use Rattle.rules.specs.Link.{start_of}
use Rattle.rules.proofs.Linking.{found}
use Rattle.rules.proofs.Searches.{first_at}
use Rattle.rules.proofs.Tiles.{tile_le, tile_one}
use Rattle.pieces.specs.InOrder.{row_at, in_order}
use Rattle.pieces.proofs.Listing.{order_next, order_ends}

-- the starts of n functions, each of which stands once among the pieces or has no start
pub record Located (starts : List ℕ) (n : ℕ) (all : List Piece) : Type 0 where
  pub at_start : (row start : ℕ) → row < n → start_of row all ≡ some start → get_or starts row 0 ≡ start
  pub at_none : (row : ℕ) → row < n → start_of row all ≡ none → get_or starts row 0 ≡ 0

-- pieces from the slot `first` on, each function once
pub record Once (object : Object) (n first end : ℕ) (all : List Piece) : Type 0 where
  pub low : 1 ≤ first
  pub tiled : Tile object first all end
  pub inside : (p : Piece) → Memᴰ p all → p.row < n
  pub slots : (row : ℕ) → row < n → 1 ≤ object.slots row
  pub once : (p : Piece) → Memᴰ p all → start_of p.row all ≡ some p.start

module _ (object : Object) (slots : ℕ → ℕ) (starts : List ℕ) (n first end : ℕ) (all : List Piece) (same : (row : ℕ) → row < n → object.slots row ≡ slots row)
    (o : Once object n first end all) (located : Located starts n all) where
  -- another function does not start there
  not_here : (p : Piece) → Memᴰ p all → 1 ≤ p.start → (j : ℕ) → j < p.row → eqb (get_or starts j 0) p.start ≡ false
  not_here p m low j l = ne_eqb (get_or starts j 0) p.start (go (start_of j all) refl)
    where
      inn : p.row < n
      inn = o.inside p m

      go : (x : Option ℕ) → start_of j all ≡ x → get_or starts j 0 ≡ p.start → ⊥
      go none e f = omega (arith, located.at_none j (omega (arith, inn)) e)
      go (some s) e f =
          let here : s ≡ p.start = sym (located.at_start j s (omega (arith, inn)) e) ∙ f in
          let q : Memᴰ (piece j s) all = found j s all e in
          let a = o.slots p.row inn in
          let b = o.slots j (omega (arith, inn)) in
          let one : p ≡ piece j s = tile_one object p (piece j s) all first end p.start m q o.tiled (omega arith) (omega (arith, a)) (omega (arith, here)) (omega (arith, here, b)) in
          let row : p.row ≡ j = ap (λ (x : Piece). x.row) one in
          omega (arith, row, l)

  pub starts_here : (p : Piece) → Memᴰ p all → 1 ≤ p.start → row_at starts n p.start ≡ some p.row
  unfolding row_at
  starts_here p m low =
      first_at (λ row. eqb (get_or starts row 0) p.start) n p.row (o.inside p m)
      (eq-eqb (get_or starts p.row 0) p.start (located.at_start p.row p.start (o.inside p m) (o.once p m)))
      (not_here p m low)

  listed : (ps : List Piece) → ((p : Piece) → Memᴰ p ps → Memᴰ p all) → (at : ℕ) → 1 ≤ at → Tile object at ps end
      → (most : ℕ) → length ps ≤ most → in_order slots starts n end most at ≡ ps
  listed [] among at low t most l = order_ends slots starts n end most at (omega (arith, t))
  listed (p ∷ ps) among at low t zero l = absurd (omega arith)
  listed (p ∷ ps) among at low t (suc most) l =
      let m : Memᴰ p all = among p (mathlib.Core.List.Memᴰ.head refl) in
      let here : p.start ≡ at = t.0 in
      let size : object.slots p.row ≡ slots p.row = same p.row (o.inside p m) in
      let some_slot : 1 ≤ object.slots p.row = o.slots p.row (o.inside p m) in
      let ends : at + object.slots p.row ≤ end = tile_le object ps (at + object.slots p.row) end t.1 in
      let later : in_order slots starts n end most (at + object.slots p.row) ≡ ps =
      listed ps (λ q k. among q (mathlib.Core.List.Memᴰ.tail k)) (at + object.slots p.row) (omega arith) t.1 most (omega arith) in
      order_next slots starts n end most at p.row (omega arith) (ap (row_at starts n) (sym here) ∙ starts_here p m (omega (arith, here)))
      ∙ ap (λ k. piece p.row at ∷ in_order slots starts n end most (at + k)) (sym size)
      ∙ ap (λ ps. piece p.row at ∷ ps) later
      ∙ ap (λ k. piece p.row k ∷ ps) (sym here)

  pub in_order_lem : (most : ℕ) → length all ≤ most → in_order slots starts n end most first ≡ all
  in_order_lem most l = listed all (λ p m. m) first o.low o.tiled most l
