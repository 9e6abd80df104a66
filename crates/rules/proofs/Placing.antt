-- The functions that an accepted link placed: rows of table 3, each once, one after another from the root's end on.
-- Assumes nothing.
use mathlib.Core.Path.{◌≡◌, sym, subst}
use mathlib.Core.Logic.{◌⊎◌, inl, inr}
use mathlib.Core.Bool.{Bool, true, false, cond}
use mathlib.Core.Option.{none, some}
use mathlib.Core.List.Memᴰ
use mathlib.Core.List.{List, [], ◌∷◌, ◌++◌, Memᴰ}
use Prim.Native.Nat.{ℕ, ◌+◌, ◌≤◌, ◌<◌}
use native.Mathlib.Nat.{zero-add}
use native.Mathlib.Omega.{arith}
use lib.Dec.{eqb}
use lib.ListN.{length, length-append}
use Rattle.rules.specs.declared.Table.TheVariants.{Functions}
use Rattle.rules.specs.Object.{is_call, is_wide_load, Meaning, copied, call, reference, refused, meaning}
use Rattle.rules.specs.Faithful.{Piece, piece, Tile, Faithful}
use Rattle.rules.specs.Link.{State, linked, start_of, link}
use Rattle.rules.specs.Bytes.{Order}
use Rattle.rules.specs.Tables.{Tables, object_of}
use Rattle.rules.specs.Records.{Room, admits, root_admits, link_step}
use Rattle.rules.specs.Rows.{whole_rows, Offered, link_refusal, tables_of}
use Rattle.rules.proofs.Starts.{start_now}
use Rattle.rules.proofs.Ending.{MeansRow, means_row, unplaced, unplaced_le, unplaced_less}
use Rattle.rules.proofs.Lookups.{names_rows}
use Rattle.rules.proofs.Linking.{link_faithful}
use Rattle.rules.proofs.Invariant.{Goes, link_keeps, link_keeps_to}
use Rattle.rules.proofs.Passed.{good_function}
use Rattle.rules.proofs.Refusing.{link_checked, root_is_row}
use Rattle.rules.proofs.Reading.{rows_are, row_is}

-- what has a start keeps it
pub start_still : (row start : ℕ) (ps qs : List Piece) → start_of row ps ≡ some start → start_of row (ps ++ qs) ≡ some start
start_still row start [] qs e = let z : ◌≡◌ {A = ℕ} 0 1 = cc in absurd (omega arith)
start_still row start (p ∷ ps) qs e = go (eqb p.row row) e (start_still row start ps qs)
  where
    go : (b : Bool) → cond b (some p.start) (start_of row ps) ≡ some start → (start_of row ps ≡ some start → start_of row (ps ++ qs) ≡ some start)
        → cond b (some p.start) (start_of row (ps ++ qs)) ≡ some start
    go true e later = e
    go false e later = later e

-- every piece is the one that its function is found at
abbrev Found : State → Type 0
Found state = (p : Piece) → Memᴰ p state.placed → start_of p.row state.placed ≡ some p.start

one_more : (row : ℕ) (state : State) → start_of row state.placed ≡ none → Found state → (p : Piece)
    → Memᴰ p state.placed ⊎ Memᴰ p (piece row (length state.image) ∷ [])
    → start_of p.row (state.placed ++ (piece row (length state.image) ∷ [])) ≡ some p.start
one_more row state e k p (inl m) = start_still p.row p.start state.placed (piece row (length state.image) ∷ []) (k p m)
one_more row state e k p (inr m) = rw (Memᴰ.eq_of_singleton m) (start_now row (length state.image) state.placed e)

goes_row : (rows : ℕ) (m : Meaning) → MeansRow rows m → Goes (λ row. row < rows) m
goes_row rows copied h = tt
goes_row rows (call callee) h = h
goes_row rows (reference callee) h = h
goes_row rows (refused number) h = tt

module _ (tables : Tables) (room : Room) (root : ℕ) (final : State) (accepted : link_step tables room root ≡ linked final) where
  as_link : link (object_of tables) (admits tables room root) (root_admits tables room root) root ≡ linked final
  unfolding link_step
  as_link = accepted

  -- no function is placed twice
  pub placed_distinct : (p : Piece) → Memᴰ p final.placed → start_of p.row final.placed ≡ some p.start
  placed_distinct =
      link_keeps (object_of tables) Found (λ here rewrite state k. k) (admits tables room root)
      (λ row state a e k p m. one_more row state e k p (Memᴰ.append_cases state.placed m))
      (root_admits tables room root) root final (λ a p m. absurd (Memᴰ.not-nil m)) as_link

  pub placed_faithful : Faithful (object_of tables) root final.image (piece root 0 ∷ final.placed)
  placed_faithful = link_faithful (object_of tables) (admits tables room root) (root_admits tables room root) root final as_link

  -- from the root's end to the image's end, in order
  pub list_in_order : Tile (object_of tables) ((object_of tables).slots root) final.placed (length final.image)
  list_in_order = subst (λ (n : ℕ). Tile (object_of tables) n final.placed (length final.image)) (zero-add ((object_of tables).slots root)) placed_faithful.tiled.1

  goes_to_rows : (row slot : ℕ) → Goes (λ row. row < (object_of tables).rows) (meaning (object_of tables) row slot)
  unfolding meaning
  goes_to_rows row slot =
      goes_row (object_of tables).rows (meaning (object_of tables) row slot)
      (means_row (object_of tables).rows (is_call ((object_of tables).insn row slot)) (is_wide_load (object_of tables) row slot) ((object_of tables).named row slot) (names_rows tables row slot))

  -- what is placed is a row of table 3
  pub placed_rows : (p : Piece) → Memᴰ p final.placed → p.row < (object_of tables).rows
  placed_rows =
      link_keeps_to (object_of tables) (λ row. row < (object_of tables).rows) goes_to_rows (λ state. (p : Piece) → Memᴰ p state.placed → p.row < (object_of tables).rows)
      (λ here rewrite state k. k) (admits tables room root)
      (λ row state to a e k p m. either row state to k p (Memᴰ.append_cases state.placed m))
      (root_admits tables room root) root final (λ a p m. absurd (Memᴰ.not-nil m)) as_link
    where
      either : (row : ℕ) (state : State) → row < (object_of tables).rows → ((p : Piece) → Memᴰ p state.placed → p.row < (object_of tables).rows)
          → (p : Piece) → Memᴰ p state.placed ⊎ Memᴰ p (piece row (length state.image) ∷ []) → p.row < (object_of tables).rows
      either row state to k p (inl m) = k p m
      either row state to k p (inr m) = rw (Memᴰ.eq_of_singleton m) to

  -- and there are no more than rows
  pub placed_few : length final.placed ≤ (object_of tables).rows
  placed_few =
      let within : length final.placed + unplaced (object_of tables).rows final.placed ≤ (object_of tables).rows =
      link_keeps_to (object_of tables) (λ row. row < (object_of tables).rows) goes_to_rows
      (λ state. length state.placed + unplaced (object_of tables).rows state.placed ≤ (object_of tables).rows)
      (λ here rewrite state k. k) (admits tables room root)
      (λ row state to a e k. omega (
        arith,
        unplaced_less (object_of tables).rows row (length state.image) state.placed to e,
        length-append state.placed (piece row (length state.image) ∷ []),
        k,
      ))
      (root_admits tables room root) root final (λ a. omega (arith, unplaced_le (object_of tables).rows [])) as_link in
      omega arith

-- over tables that 1, 2 and 13 let pass, every row has a slot
module _ (order : Order) (o : Offered) (root : ℕ) (ok : link_refusal o root ≡ none) where
  pub rows_filled : (row : ℕ) → row < (object_of (tables_of order o)).rows → 1 ≤ (object_of (tables_of order o)).slots row
  unfolding object_of
  rows_filled row l =
      let inside : row < whole_rows Functions o.functions = subst (λ (n : ℕ). row < n) (rows_are order o) l in
      subst (λ f. 1 ≤ f.slots) (sym (row_is order o row inside)) (good_function o.functions (link_checked o root ok).tables.functions row inside).slots_low

  pub root_row : root < (object_of (tables_of order o)).rows
  unfolding object_of
  root_row = subst (λ (n : ℕ). root < n) (sym (rows_are order o)) (root_is_row o root ok)

  module _ (room : Room) (final : State) (accepted : link_step (tables_of order o) room root ≡ linked final) where
    pub placed_filled : (p : Piece) → Memᴰ p final.placed → 1 ≤ (object_of (tables_of order o)).slots p.row
    placed_filled p m = rows_filled p.row (placed_rows (tables_of order o) room root final accepted p m)

    pub placed_few_rows : length final.placed ≤ whole_rows Functions o.functions
    unfolding object_of
    placed_few_rows = subst (λ (n : ℕ). length final.placed ≤ n) (rows_are order o) (placed_few (tables_of order o) room root final accepted)
