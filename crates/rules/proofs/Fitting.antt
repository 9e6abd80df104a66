-- What an accepted link passed: its records are within the room, and no function that it placed has a line record that 12 refuses.
-- Assumes nothing.
use mathlib.Core.Path.{◌≡◌, refl, ap}
use mathlib.Core.Logic.{◌⊎◌, inl, inr}
use mathlib.Core.Bool.{Bool, true, false, cond, ◌&&◌}
use mathlib.Core.Option.{Option, none, some}
use mathlib.Core.List.Memᴰ
use mathlib.Core.List.{List, [], ◌∷◌, ◌++◌, map, append-nil, Memᴰ}
use Prim.Native.Nat.{ℕ, suc, ◌+◌, ◌-◌, ◌≤◌, ◌<◌}
use native.Mathlib.Omega.{arith}
use borrow.Author.Tests.{leb-true, ltb-true}
use lib.Dec.{leb, ltb}
use lib.ListN.{length, length-append, length-map}
use Rattle.rules.specs.Faithful.{Piece, piece}
use Rattle.rules.specs.Link.{State, Refusal, refusal, linked, link}
use Rattle.rules.specs.Tables.{LineRecord, Tables, row_of, function_records_of, lines_of, object_of}
use Rattle.rules.specs.Records.{started_at, first_slot, rebased, stray, Room, image_functions, image_lines, room_for, stray_line, then_stray, admits, root_admits, link_step}
use Rattle.rules.specs.Accepted.{LinesInside}
use Rattle.rules.proofs.Passed.{and_left, and_right}
use Rattle.rules.proofs.Merging.{image_functions_more, image_lines_more}
use Rattle.rules.proofs.Invariant.{link_keeps}
use Rattle.rules.proofs.Admitted.{all_fit}
use Rattle.rules.proofs.Demand3.{stray_passed}

-- ---- 12
stray_inside : (slots origin k : ℕ) (ls : List LineRecord) → stray slots origin k ls ≡ none → (l : LineRecord) → Memᴰ l ls
    → (origin ≤ l.slot) × (l.slot - origin < slots)
stray_inside slots origin k [] e l m = absurd (Memᴰ.not-nil m)
stray_inside slots origin k (x ∷ ls) e l m =
    go (leb origin x.slot && ltb (x.slot - origin) slots) refl e (Memᴰ.cases_cons m) (λ rest. stray_inside slots origin (suc k) ls rest l)
  where
    go : (b : Bool) → (leb origin x.slot && ltb (x.slot - origin) slots) ≡ b → cond b (stray slots origin (suc k) ls) (some k) ≡ none → (l ≡ x) ⊎ Memᴰ l ls
        → (stray slots origin (suc k) ls ≡ none → Memᴰ l ls → (origin ≤ l.slot) × (l.slot - origin < slots)) → (origin ≤ l.slot) × (l.slot - origin < slots)
    go false f e w later = let z : ◌≡◌ {A = ℕ} 0 1 = cc in absurd (omega arith)
    go true f e (inl same) later =
        rw same
        (leb-true _ _ (and_left (leb origin x.slot) (ltb (x.slot - origin) slots) f), ltb-true _ _ (and_right (leb origin x.slot) (ltb (x.slot - origin) slots) f))
    go true f e (inr m) later = later e m

pub lines_inside : (tables : Tables) (row : ℕ) → stray_line tables row ≡ none → LinesInside tables row
unfolding stray_line
lines_inside tables row e = stray_inside (row_of tables row).slots (first_slot (lines_of tables row)) 0 (lines_of tables row) e

-- ---- room
module _ (tables : Tables) (room : Room) where
  no_stray : (a : Option Refusal) (k : Option ℕ) (row : ℕ) → then_stray tables a k row ≡ none → k ≡ none
  no_stray none none row e = refl
  no_stray none (some k) row e = let z : ◌≡◌ {A = ℕ} 0 1 = cc in absurd (omega arith)
  no_stray (some why) k row e = let z : ◌≡◌ {A = ℕ} 0 1 = cc in absurd (omega arith)

  records_fit : (slots functions lines row : ℕ) → room_for tables room slots functions lines row ≡ none
      → (functions + length (function_records_of tables row) ≤ room.functions) × (lines + length (lines_of tables row) ≤ room.lines)
  unfolding room_for
  records_fit slots functions lines row e =
      go (leb (slots + (row_of tables row).slots) room.slots) (leb (functions + length (function_records_of tables row)) room.functions)
      (leb (lines + length (lines_of tables row)) room.lines) refl refl e
    where
      go : (a b c : Bool) → leb (functions + length (function_records_of tables row)) room.functions ≡ b → leb (lines + length (lines_of tables row)) room.lines ≡ c
          → cond a (cond b (cond c none (some (refusal 11 row 0))) (some (refusal 11 row 0))) (some (refusal 11 row 0)) ≡ none
          → (functions + length (function_records_of tables row) ≤ room.functions) × (lines + length (lines_of tables row) ≤ room.lines)
      go true true true f g e = (leb-true _ _ f, leb-true _ _ g)
      go true true false f g e = let z : ◌≡◌ {A = ℕ} 0 1 = cc in absurd (omega arith)
      go true false c f g e = let z : ◌≡◌ {A = ℕ} 0 1 = cc in absurd (omega arith)
      go false b c f g e = let z : ◌≡◌ {A = ℕ} 0 1 = cc in absurd (omega arith)

  module _ (root : ℕ) (final : State) (accepted : link_step tables room root ≡ linked final) where
    as_link : link (object_of tables) (admits tables room root) (root_admits tables room root) root ≡ linked final
    unfolding link_step
    as_link = accepted

    admitted : (row : ℕ) (state : State) → admits tables room root row state ≡ none
        → room_for tables room (length state.image) (length (image_functions tables root state.placed)) (length (image_lines tables root state.placed)) row ≡ none
    unfolding admits
    admitted row state ok =
        stray_passed tables room
        (room_for tables room (length state.image) (length (image_functions tables root state.placed)) (length (image_lines tables root state.placed)) row) (stray_line tables row) row ok

    pub placed_inside : (p : Piece) → Memᴰ p final.placed → LinesInside tables p.row
    unfolding admits
    placed_inside =
        all_fit (object_of tables) (admits tables room root) (root_admits tables room root) root final as_link (LinesInside tables)
        (λ row state ok. lines_inside tables row
        (no_stray (room_for tables room (length state.image) (length (image_functions tables root state.placed)) (length (image_lines tables root state.placed)) row) (stray_line tables row) row ok))

    root_functions : image_functions tables root [] ≡ function_records_of tables root
    unfolding image_functions
    root_functions = append-nil (function_records_of tables root)

    root_lines : image_lines tables root [] ≡ lines_of tables root
    unfolding image_lines
    root_lines = append-nil (lines_of tables root)

    pub functions_small : length (image_functions tables root final.placed) ≤ room.functions
    functions_small =
        link_keeps (object_of tables) (λ state. length (image_functions tables root state.placed) ≤ room.functions) (λ here rewrite state k. k) (admits tables room root)
        (λ row state ok s k. more row state (records_fit _ _ _ row (admitted row state ok)).0)
        (root_admits tables room root) root final (λ ok. omega (arith, ap length root_functions, (records_fit 0 0 0 root ok).0)) as_link
      where
        more : (row : ℕ) (state : State) → length (image_functions tables root state.placed) + length (function_records_of tables row) ≤ room.functions
            → length (image_functions tables root (state.placed ++ (piece row (length state.image) ∷ []))) ≤ room.functions
        more row state l =
            omega (
              arith,
              ap length (image_functions_more tables root row (length state.image) state.placed),
              length-append (image_functions tables root state.placed) (map (started_at (length state.image)) (function_records_of tables row)),
              length-map (function_records_of tables row) (started_at (length state.image)),
              l,
            )

    pub lines_small : length (image_lines tables root final.placed) ≤ room.lines
    lines_small =
        link_keeps (object_of tables) (λ state. length (image_lines tables root state.placed) ≤ room.lines) (λ here rewrite state k. k) (admits tables room root)
        (λ row state ok s k. more row state (records_fit _ _ _ row (admitted row state ok)).1)
        (root_admits tables room root) root final (λ ok. omega (arith, ap length root_lines, (records_fit 0 0 0 root ok).1)) as_link
      where
        more : (row : ℕ) (state : State) → length (image_lines tables root state.placed) + length (lines_of tables row) ≤ room.lines
            → length (image_lines tables root (state.placed ++ (piece row (length state.image) ∷ []))) ≤ room.lines
        more row state l =
            omega (
              arith,
              ap length (image_lines_more tables root row (length state.image) state.placed),
              length-append (image_lines tables root state.placed) (map (rebased (first_slot (lines_of tables row)) (length state.image)) (lines_of tables row)),
              length-map (lines_of tables row) (rebased (first_slot (lines_of tables row)) (length state.image)),
              l,
            )
