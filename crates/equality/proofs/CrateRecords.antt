-- The records that the crate appends are document 01's, where 11 and 12 do not refuse.
-- Assumes nothing.
use mathlib.Core.Path.{◌≡◌, refl}
use mathlib.Core.Logic.{inl, inr}
use mathlib.Core.Bool.{Bool, true, false, cond, ◌&&◌}
use mathlib.Core.Option.{Option, none, some}
use mathlib.Core.List.{List, [], ◌∷◌, ◌++◌, map, append_assoc, append-nil}
use Prim.Native.Nat.{ℕ, suc, ◌+◌, ◌-◌, ◌≤◌, ◌<◌}
use native.Mathlib.Omega.{arith}
use lib.Dec.{leb, ltb}
use lib.ListN.{length}
use borrow.Author.Tests.{leb-true, ltb-true}
use Rattle.rules.specs.Faithful.{Piece}
use Rattle.rules.specs.Link.{State, Refusal, refusal}
use Rattle.rules.specs.Bytes.{half32}
use Rattle.rules.specs.Tables.{FunctionRecord, Tables, row_of, function_records_of, lines_of, LineRecord}
use Rattle.rules.specs.Records.{started_at, first_slot, rebased, stray, Room, added_functions, added_lines, image_functions, image_lines, admits, root_admits, then_stray, room_for, stray_line}
use Rattle.rules.specs.Rows.{most_image_slots}
use Rattle.equality.specs.Crate.{2³², func_at, line_at, lines_at}
use Rattle.equality.specs.Domain.{Compared}
use Rattle.equality.proofs.Numbers.{u32_exact, line_exact}

not_11 : Compared 11 → ⊥
not_11 (inl e) = omega arith
not_11 (inr (inl e)) = omega arith
not_11 (inr (inr (inl e))) = omega arith
not_11 (inr (inr (inr e))) = omega arith

not_12 : Compared 12 → ⊥
not_12 (inl e) = omega arith
not_12 (inr (inl e)) = omega arith
not_12 (inr (inr (inl e))) = omega arith
not_12 (inr (inr (inr e))) = omega arith

pub functions_exact : (start : ℕ) → start < 2³² → (rs : List FunctionRecord) → map (func_at start) rs ≡ map (started_at start) rs
functions_exact start l [] = refl
functions_exact start l (r ∷ rs) = λ i. record { slot = u32_exact start l i; kind = r.kind } ∷ functions_exact start l rs i

module _ (start slots : ℕ) (l : start < half32) (few : slots ≤ most_image_slots) where
  map_exact : (origin k : ℕ) (ls : List LineRecord) → stray slots origin k ls ≡ none → map (line_at origin start) ls ≡ map (rebased origin start) ls
  map_exact origin k [] e = refl
  map_exact origin k (x ∷ xs) e = go (leb origin x.slot) (ltb (x.slot - origin) slots) refl refl e (λ e. map_exact origin (suc k) xs e)
    where
      go : (a b : Bool) → leb origin x.slot ≡ a → ltb (x.slot - origin) slots ≡ b
          → cond (a && b) (stray slots origin (suc k) xs) (some k) ≡ none
          → (stray slots origin (suc k) xs ≡ none → map (line_at origin start) xs ≡ map (rebased origin start) xs)
          → map (line_at origin start) (x ∷ xs) ≡ map (rebased origin start) (x ∷ xs)
      go true true p q e later =
          let low : origin ≤ x.slot = leb-true origin x.slot p in
          let high : x.slot - origin < slots = ltb-true (x.slot - origin) slots q in
          let exact = line_exact start x.slot origin low (omega arith) l in
          λ i. record { slot = exact i; file = x.file; line = x.line; column = x.column } ∷ later e i
      go true false p q e later = let z : ◌≡◌ {A = ℕ} 0 1 = cc in absurd (omega arith)
      go false b p q e later = let z : ◌≡◌ {A = ℕ} 0 1 = cc in absurd (omega arith)

  pub lines_exact : (ls : List LineRecord) → stray slots (first_slot ls) 0 ls ≡ none → lines_at ls start ≡ map (rebased (first_slot ls) start) ls
  lines_exact [] e = refl
  lines_exact (x ∷ xs) e = map_exact x.slot 0 (x ∷ xs) e

module _ (tables : Tables) where
  added_functions_lem : (ps : List Piece) (p : Piece)
      → added_functions tables (ps ++ (p ∷ [])) ≡ added_functions tables ps ++ map (started_at p.start) (function_records_of tables p.row)
  added_functions_lem [] p = append-nil _
  added_functions_lem (q ∷ ps) p = simp (added_functions_lem ps p, append_assoc)

  added_lines_lem : (ps : List Piece) (p : Piece)
      → added_lines tables (ps ++ (p ∷ [])) ≡ added_lines tables ps ++ map (rebased (first_slot (lines_of tables p.row)) p.start) (lines_of tables p.row)
  added_lines_lem [] p = append-nil _
  added_lines_lem (q ∷ ps) p = simp (added_lines_lem ps p, append_assoc)

  pub image_functions_lem : (root : ℕ) (ps : List Piece) (p : Piece)
      → image_functions tables root (ps ++ (p ∷ [])) ≡ image_functions tables root ps ++ map (started_at p.start) (function_records_of tables p.row)
  unfolding image_functions
  image_functions_lem root ps p = simp (added_functions_lem ps p, append_assoc)

  pub image_lines_lem : (root : ℕ) (ps : List Piece) (p : Piece)
      → image_lines tables root (ps ++ (p ∷ []))
      ≡ image_lines tables root ps ++ map (rebased (first_slot (lines_of tables p.row)) p.start) (lines_of tables p.row)
  unfolding image_lines
  image_lines_lem root ps p = simp (added_lines_lem ps p, append_assoc)

  -- what a function that is admitted meets
  pub record Admitted (room : Room) (root row : ℕ) (state : State) : Type 0 where
    pub slots_fit : length state.image + (row_of tables row).slots ≤ room.slots
    pub functions_fit : length (image_functions tables root state.placed) + length (function_records_of tables row) ≤ room.functions
    pub lines_fit : length (image_lines tables root state.placed) + length (lines_of tables row) ≤ room.lines
    pub no_stray : stray (row_of tables row).slots (first_slot (lines_of tables row)) 0 (lines_of tables row) ≡ none

  -- one of them is refused, and never for a reason that is compared
  abbrev pub Judged : Room → ℕ → ℕ → State → Option Refusal → Type 0
  Judged room root row state none = Admitted room root row state
  Judged room root row state (some why) = Compared why.number → ⊥

  -- room is found, or 11
  abbrev Fits : Room → ℕ → ℕ → ℕ → ℕ → Option Refusal → Type 0
  Fits room slots functions lines row none =
      (slots + (row_of tables row).slots ≤ room.slots)
      × ((functions + length (function_records_of tables row) ≤ room.functions) × (lines + length (lines_of tables row) ≤ room.lines))
  Fits room slots functions lines row (some why) = Compared why.number → ⊥

  room_fits : (room : Room) (slots functions lines row : ℕ) → Fits room slots functions lines row (room_for tables room slots functions lines row)
  unfolding room_for
  room_fits room slots functions lines row =
      go (leb (slots + (row_of tables row).slots) room.slots) (leb (functions + length (function_records_of tables row)) room.functions)
      (leb (lines + length (lines_of tables row)) room.lines) refl refl refl
    where
      go : (a b c : Bool) → leb (slots + (row_of tables row).slots) room.slots ≡ a
          → leb (functions + length (function_records_of tables row)) room.functions ≡ b
          → leb (lines + length (lines_of tables row)) room.lines ≡ c
          → Fits room slots functions lines row (cond a (cond b (cond c none (some (refusal 11 row 0))) (some (refusal 11 row 0))) (some (refusal 11 row 0)))
      go true true true p q r = (
        leb-true (slots + (row_of tables row).slots) room.slots p,
        (leb-true (functions + length (function_records_of tables row)) room.functions q, leb-true (lines + length (lines_of tables row)) room.lines r),
      )
      go true true false p q r = not_11
      go true false c p q r = not_11
      go false b c p q r = not_11

  pub admits_judged : (room : Room) (root row : ℕ) (state : State) → Judged room root row state (admits tables room root row state)
  unfolding admits stray_line
  admits_judged room root row state =
      go (room_for tables room n f l row) (stray_line tables row) (room_fits room n f l row) refl
    where
      n : ℕ
      n = length state.image

      f : ℕ
      f = length (image_functions tables root state.placed)

      l : ℕ
      l = length (image_lines tables root state.placed)

      go : (o : Option Refusal) (k : Option ℕ) → Fits room n f l row o → stray (row_of tables row).slots (first_slot (lines_of tables row)) 0 (lines_of tables row) ≡ k
          → Judged room root row state (then_stray tables o k row)
      go (some why) k never e = never
      go none (some k) fits e = not_12
      go none none fits e = record { slots_fit = fits.0; functions_fit = fits.1.0; lines_fit = fits.1.1; no_stray = e }

  abbrev pub RootJudged : Room → ℕ → Option Refusal → Type 0
  RootJudged room root none = (row_of tables root).slots ≤ room.slots
  RootJudged room root (some why) = Compared why.number → ⊥

  pub root_judged : (room : Room) (root : ℕ) → RootJudged room root (root_admits tables room root)
  root_judged room root = go (room_for tables room 0 0 0 root) (room_fits room 0 0 0 root)
    where
      go : (o : Option Refusal) → Fits room 0 0 0 root o → RootJudged room root o
      go none fits = omega (arith, fits.0)
      go (some why) never = never
