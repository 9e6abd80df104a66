-- A search for a line record that strays, as a loop takes it, and what it says where it finds none.
-- Assumes nothing.
use mathlib.Core.Path.{◌≡◌, refl, sym, ap, ◌∙◌}
use mathlib.Core.Bool.{Bool, true, false, cond, ◌&&◌}
use mathlib.Core.Option.{Option, none, some}
use mathlib.Core.List.{List, [], ◌∷◌}
use Prim.Native.Nat.{ℕ, zero, suc, ◌+◌, ◌-◌, ◌≤◌, ◌<◌}
use native.Mathlib.Omega.{arith}
use native.Mathlib.Nat.{add-zero}
use native.Mathlib.Numerals.{add-one}
use borrow.Author.Tests.{leb-true, ltb-true}
use lib.Dec.{leb, ltb}
use lib.ListN.{length}
use Rattle.std.specs.Prelude as prelude
use Rattle.std.specs.Prelude.{Some, None, MatchOption}
use Rattle.rules.specs.Lookups.{found_of}
use Rattle.rules.specs.declared.Table.TheVariants.{LineInfo}
use Rattle.rules.specs.Bytes.{little}
use Rattle.rules.specs.Link.{run}
use Rattle.rules.specs.Tables.{LineRecord}
use Rattle.rules.specs.Rows.{record_slot, function_slots, function_line_info, line_info_row, summed}
use Rattle.rules.specs.Records.{first_slot, stray}
use Rattle.rules.proofs.Linking.{length_run}
use Rattle.rules.proofs.Passed.{and_left, and_right}
use Rattle.merge.specs.Merge.{line_rows, stays, stray_in, Near}

pub first_slot_lem : (f : ℕ → LineRecord) (first n : ℕ) → 0 < n → first_slot (run f first n) ≡ (f first).slot
first_slot_lem f first zero l = absurd (omega arith)
first_slot_lem f first (suc n) l = refl

module _ (slots origin : ℕ) (f : ℕ → LineRecord) where
  -- k of n records looked at
  abbrev pub left : ℕ → ℕ → ℕ → Option ℕ
  left first n k = stray slots origin k (run f (first + k) (n - k))

  module _ (first n k : ℕ) where
    taken : (b : Bool) → k < n → stays slots origin (f (first + k)) ≡ b → left first n k ≡ cond b (left first n (k + 1)) (some k)
    taken b h g =
        let e : n - k ≡ suc (n - (k + 1)) = omega arith in
        let s : suc (first + k) ≡ first + (k + 1) = omega arith in
        ap (λ m. stray slots origin k (run f (first + k) m)) e
        ∙ ap (λ b. cond b (stray slots origin (suc k) (run f (suc (first + k)) (n - (k + 1)))) (some k)) g
        ∙ ap (λ m. cond b (stray slots origin m (run f (suc (first + k)) (n - (k + 1)))) (some k)) (sym (add-one k))
        ∙ ap (λ m. cond b (stray slots origin (k + 1) (run f m (n - (k + 1)))) (some k)) s

  skip : (first n k : ℕ) → k ≤ n → ((j : ℕ) → j < k → stays slots origin (f (first + j)) ≡ true) → left first n 0 ≡ left first n k
  skip first n zero h each = refl
  skip first n (suc k) h each =
      skip first n k (omega arith) (λ j g. each j (omega arith)) ∙ taken first n k true (omega arith) (each k (omega arith)) ∙ ap (left first n) (add-one k)

  -- what find says of the numbers of the records, as the definition does
  pub stray_found : (first n : ℕ) (r : prelude.Option ℕ)
      → MatchOption r ((k : ℕ) → 0 ≤ k → k < n → stays slots origin (f (first + k)) ≡ true)
      (λ k. (0 ≤ k) × (k < n) × (stays slots origin (f (first + k)) ≡ false) × ((j : ℕ) → 0 ≤ j → j < k → stays slots origin (f (first + j)) ≡ true))
      → r ≡ found_of (left first n 0)
  stray_found first n None each =
      let e : n - n ≡ 0 = omega arith in
      sym (ap found_of (skip first n n (omega arith) (λ j g. each j (omega arith) g) ∙ ap (λ m. stray slots origin n (run f (first + n) m)) e))
  stray_found first n (Some k) found =
      sym (ap found_of (skip first n k (omega (arith, found.1)) (λ j g. found.3 j (omega arith) g) ∙ taken first n k false found.1 found.2))

  record Stays (k : ℕ) : Type 0 where
    low : origin ≤ (f k).slot
    high : (f k).slot - origin < slots

  all_stay : (n first j : ℕ) → stray slots origin j (run f first n) ≡ none → (k : ℕ) → k < n → Stays (first + k)
  all_stay zero first j e k l = absurd (omega arith)
  all_stay (suc n) first j e k l = go (stays slots origin (f first)) refl e (λ rest. all_stay n (suc first) (suc j) rest) k l
    where
      go : (b : Bool) → stays slots origin (f first) ≡ b → cond b (stray slots origin (suc j) (run f (suc first) n)) (some j) ≡ none
          → (stray slots origin (suc j) (run f (suc first) n) ≡ none → (k : ℕ) → k < n → Stays (suc first + k)) → (k : ℕ) → k < suc n → Stays (first + k)
      go false g e later k l = let z : ◌≡◌ {A = ℕ} 0 1 = cc in absurd (omega arith)
      go true g e later zero l = rw (add-zero first) (record { low = leb-true _ _ (and_left _ _ g); high = ltb-true _ _ (and_right (leb origin (f first).slot) _ g) })
      go true g e later (suc k) l =
          let s : suc first + k ≡ first + suc k = omega arith in
          rw s at (later e k (omega arith))

-- where the search begins
pub stray_start : (functions line_info : List ℕ) (row first count slots origin : ℕ) → slots ≡ function_slots functions row
    → first ≡ summed (function_line_info functions) 0 row → count ≡ function_line_info functions row
    → origin ≡ record_slot little LineInfo line_info first → 0 < count → stray_in functions line_info row ≡ left slots origin (line_info_row little line_info) first count 0
stray_start functions line_info row first count slots origin es ef ec eo l =
    let o : first_slot (run (line_info_row little line_info) first count) ≡ origin = first_slot_lem (line_info_row little line_info) first count l ∙ sym eo in
    let f₀ : first + 0 ≡ first = omega arith in
    let c₀ : count - 0 ≡ count = omega arith in
    rw (← es, ← ef, ← ec, o, f₀, c₀)

-- no record strays, and the function ends below 2^32: each record can be moved
pub near : (slots start : ℕ) (t : List ℕ) (first n : ℕ) → start + slots < 0x1_0000_0000
    → stray slots (first_slot (run (line_info_row little t) first n)) 0 (run (line_info_row little t) first n) ≡ none → Near t first n start
near slots start t first n small e k l =
    let o : first_slot (run (line_info_row little t) first n) ≡ (line_info_row little t first).slot = first_slot_lem (line_info_row little t) first n (omega arith) in
    let s : Stays slots (line_info_row little t first).slot (line_info_row little t) (first + k) = all_stay slots (line_info_row little t first).slot (line_info_row little t) n first 0 (rw o at e) k l in
    record { low = s.low; sum = omega (arith, s.high) }

pub near_in : (functions line_info : List ℕ) (row first count start : ℕ) → first ≡ summed (function_line_info functions) 0 row → count ≡ function_line_info functions row
    → start + function_slots functions row < 0x1_0000_0000 → stray_in functions line_info row ≡ none → Near line_info first count start
near_in functions line_info row first count start e f small none_strays =
    rw (e, f) (near (function_slots functions row) start line_info (summed (function_line_info functions) 0 row) (function_line_info functions row) small none_strays)

-- a record that strays is one of the row's
stray_below : (slots origin from k : ℕ) (ls : List LineRecord) → stray slots origin from ls ≡ some k → k < from + length ls
stray_below slots origin from k [] e = let z : ◌≡◌ {A = ℕ} 0 1 = cc in absurd (omega arith)
stray_below slots origin from k (l ∷ ls) e = go (leb origin l.slot && ltb (l.slot - origin) slots) e (λ rest. stray_below slots origin (suc from) k ls rest)
  where
    go : (b : Bool) → cond b (stray slots origin (suc from) ls) (some from) ≡ some k → (stray slots origin (suc from) ls ≡ some k → k < suc from + length ls) → k < from + suc (length ls)
    go true e later = omega (arith, later e)
    go false e later = let same : from ≡ k = cc in omega arith

pub stray_low : (functions line_info : List ℕ) (row k : ℕ) → stray_in functions line_info row ≡ some k → k < function_line_info functions row
stray_low functions line_info row k e =
    omega (
      arith,
      stray_below (function_slots functions row) (first_slot (line_rows functions line_info row)) 0 k (line_rows functions line_info row) e,
      length_run (line_info_row little line_info) (summed (function_line_info functions) 0 row) (function_line_info functions row),
    )
