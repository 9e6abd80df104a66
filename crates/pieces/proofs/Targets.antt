-- A piece that starts at a slot of the image: the starts rise, so no other piece does, and halving finds it.
-- Assumes nothing.
use mathlib.Core.Path.{◌≡◌, refl, sym, ap, ◌∙◌}
use mathlib.Core.Logic.{◌⊎◌, inl, inr}
use mathlib.Core.Bool.{Bool, true, false, ◌&&◌, ◌||◌}
use mathlib.Core.List.{List, [], ◌∷◌}
use Prim.Native.Nat.{ℕ, zero, suc, ◌+◌, ◌*◌, ◌≤◌, ◌<◌}
use native.Mathlib.Nat.{eq-or-lt_of_le}
use native.Mathlib.Decide.{dec_lt}
use native.Mathlib.Omega.{arith}
use borrow.Author.Tests.{ltb-true, ltb-false, lt-ltb, ne_eqb}
use lib.IntN.{ℤ, pos, negsuc, nat_abs}
use lib.Signed.{lt_z}
use lib.Dec.{eqb, ltb}
use lib.ListN.{length, take, drop, get_or}
use lib.Seq.{drop-drop, get_or-take, get_or-drop}
use mir.Syntax.{w64}
use mir.Val.{SFits}
use Rattle.std.specs.Int.{FitsUnsignedBits}
use Rattle.std.specs.Simd.{first_chunks}
use Rattle.std.specs.List.Sorted.{IsPartitionedBy, IsPartitionPoint}
use Rattle.rules.specs.Bytes.{u32_at}
use Rattle.rules.specs.Faithful.{Piece}
use Rattle.rules.specs.Link.{run}
use Rattle.rules.specs.Tables.{is_at}
use Rattle.rules.specs.Lookups.{Rising}
use Rattle.rules.specs.Pieces.{piece_size, piece_row, piece_start, piece_at, pieces_of}
use Rattle.rules.specs.Examine.{starts_at}
use Rattle.rules.proofs.Halving as halving
use Rattle.pieces.specs.Tiling.{listed, StartsRise, start_is_before, starts_before}

-- ---- tests joined
and_false : (b : Bool) → (b && false) ≡ false
and_false true = refl
and_false false = refl

or_false : (b : Bool) → (b || false) ≡ b
or_false true = refl
or_false false = refl

-- ---- any list
none_before : (n : ℕ) (z : ℤ) → lt_z z (pos 0) ≡ true → is_at n z ≡ false
none_before n (pos m) t = let h = ltb-true m 0 t in absurd (omega arith)
none_before n (negsuc m) t = refl

-- a number that no u64 is, and one that is
pub unfit : (z : ℤ) → SFits w64 z → (FitsUnsignedBits 64 z → ⊥) → lt_z z (pos 0) ≡ true
unfit (pos m) f n = absurd (n (omega (arith, f.sfits)))
unfit (negsuc m) f n = refl

pub place_is : (z : ℤ) → FitsUnsignedBits 64 z → z ≡ pos (nat_abs z)
place_is (pos m) f = refl
place_is (negsuc m) f = absurd f

pub negative : (target : ℤ) (row : ℕ) (ps : List Piece) → lt_z target (pos 0) ≡ true → starts_at target row ps ≡ false
unfolding starts_at
negative target row [] e = refl
negative target row (p ∷ ps) e =
    ap (λ b. (eqb p.row row && b) || starts_at target row ps) (none_before p.start target e)
    ∙ ap (λ b. b || starts_at target row ps) (and_false (eqb p.row row))
    ∙ negative target row ps e

module _ (t : List ℕ) (target : ℤ) (row : ℕ) where
  no_start : (k : ℕ) → is_at (piece_start t k) target ≡ false → (eqb (piece_row t k) row && is_at (piece_start t k) target) ≡ false
  no_start k e = ap (λ b. eqb (piece_row t k) row && b) e ∙ and_false (eqb (piece_row t k) row)

  nowhere : (from n : ℕ) → ((j : ℕ) → from ≤ j → j < from + n → is_at (piece_start t j) target ≡ false) → starts_at target row (run (piece_at t) from n) ≡ false
  unfolding starts_at
  nowhere from zero f = refl
  nowhere from (suc n) f =
      ap (λ b. b || starts_at target row (run (piece_at t) (suc from) n)) (no_start from (f from (omega arith) (omega arith)))
      ∙ nowhere (suc from) n (λ j l h. f j (omega arith) (omega arith))

  -- one piece decides, if no other starts there
  one : (from n k : ℕ) → from ≤ k → k < from + n
      → ((j : ℕ) → from ≤ j → j < from + n → (j ≡ k → ⊥) → is_at (piece_start t j) target ≡ false)
      → starts_at target row (run (piece_at t) from n) ≡ (eqb (piece_row t k) row && is_at (piece_start t k) target)
  unfolding starts_at
  one from zero k l h f = absurd (omega arith)
  one from (suc n) k l h f = go (eq-or-lt_of_le l) (λ less. one (suc from) n k less (omega arith) (λ j l h. f j (omega arith) (omega arith)))
    where
      go : (from ≡ k) ⊎ (from < k)
          → (from < k → starts_at target row (run (piece_at t) (suc from) n) ≡ (eqb (piece_row t k) row && is_at (piece_start t k) target))
          → ((eqb (piece_row t from) row && is_at (piece_start t from) target) || starts_at target row (run (piece_at t) (suc from) n))
          ≡ (eqb (piece_row t k) row && is_at (piece_start t k) target)
      go (inl same) later =
          ap (λ b. (eqb (piece_row t from) row && is_at (piece_start t from) target) || b)
          (nowhere (suc from) n (λ j l h. f j (omega arith) (omega arith) (λ (e : j ≡ k). omega arith)))
          ∙ or_false (eqb (piece_row t from) row && is_at (piece_start t from) target)
          ∙ ap (λ m. eqb (piece_row t m) row && is_at (piece_start t m) target) same
      go (inr less) later =
          ap (λ b. b || starts_at target row (run (piece_at t) (suc from) n)) (no_start from (f from (omega arith) (omega arith) (λ (e : from ≡ k). omega arith)))
          ∙ later less

-- ---- a list as rows of eight bytes
abbrev pub rows_of : List ℕ → List (List ℕ)
rows_of t = first_chunks piece_size (listed t) t

rows_length : (n : ℕ) (t : List ℕ) → length (first_chunks piece_size n t) ≡ n
rows_length zero t = refl
rows_length (suc n) t = ap suc (rows_length n (drop piece_size t))

row_is : (n k : ℕ) (t d : List ℕ) → k < n → get_or (first_chunks piece_size n t) k d ≡ take piece_size (drop (piece_size * k) t)
row_is zero k t d l = absurd (omega arith)
row_is (suc n) zero t d l = refl
row_is (suc n) (suc k) t d l =
    let e : piece_size + piece_size * k ≡ piece_size * suc k = omega arith in
    row_is n k (drop piece_size t) d (omega arith)
    ∙ ap (take piece_size) (drop-drop (piece_size * k) piece_size t)
    ∙ ap (λ m. take piece_size (drop m t)) e

byte_is : (t : List ℕ) (at j n : ℕ) → j < piece_size → at + j ≡ n → get_or (take piece_size (drop at t)) j 0 ≡ get_or t n 0
byte_is t at j n l e = get_or-take piece_size (drop at t) j 0 l ∙ get_or-drop at t j 0 ∙ ap (λ m. get_or t m 0) e

start_is : (t : List ℕ) (k : ℕ) → piece_start (take piece_size (drop (piece_size * k) t)) 0 ≡ piece_start t k
unfolding piece_start u32_at
start_is t k =
    let at = piece_size * k in
    let a = byte_is t at 4 (at + 4) (omega arith) refl in
    let b = byte_is t at 5 (at + 4 + 1) (omega arith) (omega arith) in
    let c = byte_is t at 6 (at + 4 + 2) (omega arith) (omega arith) in
    let d = byte_is t at 7 (at + 4 + 3) (omega arith) (omega arith) in
    rw (a, b, c, d) refl

before_is : (t d : List ℕ) (place k : ℕ) → k < listed t → start_is_before (get_or (rows_of t) k d) place 0 ≡ start_is_before t place k
before_is t d place k l = ap (λ row. start_is_before row place 0) (row_is (listed t) k t d l) ∙ ap (λ n. ltb n place) (start_is t k)

-- ---- starts that rise
module _ (t : List ℕ) (rise : StartsRise t) (place : ℕ) where
  falls : (i j : ℕ) → i < j → j < listed t → start_is_before t place j ≡ true → start_is_before t place i ≡ true
  unfolding Rising
  falls i j l m e = lt-ltb (piece_start t i) place (omega (arith, rise i j l m, ltb-true (piece_start t j) place e))

  -- where the rows that start before it end is how many there are
  met : (r : ℕ) → r ≤ listed t → ((j : ℕ) → j < r → start_is_before t place j ≡ true) → ((j : ℕ) → r ≤ j → j < listed t → start_is_before t place j ≡ false)
      → r ≡ starts_before t place
  unfolding starts_before
  met r l above under =
      halving.met (start_is_before t place) (listed t) falls r r (record { meet = omega arith; inside = l; above = above; under = under }) (omega arith)

  -- what partition_point asks of the rows, and what it says of them
  pub parted : IsPartitionedBy (λ row. start_is_before row place 0) (rows_of t)
  parted i j d l h e = go (eq-or-lt_of_le l)
    where
      inside : j < listed t
      inside = omega (arith, rows_length (listed t) t)

      there : start_is_before t place j ≡ true
      there = sym (before_is t d place j inside) ∙ e

      go : (i ≡ j) ⊎ (i < j) → start_is_before (get_or (rows_of t) i d) place 0 ≡ true
      go (inl same) = ap (λ k. start_is_before (get_or (rows_of t) k d) place 0) same ∙ e
      go (inr less) = before_is t d place i (omega (arith, inside)) ∙ falls i j less inside there

  pub point_is : (r : ℕ) → r ≤ length (rows_of t) → IsPartitionPoint (λ row. start_is_before row place 0 ≡ true) (λ row. start_is_before row place 0 ≡ false) (rows_of t) r
      → (r ≡ starts_before t place) × (r ≤ listed t)
  point_is r l point =
      let n = rows_length (listed t) t in
      let h : r ≤ listed t = omega (arith, n) in (
        met r h
            (λ j g. sym (before_is t [] place j (omega (arith, g, h))) ∙ point.0 j [] (omega arith) g)
            (λ j g i. sym (before_is t [] place j i) ∙ point.1 j [] g (omega (arith, n))),
        h,
      )

  earlier : (j : ℕ) → j < starts_before t place → piece_start t j < place
  unfolding starts_before
  earlier j l = ltb-true (piece_start t j) place (halving.before_it (start_is_before t place) (listed t) falls j l)

  later : (j : ℕ) → starts_before t place ≤ j → j < listed t → place ≤ piece_start t j
  unfolding starts_before
  later j l h = ltb-false (piece_start t j) place (halving.from_it (start_is_before t place) (listed t) falls j l h)

  -- a target that is this place
  module _ (target : ℤ) (there : target ≡ pos place) (row : ℕ) where
    elsewhere : (j : ℕ) → (piece_start t j ≡ place → ⊥) → is_at (piece_start t j) target ≡ false
    elsewhere j n = ap (is_at (piece_start t j)) there ∙ ne_eqb (piece_start t j) place n

    pub past_all : listed t ≤ starts_before t place → starts_at target row (pieces_of t) ≡ false
    unfolding pieces_of
    past_all l = nowhere t target row 0 (listed t) (λ j _ h. elsewhere j (λ (e : piece_start t j ≡ place). omega (arith, earlier j (omega arith))))

    pub at_most_one : (k : ℕ) → k ≡ starts_before t place → k < listed t
        → starts_at target row (pieces_of t) ≡ (eqb (piece_row t k) row && eqb (piece_start t k) place)
    unfolding pieces_of Rising
    at_most_one k e l =
        one t target row 0 (listed t) k (omega arith) (omega arith) (λ j _ h n. elsewhere j (other j h n (dec_lt j k)))
        ∙ ap (λ z. eqb (piece_row t k) row && is_at (piece_start t k) z) there
      where
        other : (j : ℕ) → j < 0 + listed t → (j ≡ k → ⊥) → Dec (j < k) → piece_start t j ≡ place → ⊥
        other j h n (yes less) s = omega (arith, earlier j (omega arith))
        other j h n (no more) s = go (eq-or-lt_of_le (let g : k ≤ j = omega arith in g))
          where
            go : (k ≡ j) ⊎ (k < j) → ⊥
            go (inl same) = n (sym same)
            go (inr less) = omega (arith, rise k j less (omega arith), later k (omega arith) l)
