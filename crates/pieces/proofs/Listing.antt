-- One turn of the loop that writes a list: before each, what is still to come, written behind what is there, is the whole.
-- Assumes nothing.
use mathlib.Core.Path.{◌≡◌, refl, sym, ap, ◌∙◌}
use mathlib.Core.Bool.{Bool, true, false, cond}
use mathlib.Core.Option.{Option, none, some}
use mathlib.Core.List.{List, [], ◌∷◌, ◌++◌}
use Prim.Native.Nat.{ℕ, zero, suc, ◌+◌, ◌*◌, ◌-◌, ◌≤◌, ◌<◌}
use native.Mathlib.Omega.{arith}
use borrow.Author.Tests.{lt-ltb, le-ltb, ltb-true, ltb-false}
use lib.Dec.{eqb, ltb}
use lib.ListN.{length, get_or, take, drop, replicate}
use lib.Seq.{length-take-le, get_or-take}
use Rattle.rules.specs.declared.Table.TheVariants.{Functions}
use Rattle.rules.specs.Bytes.{splice, padded}
use Rattle.rules.specs.Faithful.{Piece, piece}
use Rattle.rules.specs.Lookups.{found_of}
use Rattle.std.specs.Prelude.{Some, None}
use Rattle.std.specs.List.{position, position_or_len}
use Rattle.std.proofs.lemmas.List.Sums.{passes_at_first, fails_before_first}
use Rattle.rules.specs.Pieces.{piece_size, pieces_bytes}
use Rattle.rules.specs.Rows.{whole_rows, function_slots, first_from}
use Rattle.rules.proofs.Searches.{first_at, first_nothing}
use Rattle.rules.proofs.Splices.{splice_length, splice_nothing, splice_more}
use Rattle.rows.proofs.Laws.{found_some, found_none, row_found}
use Rattle.pieces.specs.InOrder.{piece_bytes, row_at, and_next, in_order, Puts}

-- ---- sizes
pub piece_length : (row start : ℕ) → length (piece_bytes row start) ≡ piece_size
unfolding piece_bytes
piece_length row start = refl

pub pieces_length : (ps : List Piece) → length (pieces_bytes ps) ≡ piece_size * length ps
unfolding pieces_bytes
pieces_length [] = refl
pieces_length (p ∷ ps) = omega (arith, pieces_length ps)

pieces_more : (row start : ℕ) (ps : List Piece) → piece_bytes row start ++ pieces_bytes ps ≡ pieces_bytes (piece row start ∷ ps)
unfolding pieces_bytes piece_bytes
pieces_more row start ps = refl

-- a piece, and those after it
piece_put : (d : List ℕ) (k row start : ℕ) (ps : List Piece) → piece_size * (k + 1) + piece_size * length ps ≤ length d
    → splice (splice d (piece_size * k) (piece_bytes row start)) (piece_size * (k + 1)) (pieces_bytes ps) ≡ splice d (piece_size * k) (pieces_bytes (piece row start ∷ ps))
piece_put d k row start ps fits =
    splice_more d (piece_size * k) (piece_bytes row start) (pieces_bytes ps) (piece_size * (k + 1)) (omega (arith, piece_length row start)) (omega (arith, pieces_length ps))
    ∙ ap (splice d (piece_size * k)) (pieces_more row start ps)

-- ---- what follows in order
module _ (slots : ℕ → ℕ) (starts : List ℕ) (n end : ℕ) where
  pub order_length : (most at : ℕ) → length (in_order slots starts n end most at) ≤ most
  unfolding in_order
  order_length zero at = omega arith
  order_length (suc most) at = tested (ltb at end) (row_at starts n at) (λ row. order_length most (at + slots row))
    where
      tested : (b : Bool) (o : Option ℕ) → ((row : ℕ) → length (in_order slots starts n end most (at + slots row)) ≤ most)
          → length (cond b (and_next o at (λ row. in_order slots starts n end most (at + slots row))) []) ≤ suc most
      tested false o later = omega arith
      tested true none later = omega arith
      tested true (some row) later = omega (arith, later row)

  pub order_next : (most at row : ℕ) → at < end → row_at starts n at ≡ some row
      → in_order slots starts n end (suc most) at ≡ piece row at ∷ in_order slots starts n end most (at + slots row)
  unfolding in_order
  order_next most at row l e =
      ap (λ b. cond b (and_next (row_at starts n at) at (λ row. in_order slots starts n end most (at + slots row))) []) (lt-ltb at end l)
      ∙ ap (λ o. and_next o at (λ row. in_order slots starts n end most (at + slots row))) e

  pub order_ends : (most at : ℕ) → end ≤ at → in_order slots starts n end most at ≡ []
  unfolding in_order
  order_ends zero at l = refl
  order_ends (suc most) at l =
      ap (λ b. cond b (and_next (row_at starts n at) at (λ row. in_order slots starts n end most (at + slots row))) []) (le-ltb at end l)

  pub order_breaks : (most at : ℕ) → row_at starts n at ≡ none → in_order slots starts n end most at ≡ []
  unfolding in_order
  order_breaks zero at e = refl
  order_breaks (suc most) at e = go (ltb at end)
    where
      go : (b : Bool) → cond b (and_next (row_at starts n at) at (λ row. in_order slots starts n end most (at + slots row))) [] ≡ []
      go true = ap (λ o. and_next o at (λ row. in_order slots starts n end most (at + slots row))) e
      go false = refl

  pub order_full : (most at : ℕ) → most ≡ 0 → in_order slots starts n end most at ≡ []
  unfolding in_order
  order_full most at e = rw e refl

-- ---- the row that is found
pub row_at_position : (starts : List ℕ) (n at : ℕ) → n ≤ length starts → position (λ s. eqb s at) (take n starts) ≡ found_of (row_at starts n at)
unfolding row_at
row_at_position starts n at l = go (ltb first (length (take n starts))) refl
  where
    test : ℕ → Bool
    test start = eqb start at

    first : ℕ
    first = position_or_len test (take n starts)

    same : (j : ℕ) (b : Bool) → j < n → test (get_or (take n starts) j 0) ≡ b → test (get_or starts j 0) ≡ b
    same j b h e = ap test (sym (get_or-take n starts j 0 h)) ∙ e

    go : (b : Bool) → ltb first (length (take n starts)) ≡ b → cond b (Some first) None ≡ found_of (first_from (λ row. test (get_or starts row 0)) 0 n)
    go true e =
        let h : first < n = omega (arith, ltb-true first (length (take n starts)) e, length-take-le n starts l) in
        sym (ap found_of (first_at (λ row. test (get_or starts row 0)) n first h
        (same first true h (passes_at_first test (take n starts) 0 (ltb-true first (length (take n starts)) e)))
        (λ j g. same j false (omega (arith, g, h)) (fails_before_first test (take n starts) j 0 g))))
    go false e =
        let h : n ≤ first = omega (arith, ltb-false first (length (take n starts)) e, length-take-le n starts l) in
        sym (ap found_of (first_nothing (λ row. test (get_or starts row 0)) n
        (λ j g. same j false g (fails_before_first test (take n starts) j 0 (omega (arith, g, h))))))

pub row_inside : (starts : List ℕ) (n at row : ℕ) → found_of (row_at starts n at) ≡ Some row → row < n
unfolding row_at
row_inside starts n at row e = (row_found (λ row. eqb (get_or starts row 0) at) n row e).inside

-- ---- the loop, after the root's piece
module _ (functions starts : List ℕ) (end : ℕ) where
  -- what is to come once so many pieces are there
  unfoldable pub rest : ℕ → ℕ → List Piece
  rest count at = in_order (function_slots functions) starts (whole_rows Functions functions) end (suc (whole_rows Functions functions) - count) at

  pub record Left (before : List ℕ) (first : ℕ) (after : List ℕ) (count at : ℕ) : Type 0 where
    pub low : 1 ≤ count
    pub high : count ≤ suc (whole_rows Functions functions)
    pub long : length after ≡ length before
    pub bytes : splice after (piece_size * count) (pieces_bytes (rest count at)) ≡ splice before (piece_size * 1) (pieces_bytes (rest 1 first))
    pub counted : count + length (rest count at) ≡ 1 + length (rest 1 first)

  pub left_start : (before : List ℕ) (first : ℕ) → Left before first before 1 first
  left_start before first = record { low = omega arith; high = omega arith; long = refl; bytes = refl; counted = refl }

  module _ (before : List ℕ) (room : piece_size * suc (whole_rows Functions functions) ≤ length before) (first : ℕ) (after : List ℕ) (count at : ℕ) (left : Left before first after count at) where
    pub left_next : (after' : List ℕ) (row slots : ℕ) → count ≤ whole_rows Functions functions → at < end
        → found_of (row_at starts (whole_rows Functions functions) at) ≡ Some row → after' ≡ splice after (piece_size * count) (piece_bytes row at)
        → slots ≡ function_slots functions row → Left before first after' (count + 1) (at + slots)
    unfolding rest
    left_next after' row slots l m found e f =
        let s : suc (whole_rows Functions functions) - count ≡ suc (suc (whole_rows Functions functions) - (count + 1)) = omega arith in
        let ps : List Piece = in_order (function_slots functions) starts (whole_rows Functions functions) end (suc (whole_rows Functions functions) - (count + 1)) (at + function_slots functions row) in
        let few : length ps ≤ suc (whole_rows Functions functions) - (count + 1) =
        order_length (function_slots functions) starts (whole_rows Functions functions) end (suc (whole_rows Functions functions) - (count + 1)) (at + function_slots functions row) in
        let same : in_order (function_slots functions) starts (whole_rows Functions functions) end (suc (whole_rows Functions functions) - count) at ≡ piece row at ∷ ps =
        ap (λ n. in_order (function_slots functions) starts (whole_rows Functions functions) end n at) s
        ∙ order_next (function_slots functions) starts (whole_rows Functions functions) end (suc (whole_rows Functions functions) - (count + 1)) at row m
        (found_some (row_at starts (whole_rows Functions functions) at) row found) in
        record {
          low = omega arith;
          high = omega arith;
          long = ap length e ∙ splice_length after (piece_size * count) (piece_bytes row at) (omega (arith, piece_length row at, left.long)) ∙ left.long;
          bytes = rw (e, f)
              (piece_put after count row at ps (omega (arith, left.long)) ∙ ap (λ l. splice after (piece_size * count) (pieces_bytes l)) (sym same) ∙ left.bytes);
          counted = rw f (omega (arith, ap length same, left.counted));
        }

    -- and the root's piece before them
    module _ (root : ℕ) (out : List ℕ) (put : before ≡ splice out (piece_size * 0) (piece_bytes root 0)) (begins : first ≡ function_slots functions root) where
      whole : piece_size * suc (whole_rows Functions functions) ≤ length out → rest count at ≡ [] → Puts functions starts root end out after count
      unfolding rest pieces_bytes
      whole fits e =
          let m : suc (whole_rows Functions functions) - 1 ≡ whole_rows Functions functions = omega arith in
          let ps : List Piece = in_order (function_slots functions) starts (whole_rows Functions functions) end (whole_rows Functions functions) (function_slots functions root) in
          let few : length ps ≤ whole_rows Functions functions = order_length (function_slots functions) starts (whole_rows Functions functions) end (whole_rows Functions functions) (function_slots functions root) in
          let same : rest 1 first ≡ ps = rw (begins, m) refl in
          record {
            written = splice_nothing after (piece_size * count) ∙ ap (λ l. splice after (piece_size * count) (pieces_bytes l)) (sym e) ∙ left.bytes
                ∙ ap (λ l. splice before (piece_size * 1) (pieces_bytes l)) same ∙ ap (λ d. splice d (piece_size * 1) (pieces_bytes ps)) put ∙ piece_put out 0 root 0 ps (omega arith);
            counted = omega (arith, ap length e, left.counted, ap length same);
          }

      module _ (fits : piece_size * suc (whole_rows Functions functions) ≤ length out) where
        pub left_ends : end ≤ at → Puts functions starts root end out after count
        unfolding rest
        left_ends l = whole fits (order_ends (function_slots functions) starts (whole_rows Functions functions) end (suc (whole_rows Functions functions) - count) at l)

        pub left_breaks : found_of (row_at starts (whole_rows Functions functions) at) ≡ None → Puts functions starts root end out after count
        unfolding rest
        left_breaks e =
            whole fits (order_breaks (function_slots functions) starts (whole_rows Functions functions) end (suc (whole_rows Functions functions) - count) at
            (found_none (row_at starts (whole_rows Functions functions) at) e))

        pub left_full : whole_rows Functions functions < count → Puts functions starts root end out after count
        unfolding rest
        left_full l =
            whole fits (order_full (function_slots functions) starts (whole_rows Functions functions) end (suc (whole_rows Functions functions) - count) at (omega arith))

-- ---- over zeros
drop_zeros : (k n : ℕ) → k ≤ n → drop {A = ℕ} k (replicate n 0) ≡ replicate (n - k) 0
drop_zeros zero n l = let e : n ≡ n - 0 = omega arith in ap (λ m. replicate m 0) e
drop_zeros (suc k) zero l = absurd (omega arith)
drop_zeros (suc k) (suc n) l = let e : n - k ≡ suc n - suc k = omega arith in drop_zeros k n (omega arith) ∙ ap (λ m. replicate m 0) e

pub splice_zeros : (n : ℕ) (d xs : List ℕ) → d ≡ replicate n 0 → length xs ≤ n → splice d 0 xs ≡ padded n xs
unfolding splice padded
splice_zeros n d xs e l =
    let z : 0 + length xs ≡ length xs = omega arith in
    rw (e, z) (ap (λ x. xs ++ x) (drop_zeros (length xs) n l))
