-- The function beside a slot in the listing is the one whose copy has that slot in the link's own list: pieces that stand one after another
-- start past a slot once one of them has it, so the last that starts at or before the slot is that one.
-- Assumes nothing.
use mathlib.Core.Path.{◌≡◌, refl, sym, ap, subst, ◌∙◌}
use mathlib.Core.Bool.{Bool}
use mathlib.Core.List.{List, [], ◌∷◌, Memᴰ}
use Prim.Native.Nat.{ℕ, zero, suc, ◌+◌, ◌-◌, ◌*◌, ◌/◌, ◌≤◌, ◌<◌}
use native.Mathlib.Nat.{zero-add}
use native.Mathlib.Omega.{arith}
use native.Mathlib.Decide.{dec_lt}
use borrow.Author.Tests.{le-leb, lt-leb}
use lib.Dec.{leb}
use lib.ListN.{length, get_or, take}
use Rattle.std.specs.Prelude.{Option, Some, Result}
use Rattle.rules.specs.declared.Refusal as told
use Rattle.rules.specs.Bytes.{little, u32_at}
use Rattle.rules.specs.Object.{Object}
use Rattle.rules.specs.Faithful.{Piece, Tile}
use Rattle.rules.specs.Link.{run}
use Rattle.rules.specs.Tables.{object_of}
use Rattle.rules.specs.Rows.{Offered, tables_of}
use Rattle.rules.specs.Lent.{Buffers}
use Rattle.rules.specs.Entries.{Outputs, PiecesResult, room_in, link_pieces_entry}
use Rattle.rules.specs.Pieces.{piece_size, piece_start, piece_at, pieces_of, pieces_bytes}
use Rattle.rules.specs.Demand3.{count}
use Rattle.rules.proofs.Linking.{run_at}
use Rattle.rules.proofs.Tiles.{tile_fits, tile_one}
use Rattle.rules.proofs.RowBytes.{pieces_back, pieces_length}
use Rattle.rules.proofs.Placing.{placed_faithful}
use Rattle.rules.proofs.Listing.{no_piece, by_pieces_entry}
use Rattle.tell.specs.declared.listing.Source.{Source}
use Rattle.tell.specs.Listing.{pick_found, last_at, source_of, source_at}
use Rattle.tell.specs.Listing.{piece_at as lastPiece}
use Rattle.clerk.specs.declared.steps.Made.{Made}
use Rattle.clerk.specs.Steps.{made_bytes, MadeBy}

-- what is shown of a piece's slot
abbrev pub copy : Piece → ℕ → Option Source
copy p k = Some (record { function = p.row; start = p.start; slot = k - p.start })

-- ---- pieces that stand one after another
among_at : (ps : List Piece) (i : ℕ) → i < length ps → Memᴰ (get_or ps i no_piece) ps
among_at [] i l = absurd (omega arith)
among_at (p ∷ ps) zero l = Memᴰ.head refl
among_at (p ∷ ps) (suc i) l = Memᴰ.tail (among_at ps i (omega arith))

-- piece i has the slot, and those after it start past the slot
record LastWith (object : Object) (ps : List Piece) (k : ℕ) : Type 0 where
  pub i : ℕ
  pub inside : i < length ps
  pub low : (get_or ps i no_piece).start ≤ k
  pub high : k < (get_or ps i no_piece).start + object.slots (get_or ps i no_piece).row
  pub past : (j : ℕ) → i < j → j < length ps → k < (get_or ps j no_piece).start

tile_last : (object : Object) (ps : List Piece) (from to k : ℕ) → Tile object from ps to → from ≤ k → k < to → LastWith object ps k
tile_last object [] from to k t a b = absurd (omega arith)
tile_last object (p ∷ ps) from to k t a b =
    go (dec_lt k (from + object.slots p.row)) (λ l. tile_last object ps (from + object.slots p.row) to k t.1 l b)
  where
    after : k < from + object.slots p.row → (j : ℕ) → 0 < j → j < suc (length ps) → k < (get_or (p ∷ ps) j no_piece).start
    after l zero m h = absurd (omega arith)
    after l (suc j) m h = omega (arith, (tile_fits object (from + object.slots p.row) to (among_at ps j (omega arith)) t.1).0)

    further : (c : LastWith object ps k) (j : ℕ) → suc c.i < j → j < suc (length ps) → k < (get_or (p ∷ ps) j no_piece).start
    further c zero m h = absurd (omega arith)
    further c (suc j) m h = c.past j (omega arith) (omega arith)

    go : Dec (k < from + object.slots p.row) → (from + object.slots p.row ≤ k → LastWith object ps k) → LastWith object (p ∷ ps) k
    go (yes l) later = record { i = 0; inside = omega arith; low = omega (arith, t.0); high = omega (arith, t.0); past = after l }
    go (no n) later =
        let c = later (omega arith) in
        record { i = suc c.i; inside = omega (arith, c.inside); low = c.low; high = c.high; past = further c }

-- ---- the last row that starts at or before a slot
module _ (t : List ℕ) (k : ℕ) where
  row_here : (n : ℕ) → piece_start t n ≤ k → last_at t piece_size 4 0 k (suc n) ≡ Some n
  unfolding last_at piece_start
  row_here n h =
      ap (λ (m : ℕ). pick_found (leb (u32_at little t (piece_size * m + 4)) k) (Some m) (last_at t piece_size 4 0 k n)) (zero-add n)
      ∙ ap (λ (b : Bool). pick_found b (Some n) (last_at t piece_size 4 0 k n)) (le-leb (u32_at little t (piece_size * n + 4)) k h)

  row_before : (n : ℕ) → k < piece_start t n → last_at t piece_size 4 0 k (suc n) ≡ last_at t piece_size 4 0 k n
  unfolding last_at piece_start
  row_before n h =
      ap (λ (m : ℕ). pick_found (leb (u32_at little t (piece_size * m + 4)) k) (Some m) (last_at t piece_size 4 0 k n)) (zero-add n)
      ∙ ap (λ (b : Bool). pick_found b (Some n) (last_at t piece_size 4 0 k n)) (lt-leb (u32_at little t (piece_size * n + 4)) k h)

  row_is : (n i : ℕ) → i < n → piece_start t i ≤ k → ((j : ℕ) → i < j → j < n → k < piece_start t j) → last_at t piece_size 4 0 k n ≡ Some i
  row_is zero i l h past = absurd (omega arith)
  row_is (suc n) i l h past = go (dec_lt i n) (λ m. row_is n i m h (λ j a b. past j a (omega arith)))
    where
      go : Dec (i < n) → (i < n → last_at t piece_size 4 0 k n ≡ Some i) → last_at t piece_size 4 0 k (suc n) ≡ Some i
      go (yes m) later = row_before n (past n m (omega arith)) ∙ later m
      go (no m) later =
          let e : i ≡ n = omega arith in
          row_here n (subst (λ (x : ℕ). piece_start t x ≤ k) e h) ∙ ap Some (sym e)

-- ---- read from the list's bytes
module _ (ps : List Piece) where
  rows_are : length (pieces_bytes ps) / piece_size ≡ length ps
  rows_are = omega (arith, pieces_length ps)

  piece_is : (i : ℕ) → i < length ps → piece_at (pieces_bytes ps) i ≡ get_or ps i no_piece
  unfolding pieces_of
  piece_is i l =
      let at : get_or (run (piece_at (pieces_bytes ps)) 0 (length (pieces_bytes ps) / piece_size)) i no_piece ≡ piece_at (pieces_bytes ps) (0 + i) =
      run_at (piece_at (pieces_bytes ps)) 0 (length (pieces_bytes ps) / piece_size) i no_piece (omega (arith, rows_are)) in
      ap (piece_at (pieces_bytes ps)) (sym (zero-add i)) ∙ sym at ∙ ap (λ (qs : List Piece). get_or qs i no_piece) (pieces_back ps)

  start_is : (i : ℕ) → i < length ps → (get_or ps i no_piece).start ≡ piece_start (pieces_bytes ps) i
  start_is i l = ap (λ (p : Piece). p.start) (sym (piece_is i l))

  module _ (k i : ℕ) (inside : i < length ps) (low : (get_or ps i no_piece).start ≤ k) (past : (j : ℕ) → i < j → j < length ps → k < (get_or ps j no_piece).start) where
    last_is : lastPiece (pieces_bytes ps) k ≡ Some i
    unfolding lastPiece
    last_is =
        ap (last_at (pieces_bytes ps) piece_size 4 0 k) rows_are
        ∙ row_is (pieces_bytes ps) k (length ps) i inside (subst (λ (x : ℕ). x ≤ k) (start_is i inside) low)
        (λ j a b. subst (λ (x : ℕ). k < x) (start_is j b) (past j a b))

    source_is : source_at (pieces_bytes ps) k ≡ copy (get_or ps i no_piece) k
    unfolding source_at
    source_is = ap (source_of (pieces_bytes ps) k) last_is ∙ ap (λ (p : Piece). copy p k) (piece_is i inside)

-- ---- what stands beside slot k is the function and the slot of the one piece that has slot k
pub record ShownFrom (object : Object) (list : List Piece) (k : ℕ) (shown : Option Source) : Type 0 where
  pub by : Piece
  pub among : Memᴰ by list
  pub low : by.start ≤ k
  pub high : k < by.start + object.slots by.row
  pub only : (q : Piece) → Memᴰ q list → q.start ≤ k → k < q.start + object.slots q.row → q ≡ by
  pub is : shown ≡ copy by k

-- of any list that tiles
pub column_of_tiles : (object : Object) (list : List Piece) (end k : ℕ) → Tile object 0 list end → k < end
    → ShownFrom object list k (source_at (pieces_bytes list) k)
column_of_tiles object list end k t l = from (tile_last object list 0 end k t (omega arith) l)
  where
    from : LastWith object list k → ShownFrom object list k (source_at (pieces_bytes list) k)
    from c =
        let m = among_at list c.i c.inside in
        record {
          by = get_or list c.i no_piece;
          among = m;
          low = c.low;
          high = c.high;
          only = λ q n a b. tile_one object q (get_or list c.i no_piece) list 0 end k n m t a b c.low c.high;
          is = source_is list k c.i c.inside c.low c.past;
        }

-- of the list of an accepted link, for each slot that it counts
module _ (o : Offered) (root : ℕ) (lent : Outputs) (size : ℕ) where
  abbrev entry : PiecesResult
  entry = link_pieces_entry little o root lent size

  pub column_is_piece : entry.link.reply.number ≡ 0 → (k : ℕ) → k < count entry.link 0
      → ShownFrom (object_of (tables_of little o)) entry.list k (source_at (pieces_bytes entry.list) k)
  column_is_piece =
      by_pieces_entry little o root lent size
      (λ r. r.link.reply.number ≡ 0 → (k : ℕ) → k < count r.link 0 → ShownFrom (object_of (tables_of little o)) r.list k (source_at (pieces_bytes r.list) k))
      (λ r n z. absurd (n z))
      (λ final l ok e z k h. column_of_tiles (object_of (tables_of little o)) _ (length final.image) k (placed_faithful (tables_of little o) (room_in lent) root final e).tiled h)

  -- so of the bytes that `link_pieces` leaves for the listing
  pub column_of_made : (b : Buffers) (pieces : List ℕ) (r : Result Made told.Refusal) → MadeBy entry b pieces r → entry.link.reply.number ≡ 0 → (k : ℕ) → k < count entry.link 0
      → ShownFrom (object_of (tables_of little o)) entry.list k (source_at (take (made_bytes r) pieces) k)
  column_of_made b pieces r h done k l =
      subst (λ (t : List ℕ). ShownFrom (object_of (tables_of little o)) entry.list k (source_at t k)) (sym h.list_is) (column_is_piece done k l)
