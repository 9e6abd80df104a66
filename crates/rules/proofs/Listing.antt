-- The list that the link gives with its image: it fits its buffer, and its end can be told from its bytes.
-- Assumes nothing.
use mathlib.Core.Path.{◌≡◌, refl, sym, ap, ◌∙◌}
use mathlib.Core.Logic.{◌≢◌}
use mathlib.Core.Bool.{Bool, true, false, cond}
use mathlib.Core.Option.{Option, none, some}
use mathlib.Core.List.{List, [], ◌∷◌, ◌++◌, Memᴰ}
use Prim.Native.Nat.{ℕ, zero, suc, ◌+◌, ◌-◌, ◌*◌, ◌/◌, ◌≤◌, ◌<◌}
use native.Mathlib.Nat.{zero-add}
use native.Mathlib.Omega.{arith}
use borrow.Author.Tests.{ltb-false, eqb-true, eqb-false}
use lib.Dec.{ltb, eqb}
use lib.ListN.{length, get_or, replicate, length-append, length-replicate, get_or-append}
use lib.Seq.{get_or-append-add}
use Rattle.rules.specs.declared.Table.TheVariants.{Functions}
use Rattle.rules.specs.Bytes.{Order, little, byte_at, u32_at, padded}
use Rattle.rules.specs.Faithful.{Piece, piece}
use Rattle.rules.specs.Link.{State, Outcome, linked, refuses, unfinished, run}
use Rattle.rules.specs.Tables.{object_of}
use Rattle.rules.specs.Records.{image_functions, image_lines, link_step}
use Rattle.rules.specs.Answers.{Reply, reply}
use Rattle.rules.specs.Rows.{whole_rows, Offered, link_refusal, tables_of}
use Rattle.rules.specs.Entries.{Outputs, room_in, LinkResult, refused_link, accepted_link, by_outcome, unless_link_refused, link_entry, list_of, unless_list_refused, link_list, PiecesResult, list_room, list_refused, link_pieces_entry}
use Rattle.rules.specs.Pieces.{piece_size, piece_start, piece_at, pieces_of, pieces_bytes, rows_to, list_rows}
use Rattle.rules.proofs.Linking.{run_at}
use Rattle.rules.proofs.Tiles.{tile_fits}
use Rattle.rules.proofs.Writing.{u32_same}
use Rattle.rules.proofs.Ending.{Finished}
use Rattle.rules.proofs.Numbered.{Numbered, step_numbered}
use Rattle.rules.proofs.Refusing.{link_number}
use Rattle.rules.proofs.Demand3.{step_finishes}
use Rattle.rules.proofs.RowBytes.{pieces_back, pieces_length}
use Rattle.rules.proofs.Placing.{list_in_order, placed_few_rows, rows_filled, root_row}

-- a link and its list
abbrev pub listed : ℕ → LinkResult → List Piece → PiecesResult
listed size link list = record { link = link; list = list; pieces = padded size (pieces_bytes list) }

-- ---- what the entry gives: a refusal with no list, or an image with the root and the pieces placed, for which the buffer has room
module _ (order : Order) (o : Offered) (root : ℕ) (lent : Outputs) (size : ℕ) (P : PiecesResult → Type 0)
    (refused : (r : Reply) → r.number ≢ 0 → P (listed size (refused_link lent r) []))
    (done : (final : State) → list_room o ≤ size → link_refusal o root ≡ none → link_step (tables_of order o) (room_in lent) root ≡ linked final
    → P (listed size (accepted_link order lent final.image (image_functions (tables_of order o) root final.placed) (image_lines (tables_of order o) root final.placed))
    (piece root 0 ∷ final.placed))) where
  by_outcome_lem : (out : Outcome) → list_room o ≤ size → link_refusal o root ≡ none → link_step (tables_of order o) (room_in lent) root ≡ out → Finished out → Numbered out
      → P (listed size (by_outcome order (tables_of order o) root lent out) (list_of root out))
  by_outcome_lem (linked final) l ok e f n = done final l ok e
  by_outcome_lem (refuses why) l ok e f n = refused (reply why.number why.row why.place 0) n
  by_outcome_lem unfinished l ok e f n = absurd f

  by_refusal : (x : Option Reply) → list_room o ≤ size → link_refusal o root ≡ x
      → P (listed size (unless_link_refused order o root lent x) (unless_list_refused order o root lent x))
  by_refusal none l e =
      by_outcome_lem (link_step (tables_of order o) (room_in lent) root) l e refl (step_finishes order o lent root) (step_numbered (tables_of order o) (room_in lent) root)
  by_refusal (some r) l e = refused r (link_number o r root e)

  pub by_pieces_entry : P (link_pieces_entry order o root lent size)
  unfolding link_pieces_entry link_entry link_list pieces_bytes
  by_pieces_entry = go (ltb size (list_room o)) refl
    where
      go : (b : Bool) → ltb size (list_room o) ≡ b → P (cond b (list_refused lent size) (listed size (link_entry order o root lent) (link_list order o root lent)))
      go true t = refused (reply 32 0 0 0) (λ z. omega arith)
      go false t = by_refusal (link_refusal o root) (ltb-false size (list_room o) t) refl

-- ---- rows of the buffer
abbrev pub no_piece : Piece
no_piece = piece 0 0

module _ (size : ℕ) (list : List Piece) where
  buffer_is : (j : ℕ) → j < length (pieces_bytes list) → byte_at (padded size (pieces_bytes list)) j ≡ byte_at (pieces_bytes list) j
  unfolding padded
  buffer_is j l = get_or-append (pieces_bytes list) (replicate (size - length (pieces_bytes list)) 0) 0 j l

  zeros : (n j : ℕ) → byte_at (replicate n 0) j ≡ 0
  zeros zero j = refl
  zeros (suc n) zero = refl
  zeros (suc n) (suc j) = zeros n j

  buffer_over : (j : ℕ) → length (pieces_bytes list) ≤ j → byte_at (padded size (pieces_bytes list)) j ≡ 0
  unfolding padded
  buffer_over j l =
      let e : j ≡ length (pieces_bytes list) + (j - length (pieces_bytes list)) = omega arith in
      ap (byte_at (pieces_bytes list ++ replicate (size - length (pieces_bytes list)) 0)) e
      ∙ get_or-append-add (pieces_bytes list) (replicate (size - length (pieces_bytes list)) 0) (j - length (pieces_bytes list)) 0
      ∙ zeros (size - length (pieces_bytes list)) (j - length (pieces_bytes list))

  start_in : (k : ℕ) → k < length list → piece_start (padded size (pieces_bytes list)) k ≡ piece_start (pieces_bytes list) k
  unfolding piece_start
  start_in k l =
      u32_same little (pieces_bytes list) (padded size (pieces_bytes list)) (piece_size * k + 4) (piece_size * k + 4)
      (λ j m. buffer_is (piece_size * k + 4 + j) (omega (arith, pieces_length list)))

  -- row k of the list
  start_is : (k : ℕ) → k < length list → piece_start (pieces_bytes list) k ≡ (get_or list k no_piece).start
  unfolding pieces_of
  start_is k l =
      let rows : length (pieces_bytes list) / 8 ≡ length list = omega (arith, pieces_length list) in
      let at : get_or (run (piece_at (pieces_bytes list)) 0 (length (pieces_bytes list) / 8)) k no_piece ≡ piece_at (pieces_bytes list) (0 + k) =
      run_at (piece_at (pieces_bytes list)) 0 (length (pieces_bytes list) / 8) k no_piece (omega arith) in
      ap (piece_start (pieces_bytes list)) (sym (zero-add k)) ∙ ap (λ (p : Piece). p.start) (sym at) ∙ ap (λ (ps : List Piece). (get_or ps k no_piece).start) (pieces_back list)

  buffer_long : piece_size * length list ≤ size → length (padded size (pieces_bytes list)) ≡ size
  unfolding padded
  buffer_long l =
      omega (arith, length-append (pieces_bytes list) (replicate (size - length (pieces_bytes list)) 0), length-replicate {A = ℕ} (size - length (pieces_bytes list)) 0, pieces_length list)

  -- past the list there is only zero
  start_over : (k : ℕ) → length list ≤ k → piece_start (padded size (pieces_bytes list)) k ≡ 0
  unfolding piece_start u32_at
  start_over k l =
      rw (
        buffer_over (piece_size * k + 4) (omega (arith, pieces_length list)),
        buffer_over (piece_size * k + 4 + 1) (omega (arith, pieces_length list)),
        buffer_over (piece_size * k + 4 + 2) (omega (arith, pieces_length list)),
        buffer_over (piece_size * k + 4 + 3) (omega (arith, pieces_length list)),
      )

-- ---- the list of the entry, accepted or not
piece_among : (ps : List Piece) (k : ℕ) → k < length ps → Memᴰ (get_or ps k no_piece) ps
piece_among [] k l = absurd (omega arith)
piece_among (p ∷ ps) zero l = Memᴰ.head refl
piece_among (p ∷ ps) (suc k) l = Memᴰ.tail (piece_among ps k (omega arith))

-- as many rows as functions, and one for the root's copy; all of them in the buffer
pub record ListFits (o : Offered) (size : ℕ) (r : PiecesResult) : Type 0 where
  pub few : length r.list ≤ suc (whole_rows Functions o.functions)
  pub within : piece_size * length r.list ≤ size
  pub long : length r.pieces ≡ size

module _ (order : Order) (o : Offered) (root : ℕ) (lent : Outputs) (size : ℕ) where
  pub list_fits : ListFits o size (link_pieces_entry order o root lent size)
  list_fits =
      by_pieces_entry order o root lent size (ListFits o size)
      (λ r n. record { few = omega arith; within = omega arith; long = buffer_long size [] (omega arith) })
      (λ final l ok e. fits final l (placed_few_rows order o root ok (room_in lent) final e))
    where
      fits : (final : State) → list_room o ≤ size → length final.placed ≤ whole_rows Functions o.functions
          → ListFits o size (listed size (accepted_link order lent final.image (image_functions (tables_of order o) root final.placed) (image_lines (tables_of order o) root final.placed))
          (piece root 0 ∷ final.placed))
      fits final l m = record { few = omega arith; within = omega arith; long = buffer_long size (piece root 0 ∷ final.placed) (omega arith) }

  -- the pieces after the root's start past it
  later_starts : (final : State) → link_refusal o root ≡ none → link_step (tables_of order o) (room_in lent) root ≡ linked final
      → (k : ℕ) → k < length final.placed → 1 ≤ (get_or final.placed k no_piece).start
  later_starts final ok e k l =
      omega (
        arith,
        rows_filled order o root ok root (root_row order o root ok),
        (tile_fits (object_of (tables_of order o)) ((object_of (tables_of order o)).slots root) (length final.image) (piece_among final.placed k l)
            (list_in_order (tables_of order o) (room_in lent) root final e)).0,
      )

  -- row k after the first starts at a slot that is not 0 ..
  pub list_ends : (k : ℕ) → 0 < k → k < length (link_pieces_entry order o root lent size).list → piece_start (link_pieces_entry order o root lent size).pieces k ≢ 0
  list_ends =
      by_pieces_entry order o root lent size (λ r. (k : ℕ) → 0 < k → k < length r.list → piece_start r.pieces k ≢ 0)
      (λ r n k a b. absurd (omega arith)) (λ final l ok e k a b. at final ok e k a b)
    where
      at : (final : State) → link_refusal o root ≡ none → link_step (tables_of order o) (room_in lent) root ≡ linked final → (k : ℕ) → 0 < k
          → k < suc (length final.placed) → piece_start (padded size (pieces_bytes (piece root 0 ∷ final.placed))) k ≢ 0
      at final ok e zero a b = absurd (omega arith)
      at final ok e (suc k) a b = λ z.
          omega (arith, later_starts final ok e k (omega arith), start_in size (piece root 0 ∷ final.placed) (suc k) b, start_is size (piece root 0 ∷ final.placed) (suc k) b)

  -- .. and past the list every start is 0
  pub list_over : (k : ℕ) → length (link_pieces_entry order o root lent size).list ≤ k → piece_start (link_pieces_entry order o root lent size).pieces k ≡ 0
  list_over =
      by_pieces_entry order o root lent size (λ r. (k : ℕ) → length r.list ≤ k → piece_start r.pieces k ≡ 0)
      (λ r n. start_over size []) (λ final l ok e. start_over size (piece root 0 ∷ final.placed))

  -- an accepted link lists the root at 0 first
  pub list_root : (link_pieces_entry order o root lent size).link.reply.number ≡ 0
      → (0 < length (link_pieces_entry order o root lent size).list) × (get_or (link_pieces_entry order o root lent size).list 0 no_piece ≡ piece root 0)
  list_root =
      by_pieces_entry order o root lent size (λ r. r.link.reply.number ≡ 0 → (0 < length r.list) × (get_or r.list 0 no_piece ≡ piece root 0))
      (λ r n z. absurd (n z)) (λ final l ok e z. (omega arith, refl))

-- ---- the count told from the bytes, as C tells it
to_end : (t : List ℕ) (m n k : ℕ) → k ≤ m → m ≤ k + n → ((j : ℕ) → k ≤ j → j < m → piece_start t j ≢ 0) → piece_start t m ≡ 0 → rows_to t k n ≡ m
to_end t m zero k a b inside over = omega arith
to_end t m (suc n) k a b inside over = go (eqb (piece_start t k) 0) refl (λ l. to_end t m n (suc k) l (omega arith) (λ j l h. inside j (omega arith) h) over)
  where
    at_end : piece_start t k ≡ 0 → k ≡ m
    at_end z = go' (eqb k m) refl
      where
        go' : (b : Bool) → eqb k m ≡ b → k ≡ m
        go' true e = eqb-true k m e
        go' false e = let ne = eqb-false k m e in absurd (inside k (omega arith) (omega (arith, ne)) z)

    more : piece_start t k ≢ 0 → suc k ≤ m
    more z = go' (eqb k m) refl
      where
        go' : (b : Bool) → eqb k m ≡ b → suc k ≤ m
        go' true e = let same : k ≡ m = eqb-true k m e in absurd (z (rw same over))
        go' false e = let ne = eqb-false k m e in omega (arith, ne)

    go : (c : Bool) → eqb (piece_start t k) 0 ≡ c → (suc k ≤ m → rows_to t (suc k) n ≡ m) → cond c k (rows_to t (suc k) n) ≡ m
    go true e later = at_end (eqb-true (piece_start t k) 0 e)
    go false e later = later (more (eqb-false (piece_start t k) 0 e))

module _ (order : Order) (o : Offered) (root : ℕ) (lent : Outputs) (size : ℕ) where
  pub list_counted : (link_pieces_entry order o root lent size).link.reply.number ≡ 0
      → list_rows (link_pieces_entry order o root lent size).pieces ≡ length (link_pieces_entry order o root lent size).list
  list_counted done =
      let r = link_pieces_entry order o root lent size in
      let fits = list_fits order o root lent size in
      let some-row = (list_root order o root lent size done).0 in
      to_end r.pieces (length r.list) (length r.pieces / piece_size - 1) 1 (omega (arith, some-row))
      (omega (arith, some-row, fits.within, fits.long))
      (λ j l h. list_ends order o root lent size j (omega arith) h) (list_over order o root lent size (length r.list) (omega arith))
