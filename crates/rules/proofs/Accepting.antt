-- What is accepted keeps the path, whoever made it; and what we link is accepted, with the list that we give.
-- Assumes nothing.
use mathlib.Core.Path.{◌≡◌, sym, ap, ◌∙◌, subst}
use mathlib.Core.Logic.{◌⊎◌, inl, inr}
use mathlib.Core.Option.{none}
use mathlib.Core.List.Memᴰ
use mathlib.Core.List.{List, ◌∷◌, Memᴰ}
use Prim.Native.Nat.{ℕ, ◌*◌, ◌≤◌, ◌<◌}
use native.Mathlib.Omega.{arith}
use lib.ListN.{length, take}
use Rattle.rules.specs.Bytes.{Order, encoded, AreBytes}
use Rattle.rules.specs.Faithful.{Piece, piece, Faithful}
use Rattle.rules.specs.Link.{State, linked}
use Rattle.rules.specs.Tables.{FunctionRecord, LineRecord, object_of}
use Rattle.rules.specs.Records.{image_functions, image_lines, link_step}
use Rattle.rules.specs.Rows.{most_image_slots, most_image_functions, most_image_lines, Offered, link_refusal, tables_of}
use Rattle.rules.specs.Entries.{func_info_bytes, line_info_bytes, Outputs, room_in, accepted_link, PiecesResult, link_pieces_entry}
use Rattle.rules.specs.Pieces.{piece_size, pieces_bytes}
use Rattle.rules.specs.Examine.{Shown, shown, claim_of}
use Rattle.rules.specs.Accepted.{Sized, Holds, Accepted}
use Rattle.rules.specs.Demand3.{used_image, used_func_info, used_line_info, ShownKept}
use Rattle.rules.proofs.Rounds.{decoded_encoded, encoded_length}
use Rattle.rules.proofs.Merging.{func_bytes_length, line_bytes_length}
use Rattle.rules.proofs.Demand3.{kept_by, front, plain, image_small}
use Rattle.rules.proofs.RowBytes.{functions_bytes, lines_bytes, functions_back, lines_back, pieces_back, pieces_length}
use Rattle.rules.proofs.Placing.{placed_rows, placed_faithful, root_row}
use Rattle.rules.proofs.Listing.{listed, by_pieces_entry}
use Rattle.rules.proofs.Fitting.{placed_inside, functions_small, lines_small}

-- demand 3 of what is accepted, over the bytes shown
pub accepted_keeps_path : (order : Order) (o : Offered) (root : ℕ) (s : Shown) → AreBytes s.func_info → AreBytes s.line_info → Accepted order o root s
    → ShownKept order o root s
unfolding claim_of
accepted_keeps_path order o root s functions lines a = record {
  others = a.others;
  list = a.holds.list;
  kept = kept_by order o root s.image s.func_info s.line_info a.others a.holds.layout
      (sym (functions_bytes order s.func_info functions a.functions_size.whole) ∙ ap (func_info_bytes order) a.holds.functions)
      (sym (lines_bytes order s.line_info lines a.lines_size.whole) ∙ ap (line_info_bytes order) a.holds.lines);
}

-- ---- what we link

-- the used bytes of the three outputs and of the list
abbrev pub listed_shown : PiecesResult → Shown
listed_shown r = shown (used_image r.link) (used_func_info r.link) (used_line_info r.link) (take (piece_size * length r.list) r.pieces)

rows_sized : (n most : ℕ) (bytes : List ℕ) → length bytes ≡ 8 * n → n ≤ most → Sized 8 most bytes
rows_sized n most bytes e l = record { whole = omega arith; few = omega arith }

lines_sized : (n most : ℕ) (bytes : List ℕ) → length bytes ≡ 16 * n → n ≤ most → Sized 16 most bytes
lines_sized n most bytes e l = record { whole = omega arith; few = omega arith }

module _ (order : Order) (o : Offered) (root : ℕ) (lent : Outputs) (size : ℕ) (are : AreBytes o.instructions) where
  module _ (ok : link_refusal o root ≡ none) (final : State) (e : link_step (tables_of order o) (room_in lent) root ≡ linked final) where
    functions : List FunctionRecord
    functions = image_functions (tables_of order o) root final.placed

    lines : List LineRecord
    lines = image_lines (tables_of order o) root final.placed

    list : List Piece
    list = piece root 0 ∷ final.placed

    used : Shown
    used = shown (encoded order final.image) (func_info_bytes order functions) (line_info_bytes order lines) (pieces_bytes list)

    list_rows_lem : (p : Piece) → (p ≡ piece root 0) ⊎ Memᴰ p final.placed → p.row < (object_of (tables_of order o)).rows
    list_rows_lem p (inl same) = subst (λ (q : Piece). q.row < (object_of (tables_of order o)).rows) (sym same) (root_row order o root ok)
    list_rows_lem p (inr m) = placed_rows (tables_of order o) (room_in lent) root final e p m

    holds : Holds (tables_of order o) root (claim_of order used) final.placed
    unfolding claim_of used functions lines list
    holds = record {
      list = pieces_back (piece root 0 ∷ final.placed);
      rows = λ p m. list_rows_lem p (Memᴰ.cases_cons m);
      layout = subst (λ image. Faithful (object_of (tables_of order o)) root image (piece root 0 ∷ final.placed)) (sym (decoded_encoded order final.image (plain order o root lent are final e)))
          (placed_faithful (tables_of order o) (room_in lent) root final e);
      inside = placed_inside (tables_of order o) (room_in lent) root final e;
      functions = functions_back order (image_functions (tables_of order o) root final.placed);
      lines = lines_back order (image_lines (tables_of order o) root final.placed);
    }

    used_accepted : Accepted order o root used
    unfolding used functions lines list
    used_accepted = record {
      tables = ok;
      image_size = rows_sized (length final.image) most_image_slots (encoded order final.image) (encoded_length order final.image)
          (omega (arith, image_small (tables_of order o) (room_in lent) root final e));
      functions_size = rows_sized (length functions) most_image_functions (func_info_bytes order functions) (func_bytes_length order functions)
          (omega (arith, functions_small (tables_of order o) (room_in lent) root final e));
      lines_size = lines_sized (length lines) most_image_lines (line_info_bytes order lines) (line_bytes_length order lines)
          (omega (arith, lines_small (tables_of order o) (room_in lent) root final e));
      list_whole = omega (arith, pieces_length list);
      others = final.placed;
      holds = holds;
    }

    result : PiecesResult
    result = listed size (accepted_link order lent final.image functions lines) list

    used_is : listed_shown result ≡ used
    unfolding result used
    used_is = λ i. record {
      image = front lent.image (8 * length final.image) (encoded order final.image) (encoded_length order final.image) i;
      func_info = front lent.func_info (8 * length functions) (func_info_bytes order functions) (func_bytes_length order functions) i;
      line_info = front lent.line_info (16 * length lines) (line_info_bytes order lines) (line_bytes_length order lines) i;
      pieces = front size (piece_size * length list) (pieces_bytes list) (pieces_length list) i;
    }

    result_accepted : Accepted order o root (listed_shown result)
    result_accepted = subst (Accepted order o root) (sym used_is) used_accepted

  -- an answer of 0, on any bytes, root, lent sizes and list's buffer
  pub linked_accepted : (link_pieces_entry order o root lent size).link.reply.number ≡ 0 → Accepted order o root (listed_shown (link_pieces_entry order o root lent size))
  unfolding result functions lines list
  linked_accepted =
      by_pieces_entry order o root lent size (λ r. r.link.reply.number ≡ 0 → Accepted order o root (listed_shown r))
      (λ r n z. absurd (n z)) (λ final l ok e z. result_accepted ok final e)
