-- W1's two promises over the bytes offered: what the examiner says yes to keeps the path, whoever made it; and it says yes to what we link,
-- with the list that we give.
-- Assumes nothing.
use mathlib.Core.Path.{◌≡◌, sym, ap, subst, ◌∙◌}
use mathlib.Core.Bool.{cond}
use mathlib.Core.List.{List}
use Prim.Native.Nat.{ℕ, ◌*◌, ◌/◌, ◌≤◌}
use native.Mathlib.Omega.{arith}
use borrow.Author.Tests.{le-ltb}
use lib.ListN.{length, take, length-take}
use Rattle.rules.specs.Faithful.{Piece}
use Rattle.rules.specs.Bytes.{Order, AreBytes}
use Rattle.rules.specs.Answers.{reply}
use Rattle.rules.specs.Rows.{Offered}
use Rattle.rules.specs.Entries.{Outputs, LinkResult, link_entry, link_list, list_room, list_refused, PiecesResult, link_pieces_entry}
use Rattle.rules.specs.Pieces.{piece_size, list_rows, pieces_bytes}
use Rattle.rules.specs.Examine.{Shown, shown, verdict, examine_entry}
use Rattle.rules.specs.Demand3.{used_image, used_func_info, used_line_info, shown_of, ShownKept}
use Rattle.rules.proofs.Demand3.{front}
use Rattle.rules.proofs.RowBytes.{pieces_length}
use Rattle.rules.proofs.Examining.{examined_means, yes_means}
use Rattle.rules.proofs.Accepting.{listed_shown, accepted_keeps_path, linked_accepted}
use Rattle.rules.proofs.Listing.{listed, list_fits, list_counted}

-- demand 3 of whatever is accepted
pub examined_keeps_path : (order : Order) (o : Offered) (root : ℕ) (s : Shown) → AreBytes s.func_info → AreBytes s.line_info
    → (examine_entry order o root s).number ≡ 0 → ShownKept order o root s
examined_keeps_path order o root s functions lines yes-is = accepted_keeps_path order o root s functions lines ((yes_means order o root s).0 yes-is)

module _ (order : Order) (o : Offered) (root : ℕ) (lent : Outputs) (are : AreBytes o.instructions) where
  counted : (n : ℕ) (r : PiecesResult) → length r.pieces ≡ n → piece_size * length r.list ≤ n → length (listed_shown r).pieces / piece_size ≡ length r.list
  counted n r long within = omega (arith, length-take (piece_size * length r.list) r.pieces)

  by_count : (size : ℕ) → (link_pieces_entry order o root lent size).link.reply.number ≡ 0
      → examine_entry order o root (listed_shown (link_pieces_entry order o root lent size)) ≡ reply 0 (length (link_pieces_entry order o root lent size).list) 0 0
  unfolding examine_entry
  by_count size done =
      let fits = list_fits order o root lent size in
      ap (verdict _) ((examined_means order o root (listed_shown (link_pieces_entry order o root lent size))).1 (linked_accepted order o root lent size are done))
      ∙ ap (λ n. reply 0 n 0 0) (counted size (link_pieces_entry order o root lent size) fits.long fits.within)

  -- "Every image we link is accepted with its true list": as its bytes show it
  pub linked_examined : (size : ℕ) → (link_pieces_entry order o root lent size).link.reply.number ≡ 0
      → examine_entry order o root (shown_of (link_pieces_entry order o root lent size)) ≡ reply 0 (list_rows (link_pieces_entry order o root lent size).pieces) 0 0
  linked_examined size done =
      subst (λ n. examine_entry order o root (shown (used_image r.link) (used_func_info r.link) (used_line_info r.link) (take (piece_size * n) r.pieces)) ≡ reply 0 n 0 0)
      (sym (list_counted order o root lent size done)) (by_count size done)
    where
      r : PiecesResult
      r = link_pieces_entry order o root lent size

  -- and so is an image that was linked without it
  enough : link_pieces_entry order o root lent (list_room o) ≡ listed (list_room o) (link_entry order o root lent) (link_list order o root lent)
  unfolding link_pieces_entry
  enough =
      ap (λ b. cond b (list_refused lent (list_room o)) (listed (list_room o) (link_entry order o root lent) (link_list order o root lent)))
      (le-ltb (list_room o) (list_room o) (omega arith))

  pub link_examined : (link_entry order o root lent).reply.number ≡ 0
      → examine_entry order o root (shown (used_image (link_entry order o root lent)) (used_func_info (link_entry order o root lent)) (used_line_info (link_entry order o root lent))
      (pieces_bytes (link_list order o root lent))) ≡ reply 0 (length (link_list order o root lent)) 0 0
  link_examined done =
      subst (λ bytes. examine_entry order o root (shown (used_image link) (used_func_info link) (used_line_info link) bytes) ≡ reply 0 (length list) 0 0)
      (front (list_room o) (piece_size * length list) (pieces_bytes list) (pieces_length list))
      (subst (λ r. r.link.reply.number ≡ 0 → examine_entry order o root (listed_shown r) ≡ reply 0 (length r.list) 0 0) enough (by_count (list_room o)) done)
    where
      link : LinkResult
      link = link_entry order o root lent

      list : List Piece
      list = link_list order o root lent
