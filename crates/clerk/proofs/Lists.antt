-- The list that the link gives stands in its buffer, and nothing else before its end.
-- Assumes nothing.
use mathlib.Core.Path.{◌≡◌, sym, ap, subst, ◌∙◌}
use mathlib.Core.List.{List}
use Prim.Native.Nat.{ℕ, ◌*◌, ◌≤◌}
use native.Mathlib.Omega.{arith}
use lib.ListN.{length, take}
use lib.Seq.{length-take-le}
use Rattle.rules.specs.Bytes.{little}
use Rattle.rules.specs.Rows.{Offered}
use Rattle.rules.specs.Lent.{Buffers}
use Rattle.rules.specs.Entries.{Outputs, PiecesResult, link_pieces_entry}
use Rattle.rules.specs.Pieces.{piece_size, pieces_bytes}
use Rattle.rules.proofs.Demand3.{front}
use Rattle.rules.proofs.RowBytes.{pieces_length}
use Rattle.rules.proofs.Listing.{by_pieces_entry, list_fits}
use Rattle.std.specs.Prelude.{Result}
use Rattle.rules.specs.declared.Places.{Places}
use Rattle.rules.specs.declared.Refusal as told
use Rattle.linker.specs.Linker.{Outcomes, ListedOutcomes, list_answer, list_count}
use Rattle.clerk.specs.declared.steps.Made.{Made}
use Rattle.linker.specs.declared.Listed.{Listed}
use Rattle.clerk.specs.Steps.{made_answer, made_bytes, MadeBy}

module _ (o : Offered) (root : ℕ) (lent : Outputs) (size : ℕ) where
  abbrev entry : PiecesResult
  entry = link_pieces_entry little o root lent size

  list_bytes : take (piece_size * length entry.list) entry.pieces ≡ pieces_bytes entry.list
  list_bytes =
      by_pieces_entry little o root lent size (λ r. take (piece_size * length r.list) r.pieces ≡ pieces_bytes r.list)
      (λ r n. front size _ _ (pieces_length _)) (λ final l ok e. front size _ _ (pieces_length _))

  -- so many bytes, where the link counted so many pieces
  pub fits : (b : Buffers) (pieces : List ℕ) (r : Result Listed told.Refusal) → ListedOutcomes b pieces r entry → piece_size * list_count r ≤ size
  fits b pieces r h = omega (arith, h.counted, (list_fits little o root lent size).within)

  -- the same answer, and the bytes of so many pieces
  pub made : (b : Buffers) (pieces : List ℕ) (r : Result Listed told.Refusal) (m : Result Made told.Refusal) → ListedOutcomes b pieces r entry
      → list_answer r ≡ made_answer m → made_bytes m ≡ piece_size * list_count r → MadeBy entry b pieces m
  made b pieces r m h answer bytes =
      let long : length pieces ≡ size = ap length h.pieces ∙ (list_fits little o root lent size).long in
      let inside : made_bytes m ≤ length pieces = omega (arith, bytes, fits b pieces r h) in
      record {
        outcomes = subst (λ (a : Result Places told.Refusal). Outcomes b a entry.link) answer h.outcomes;
        pieces_are = h.pieces;
        list_is =
            ap (λ (n : ℕ). take n pieces) bytes
            ∙ ap (λ (n : ℕ). take (piece_size * n) pieces) h.counted
            ∙ ap (take (piece_size * length entry.list)) h.pieces
            ∙ list_bytes;
        counts = (inside, sym (length-take-le (made_bytes m) pieces inside));
      }

-- the tables that were lent are those that the file holds
pub listed_held : (b : Buffers) (pieces : List ℕ) (r : Result Listed told.Refusal) (root : ℕ) (lent : Outputs) (size : ℕ) {o o' : Offered} → o ≡ o'
    → ListedOutcomes b pieces r (link_pieces_entry little o root lent size) → ListedOutcomes b pieces r (link_pieces_entry little o' root lent size)
listed_held b pieces r root lent size e h = subst (λ (x : Offered). ListedOutcomes b pieces r (link_pieces_entry little x root lent size)) e h
