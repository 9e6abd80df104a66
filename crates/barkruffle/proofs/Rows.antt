-- The link over rows that were laid out is the link over all their bytes: they are all there, or one more than the limit is, and then both
-- are refused for that. A row that is found has a number below all ones.
-- Assumes nothing.
use mathlib.Core.Path.{◌≡◌, refl, sym, ap, ◌∙◌}
use mathlib.Core.Bool.{Bool, true, false, cond}
use mathlib.Core.Option.{Option, none, some}
use mathlib.Core.List.{List}
use Prim.Native.Nat.{ℕ, suc, ◌*◌, ◌<◌}
use native.Mathlib.Omega.{arith}
use borrow.Author.Tests.{lt-ltb, ltb-true}
use lib.Dec.{eqb, ltb}
use lib.ListN.{length, take}
use lib.Seq.{take_all, length-take-le}
use Rattle.std.specs.Prelude as prelude
use Rattle.rules.specs.declared.Table.TheVariants.{Code, Symbols}
use Rattle.rules.specs.Bytes.{little}
use Rattle.rules.specs.Answers.{Reply, reply}
use Rattle.rules.specs.Rows.{row_size, most_rows, whole_rows, symbol_index, is_partial, is_too_many, too_many, or_else, Offered, link_offer, link_refusal}
use Rattle.rules.specs.Lookups.{found_of, symbol_with}
use Rattle.rules.specs.Entries.{Outputs, LinkResult, refused_link, unless_link_refused, link_entry}
use Rattle.rules.proofs.Searches.{found_passes}
use Rattle.symbols.specs.declared.Symbol.{Symbol}
use Rattle.symbols.specs.Symbols.{bytes_of, rows_needed, laid_in}
use Rattle.symbols.proofs.Laws.{bytes_length, laid_front}
use Rattle.barkruffle.specs.LentRows.{no_row, number_found, RowTold}

-- ---- more rows than the limit are refused, whatever they hold
many : (xs : List Symbol) → most_rows Symbols < length xs → is_too_many Symbols (bytes_of xs) ≡ true
many xs l = go (is_partial Symbols (bytes_of xs)) (whole_rows Symbols (bytes_of xs)) (omega (arith, bytes_length xs))
  where
    go : (p : Bool) (w : ℕ) → most_rows Symbols < w → ltb (most_rows Symbols) (cond p (suc w) w) ≡ true
    go true w h = lt-ltb (most_rows Symbols) (suc w) (omega arith)
    go false w h = lt-ltb (most_rows Symbols) w h

-- tables 1 and 2 come first
abbrev first_many : Bool → Reply
first_many a = cond a (reply 1 1 0 0) (reply 1 2 0 0)

first_many_lem : (a b : Bool) (x y : Option Reply) → b ≡ true → or_else (cond a (some (reply 1 1 0 0)) (cond b (some (reply 1 2 0 0)) x)) y ≡ some (first_many a)
first_many_lem a b x y e = ap (λ (t : Bool). or_else (cond a (some (reply 1 1 0 0)) (cond t (some (reply 1 2 0 0)) x)) y) e ∙ go a
  where
    go : (a : Bool) → or_else (cond a (some (reply 1 1 0 0)) (some (reply 1 2 0 0))) y ≡ some (first_many a)
    go true = refl
    go false = refl

module _ (code functions relocations instructions func_info line_info : List ℕ) (root : ℕ) (lent : Outputs) where
  abbrev offer : List ℕ → Offered
  offer t = link_offer code t functions relocations instructions func_info line_info

  abbrev linked : List ℕ → LinkResult
  linked t = link_entry little (offer t) root lent

  refusal_is : (t : List ℕ) → is_too_many Symbols t ≡ true → link_refusal (offer t) root ≡ some (first_many (is_too_many Code code))
  unfolding link_refusal too_many
  refusal_is t e = first_many_lem (is_too_many Code code) (is_too_many Symbols t) _ _ e

  linked_many : (t : List ℕ) → is_too_many Symbols t ≡ true → linked t ≡ refused_link lent (first_many (is_too_many Code code))
  unfolding link_entry
  linked_many t e = ap (unless_link_refused little (offer t) root lent) (refusal_is t e)

  linked_needed : (ys : List Symbol) → linked (bytes_of (take (rows_needed (length ys)) ys)) ≡ linked (bytes_of ys)
  linked_needed ys = go (ltb (suc (most_rows Symbols)) (length ys)) refl
    where
      go : (b : Bool) → ltb (suc (most_rows Symbols)) (length ys) ≡ b
          → linked (bytes_of (take (cond b (suc (most_rows Symbols)) (length ys)) ys)) ≡ linked (bytes_of ys)
      go true e =
          let l = ltb-true (suc (most_rows Symbols)) (length ys) e in
          linked_many (bytes_of (take (suc (most_rows Symbols)) ys))
          (many (take (suc (most_rows Symbols)) ys) (omega (arith, length-take-le (suc (most_rows Symbols)) ys (omega (arith, l)))))
          ∙ sym (linked_many (bytes_of ys) (many ys (omega (arith, l))))
      go false e = ap (λ (xs : List Symbol). linked (bytes_of xs)) (take_all (length ys) ys (omega arith))

  -- ---- the rows laid out
  pub laid_links : (ys : List Symbol) (zs : List ℕ) → linked (take (row_size Symbols * rows_needed (length ys)) (laid_in ys zs)) ≡ linked (bytes_of ys)
  laid_links ys zs = ap linked (laid_front ys zs) ∙ linked_needed ys

  pub rows_link : (ys : List Symbol) (zs table : List ℕ) (count : ℕ) → count ≡ rows_needed (length ys) → table ≡ laid_in ys zs
      → linked (take (row_size Symbols * count) table) ≡ linked (bytes_of ys)
  rows_link ys zs table count n e =
      ap (λ (k : ℕ). linked (take (row_size Symbols * k) table)) n
      ∙ ap (λ (t : List ℕ). linked (take (row_size Symbols * rows_needed (length ys)) t)) e
      ∙ laid_links ys zs

-- ---- a row found
pub row_told : (ys : List Symbol) (x r : ℕ) (f : prelude.Option ℕ) → length ys < no_row → f ≡ found_of (symbol_with (bytes_of ys) x) → r ≡ number_found f
    → RowTold r (symbol_with (bytes_of ys) x)
unfolding symbol_with
row_told ys x r f l e n = go (symbol_with (bytes_of ys) x) few (n ∙ ap number_found e)
  where
    few : (k : ℕ) → symbol_with (bytes_of ys) x ≡ some k → k < no_row
    few k h = omega (arith, (found_passes (λ i. eqb (symbol_index (bytes_of ys) i) x) 0 (whole_rows Symbols (bytes_of ys)) k h).high, bytes_length ys)

    go : (o : Option ℕ) → ((k : ℕ) → o ≡ some k → k < no_row) → r ≡ number_found (found_of o) → RowTold r o
    go none b h = record { number = h; row_missing = λ _. refl }
    go (some k) b h = record { number = h; row_missing = λ z. absurd (omega (arith, h, z, b k refl)) }
