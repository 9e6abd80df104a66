-- The bytes of rows: how many they are, where each row's index stands, and what laying one row more adds.
-- Assumes nothing.
use mathlib.Core.Path.{◌≡◌, refl, sym, ap, ◌∙◌}
use mathlib.Core.Bool.{Bool, true, false, cond}
use mathlib.Core.List.{List, [], ◌∷◌, ◌++◌, append_assoc, append-nil}
use Prim.Native.Nat.{ℕ, min, zero, suc, ◌+◌, ◌*◌, ◌/◌, ◌%◌, ◌^◌, ◌≤◌, ◌<◌}
use native.Mathlib.Omega.{arith}
use native.Mathlib.Numerals.{add-one}
use native.Mathlib.Nat.{add-zero}
use mathlib.Core.Option.{some}
use Rattle.std.specs.Prelude.{Some}
use Rattle.std.specs.List.{position_from}
use Rattle.std.specs.Int.{to_le_bytes, w64}
use borrow.Author.Tests.{ltb-true, ltb-false}
use lib.Dec.{eqb, ltb}
use lib.ListN.{length, get_or, take, drop, set, length-append}
use lib.Seq.{get_or-append-add, drop-cons, take-suc, length-take-le}
use Rattle.rules.specs.declared.Table.TheVariants.{Symbols}
use Rattle.rules.specs.Link.{run}
use Rattle.rules.specs.Bytes.{little, byte_at, u32_at, bytes4, splice}
use Rattle.rules.specs.Rows.{row_size, most_rows, whole_rows, symbol_index, first_from}
use Rattle.rules.specs.Lookups.{symbol_with, found_of}
use Rattle.rules.proofs.Splices.{splice_front, splice_rest, splice_length, one_put}
use Rattle.rules.proofs.Writing.{u32_same}
use Rattle.rows.specs.Matches.{symbol_matches}
use Rattle.symbols.specs.declared.Symbol.{Symbol}
use Rattle.symbols.specs.Symbols.{bytes8, row_bytes, bytes_of, rows_needed, rows_room, laid_in}

-- past the last row
abbrev pub no_symbol : Symbol
no_symbol = record { index = 0; section = 0; address = 0; kind = 0; padding = [] }

pub row_length : (s : Symbol) → length (row_bytes s) ≡ row_size Symbols
unfolding row_bytes
row_length s = refl

pub bytes_length : (ss : List Symbol) → length (bytes_of ss) ≡ row_size Symbols * length ss
unfolding bytes_of
bytes_length [] = refl
bytes_length (s ∷ ss) = length-append (row_bytes s) (bytes_of ss) ∙ omega (arith, row_length s, bytes_length ss)

-- ---- the index of row k
first_index : (s : Symbol) (rest : List ℕ) → u32_at little (row_bytes s ++ rest) 0 ≡ s.index
unfolding u32_at row_bytes
first_index s rest = omega arith

index_at : (ss : List Symbol) (k : ℕ) → k < length ss → symbol_index (bytes_of ss) k ≡ (get_or ss k no_symbol).index
unfolding symbol_index bytes_of
index_at [] k l = absurd (omega arith)
index_at (s ∷ ss) zero l = first_index s (bytes_of ss)
index_at (s ∷ ss) (suc k) l =
    u32_same little (bytes_of ss) (row_bytes s ++ bytes_of ss) (row_size Symbols * k) (row_size Symbols * suc k) (λ j g. past j)
    ∙ index_at ss k (omega arith)
  where
    past : (j : ℕ) → byte_at (row_bytes s ++ bytes_of ss) (row_size Symbols * suc k + j) ≡ byte_at (bytes_of ss) (row_size Symbols * k + j)
    past j =
        let e : row_size Symbols * suc k + j ≡ length (row_bytes s) + (row_size Symbols * k + j) = omega (arith, row_length s) in
        ap (byte_at (row_bytes s ++ bytes_of ss)) e
        ∙ get_or-append-add (row_bytes s) (bytes_of ss) (row_size Symbols * k + j) 0

pub matches_at : (ss : List Symbol) (x k : ℕ) → k < length ss → symbol_matches (bytes_of ss) x k ≡ eqb (get_or ss k no_symbol).index x
matches_at ss x k l = ap (λ (i : ℕ). eqb i x) (index_at ss k l)

-- the byte lookup looks at as many rows as there are
pub looked_up : (ss : List Symbol) (x : ℕ) → first_from (symbol_matches (bytes_of ss) x) 0 (length ss) ≡ symbol_with (bytes_of ss) x
unfolding symbol_with
looked_up ss x =
    let e : length ss ≡ whole_rows Symbols (bytes_of ss) = omega (arith, bytes_length ss) in
    ap (first_from (symbol_matches (bytes_of ss) x) 0) e

-- a search of rows is the search of the numbers that its test gives at each
pub place_first : (test : Symbol → Bool) (look : ℕ → Bool) (k : ℕ) (ss : List Symbol)
    → ((j : ℕ) → j < length ss → look (k + j) ≡ test (get_or ss j no_symbol)) → position_from test k ss ≡ found_of (first_from look k (length ss))
place_first test look k [] same = refl
place_first test look k (s ∷ ss) same =
    let rest : position_from test (k + 1) ss ≡ found_of (first_from look (suc k) (length ss)) =
    rw add-one (place_first test look (suc k) ss (λ j l. let e : suc k + j ≡ k + suc j = omega arith in rw e (same (suc j) (omega arith)))) in
    let here : look k ≡ test s = rw add-zero at (same 0 (omega arith)) in
    go (test s) (look k) here rest
  where
    go : (a b : Bool) → b ≡ a → position_from test (k + 1) ss ≡ found_of (first_from look (suc k) (length ss))
        → cond a (Some k) (position_from test (k + 1) ss) ≡ found_of (cond b (some k) (first_from look (suc k) (length ss)))
    go true true e rest = refl
    go false false e rest = rest
    go true false e rest = absurd (cc)
    go false true e rest = absurd (cc)

-- ---- rows laid out
pub splice_on : (d : List ℕ) (p q : ℕ) (a b : List ℕ) → p + length a ≡ q → q + length b ≤ length d → splice (splice d p a) q b ≡ splice d p (a ++ b)
unfolding splice
splice_on d p q a b e l =
    let n : q + length b ≡ p + length (a ++ b) = omega (arith, length-append a b) in
    ap (λ (x : List ℕ). x ++ b ++ drop (q + length b) (splice d p a)) (splice_front d p a q e (omega arith))
    ∙ ap (λ (x : List ℕ). take p d ++ a ++ b ++ x) (splice_rest d p a (q + length b) (omega arith) (omega arith))
    ∙ ap (λ (x : List ℕ). x ++ drop (q + length b) d) (append_assoc (take p d) a b)
    ∙ ap (λ (m : ℕ). take p d ++ (a ++ b) ++ drop m d) n

-- the first bytes, one by one
take_run : (xs : List ℕ) (k n : ℕ) → k + n ≤ length xs → take n (drop k xs) ≡ run (byte_at xs) k n
take_run xs k zero l = refl
take_run xs k (suc n) l = ap (take (suc n)) (drop-cons xs k 0 (omega arith)) ∙ ap (λ (ys : List ℕ). byte_at xs k ∷ ys) (take_run xs (suc k) n (omega arith))

-- a row, field after field
pub row_put : (d : List ℕ) (p : ℕ) (s : Symbol) (a b e : List ℕ) → p + row_size Symbols ≤ length d → length s.padding ≡ 7
    → a ≡ splice d p (bytes4 little s.index) → b ≡ splice a (p + 4) (bytes4 little s.section) → e ≡ splice b (p + 8) (bytes8 s.address)
    → splice (set e (p + 16) s.kind) (p + 17) (take 7 s.padding) ≡ splice d p (row_bytes s)
unfolding row_bytes
row_put d p s a b e l n ea eb ee =
    ap (λ (x : List ℕ). splice (set e (p + 16) s.kind) (p + 17) x) (take_run s.padding 0 7 (omega (arith, n)))
    ∙ ap (λ (x : List ℕ). splice x (p + 17) (run (byte_at s.padding) 0 7)) kinded
    ∙ splice_on d p (p + 17) (bytes4 little s.index ++ bytes4 little s.section ++ bytes8 s.address ++ (s.kind ∷ [])) (run (byte_at s.padding) 0 7) (omega arith) (omega (arith, n))
  where
    sectioned : b ≡ splice d p (bytes4 little s.index ++ bytes4 little s.section)
    sectioned = eb ∙ ap (λ (x : List ℕ). splice x (p + 4) (bytes4 little s.section)) ea
        ∙ splice_on d p (p + 4) (bytes4 little s.index) (bytes4 little s.section) (omega arith) (omega arith)

    addressed : e ≡ splice d p (bytes4 little s.index ++ bytes4 little s.section ++ bytes8 s.address)
    addressed = ee ∙ ap (λ (x : List ℕ). splice x (p + 8) (bytes8 s.address)) sectioned
        ∙ splice_on d p (p + 8) (bytes4 little s.index ++ bytes4 little s.section) (bytes8 s.address) (omega arith) (omega arith)

    kinded : set e (p + 16) s.kind ≡ splice d p (bytes4 little s.index ++ bytes4 little s.section ++ bytes8 s.address ++ (s.kind ∷ []))
    kinded = ap (λ (x : List ℕ). set x (p + 16) s.kind) addressed
        ∙ one_put (splice d p (bytes4 little s.index ++ bytes4 little s.section ++ bytes8 s.address)) (p + 16) s.kind (omega (arith, splice_length d p (bytes4 little s.index ++ bytes4 little s.section ++ bytes8 s.address) (omega arith)))
        ∙ splice_on d p (p + 16) (bytes4 little s.index ++ bytes4 little s.section ++ bytes8 s.address) (s.kind ∷ []) (omega arith) (omega arith)

-- a u64 as the library has its bytes
pub eight_bytes : (v : ℕ) → v < 2 ^ 64 → to_le_bytes w64 v ≡ bytes8 v
eight_bytes v l =
    let e₀ : v % 256 ≡ v % 4294967296 % 256 = omega arith in
    let e₁ : v / 256 % 256 ≡ v % 4294967296 / 256 % 256 = omega arith in
    let e₂ : v / 65536 % 256 ≡ v % 4294967296 / 65536 % 256 = omega arith in
    let e₃ : v / 16777216 % 256 ≡ v % 4294967296 / 16777216 = omega arith in
    let e₅ : v / 1099511627776 % 256 ≡ v / 4294967296 / 256 % 256 = omega arith in
    let e₆ : v / 281474976710656 % 256 ≡ v / 4294967296 / 65536 % 256 = omega arith in
    let e₇ : v / 72057594037927936 % 256 ≡ v / 4294967296 / 16777216 = omega arith in
    cc

bytes_snoc : (xs : List Symbol) (s : Symbol) → bytes_of (xs ++ (s ∷ [])) ≡ bytes_of xs ++ row_bytes s
unfolding bytes_of
bytes_snoc [] s = append-nil (row_bytes s)
bytes_snoc (x ∷ xs) s = ap (λ (bs : List ℕ). row_bytes x ++ bs) (bytes_snoc xs s) ∙ sym (append_assoc (row_bytes x) (bytes_of xs) (row_bytes s))

-- as many rows are laid as there are or fewer, and they fit
pub needed_few : (count : ℕ) → rows_needed count ≤ count
needed_few count = go (ltb (suc (most_rows Symbols)) count) refl
  where
    go : (b : Bool) → ltb (suc (most_rows Symbols)) count ≡ b → cond b (suc (most_rows Symbols)) count ≤ count
    go true e = omega (arith, ltb-true (suc (most_rows Symbols)) count e)
    go false e = omega arith

pub needed_most : (count : ℕ) → rows_needed count ≤ suc (most_rows Symbols)
needed_most count = go (ltb (suc (most_rows Symbols)) count) refl
  where
    go : (b : Bool) → ltb (suc (most_rows Symbols)) count ≡ b → cond b (suc (most_rows Symbols)) count ≤ suc (most_rows Symbols)
    go true e = omega arith
    go false e = ltb-false (suc (most_rows Symbols)) count e

pub needed_min : (count : ℕ) → min count (suc (most_rows Symbols)) ≡ rows_needed count
needed_min count = go (ltb (suc (most_rows Symbols)) count) refl
  where
    go : (b : Bool) → ltb (suc (most_rows Symbols)) count ≡ b → min count (suc (most_rows Symbols)) ≡ cond b (suc (most_rows Symbols)) count
    go true e = omega (arith, ltb-true (suc (most_rows Symbols)) count e)
    go false e = omega (arith, ltb-false (suc (most_rows Symbols)) count e)

-- how the rows are laid into a room for the most, i of them done
module _ (ys : List Symbol) (zs : List ℕ) where
  abbrev needed : ℕ
  needed = rows_needed (length ys)

  pub record Laid (i : ℕ) (t : List ℕ) : Type 0 where
    pub inside : i ≤ needed
    pub long : length t ≡ length zs
    pub same : t ≡ splice zs 0 (bytes_of (take i ys))

  pub lay_start : Laid 0 zs
  unfolding splice bytes_of
  lay_start = record { inside = omega arith; long = refl; same = refl }

  module _ (room : rows_room ≤ length zs) where
    module _ (i : ℕ) (t : List ℕ) (so_far : Laid i t) (l : i < needed) where
      pub row_there : i < length ys
      row_there = omega (arith, needed_few (length ys))

      pub row_fits : row_size Symbols * i + row_size Symbols ≤ length t
      row_fits = omega (arith, needed_most (length ys), so_far.long)

      pub lay_on : (u : List ℕ) → length u ≡ length t → u ≡ splice t (row_size Symbols * i) (row_bytes (get_or ys i no_symbol)) → Laid (i + 1) u
      lay_on u n e = record {
        inside = omega arith;
        long = n ∙ so_far.long;
        same = e
            ∙ ap (λ (x : List ℕ). splice x (row_size Symbols * i) (row_bytes (get_or ys i no_symbol))) so_far.same
            ∙ splice_on zs 0 (row_size Symbols * i) (bytes_of (take i ys)) (row_bytes (get_or ys i no_symbol))
            (omega (arith, bytes_length (take i ys), length-take-le i ys (omega (arith, row_there))))
            (omega (arith, row_fits, so_far.long, row_length (get_or ys i no_symbol)))
            ∙ ap (splice zs 0) (sym (bytes_snoc (take i ys) (get_or ys i no_symbol)) ∙ ap bytes_of (sym (take-suc ys i no_symbol row_there) ∙ ap (λ (k : ℕ). take k ys) (sym (add-one i))));
      }

  pub lay_end : (i : ℕ) (t : List ℕ) → Laid i t → needed ≤ i → t ≡ laid_in ys zs
  unfolding laid_in
  lay_end i t so_far h =
      let e : i ≡ needed = omega (arith, so_far.inside) in
      so_far.same ∙ ap (λ (k : ℕ). splice zs 0 (bytes_of (take k ys))) e

  -- the rows needed stand at the front
  pub laid_front : take (row_size Symbols * needed) (laid_in ys zs) ≡ bytes_of (take needed ys)
  unfolding laid_in
  laid_front =
      splice_front zs 0 (bytes_of (take needed ys)) (row_size Symbols * needed)
      (omega (arith, bytes_length (take needed ys), length-take-le needed ys (needed_few (length ys)))) (omega arith)
