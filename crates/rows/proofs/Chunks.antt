-- A table's rows as arrays, each its own bytes: a field of row 0 there is the field of row k of the table, and a search of the arrays is
-- the search of the row numbers.
-- Assumes nothing.
use mathlib.Core.Path.{◌≡◌, refl, sym, ap, ◌∙◌}
use mathlib.Core.Bool.{Bool, true, false, cond, ◌||◌}
use mathlib.Core.Option.{some}
use mathlib.Core.List.{List}
use Prim.Native.Nat.{ℕ, zero, suc, ◌+◌, ◌*◌, ◌≤◌, ◌<◌}
use native.Mathlib.Omega.{arith}
use native.Mathlib.Nat.{zero-add}
use native.Mathlib.Numerals.{add-one}
use lib.IntN.{ℤ}
use lib.ListN.{length, take, drop, get_or}
use lib.Seq.{drop-drop, get_or-take, get_or-drop}
use Rattle.std.specs.Simd.{first_chunks}
use Rattle.std.specs.List.{list_any, position_from}
use Rattle.std.specs.Prelude as prelude
use Rattle.rules.specs.Bytes.{little, u32_at, u64_at}
use Rattle.rules.specs.declared.Table.TheVariants.{Code, Functions, Relocations, Maps}
use Rattle.rules.specs.Rows.{row_size, first_from, any_from, code_section, function_section, function_address, relocation_section, relocation_offset, map_section, map_symbol}
use Rattle.rules.specs.Lookups.{found_of}
use Rattle.rules.proofs.Writing.{u32_same}
use Rattle.rows.specs.Matches.{code_matches, function_matches, relocation_matches, relocation_is_before, map_symbol_matches, map_section_matches}

module _ (size : ℕ) where
  pub rows_length : (n : ℕ) (t : List ℕ) → length (first_chunks size n t) ≡ n
  rows_length zero t = refl
  rows_length (suc n) t = ap suc (rows_length n (drop size t))

  first_row : (t : List ℕ) → take size (drop (size * 0) t) ≡ take size t
  first_row t =
      let e : size * 0 ≡ 0 = omega arith in
      ap (λ m. take size (drop m t)) e

  later : (t : List ℕ) (j : ℕ) → take size (drop (size * j) (drop size t)) ≡ take size (drop (size * suc j) t)
  later t j =
      let e : size + size * j ≡ size * suc j = omega arith in
      ap (take size) (drop-drop (size * j) size t) ∙ ap (λ m. take size (drop m t)) e

  pub row_is : (n k : ℕ) (t d : List ℕ) → k < n → get_or (first_chunks size n t) k d ≡ take size (drop (size * k) t)
  row_is zero k t d l = absurd (omega arith)
  row_is (suc n) zero t d l = sym (first_row t)
  row_is (suc n) (suc k) t d l =
      row_is n k (drop size t) d (omega arith) ∙ later t k

  module _ (test : List ℕ → Bool) (look : ℕ → Bool) where
    abbrev Same : ℕ → ℕ → List ℕ → Type 0
    Same k n t = (j : ℕ) → j < n → test (take size (drop (size * j) t)) ≡ look (k + j)

    here : (k n : ℕ) (t : List ℕ) → Same k (suc n) t → test (take size t) ≡ look k
    here k n t same =
        let e : k + 0 ≡ k = omega arith in
        ap test (sym (first_row t)) ∙ same 0 (omega arith) ∙ ap look e

    after : (k n : ℕ) (t : List ℕ) → Same k (suc n) t → Same (suc k) n (drop size t)
    after k n t same j l =
        let e : k + suc j ≡ suc k + j = omega arith in
        ap test (later t j) ∙ same (suc j) (omega arith) ∙ ap look e

    positions : (k n : ℕ) (t : List ℕ) → Same k n t → position_from test k (first_chunks size n t) ≡ found_of (first_from look k n)
    positions k zero t same = refl
    positions k (suc n) t same =
        let rest : position_from test (k + 1) (first_chunks size n (drop size t)) ≡ found_of (first_from look (suc k) n) = rw add-one (positions (suc k) n (drop size t) (after k n t same)) in
        go (test (take size t)) (look k) (here k n t same) rest
      where
        go : (a b : Bool) → a ≡ b → position_from test (k + 1) (first_chunks size n (drop size t)) ≡ found_of (first_from look (suc k) n)
            → cond a (prelude.Some k) (position_from test (k + 1) (first_chunks size n (drop size t))) ≡ found_of (cond b (some k) (first_from look (suc k) n))
        go true true e rest = refl
        go false false e rest = rest
        go true false e rest = absurd (cc)
        go false true e rest = absurd (cc)

    anys : (k n : ℕ) (t : List ℕ) → Same k n t → list_any test (first_chunks size n t) ≡ any_from look k n
    anys k zero t same = refl
    anys k (suc n) t same =
        ap (λ b. b || list_any test (first_chunks size n (drop size t))) (here k n t same)
        ∙ ap (λ b. look k || b) (anys (suc k) n (drop size t) (after k n t same))

    -- over all rows
    module _ (n : ℕ) (t : List ℕ) (same : (j : ℕ) → test (take size (drop (size * j) t)) ≡ look j) where
      each : Same 0 n t
      each j l = same j ∙ ap look (sym (zero-add j))

      pub position_is : position_from test 0 (first_chunks size n t) ≡ found_of (first_from look 0 n)
      position_is = positions 0 n t each

      pub any_is : list_any test (first_chunks size n t) ≡ any_from look 0 n
      any_is = anys 0 n t each

  word_is : (t : List ℕ) (k p q : ℕ) → p + 4 ≤ size → size * k + p ≡ q → u32_at little (take size (drop (size * k) t)) p ≡ u32_at little t q
  word_is t k p q l e =
      u32_same little t (take size (drop (size * k) t)) q p (λ j m.
      let at : size * k + (p + j) ≡ q + j = omega (arith, e) in
      get_or-take size (drop (size * k) t) (p + j) 0 (omega (arith, m)) ∙ get_or-drop (size * k) t (p + j) 0 ∙ ap (λ i. get_or t i 0) at)

-- ---- the tests of the searches: of row 0 in row k's own bytes, and of row k
module _ (t : List ℕ) (k : ℕ) where
  pub code_row : (home : ℕ) → code_matches (take (row_size Code) (drop (row_size Code * k) t)) home 0 ≡ code_matches t home k
  unfolding code_section
  code_row home = rw (word_is (row_size Code) t k 0 (row_size Code * k) (omega arith) (omega arith)) refl

  pub function_row : (home : ℕ) (address : ℤ) → function_matches (take (row_size Functions) (drop (row_size Functions * k) t)) home address 0 ≡ function_matches t home address k
  unfolding function_section function_address u64_at
  function_row home address =
      rw (
        word_is (row_size Functions) t k 0 (row_size Functions * k) (omega arith) (omega arith),
        word_is (row_size Functions) t k 8 (row_size Functions * k + 8) (omega arith) refl,
        word_is (row_size Functions) t k 12 (row_size Functions * k + 8 + 4) (omega arith) (omega arith),
      ) refl

  pub relocation_row : (home offset : ℕ)
      → relocation_matches (take (row_size Relocations) (drop (row_size Relocations * k) t)) home offset 0 ≡ relocation_matches t home offset k
  unfolding relocation_section relocation_offset u64_at
  relocation_row home offset =
      rw (
        word_is (row_size Relocations) t k 0 (row_size Relocations * k) (omega arith) (omega arith),
        word_is (row_size Relocations) t k 8 (row_size Relocations * k + 8) (omega arith) refl,
        word_is (row_size Relocations) t k 12 (row_size Relocations * k + 8 + 4) (omega arith) (omega arith),
      ) refl

  pub before_row : (home offset : ℕ)
      → relocation_is_before (take (row_size Relocations) (drop (row_size Relocations * k) t)) home offset 0 ≡ relocation_is_before t home offset k
  unfolding relocation_section relocation_offset u64_at
  before_row home offset =
      rw (
        word_is (row_size Relocations) t k 0 (row_size Relocations * k) (omega arith) (omega arith),
        word_is (row_size Relocations) t k 8 (row_size Relocations * k + 8) (omega arith) refl,
        word_is (row_size Relocations) t k 12 (row_size Relocations * k + 8 + 4) (omega arith) (omega arith),
      ) refl

  pub map_symbol_row : (symbol : ℕ) → map_symbol_matches (take (row_size Maps) (drop (row_size Maps * k) t)) symbol 0 ≡ map_symbol_matches t symbol k
  unfolding map_symbol
  map_symbol_row symbol = rw (word_is (row_size Maps) t k 4 (row_size Maps * k + 4) (omega arith) refl) refl

  pub map_section_row : (home : ℕ) → map_section_matches (take (row_size Maps) (drop (row_size Maps * k) t)) home 0 ≡ map_section_matches t home k
  unfolding map_section map_symbol
  map_section_row home =
      rw (word_is (row_size Maps) t k 0 (row_size Maps * k) (omega arith) (omega arith), word_is (row_size Maps) t k 4 (row_size Maps * k + 4) (omega arith) refl) refl
