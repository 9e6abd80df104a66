-- What an answer of a lookup says of the rows: a row found has the fields that were asked, and where nothing is found no row has them.
-- Assumes nothing.
use mathlib.Core.Path.{◌≡◌, refl, sym, ap, ◌∙◌}
use mathlib.Core.Bool.{Bool, true, false, cond, ◌&&◌}
use mathlib.Core.Option.{Option, none, some}
use mathlib.Core.List.{List}
use Prim.Native.Nat.{ℕ, ◌<◌}
use native.Mathlib.Omega.{arith}
use borrow.Author.Tests.{eqb-true, eqb-false, eq-eqb, ne_eqb}
use lib.IntN.{ℤ, pos, negsuc}
use lib.Dec.{eqb}
use Rattle.rules.specs.declared.Table.TheVariants.{Code, Symbols, Functions, Relocations, Maps}
use Rattle.std.specs.Prelude.{Some, None}
use Rattle.rules.specs.Tables.{is_at, is_some}
use Rattle.rules.specs.Maps.{is_symbol, has_none}
use Rattle.rules.specs.Rows.{none_number, or_none, whole_rows, first_from, code_section, symbol_index, function_section, function_address, relocation_section, relocation_offset, map_section, map_symbol}
use Rattle.rules.specs.Lookups.{found_of, is_code_section, symbol_with, function_with, relocation_with, map_with_symbol, map_of_section}
use Rattle.rules.proofs.Searches.{found_passes, nothing_passes}
use Rattle.rules.proofs.Passed.{and_left, and_right}
use Rattle.rows.specs.Matches.{code_matches, symbol_matches, function_matches, relocation_matches, map_symbol_matches, map_section_matches}

-- ---- answers as options
pub found_some : (o : Option ℕ) (k : ℕ) → found_of o ≡ Some k → o ≡ some k
found_some none k e = let z : ◌≡◌ {A = ℕ} 0 1 = cc in absurd (omega arith)
found_some (some j) k e = let same : j ≡ k = cc in ap some same

pub found_none : (o : Option ℕ) → found_of o ≡ None → o ≡ none
found_none none e = refl
found_none (some j) e = let z : ◌≡◌ {A = ℕ} 0 1 = cc in absurd (omega arith)

-- ---- any test
module _ (test : ℕ → Bool) (n : ℕ) where
  pub record Row (k : ℕ) : Type 0 where
    pub inside : k < n
    pub passes : test k ≡ true

  row_of_lem : (k : ℕ) → first_from test 0 n ≡ some k → Row k
  row_of_lem k e =
      let h = found_passes test 0 n k e in
      record { inside = omega (arith, h.high); passes = h.passes }

  pub row_found : (k : ℕ) → found_of (first_from test 0 n) ≡ Some k → Row k
  row_found k e = row_of_lem k (found_some (first_from test 0 n) k e)

  none_passes : first_from test 0 n ≡ none → (k : ℕ) → k < n → test k ≡ true → ⊥
  none_passes e k l t =
      let f = nothing_passes test 0 n e k (omega arith) (omega arith) in
      let z : ◌≡◌ {A = ℕ} 0 1 = cc in
      omega arith

  pub row_missing_lem : found_of (first_from test 0 n) ≡ None → (k : ℕ) → k < n → test k ≡ true → ⊥
  row_missing_lem e = none_passes (found_none (first_from test 0 n) e)

-- ---- tests on fields
and_both : (a b : Bool) → a ≡ true → b ≡ true → (a && b) ≡ true
and_both a b e f = simp (e, f)

is_at_lem : (n : ℕ) (z : ℤ) → is_at n z ≡ true → z ≡ pos n
is_at_lem n (pos m) e = ap pos (sym (eqb-true n m e))
is_at_lem n (negsuc m) e = let z : ◌≡◌ {A = ℕ} 0 1 = cc in absurd (omega arith)

pub record Named (symbol own : ℕ) : Type 0 where
  pub same : own ≡ symbol
  pub named : own ≡ none_number → ⊥

named : (symbol own : ℕ) → is_symbol symbol (or_none own) ≡ true → Named symbol own
named symbol own e = go (eqb own none_number) refl e
  where
    go : (b : Bool) → eqb own none_number ≡ b → is_symbol symbol (cond b none (some own)) ≡ true → Named symbol own
    go true t e = let z : ◌≡◌ {A = ℕ} 0 1 = cc in absurd (omega arith)
    go false t e = record { same = eqb-true own symbol e; named = eqb-false own none_number t }

unnamed : (own : ℕ) → has_none (or_none own) ≡ true → own ≡ none_number
unnamed own e = go (eqb own none_number) refl e
  where
    go : (b : Bool) → eqb own none_number ≡ b → has_none (cond b none (some own)) ≡ true → own ≡ none_number
    go true t e = eqb-true own none_number t
    go false t e = let z : ◌≡◌ {A = ℕ} 0 1 = cc in absurd (omega arith)

module _ (t : List ℕ) where
  -- ---- table 1
  pub record CodeFound (home : ℕ) : Type 0 where
    pub at : ℕ
    pub inside : at < whole_rows Code t
    pub section : code_section t at ≡ home

  pub code_found : (home : ℕ) → is_code_section t home ≡ true → CodeFound home
  unfolding is_code_section
  code_found home e = go (first_from (code_matches t home) 0 (whole_rows Code t)) refl e
    where
      go : (o : Option ℕ) → first_from (code_matches t home) 0 (whole_rows Code t) ≡ o → is_some o ≡ true → CodeFound home
      go none f e = let z : ◌≡◌ {A = ℕ} 0 1 = cc in absurd (omega arith)
      go (some k) f e =
          let h = row_of_lem (code_matches t home) (whole_rows Code t) k f in
          record { at = k; inside = h.inside; section = sym (eqb-true home (code_section t k) h.passes) }

  pub code_missing : (home : ℕ) → is_code_section t home ≡ false → (k : ℕ) → k < whole_rows Code t → code_section t k ≡ home → ⊥
  unfolding is_code_section
  code_missing home e k l s = go (first_from (code_matches t home) 0 (whole_rows Code t)) refl e
    where
      go : (o : Option ℕ) → first_from (code_matches t home) 0 (whole_rows Code t) ≡ o → is_some o ≡ false → ⊥
      go none f e = none_passes (code_matches t home) (whole_rows Code t) f k l (eq-eqb home (code_section t k) (sym s))
      go (some j) f e = let z : ◌≡◌ {A = ℕ} 0 1 = cc in omega arith

  -- ---- table 2
  pub record SymbolFound (index k : ℕ) : Type 0 where
    pub inside : k < whole_rows Symbols t
    pub index_is : symbol_index t k ≡ index

  pub symbol_found : (index k : ℕ) → found_of (symbol_with t index) ≡ Some k → SymbolFound index k
  unfolding symbol_with
  symbol_found index k e =
      let h = row_found (symbol_matches t index) (whole_rows Symbols t) k e in
      record { inside = h.inside; index_is = eqb-true (symbol_index t k) index h.passes }

  pub symbol_missing : (index : ℕ) → found_of (symbol_with t index) ≡ None → (k : ℕ) → k < whole_rows Symbols t → symbol_index t k ≡ index → ⊥
  unfolding symbol_with
  symbol_missing index e k l s = row_missing_lem (symbol_matches t index) (whole_rows Symbols t) e k l (eq-eqb (symbol_index t k) index s)

  -- ---- table 3
  pub record FunctionFound (home : ℕ) (address : ℤ) (k : ℕ) : Type 0 where
    pub inside : k < whole_rows Functions t
    pub section : function_section t k ≡ home
    pub address_is : address ≡ pos (function_address t k)

  pub function_found : (home : ℕ) (address : ℤ) (k : ℕ) → found_of (function_with t home address) ≡ Some k → FunctionFound home address k
  unfolding function_with
  function_found home address k e =
      let h = row_found (function_matches t home address) (whole_rows Functions t) k e in
      record {
        inside = h.inside;
        section = eqb-true (function_section t k) home (and_left _ (is_at (function_address t k) address) h.passes);
        address_is = is_at_lem (function_address t k) address (and_right (eqb (function_section t k) home) _ h.passes);
      }

  pub function_missing : (home : ℕ) (address : ℤ) → found_of (function_with t home address) ≡ None
      → (k : ℕ) → k < whole_rows Functions t → function_section t k ≡ home → address ≡ pos (function_address t k) → ⊥
  unfolding function_with
  function_missing home address e k l s a =
      row_missing_lem (function_matches t home address) (whole_rows Functions t) e k l
      (and_both _ _ (eq-eqb (function_section t k) home s) (ap (is_at (function_address t k)) a ∙ eq-eqb (function_address t k) (function_address t k) refl))

  -- ---- table 4
  pub record RelocationFound (home offset k : ℕ) : Type 0 where
    pub inside : k < whole_rows Relocations t
    pub section : relocation_section t k ≡ home
    pub offset_is : relocation_offset t k ≡ offset

  pub relocation_found : (home offset k : ℕ) → found_of (relocation_with t home offset) ≡ Some k → RelocationFound home offset k
  unfolding relocation_with
  relocation_found home offset k e =
      let h = row_found (relocation_matches t home offset) (whole_rows Relocations t) k e in
      record {
        inside = h.inside;
        section = eqb-true (relocation_section t k) home (and_left _ (eqb (relocation_offset t k) offset) h.passes);
        offset_is = eqb-true (relocation_offset t k) offset (and_right (eqb (relocation_section t k) home) _ h.passes);
      }

  pub relocation_missing : (home offset : ℕ) → found_of (relocation_with t home offset) ≡ None
      → (k : ℕ) → k < whole_rows Relocations t → relocation_section t k ≡ home → relocation_offset t k ≡ offset → ⊥
  unfolding relocation_with
  relocation_missing home offset e k l s a =
      row_missing_lem (relocation_matches t home offset) (whole_rows Relocations t) e k l
      (and_both _ _ (eq-eqb (relocation_section t k) home s) (eq-eqb (relocation_offset t k) offset a))

  -- ---- table 5
  pub record MapSymbolFound (symbol k : ℕ) : Type 0 where
    pub inside : k < whole_rows Maps t
    pub symbol_is : map_symbol t k ≡ symbol
    pub named : map_symbol t k ≡ none_number → ⊥

  pub map_symbol_found : (symbol k : ℕ) → found_of (map_with_symbol t symbol) ≡ Some k → MapSymbolFound symbol k
  unfolding map_with_symbol
  map_symbol_found symbol k e =
      let h = row_found (map_symbol_matches t symbol) (whole_rows Maps t) k e in
      let o = named symbol (map_symbol t k) h.passes in
      record { inside = h.inside; symbol_is = o.same; named = o.named }

  pub map_symbol_missing : (symbol : ℕ) → found_of (map_with_symbol t symbol) ≡ None
      → (k : ℕ) → k < whole_rows Maps t → map_symbol t k ≡ symbol → (map_symbol t k ≡ none_number → ⊥) → ⊥
  unfolding map_with_symbol
  map_symbol_missing symbol e k l s o =
      row_missing_lem (map_symbol_matches t symbol) (whole_rows Maps t) e k l
      (simp (ne_eqb (map_symbol t k) none_number o) (eq-eqb (map_symbol t k) symbol s))

  pub record MapSectionFound (home k : ℕ) : Type 0 where
    pub inside : k < whole_rows Maps t
    pub section : map_section t k ≡ home
    pub unnamed : map_symbol t k ≡ none_number

  pub map_section_found : (home k : ℕ) → found_of (map_of_section t home) ≡ Some k → MapSectionFound home k
  unfolding map_of_section
  map_section_found home k e =
      let h = row_found (map_section_matches t home) (whole_rows Maps t) k e in
      record {
        inside = h.inside;
        section = eqb-true (map_section t k) home (and_left _ (has_none (or_none (map_symbol t k))) h.passes);
        unnamed = unnamed (map_symbol t k) (and_right (eqb (map_section t k) home) _ h.passes);
      }

  pub map_section_missing : (home : ℕ) → found_of (map_of_section t home) ≡ None
      → (k : ℕ) → k < whole_rows Maps t → map_section t k ≡ home → map_symbol t k ≡ none_number → ⊥
  unfolding map_of_section
  map_section_missing home e k l s o =
      row_missing_lem (map_section_matches t home) (whole_rows Maps t) e k l
      (and_both _ _ (eq-eqb (map_section t k) home s) (simp (eq-eqb (map_symbol t k) none_number o)))
