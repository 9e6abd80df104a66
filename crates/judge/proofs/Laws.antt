-- Each answer says what document 01's order of judging says: a law for each way out that the check does not find alone.
-- Assumes nothing.
use mathlib.Core.Path.{◌≡◌, refl, sym, ap, ◌∙◌}
use mathlib.Core.Logic.{◌⊎◌, inl, inr, ⊎_elim}
use mathlib.Core.Bool.{Bool, true, false, cond, ◌||◌}
use mathlib.Core.Option.{Option, none, some}
use mathlib.Core.List.{List}
use native.Mathlib.Omega.{arith}
use Prim.Native.Nat.{ℕ, ◌<◌}
use borrow.Author.Tests.{eq-eqb, ne_eqb, ltb-true}
use lib.IntN.{ℤ, pos, negsuc, ◌+ℤ◌}
use mir.Syntax.{w32}
use mir.Val.{SFits}
use Rattle.rules.specs.declared.Cause.TheVariants.{UnknownSymbol, SectionNotFound, NotWideLoad, ValueOutside}
use Rattle.std.specs.Prelude.{Some}
use Rattle.rules.specs.declared.Table.TheVariants.{Maps}
use Rattle.rules.specs.Bytes.{half32}
use Rattle.rules.specs.Tables.{text, Tables}
use denote.Enum.Bare.{sameb}
use Rattle.rules.specs.contracts.SymbolKind as kinds
use Rattle.rules.specs.declared.SymbolKind as coded
use Rattle.rules.specs.declared.SymbolKind.TheVariants.{Other, Text, Section}
use Rattle.rules.specs.Maps as step
use Rattle.rules.specs.Maps.{or_else, fits32, by_map, by_kind}
use Rattle.rules.specs.Rows.{none_number, with_data, whole_rows, or_none, kind_in, kind_of, symbol_section, symbol_address, symbol_kind, map_has_data, map_row}
use Rattle.rules.specs.Lookups.{found_of, is_code_section, symbol_with, map_with_symbol, map_of_section, read_row}
use Rattle.rows.proofs.Laws.{map_symbol_found, map_section_found}
use Rattle.judge.specs.declared.Site.{Site}
use Rattle.judge.specs.Verdicts.{Verdict, refused_for, map_found, data_verdict, map_verdict, home_verdict, row_verdict, found_verdict, symbol_verdict, Says}

pub inside_fits : (z : ℤ) → fits32 z ≡ true → SFits w32 z
inside_fits (pos n) e = record { sfits = ltb-true n half32 e }
inside_fits (negsuc n) e = record { sfits = ltb-true n half32 e }

pub outside_fits : (z : ℤ) → (SFits w32 z → ⊥) → fits32 z ≡ false
outside_fits z n = go (fits32 z) refl
  where
    go : (b : Bool) → fits32 z ≡ b → b ≡ false
    go true e = absurd (n (inside_fits z e))
    go false e = refl

-- ---- a verdict that is the same in other words
says_same : (site : Site) (v w : Tables → step.Verdict) → ((tables : Tables) → v tables ≡ w tables) → (r : Verdict) → Says site v r → Says site w r
says_same site v w e r s = record { says = λ tables. s.says tables ∙ e tables; places = s.places }

-- ---- "with data, 7"
module _ (maps : List ℕ) (m address : ℕ) (site : Site) where
  module _ (with-data : map_has_data maps m ≡ with_data) where
    pub outside_says : fits32 (site.imm +ℤ pos address) ≡ false → (r : Verdict) → Says site (refused_for ValueOutside) r → Says site (data_verdict maps m address site) r
    outside_says e = says_same site _ _ (λ tables. rw (eq-eqb (map_has_data maps m) with_data with-data, e))

-- ---- rows found are rows
some_found : (a b : Option ℕ) (k : ℕ) → or_else a b ≡ some k → (found_of a ≡ Some k) ⊎ (found_of b ≡ Some k)
some_found none b k e = inr (ap found_of e)
some_found (some j) b k e = inl (ap found_of e)

pub map_inside : (maps : List ℕ) (symbol home m : ℕ) → map_found maps symbol home ≡ some m → m < whole_rows Maps maps
map_inside maps symbol home m e =
    ⊎_elim (λ f. (map_symbol_found maps symbol m f).inside) (λ f. (map_section_found maps home m f).inside)
    (some_found (map_with_symbol maps symbol) (map_of_section maps home) m e)

-- ---- "the map with that symbol, else the map of that section without a symbol, else 5; 6"
module _ (maps : List ℕ) (symbol home address : ℕ) (site : Site) where
  pub no_map_says : map_found maps symbol home ≡ none → (r : Verdict) → Says site (refused_for SectionNotFound) r → Says site (map_verdict maps symbol home address site) r
  no_map_says e = says_same site _ _ (λ tables. rw e)

  module _ (m : ℕ) (found : map_found maps symbol home ≡ some m) where
    found_map : (tables : Tables) (b : Bool) → site.wide ≡ b
        → map_verdict maps symbol home address site tables ≡ by_map tables (some (map_row maps m)) b (site.imm +ℤ pos address)
    found_map tables b e =
        ap (λ o. by_map tables (read_row (map_row maps) o) site.wide (site.imm +ℤ pos address)) found
        ∙ ap (λ w. by_map tables (some (map_row maps m)) w (site.imm +ℤ pos address)) e

    pub not_wide_says : site.wide ≡ false → (r : Verdict) → Says site (refused_for NotWideLoad) r → Says site (map_verdict maps symbol home address site) r
    not_wide_says e = says_same site _ _ (λ tables. sym (found_map tables false e))

    pub map_says : site.wide ≡ true → (r : Verdict) → Says site (data_verdict maps m address site) r → Says site (map_verdict maps symbol home address site) r
    map_says e = says_same site _ _ (λ tables. sym (found_map tables true e))

-- ---- "skip if the symbol has no section; skip if the slot is a call or the section is in table 1; 5 if the kind is Text"
-- as code has it
module _ (n : ℕ) (kind : coded.SymbolKind) (e : kind_in kind ≡ kind_of n) where
  pub is_text : sameb kinds.the_type kind Text ≡ true → kind_of n ≡ text
  is_text s = sym e ∙ go kind s
    where
      go : (k : coded.SymbolKind) → sameb kinds.the_type k Text ≡ true → kind_in k ≡ text
      go Other s = let z : ◌≡◌ {A = ℕ} 0 1 = cc in absurd (omega arith)
      go Text s = refl
      go Section s = let z : ◌≡◌ {A = ℕ} 0 1 = cc in absurd (omega arith)

module _ (code symbols maps : List ℕ) (s symbol : ℕ) (site : Site) where
  -- the symbol has a section
  module _ (home : ℕ) (home-is : home ≡ symbol_section symbols s) (named : home ≡ none_number → ⊥) where
    section_is : or_none (symbol_section symbols s) ≡ some home
    section_is = rw (← home-is) (ap (λ b. cond b none (some home)) (ne_eqb home none_number named))

    by_section : (tables : Tables) (skips : Bool) → (site.call || is_code_section code home) ≡ skips → row_verdict code symbols maps s symbol site tables
        ≡ cond skips step.skipped
        (by_kind tables (kind_of (symbol_kind symbols s)) (read_row (map_row maps) (map_found maps symbol home)) site.wide (site.imm +ℤ pos (symbol_address symbols s)))
    by_section tables skips e =
        ap (home_verdict code symbols maps s symbol site tables) section_is
        ∙ ap (λ b. cond b step.skipped (by_kind tables (kind_of (symbol_kind symbols s)) (read_row (map_row maps) (map_found maps symbol home)) site.wide (site.imm +ℤ pos (symbol_address symbols s)))) e

    -- not a call
    module _ (no_call : site.call ≡ false) where
      -- nor code
      module _ (no_code : is_code_section code home ≡ false) where
        judged : (tables : Tables) → row_verdict code symbols maps s symbol site tables
            ≡ by_kind tables (kind_of (symbol_kind symbols s)) (read_row (map_row maps) (map_found maps symbol home)) site.wide (site.imm +ℤ pos (symbol_address symbols s))
        judged tables = by_section tables false (ap (λ b. b || is_code_section code home) no_call ∙ no_code)

        pub text_says : kind_of (symbol_kind symbols s) ≡ text → (r : Verdict) → Says site (refused_for SectionNotFound) r → Says site (row_verdict code symbols maps s symbol site) r
        text_says e =
            says_same site _ _ (λ tables. sym (judged tables
            ∙ ap (λ k. by_kind tables k (read_row (map_row maps) (map_found maps symbol home)) site.wide (site.imm +ℤ pos (symbol_address symbols s))) e))

-- ---- "3"
module _ (code symbols maps : List ℕ) (symbol : ℕ) (site : Site) where
  pub unknown_says : symbol_with symbols symbol ≡ none → (r : Verdict) → Says site (refused_for UnknownSymbol) r → Says site (symbol_verdict code symbols maps symbol site) r
  unknown_says e = says_same site _ _ (λ tables. sym (ap (found_verdict code symbols maps symbol site tables) e))
