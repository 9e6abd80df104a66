-- What a table that neither 1 nor 2 refuses is: whole rows, each good, keys rising.
-- Assumes nothing.
use mathlib.Core.Path.{◌≡◌, refl}
use mathlib.Core.Logic.{inl, inr, ⊎_elim}
use mathlib.Core.Bool.{Bool, true, false, cond, not, ◌&&◌, ◌||◌}
use mathlib.Core.Option.{Option, none, some}
use mathlib.Core.List.Memᴰ
use mathlib.Core.List.{List, Memᴰ}
use Prim.Native.Nat.{ℕ, zero, suc, ◌+◌, ◌-◌, ◌*◌, ◌%◌, ◌≤◌, ◌<◌}
use native.Mathlib.Omega.{arith}
use borrow.Author.Tests.{eqb-true, eq-eqb, ne_eqb, leb-true, ltb-true, ltb-false, lt-ltb, le-ltb, not-true, not-false}
use lib.Dec.{eqb, ltb, leb}
use lib.ListN.{length}
use Rattle.rules.specs.declared.Table.{Table}
use Rattle.rules.specs.declared.Table.TheVariants.{Code, Symbols, Functions, Relocations, Maps, Instructions, FuncInfo, LineInfo}
use Rattle.rules.specs.Rows.{row_size, most_rows, most_section, most_address, most_function_slots, none_number, section_kind, with_data, whole_rows, is_partial, is_too_many, is_good, or_partial, first_from, first_broken, rises, below, rises_pair, is_section, is_section_or_none, is_address, zero_from, same_map, any_from, code_section, symbol_index, symbol_section, symbol_address, symbol_kind, function_section, function_slots, function_address, function_offset, relocation_section, relocation_symbol, relocation_offset, map_section, map_has_data, relocation_row}
use Rattle.rules.specs.Lookups.{Sound, Rising, RisingPair}
use Rattle.rules.specs.Link.{run}
use Rattle.rules.specs.Tables.{Relocation, Before, Earlier, RowsRise}
use Rattle.rules.proofs.Searches.{nothing_passes, rising_near, rising_pair_near}

-- ---- tests joined
pub and_left : (a b : Bool) → (a && b) ≡ true → a ≡ true
and_left true b e = refl
and_left false b e = let z : ◌≡◌ {A = ℕ} 0 1 = cc in absurd (omega arith)

pub and_right : (a b : Bool) → (a && b) ≡ true → b ≡ true
and_right true b e = e
and_right false b e = let z : ◌≡◌ {A = ℕ} 0 1 = cc in absurd (omega arith)

pub or_right : (a b : Bool) → (a || b) ≡ true → a ≡ false → b ≡ true
or_right true b e f = let z : ◌≡◌ {A = ℕ} 0 1 = cc in absurd (omega arith)
or_right false b e f = e

-- ---- the two refusals, taken back
whole_by : (size : ℕ) (t : List ℕ) → not (eqb (length t % size) 0) ≡ false → length t % size ≡ 0
whole_by size t e = eqb-true (length t % size) 0 (not-false (eqb (length t % size) 0) e)

of_size : (table : Table) (t : List ℕ) → length t % row_size table ≡ 0 → length t ≡ row_size table * whole_rows table t
of_size Code t e = omega arith
of_size Symbols t e = omega arith
of_size Functions t e = omega arith
of_size Relocations t e = omega arith
of_size Maps t e = omega arith
of_size Instructions t e = omega arith
of_size FuncInfo t e = omega arith
of_size LineInfo t e = omega arith

record Parts (o : Option ℕ) (p : Bool) : Type 0 where
  all_good : o ≡ none
  no_part : p ≡ false

parts : (o : Option ℕ) (p : Bool) (rows : ℕ) → or_partial o p rows ≡ none → Parts o p
parts none false rows e = record { all_good = refl; no_part = refl }
parts none true rows e = let z : ◌≡◌ {A = ℕ} 0 1 = cc in absurd (omega arith)
parts (some k) p rows e = let z : ◌≡◌ {A = ℕ} 0 1 = cc in absurd (omega arith)

at_most : (p : Bool) (n most : ℕ) → ltb most (cond p (suc n) n) ≡ false → n ≤ most
at_most true n most e = let l = ltb-false most (suc n) e in omega arith
at_most false n most e = ltb-false most n e

pub few_whole : (table : Table) (t : List ℕ) → is_too_many table t ≡ false → whole_rows table t ≤ most_rows table
few_whole table t e = at_most (is_partial table t) (whole_rows table t) (most_rows table) e

module _ (table : Table) (t : List ℕ) (sound : Sound table t) where
  split : Parts (first_from (λ k. not (is_good table t k)) 0 (whole_rows table t)) (is_partial table t)
  unfolding first_broken
  split = parts _ _ (whole_rows table t) sound.unbroken

  pub whole : length t ≡ row_size table * whole_rows table t
  whole = of_size table t (whole_by (row_size table) t split.no_part)

  pub few_rows : whole_rows table t ≤ most_rows table
  few_rows = few_whole table t sound.few

  pub row_good : (k : ℕ) → k < whole_rows table t → is_good table t k ≡ true
  row_good k l = not-false (is_good table t k) (nothing_passes (λ k. not (is_good table t k)) 0 (whole_rows table t) split.all_good k (omega arith) (omega arith))

-- ---- keys
rises_near : (key : ℕ → ℕ) (j : ℕ) → rises key (suc j) ≡ true → key j < key (suc j)
rises_near key j e =
    let p : suc j - 1 ≡ j = omega arith in
    let q : eqb (suc j) 0 ≡ false = ne_eqb (suc j) 0 (λ (z : suc j ≡ 0). omega arith) in
    rw p at (ltb-true (key (suc j - 1)) (key (suc j)) (or_right (eqb (suc j) 0) (ltb (key (suc j - 1)) (key (suc j))) e q))

pub below_before : (a b c d : ℕ) → below a b c d ≡ true → Before a b c d
below_before a b c d e = go (ltb a c) refl e
  where
    go : (x : Bool) → ltb a c ≡ x → (x || (eqb a c && ltb b d)) ≡ true → Before a b c d
    go true l e = inl (ltb-true a c l)
    go false l e = inr (eqb-true a c (and_left (eqb a c) (ltb b d) e), ltb-true b d (and_right (eqb a c) (ltb b d) e))

pub before_below : (a b c d : ℕ) → Before a b c d → below a b c d ≡ true
before_below a b c d (inl l) = rw (lt-ltb a c l)
before_below a b c d (inr (e, l)) = let g : c ≤ a = omega arith in rw (le-ltb a c g, eq-eqb a c e, lt-ltb b d l)

pair_near : (u v : ℕ → ℕ) (j : ℕ) → rises_pair u v (suc j) ≡ true → Before (u j) (v j) (u (suc j)) (v (suc j))
pair_near u v j e =
    let p : suc j - 1 ≡ j = omega arith in
    let q : eqb (suc j) 0 ≡ false = ne_eqb (suc j) 0 (λ (z : suc j ≡ 0). omega arith) in
    rw p at (below_before (u (suc j - 1)) (v (suc j - 1)) (u (suc j)) (v (suc j)) (or_right (eqb (suc j) 0) (below (u (suc j - 1)) (v (suc j - 1)) (u (suc j)) (v (suc j))) e q))

-- ---- table 1
module _ (t : List ℕ) (sound : Sound Code t) where
  pub code_rises : Rising (code_section t) (whole_rows Code t)
  unfolding is_good
  code_rises = rising_near (code_section t) (whole_rows Code t) (λ j l. rises_near (code_section t) j (and_right (is_section (code_section t (suc j))) (rises (code_section t) (suc j)) (row_good Code t sound (suc j) l)))

-- ---- table 2
pub record GoodSymbol (t : List ℕ) (k : ℕ) : Type 0 where
  pub section : is_section_or_none (symbol_section t k) ≡ true
  pub address : symbol_address t k ≤ most_address
  pub kind : symbol_kind t k ≤ section_kind
  pub rising : rises (symbol_index t) k ≡ true

module _ (t : List ℕ) (sound : Sound Symbols t) where
  pub good_symbol : (k : ℕ) → k < whole_rows Symbols t → GoodSymbol t k
  unfolding is_good
  good_symbol k l =
      let e₁ = and_right (not (eqb (symbol_index t k) none_number)) _ (row_good Symbols t sound k l) in
      let e₂ = and_right (is_section_or_none (symbol_section t k)) _ e₁ in
      let e₃ = and_right (is_address (symbol_address t k)) _ e₂ in
      let e₄ = and_right (leb (symbol_kind t k) section_kind) _ e₃ in
      record {
        section = and_left (is_section_or_none (symbol_section t k)) _ e₁;
        address = leb-true _ _ (and_left (is_address (symbol_address t k)) _ e₂);
        kind = leb-true _ _ (and_left (leb (symbol_kind t k) section_kind) _ e₃);
        rising = and_right (zero_from t (row_size Symbols * k + 17) 7) _ e₄;
      }

  pub symbols_rise : Rising (symbol_index t) (whole_rows Symbols t)
  symbols_rise = rising_near (symbol_index t) (whole_rows Symbols t) (λ j l. rises_near (symbol_index t) j (good_symbol (suc j) l).rising)

-- ---- table 3
pub record GoodFunction (t : List ℕ) (k : ℕ) : Type 0 where
  pub section : function_section t k ≤ most_section
  pub slots_low : 1 ≤ function_slots t k
  pub slots_high : function_slots t k ≤ most_function_slots
  pub address : function_address t k ≤ most_address
  pub offset : function_offset t k ≤ most_address
  pub grid : function_offset t k % 8 ≡ 0
  pub rising : rises_pair (function_section t) (function_address t) k ≡ true

module _ (t : List ℕ) (sound : Sound Functions t) where
  pub good_function : (k : ℕ) → k < whole_rows Functions t → GoodFunction t k
  unfolding is_good
  good_function k l =
      let e₀ = row_good Functions t sound k l in
      let e₁ = and_right (is_section (function_section t k)) _ e₀ in
      let e₂ = and_right (leb 1 (function_slots t k)) _ e₁ in
      let e₃ = and_right (leb (function_slots t k) most_function_slots) _ e₂ in
      let e₄ = and_right (is_address (function_address t k)) _ e₃ in
      let e₅ = and_right (is_address (function_offset t k)) _ e₄ in
      record {
        section = leb-true _ _ (and_left (is_section (function_section t k)) _ e₀);
        slots_low = leb-true _ _ (and_left (leb 1 (function_slots t k)) _ e₁);
        slots_high = leb-true _ _ (and_left (leb (function_slots t k) most_function_slots) _ e₂);
        address = leb-true _ _ (and_left (is_address (function_address t k)) _ e₃);
        offset = leb-true _ _ (and_left (is_address (function_offset t k)) _ e₄);
        grid = eqb-true _ _ (and_left (eqb (function_offset t k % 8) 0) _ e₅);
        rising = and_right (eqb (function_offset t k % 8) 0) _ e₅;
      }

  pub functions_rise : RisingPair (function_section t) (function_address t) (whole_rows Functions t)
  functions_rise = rising_pair_near (function_section t) (function_address t) (whole_rows Functions t) (λ j l. pair_near (function_section t) (function_address t) j (good_function (suc j) l).rising)

-- ---- table 4
pub record GoodRelocation (t : List ℕ) (k : ℕ) : Type 0 where
  pub section : relocation_section t k ≤ most_section
  pub offset : relocation_offset t k ≤ most_address
  pub rising : rises_pair (relocation_section t) (relocation_offset t) k ≡ true

module _ (t : List ℕ) (sound : Sound Relocations t) where
  pub good_relocation : (k : ℕ) → k < whole_rows Relocations t → GoodRelocation t k
  unfolding is_good
  good_relocation k l =
      let e₀ = row_good Relocations t sound k l in
      let e₁ = and_right (is_section (relocation_section t k)) _ e₀ in
      let e₂ = and_right (not (eqb (relocation_symbol t k) none_number)) _ e₁ in
      let e₃ = and_right (is_address (relocation_offset t k)) _ e₂ in
      record {
        section = leb-true _ _ (and_left (is_section (relocation_section t k)) _ e₀);
        offset = leb-true _ _ (and_left (is_address (relocation_offset t k)) _ e₂);
        rising = and_right (zero_from t (row_size Relocations * k + 17) 7) _ e₃;
      }

  pub relocations_rise : RisingPair (relocation_section t) (relocation_offset t) (whole_rows Relocations t)
  relocations_rise = rising_pair_near (relocation_section t) (relocation_offset t) (whole_rows Relocations t) (λ j l. pair_near (relocation_section t) (relocation_offset t) j (good_relocation (suc j) l).rising)

  earlier : (k from n : ℕ) → k < from → from + n ≤ whole_rows Relocations t → (q : Relocation) → Memᴰ q (run (relocation_row t) from n) → Earlier (relocation_row t k) q
  unfolding RisingPair
  earlier k from zero l h q m = absurd (Memᴰ.not-nil m)
  earlier k from (suc n) l h q m =
      ⊎_elim (λ (e : q ≡ relocation_row t from). rw e (relocations_rise k from l (omega arith)))
      (λ (later : Memᴰ q (run (relocation_row t) (suc from) n)). earlier k (suc from) n (omega arith) (omega arith) q later)
      (Memᴰ.cases_cons m)

  rise_from : (from n : ℕ) → from + n ≤ whole_rows Relocations t → RowsRise (run (relocation_row t) from n)
  rise_from from zero h = tt
  rise_from from (suc n) h = (earlier from (suc from) n (omega arith) (omega arith), rise_from (suc from) n (omega arith))

  -- as a list
  pub rows_rise : RowsRise (run (relocation_row t) 0 (whole_rows Relocations t))
  rows_rise = rise_from 0 (whole_rows Relocations t) (omega arith)

-- ---- table 5
pub record GoodMap (t : List ℕ) (k : ℕ) : Type 0 where
  pub section : map_section t k ≤ most_section
  pub has_data : map_has_data t k ≤ with_data
  pub single : any_from (λ j. same_map t j k) 0 k ≡ false

module _ (t : List ℕ) (sound : Sound Maps t) where
  pub good_map : (k : ℕ) → k < whole_rows Maps t → GoodMap t k
  unfolding is_good
  good_map k l =
      let e₀ = row_good Maps t sound k l in
      let e₁ = and_right (is_section (map_section t k)) _ e₀ in
      let e₂ = and_right (leb (map_has_data t k) with_data) _ e₁ in
      record {
        section = leb-true _ _ (and_left (is_section (map_section t k)) _ e₀);
        has_data = leb-true _ _ (and_left (leb (map_has_data t k) with_data) _ e₁);
        single = not-true _ (and_right (zero_from t (row_size Maps * k + 13) 3) _ e₂);
      }
