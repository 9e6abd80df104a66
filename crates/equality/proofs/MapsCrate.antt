-- One relocation of the map step, by the crate: what it does to a function's instructions is what `judge` and `changed` say, in the domain.
-- Assumes nothing.
use mathlib.Core.Path.{◌≡◌, refl, sym, ◌∙◌, ap}
use mathlib.Core.Logic.{◌≢◌, ◌⊎◌, inl, inr}
use mathlib.Core.Bool.{Bool, true, false, cond, ◌&&◌, ◌||◌, not}
use mathlib.Core.Option.{Option, none, some}
use mathlib.Core.List.Memᴰ
use mathlib.Core.List.{List, [], ◌∷◌, Memᴰ}
use Prim.Native.Nat.{ℕ, zero, suc, ◌+◌, ◌*◌, ◌%◌, ◌<◌}
use native.Mathlib.Nat.{zero-add, add-zero, add-suc, suc-add}
use native.Mathlib.Omega.{arith}
use native.Mathlib.Decide.{ℕ_discrete}
use lib.IntN.{ℤ, pos, negsuc, ◌+ℤ◌}
use lib.Dec.{eqb, ltb, leb}
use lib.ListN.{length, length-set}
use lib.Seq.{get_or-set_same, get_or-set_other, ext_get_or}
use borrow.Author.Tests.{eqb-true, eqb-false, eq-eqb, ne_eqb, ltb-true, ltb-false, leb-true, leb-false, lt-ltb, le-ltb, le-leb, lt-leb}
use Rattle.rules.specs.Object.{Insn, is_call}
use Rattle.rules.specs.Faithful.{blank, slot_at}
use Rattle.rules.specs.Link.{run}
use Rattle.rules.specs.Bytes.{Fits, half32, with_immediate, with_source}
use Rattle.rules.specs.Tables.{SymbolKind, other, text, section, Symbol, Relocation, MapRow, Tables, first, row_of, base, is_code}
use Rattle.rules.specs.Maps.{Task, task, change, Verdict, skipped, refused, applies, is_symbol, has_none, fits32, inside, on_grid, or_else, map_for, by_data, by_map, by_kind, by_home, by_symbol, is_wide, symbol_of, task_slot, judge, at, changed, place}
use Rattle.equality.specs.Crate.{HashMap, insert, new, Result, ok, err, add_u64, i32, add_i32, insn_is_call, maps_by_section, maps_by_symbol, insert_symbol, set_map, with_map, find_map, in_section, with_symbol, relocate_map, invalid_relocation_offset}
use Rattle.equality.specs.Domain.{Hidden, crate_function, crate_of, Compared, cause_of, Perm, done, keep, swap, both, Once, MapDomain}
use Rattle.rules.proofs.Linking.{length_run, run_at}
use Rattle.equality.proofs.Numbers.{same_call, value_exact}
use Rattle.equality.proofs.CrateSlots.{not_6}
use Rattle.rules.proofs.MapsInPlace.{like_call, Live, Wide, wide_is, Kept}
use Rattle.rules.proofs.MapsApart.{live_spot}
use Rattle.equality.proofs.Perms.{perm_member, perm_sym}

-- a function's part of table 6
pub run_same {ℓ} : {A : Type ℓ} (f g : ℕ → A) (from count : ℕ) → ((k : ℕ) → k < count → f (from + k) ≡ g (from + k)) → run f from count ≡ run g from count
run_same f g from zero same = refl
run_same f g from (suc count) same =
    λ i. (rw (add-zero from) at (same 0 (omega arith))) i ∷ run_same f g (suc from) count (λ k l. rw (suc-add from k, ← (add-suc from k)) (same (suc k) (omega arith))) i

module _ (tables : Tables) where
  abbrev pub part : List Insn → ℕ → List Insn
  part image row = run (λ slot. slot_at image (base tables row + slot)) 0 (row_of tables row).slots

  pub part_same : (image image' : List Insn) (row : ℕ) → ((k : ℕ) → k < (row_of tables row).slots → slot_at image (base tables row + k) ≡ slot_at image' (base tables row + k))
      → part image row ≡ part image' row
  part_same image image' row same =
      run_same (λ slot. slot_at image (base tables row + slot)) (λ slot. slot_at image' (base tables row + slot)) 0 (row_of tables row).slots
      (λ k l. rw (zero-add k) (same k l))

  part_slot : (image : List Insn) (row k : ℕ) → k < (row_of tables row).slots → slot_at (part image row) k ≡ slot_at image (base tables row + k)
  part_slot image row k l =
      run_at (λ slot. slot_at image (base tables row + slot)) 0 (row_of tables row).slots k blank l ∙ ap (λ n. slot_at image (base tables row + n)) (zero-add k)

  part_length : (image : List Insn) (row : ℕ) → length (part image row) ≡ (row_of tables row).slots
  part_length image row = length_run (λ slot. slot_at image (base tables row + slot)) 0 (row_of tables row).slots

  -- a slot rewritten in the part, and in table 6
  part_at : (image : List Insn) (row k : ℕ) (f : Insn → Insn) → k < (row_of tables row).slots → base tables row + k < length image
      → at k f (part image row) ≡ part (at (base tables row + k) f image) row
  part_at image row k f l l' =
      ext_get_or blank (at k f (part image row)) (part (at (base tables row + k) f image) row)
      (length-set (part image row) k _ ∙ part_length image row ∙ sym (part_length (at (base tables row + k) f image) row))
      (λ i b. same i (rw (length-set (part image row) k (f (slot_at (part image row) k)), part_length image row) at b) (ℕ_discrete i k))
    where
      same : (i : ℕ) → i < (row_of tables row).slots → Dec (i ≡ k) → slot_at (at k f (part image row)) i ≡ slot_at (part (at (base tables row + k) f image) row) i
      same i b (yes e) =
          rw (e, part_slot (at (base tables row + k) f image) row k l)
          (get_or-set_same (part image row) k _ blank (rw (part_length image row) l) ∙ ap f (part_slot image row k l) ∙ sym (get_or-set_same image (base tables row + k) _ blank l'))
      same i b (no n) =
          get_or-set_other (part image row) k i _ blank n ∙ part_slot image row i b
          ∙ sym (part_slot (at (base tables row + k) f image) row i b ∙ get_or-set_other image (base tables row + k) (base tables row + i) _ blank (λ e. n (omega arith)))

  part_none : (image : List Insn) (row k : ℕ) (fd : ℤ) → k < (row_of tables row).slots → base tables row + k < length image
      → at k (with_immediate fd) (at k (with_source 1) (part image row)) ≡ part (changed (base tables row + k) fd none image) row
  part_none image row k fd l l' =
      ap (at k (with_immediate fd)) (part_at image row k (with_source 1) l l')
      ∙ part_at (at (base tables row + k) (with_source 1) image) row k (with_immediate fd) l (simp length-set l')

  part_some : (image : List Insn) (row k : ℕ) (fd value : ℤ) → suc k < (row_of tables row).slots → base tables row + suc k < length image
      → at k (with_immediate fd) (at (suc k) (with_immediate value) (at k (with_source 2) (part image row))) ≡ part (changed (base tables row + k) fd (some value) image) row
  part_some image row k fd value l l' =
      rw (← (add-suc (base tables row) k))
      (ap (λ x. at k (with_immediate fd) (at (suc k) (with_immediate value) x)) (part_at image row k (with_source 2) (omega arith) (omega arith))
      ∙ ap (at k (with_immediate fd)) (part_at (at (base tables row + k) (with_source 2) image) row (suc k) (with_immediate value) l (simp length-set l'))
      ∙ part_at (at (base tables row + suc k) (with_immediate value) (at (base tables row + k) (with_source 2) image)) row k (with_immediate fd) (omega arith) (simp length-set (omega arith)))

-- the crate's maps
pub first_found : {A : Type 0} (test : A → Bool) (xs : List A) (x : A) → first test xs ≡ some x → Memᴰ x xs × (test x ≡ true)
first_found test [] x e = let z : ◌≡◌ {A = ℕ} 0 1 = cc in absurd (omega arith)
first_found test (y ∷ ys) x e = go (test y) refl e (λ e. first_found test ys x e)
  where
    go : (b : Bool) → test y ≡ b → cond b (some y) (first test ys) ≡ some x → (first test ys ≡ some x → Memᴰ x ys × (test x ≡ true)) → Memᴰ x (y ∷ ys) × (test x ≡ true)
    go true t e later = let same : x ≡ y = cc in (Memᴰ.head same, ap test same ∙ t)
    go false t e later = let f = later e in (Memᴰ.tail f.0, f.1)

first_none : {A : Type 0} (test : A → Bool) (xs : List A) → ((x : A) → Memᴰ x xs → test x ≡ false) → first test xs ≡ none
first_none test [] all = refl
first_none test (x ∷ xs) all = rw (all x (Memᴰ.head refl)) (first_none test xs (λ y m. all y (Memᴰ.tail m)))

none_passes : {A : Type 0} (test : A → Bool) (xs : List A) → first test xs ≡ none → (x : A) → Memᴰ x xs → test x ≡ false
none_passes test [] e x k = absurd (Memᴰ.not-nil k)
none_passes test (y ∷ ys) e x k = go (test y) refl e (Memᴰ.cases_cons k) (λ e k. none_passes test ys e x k)
  where
    go : (b : Bool) → test y ≡ b → cond b (some y) (first test ys) ≡ none → (x ≡ y) ⊎ Memᴰ x ys → (first test ys ≡ none → Memᴰ x ys → test x ≡ false) → test x ≡ false
    go true t e k later = let z : ◌≡◌ {A = ℕ} 0 1 = cc in absurd (omega arith)
    go false t e (inl same) later = ap test same ∙ t
    go false t e (inr k) later = later e k

perm_once : {xs ys : List MapRow} → Perm xs ys → Once xs → Once ys
perm_once done o = tt
perm_once (keep x p) o = (λ y k. o.0 y (perm_member y p k), perm_once p o.1)
perm_once (swap a b zs) o = (λ y k s e. go y (Memᴰ.cases_cons k) s e, (λ y k. o.0 y (Memᴰ.tail k), o.1.1))
  where
    go : (y : MapRow) → (y ≡ a) ⊎ Memᴰ y zs → (s : ℕ) → b.symbol ≡ some s → y.symbol ≢ some s
    go y (inl e) s f g = o.0 b (Memᴰ.head refl) s (ap (λ m. m.symbol) (sym e) ∙ g) f
    go y (inr k) s f g = o.1.0 y k s f g
perm_once (both p q) o = perm_once q (perm_once p o)

module _ (symbol : ℕ) where
  -- a row that is inserted changes the answer only at its own symbol
  insert_same : (o : Option ℕ) (x : MapRow) (m : HashMap MapRow) → insert_symbol o x m symbol ≡ cond (is_symbol symbol o) (some x) (m symbol)
  insert_same none x m = refl
  insert_same (some s) x m = ap (λ b. cond b (some x) (m symbol)) (eqb_sym symbol s)
    where
      eqb_sym : (a b : ℕ) → eqb a b ≡ eqb b a
      eqb_sym a b = go (eqb a b) refl
        where
          go : (t : Bool) → eqb a b ≡ t → t ≡ eqb b a
          go true e = sym (eq-eqb b a (sym (eqb-true a b e)))
          go false e = sym (ne_eqb b a (λ same. eqb-false a b e (sym same)))

  symbol_kept : (xs : List MapRow) (m : HashMap MapRow) → first (λ x. is_symbol symbol x.symbol) xs ≡ none → maps_by_symbol xs m symbol ≡ m symbol
  symbol_kept [] m e = refl
  symbol_kept (x ∷ xs) m e = go (is_symbol symbol x.symbol) refl e
      (λ e. symbol_kept xs (insert_symbol x.symbol x m) e ∙ insert_same x.symbol x m)
    where
      go : (b : Bool) → is_symbol symbol x.symbol ≡ b → cond b (some x) (first (λ x. is_symbol symbol x.symbol) xs) ≡ none
          → (first (λ x. is_symbol symbol x.symbol) xs ≡ none → maps_by_symbol xs (insert_symbol x.symbol x m) symbol ≡ cond (is_symbol symbol x.symbol) (some x) (m symbol))
          → maps_by_symbol xs (insert_symbol x.symbol x m) symbol ≡ m symbol
      go true t e later = let z : ◌≡◌ {A = ℕ} 0 1 = cc in absurd (omega arith)
      go false t e later = later e ∙ ap (λ b. cond b (some x) (m symbol)) t

  is_symbol_lem : (o : Option ℕ) → is_symbol symbol o ≡ true → o ≡ some symbol
  is_symbol_lem none e = let z : ◌≡◌ {A = ℕ} 0 1 = cc in absurd (omega arith)
  is_symbol_lem (some s) e = ap some (eqb-true s symbol e)

  -- of the maps, in whatever order: the one with the symbol, or none
  pub by_symbol_found : (x : MapRow) (xs : List MapRow) (m : HashMap MapRow) → Once xs → Memᴰ x xs → is_symbol symbol x.symbol ≡ true → maps_by_symbol xs m symbol ≡ some x
  by_symbol_found x [] m once k t = absurd (Memᴰ.not-nil k)
  by_symbol_found x (y ∷ ys) m once k t = go (Memᴰ.cases_cons k) (λ k. by_symbol_found x ys (insert_symbol y.symbol y m) once.1 k t)
    where
      go : (x ≡ y) ⊎ Memᴰ x ys → (Memᴰ x ys → maps_by_symbol ys (insert_symbol y.symbol y m) symbol ≡ some x)
          → maps_by_symbol ys (insert_symbol y.symbol y m) symbol ≡ some x
      go (inl e) later =
          symbol_kept ys (insert_symbol y.symbol y m) (first_none (λ z. is_symbol symbol z.symbol) ys (λ z k. others z k (is_symbol symbol z.symbol) refl))
          ∙ insert_same y.symbol y m ∙ ap (λ b. cond b (some y) (m symbol)) (ap (λ z. is_symbol symbol z.symbol) (sym e) ∙ t) ∙ ap some (sym e)
        where
          others : (z : MapRow) → Memᴰ z ys → (b : Bool) → is_symbol symbol z.symbol ≡ b → b ≡ false
          others z k true t' = absurd (once.0 z k symbol (ap (λ w. w.symbol) (sym e) ∙ is_symbol_lem x.symbol t) (is_symbol_lem z.symbol t'))
          others z k false t' = refl
      go (inr k) later = later k

module _ (home : ℕ) where
  -- where every map of the section is one
  section_kept : (m : MapRow) (xs : List MapRow) (acc : HashMap MapRow) → ((x : MapRow) → Memᴰ x xs → x.home ≡ home → x ≡ m) → acc home ≡ some m
      → maps_by_section xs acc home ≡ some m
  section_kept m [] acc all e = e
  section_kept m (x ∷ xs) acc all e = section_kept m xs (insert x.home x acc) (λ y k. all y (Memᴰ.tail k)) (go (eqb home x.home) refl)
    where
      go : (b : Bool) → eqb home x.home ≡ b → cond b (some x) (acc home) ≡ some m
      go true t = ap some (all x (Memᴰ.head refl) (sym (eqb-true home x.home t)))
      go false t = e

  section_found : (m : MapRow) (xs : List MapRow) (acc : HashMap MapRow) → ((x : MapRow) → Memᴰ x xs → x.home ≡ home → x ≡ m) → Memᴰ m xs → m.home ≡ home
      → maps_by_section xs acc home ≡ some m
  section_found m [] acc all k h = absurd (Memᴰ.not-nil k)
  section_found m (x ∷ xs) acc all k h =
      go (Memᴰ.cases_cons k) (λ k. section_found m xs (insert x.home x acc) (λ y k. all y (Memᴰ.tail k)) k h)
    where
      go : (m ≡ x) ⊎ Memᴰ m xs → (Memᴰ m xs → maps_by_section xs (insert x.home x acc) home ≡ some m) → maps_by_section xs (insert x.home x acc) home ≡ some m
      go (inl e) later =
          section_kept m xs (insert x.home x acc) (λ y k. all y (Memᴰ.tail k))
          (ap (λ b. cond b (some x) (acc home)) (eq-eqb home x.home (sym h ∙ ap (λ y. y.home) e)) ∙ ap some (sym e))
      go (inr k) later = later k

  section_none : (xs : List MapRow) (acc : HashMap MapRow) → ((x : MapRow) → Memᴰ x xs → x.home ≢ home) → acc home ≡ none → maps_by_section xs acc home ≡ none
  section_none [] acc all e = e
  section_none (x ∷ xs) acc all e =
      section_none xs (insert x.home x acc) (λ y k. all y (Memᴰ.tail k))
      (ap (λ b. cond b (some x) (acc home)) (ne_eqb home x.home (λ same. all x (Memᴰ.head refl) (sym same))) ∙ e)

not_7 : Compared 7 → ⊥
not_7 (inl e) = omega arith
not_7 (inr (inl e)) = omega arith
not_7 (inr (inr (inl e))) = omega arith
not_7 (inr (inr (inr e))) = omega arith

pub fits_true : (z : ℤ) → fits32 z ≡ true → Fits half32 z
fits_true (pos n) e = ltb-true n half32 e
fits_true (negsuc n) e = ltb-true n half32 e

-- outside, as the crate tests it
outside_not : (offset slots at : ℕ) → (ltb at offset || leb (offset + slots * 8) at) ≡ not (leb offset at && ltb at (offset + 8 * slots))
outside_not offset slots at = go (leb offset at) (ltb at (offset + 8 * slots)) refl refl
  where
    go : (a b : Bool) → leb offset at ≡ a → ltb at (offset + 8 * slots) ≡ b → (ltb at offset || leb (offset + slots * 8) at) ≡ not (a && b)
    go true true p q = rw (le-ltb at offset (leb-true offset at p), lt-leb (offset + slots * 8) at (omega (arith, ltb-true at (offset + 8 * slots) q))) refl
    go true false p q = rw (le-ltb at offset (leb-true offset at p), le-leb (offset + slots * 8) at (omega (arith, ltb-false at (offset + 8 * slots) q))) refl
    go false b p q = rw (lt-ltb at offset (leb-false offset at p)) refl

module _ (tables : Tables) (hidden : Hidden) (domain : MapDomain tables hidden) where
  abbrev pub by_section : HashMap MapRow
  by_section = maps_by_section hidden.maps new

  abbrev pub symbol_hash : HashMap MapRow
  symbol_hash = maps_by_symbol hidden.maps new

  home_of : (home : ℕ) (x : MapRow) → (eqb x.home home && has_none x.symbol) ≡ true → x.home ≡ home
  home_of home x e = go (eqb x.home home) refl e
    where
      go : (b : Bool) → eqb x.home home ≡ b → (b && has_none x.symbol) ≡ true → x.home ≡ home
      go true t e = eqb-true x.home home t
      go false t e = let z : ◌≡◌ {A = ℕ} 0 1 = cc in absurd (omega arith)

  symbol_of_lem : (home : ℕ) (x : MapRow) → (eqb x.home home && has_none x.symbol) ≡ true → x.symbol ≡ none
  symbol_of_lem home x e = go (eqb x.home home) x.symbol e
    where
      go : (b : Bool) (o : Option ℕ) → (b && has_none o) ≡ true → o ≡ none
      go b none e = refl
      go true (some s) e = let z : ◌≡◌ {A = ℕ} 0 1 = cc in absurd (omega arith)
      go false (some s) e = let z : ◌≡◌ {A = ℕ} 0 1 = cc in absurd (omega arith)

  -- our maps and theirs
  theirs_map : (x : MapRow) → Memᴰ x tables.maps → Memᴰ x hidden.maps
  theirs_map x k = perm_member x (perm_sym domain.clauses.orders.map_order) k

  our_map : (x : MapRow) → Memᴰ x hidden.maps → Memᴰ x tables.maps
  our_map x k = perm_member x domain.clauses.orders.map_order k

  not_symbol : (symbol : ℕ) → first (λ x. is_symbol symbol x.symbol) tables.maps ≡ none → symbol_hash symbol ≡ none
  not_symbol symbol e =
      symbol_kept symbol hidden.maps new
      (first_none (λ x. is_symbol symbol x.symbol) hidden.maps (λ x k. none_passes (λ x. is_symbol symbol x.symbol) tables.maps e x (our_map x k)))

  -- the map found, or none where no map has the section
  map_found : (symbol home : ℕ) (m : MapRow) → map_for tables symbol home ≡ some m → find_map (crate_of tables hidden) by_section symbol_hash (symbol_hash symbol) home ≡ some m
  map_found symbol home m e = go (first (λ x. is_symbol symbol x.symbol) tables.maps) refl e
    where
      go : (o : Option MapRow) → first (λ x. is_symbol symbol x.symbol) tables.maps ≡ o
          → or_else o (first (λ m. eqb m.home home && has_none m.symbol) tables.maps) ≡ some m
          → find_map (crate_of tables hidden) by_section symbol_hash (symbol_hash symbol) home ≡ some m
      go (some x) f e =
          let k = first_found (λ x. is_symbol symbol x.symbol) tables.maps m (f ∙ e) in
          ap (λ o. find_map (crate_of tables hidden) by_section symbol_hash o home)
          (by_symbol_found symbol m hidden.maps new (perm_once domain.clauses.orders.map_order domain.once) (theirs_map m k.0) k.1)
      go none f e =
          let k = first_found (λ m. eqb m.home home && has_none m.symbol) tables.maps m e in
          ap (λ o. find_map (crate_of tables hidden) by_section symbol_hash o home) (not_symbol symbol f)
          ∙ section_found home m hidden.maps new
          (λ x among h. domain.clauses.alone m x k.0 (our_map x among) (symbol_of_lem home m k.1) (h ∙ sym (home_of home m k.1))) (theirs_map m k.0) (home_of home m k.1)

  map_missing : (symbol home : ℕ) → map_for tables symbol home ≡ none → ((m : MapRow) → Memᴰ m tables.maps → m.home ≢ home)
      → find_map (crate_of tables hidden) by_section symbol_hash (symbol_hash symbol) home ≡ none
  map_missing symbol home e all = go (first (λ x. is_symbol symbol x.symbol) tables.maps) refl e
    where
      go : (o : Option MapRow) → first (λ x. is_symbol symbol x.symbol) tables.maps ≡ o
          → or_else o (first (λ m. eqb m.home home && has_none m.symbol) tables.maps) ≡ none
          → find_map (crate_of tables hidden) by_section symbol_hash (symbol_hash symbol) home ≡ none
      go (some x) f e = let z : ◌≡◌ {A = ℕ} 0 1 = cc in absurd (omega arith)
      go none f e =
          ap (λ o. find_map (crate_of tables hidden) by_section symbol_hash o home) (not_symbol symbol f)
          ∙ section_none home hidden.maps new (λ x k. all x (our_map x k)) refl

  -- what 5 asks of the domain, for one relocation
  abbrev pub Five : Relocation → Type 0
  Five r = (s : Symbol) (home : ℕ) → symbol_of tables r ≡ some s → s.home ≡ some home → (s.kind ≢ text) × ((m : MapRow) → Memᴰ m tables.maps → m.home ≢ home)

  abbrev pub MapSees : ℕ → Relocation → List Insn → Verdict → Result (List Insn) → Type 0
  MapSees row r now skipped result = result ≡ ok (part tables now row)
  MapSees row r now (refused number) result = Compared number → (number ≡ 5 → Five r) → result ≡ err (cause_of number)
  MapSees row r now (applies c) result = result ≡ ok (part tables (changed (place tables (task row r)) c.fd c.value now) row)

  module _ (row : ℕ) (r : Relocation) (now : List Insn) (rest : List Task) (long : length now ≡ length tables.instructions)
      (kept : Kept tables tables.instructions now (task row r ∷ rest)) where
    abbrev k : ℕ
    k = task_slot tables (task row r)

    abbrev orig : Insn
    orig = slot_at tables.instructions (place tables (task row r))

    abbrev crate : Rattle.equality.specs.Crate.Object
    crate = crate_of tables hidden

    data_sees : (d : Bool) (fd : ℤ) (address : ℕ) → Live tables (task row r) → Wide tables tables.instructions row k
        → MapSees row r now (by_data tables d fd (orig.immediate +ℤ pos address))
        (set_map crate by_section symbol_hash d (ltb (suc k) (length (part tables now row))) fd address k (part tables now row))
    data_sees false fd address live wide =
        ap ok (part_none tables now row k fd (omega (arith, wide.below)) (omega (arith, wide.below, domain.whole row, long)))
    data_sees true fd address live wide = go (fits32 (orig.immediate +ℤ pos address)) refl
      where
        below : k < (row_of tables row).slots
        below = omega (arith, wide.below)

        value : fits32 (orig.immediate +ℤ pos address) ≡ true → add_i32 (slot_at (part tables now row) k).immediate (i32 (pos address)) ≡ orig.immediate +ℤ pos address
        value e =
            rw (part_slot tables now row k below, kept.fresh (task row r) (Memᴰ.head refl) live wide.load)
            (value_exact orig.immediate address (domain.limits.plain (base tables row + k)).fits (fits_true (orig.immediate +ℤ pos address) e))

        go : (b : Bool) → fits32 (orig.immediate +ℤ pos address) ≡ b
            → MapSees row r now (cond b (applies (change fd (some (orig.immediate +ℤ pos address)))) (refused 7))
            (set_map crate by_section symbol_hash true (ltb (suc k) (length (part tables now row))) fd address k (part tables now row))
        go true e =
            rw (part_length tables now row, lt-ltb (suc k) (row_of tables row).slots wide.below, value e)
            (ap ok (part_some tables now row k fd (orig.immediate +ℤ pos address) wide.below (omega (arith, wide.below, domain.whole row, long))))
        go false e = λ c five. absurd (not_7 c)

    map_sees : (o : Option MapRow) (w : Bool) (address home : ℕ) → Live tables (task row r) → is_wide tables tables.instructions row k ≡ w
        → map_for tables r.symbol home ≡ o → (Five r → (m : MapRow) → Memᴰ m tables.maps → m.home ≢ home)
        → MapSees row r now (by_map tables o w (orig.immediate +ℤ pos address))
        (with_map crate by_section symbol_hash (find_map crate by_section symbol_hash (symbol_hash r.symbol) home) address k (part tables now row))
    map_sees none w address home live e m five =
        λ c f. ap (λ o. with_map crate by_section symbol_hash o address k (part tables now row)) (map_missing r.symbol home m (five (f refl)))
    map_sees (some x) true address home live e m five =
        rw (map_found r.symbol home x m) (data_sees x.has_data x.fd address live (wide_is tables tables.instructions row k e))
    map_sees (some x) false address home live e m five = λ c f. absurd (not_6 c)

    kind_sees : (kind : SymbolKind) (s : Symbol) (home : ℕ) → Live tables (task row r) → symbol_of tables r ≡ some s → s.home ≡ some home → s.kind ≡ kind
        → MapSees row r now (by_kind tables kind (map_for tables r.symbol home) (is_wide tables tables.instructions row k) (orig.immediate +ℤ pos s.address))
        (with_map crate by_section symbol_hash (find_map crate by_section symbol_hash (symbol_hash r.symbol) home) s.address k (part tables now row))
    kind_sees text s home live sy h e = λ c f. absurd ((f refl s home sy h).0 e)
    kind_sees other s home live sy h e =
        map_sees (map_for tables r.symbol home) (is_wide tables tables.instructions row k) s.address home live refl refl (λ f. (f s home sy h).1)
    kind_sees section s home live sy h e =
        map_sees (map_for tables r.symbol home) (is_wide tables tables.instructions row k) s.address home live refl refl (λ f. (f s home sy h).1)

    home_sees : (o : Option ℕ) (s : Symbol) → Live tables (task row r) → k < (row_of tables row).slots → symbol_of tables r ≡ some s → s.home ≡ o
        → MapSees row r now (by_home tables o s r.symbol orig (is_wide tables tables.instructions row k))
        (in_section crate by_section symbol_hash o s r k (part tables now row))
    unfolding crate_of
    home_sees none s live below sy h = refl
    home_sees (some home) s live below sy h = rw call (go (is_call orig || is_code tables home))
      where
        call : insn_is_call (slot_at (part tables now row) k) ≡ is_call orig
        call =
            ap insn_is_call (part_slot tables now row k below)
            ∙ same_call (slot_at now (place tables (task row r))) (rw (kept.like (place tables (task row r))).opcode (domain.limits.plain (base tables row + k)).byte)
            ∙ like_call (kept.like (place tables (task row r)))

        go : (b : Bool) → MapSees row r now
            (cond b skipped (by_kind tables s.kind (map_for tables r.symbol home) (is_wide tables tables.instructions row k) (orig.immediate +ℤ pos s.address)))
            (cond b (ok (part tables now row)) (with_map crate by_section symbol_hash (find_map crate by_section symbol_hash (symbol_hash r.symbol) home) s.address k (part tables now row)))
        go true = refl
        go false = kind_sees s.kind s home live sy h refl

    symbol_sees : (o : Option Symbol) → Live tables (task row r) → k < (row_of tables row).slots → symbol_of tables r ≡ o
        → MapSees row r now (by_symbol tables o r.symbol orig (is_wide tables tables.instructions row k)) (with_symbol crate by_section symbol_hash o r k (part tables now row))
    symbol_sees none live below sy = λ c f. refl
    symbol_sees (some s) live below sy = home_sees s.home s live below sy refl

    pub one_sees : MapSees row r now (judge tables tables.instructions (task row r)) (relocate_map crate by_section symbol_hash (crate_function tables hidden row) r (part tables now row))
    unfolding judge relocate_map crate_of add_u64
    one_sees =
        rw (length_run (λ slot. slot_at tables.instructions (base tables row + slot)) 0 (row_of tables row).slots, exact, outside_not (row_of tables row).offset (row_of tables row).slots r.offset)
        (go (inside (row_of tables row) r) (on_grid (row_of tables row) r) refl refl)
      where
        exact : ((row_of tables row).offset + (row_of tables row).slots * 8) % 0x1_0000_0000_0000_0000 ≡ (row_of tables row).offset + (row_of tables row).slots * 8
        exact = omega (arith, domain.limits.offsets row, domain.limits.slots row)

        go : (a b : Bool) → inside (row_of tables row) r ≡ a → on_grid (row_of tables row) r ≡ b
            → MapSees row r now (cond a (cond b (by_symbol tables (symbol_of tables r) r.symbol orig (is_wide tables tables.instructions row k)) (refused 4)) skipped)
            (cond (not a) (ok (part tables now row)) (cond (not b) (err invalid_relocation_offset) (with_symbol crate by_section symbol_hash (symbol_of tables r) r k (part tables now row))))
        go true true p q =
            let live : Live tables (task row r) = record { in_bytes = p; on_the_grid = q } in
            symbol_sees (symbol_of tables r) live (live_spot tables (task row r) live).slot_below refl
        go true false p q = λ c f. refl
        go false b p q = refl
