-- In the domain the crate's map step and document 01's agree, whatever the order of the crate's HashMaps.
-- Assumes nothing.
use mathlib.Core.Path.{◌≡◌, refl, sym, ◌∙◌, ap}
use mathlib.Core.Logic.{◌⊎◌, inl, inr}
use mathlib.Core.Option.{Option, none, some}
use mathlib.Core.List.Memᴰ
use mathlib.Core.List.{List, [], ◌∷◌, ◌++◌, map, Memᴰ}
use Prim.Native.Nat.{ℕ, zero, suc, ◌+◌, ◌≤◌, ◌<◌}
use native.Mathlib.Omega.{arith}
use lib.Dec.{eqb}
use lib.ListN.{length}
use Rattle.rules.specs.Object.{Insn}
use Rattle.rules.specs.Faithful.{slot_at}
use Rattle.rules.specs.Link.{Refusal, refusal, run}
use Rattle.rules.specs.Tables.{Relocation, Tables, row_of, base}
use Rattle.rules.specs.Maps.{Task, task, Verdict, skipped, refused, applies, only, task_slot, judge, tasks_of, tasks, all_tasks, refusal_by, first_refusal, applied, rewrite, rewrite_all, mapped, refuses, unless_refused, map_step}
use Rattle.equality.specs.Crate as Crate
use Rattle.equality.specs.Crate.{Result, ok, err, bind, with_insns, relocate_map, relocate_maps, relocate_functions, object_relocate_maps}
use Rattle.equality.specs.Domain.{Hidden, crate_function, crate_functions, crate_of, Compared, cause_of, MapDomain, with_instructions}
use Rattle.rules.proofs.MapsInPlace.{Apart, Kept, kept_refl, kept_next}
use Rattle.rules.proofs.MapsApart.{base_suc, base_past, Distinct, rising_distinct, Mapped, map_member, task_rows, apart_all}
use Rattle.equality.proofs.MapsCrate.{part, part_same, by_section, symbol_hash, Five, MapSees, one_sees}
use Rattle.equality.proofs.MapsCommute.{rewrite_length, all_length, all_append, all_order, keeps_outside}
use Rattle.equality.proofs.Perms.{perm_member, perm_sym, perm_distinct}

pub map_in : {A B : Type 0} (f : A → B) (x : A) (xs : List A) → Memᴰ x xs → Memᴰ (f x) (map f xs)
map_in f x [] m = absurd (Memᴰ.not-nil m)
map_in f x (y ∷ ys) m = go (Memᴰ.cases_cons m) (λ m. map_in f x ys m)
  where
    go : (x ≡ y) ⊎ Memᴰ x ys → (Memᴰ x ys → Memᴰ (f x) (map f ys)) → Memᴰ (f x) (map f (y ∷ ys))
    go (inl e) later = Memᴰ.head (ap f e)
    go (inr m) later = Memᴰ.tail (later m)

-- the rest of a list that is apart
apart_rest : (tables : Tables) (xs ys : List Task) → Apart tables (xs ++ ys) → Apart tables ys
apart_rest tables [] ys a = a
apart_rest tables (x ∷ xs) ys a = apart_rest tables xs ys a.1

module _ (tables : Tables) (image : List Insn) where
  -- the first refusal: none, or one of a task
  pub none_refused : (ts : List Task) → first_refusal tables image ts ≡ none → (t : Task) → Memᴰ t ts → (n : ℕ) → judge tables image t ≡ refused n → ⊥
  unfolding first_refusal
  none_refused [] e t m n r = Memᴰ.not-nil m
  none_refused (x ∷ xs) e t m n r = go (judge tables image x) refl e (Memᴰ.cases_cons m) (λ e m. none_refused xs e t m n r)
    where
      go : (v : Verdict) → judge tables image x ≡ v → refusal_by tables v x (first_refusal tables image xs) ≡ none → (t ≡ x) ⊎ Memᴰ t xs
          → (first_refusal tables image xs ≡ none → Memᴰ t xs → ⊥) → ⊥
      go skipped j e (inl same) later = let z : ◌≡◌ {A = ℕ} 0 1 = cc (ap (judge tables image) same) in omega arith
      go skipped j e (inr m) later = later e m
      go (refused k) j e m later = let z : ◌≡◌ {A = ℕ} 0 1 = cc in omega arith
      go (applies c) j e (inl same) later = let z : ◌≡◌ {A = ℕ} 0 1 = cc (ap (judge tables image) same) in omega arith
      go (applies c) j e (inr m) later = later e m

  pub record Refused (why : Refusal) (ts : List Task) : Type 0 where
    pub by : Task
    pub among : Memᴰ by ts
    pub verdict : judge tables image by ≡ refused why.number
    pub in_row : by.row ≡ why.row

  pub some_refused : (ts : List Task) (why : Refusal) → first_refusal tables image ts ≡ some why → Refused why ts
  unfolding first_refusal
  some_refused [] why e = let z : ◌≡◌ {A = ℕ} 0 1 = cc in absurd (omega arith)
  some_refused (x ∷ xs) why e = go (judge tables image x) refl e (λ e. some_refused xs why e)
    where
      further : Refused why xs → Refused why (x ∷ xs)
      further f = record { by = f.by; among = Memᴰ.tail f.among; verdict = f.verdict; in_row = f.in_row }

      go : (v : Verdict) → judge tables image x ≡ v → refusal_by tables v x (first_refusal tables image xs) ≡ some why → (first_refusal tables image xs ≡ some why → Refused why xs) → Refused why (x ∷ xs)
      go skipped j e later = further (later e)
      go (refused n) j e later =
          let same : refusal n x.row (task_slot tables x) ≡ why = cc in
          record { by = x; among = Memᴰ.head refl; verdict = j ∙ ap (λ w. refused w.number) same; in_row = ap (λ w. w.row) same }
      go (applies c) j e later = further (later e)

  abbrev or_later : Option Refusal → Option Refusal → Option Refusal
  or_later none later = later
  or_later (some why) later = some why

  refusal_append : (xs ys : List Task) → first_refusal tables image (xs ++ ys) ≡ or_later (first_refusal tables image xs) (first_refusal tables image ys)
  unfolding first_refusal
  refusal_append [] ys = refl
  refusal_append (x ∷ xs) ys = go (judge tables image x) (refusal_append xs ys)
    where
      go : (v : Verdict) → first_refusal tables image (xs ++ ys) ≡ or_later (first_refusal tables image xs) (first_refusal tables image ys)
          → refusal_by tables v x (first_refusal tables image (xs ++ ys)) ≡ or_later (refusal_by tables v x (first_refusal tables image xs)) (first_refusal tables image ys)
      go skipped later = later
      go (refused n) later = refl
      go (applies c) later = later

module _ (tables : Tables) (hidden : Hidden) (domain : MapDomain tables hidden) where
  abbrev orig : List Insn
  orig = tables.instructions

  abbrev crate : Crate.Object
  crate = crate_of tables hidden

  -- one function, `rels` of its section's relocations left
  abbrev runs : ℕ → List Relocation → List Insn → Result (List Insn)
  runs row rels insns = relocate_maps crate (by_section tables hidden domain) (symbol_hash tables hidden domain) (crate_function tables hidden row) rels insns

  row_passes : (row : ℕ) (rels : List Relocation) (later : List Task) (now : List Insn) → Apart tables (map (task row) rels ++ later)
      → Kept tables orig now (map (task row) rels ++ later) → length now ≡ length orig
      → ((q : Relocation) → Memᴰ q rels → (n : ℕ) → judge tables orig (task row q) ≡ refused n → ⊥)
      → runs row rels (part tables now row) ≡ ok (part tables (rewrite_all tables orig (map (task row) rels) now) row)
  unfolding relocate_maps rewrite_all
  row_passes row [] later now apart kept long fine = refl
  row_passes row (r ∷ rs) later now apart kept long fine =
      go (judge tables orig (task row r)) refl (one_sees tables hidden domain row r now (map (task row) rs ++ later) long kept)
      (λ v e. row_passes row rs later (rewrite tables v (task row r) now) apart.1 (kept_next tables orig (task row r) (map (task row) rs ++ later) now apart kept v e)
      (rewrite_length tables orig v (task row r) now ∙ long) (λ q m. fine q (Memᴰ.tail m)))
    where
      go : (v : Verdict) → judge tables orig (task row r) ≡ v
          → MapSees tables hidden domain row r now v (relocate_map crate (by_section tables hidden domain) (symbol_hash tables hidden domain) (crate_function tables hidden row) r (part tables now row))
          → ((v : Verdict) → judge tables orig (task row r) ≡ v
          → runs row rs (part tables (rewrite tables v (task row r) now) row) ≡ ok (part tables (rewrite_all tables orig (map (task row) rs) (rewrite tables v (task row r) now)) row))
          → bind (relocate_map crate (by_section tables hidden domain) (symbol_hash tables hidden domain) (crate_function tables hidden row) r (part tables now row)) (runs row rs)
          ≡ ok (part tables (rewrite_all tables orig (map (task row) rs) (rewrite tables v (task row r) now)) row)
      go skipped e sees next = rw sees (next skipped e)
      go (refused n) e sees next = absurd (fine r (Memᴰ.head refl) n e)
      go (applies c) e sees next = rw sees (next (applies c) e)

  -- one of them is refused, and no other for another reason
  row_stops : (row : ℕ) (rels : List Relocation) (later : List Task) (now : List Insn) → Apart tables (map (task row) rels ++ later)
      → Kept tables orig now (map (task row) rels ++ later) → length now ≡ length orig → (n : ℕ) → Compared n
      → (q : Relocation) → Memᴰ q rels → judge tables orig (task row q) ≡ refused n
      → ((u : Relocation) → Memᴰ u rels → (m : ℕ) → judge tables orig (task row u) ≡ refused m → (m ≡ n) × (m ≡ 5 → Five tables hidden domain u))
      → runs row rels (part tables now row) ≡ err (cause_of n)
  unfolding relocate_maps
  row_stops row [] later now apart kept long n c q m r all = absurd (Memᴰ.not-nil m)
  row_stops row (x ∷ xs) later now apart kept long n c q m r all =
      go (judge tables orig (task row x)) refl (one_sees tables hidden domain row x now (map (task row) xs ++ later) long kept) (Memᴰ.cases_cons m)
      (λ v e m. row_stops row xs later (rewrite tables v (task row x) now) apart.1 (kept_next tables orig (task row x) (map (task row) xs ++ later) now apart kept v e)
      (rewrite_length tables orig v (task row x) now ∙ long) n c q m r (λ u m. all u (Memᴰ.tail m)))
    where
      go : (v : Verdict) → judge tables orig (task row x) ≡ v
          → MapSees tables hidden domain row x now v (relocate_map crate (by_section tables hidden domain) (symbol_hash tables hidden domain) (crate_function tables hidden row) x (part tables now row))
          → (q ≡ x) ⊎ Memᴰ q xs
          → ((v : Verdict) → judge tables orig (task row x) ≡ v → Memᴰ q xs → runs row xs (part tables (rewrite tables v (task row x) now) row) ≡ err (cause_of n))
          → bind (relocate_map crate (by_section tables hidden domain) (symbol_hash tables hidden domain) (crate_function tables hidden row) x (part tables now row)) (runs row xs) ≡ err (cause_of n)
      go (refused k) e sees either next =
          let a = all x (Memᴰ.head refl) k e in
          ap (λ y. bind y (runs row xs)) (sees (rw a.0 c) a.1) ∙ ap (λ m. err (cause_of m)) a.0
      go skipped e sees (inl same) next = let z : ◌≡◌ {A = ℕ} 0 1 = cc (ap (λ y. judge tables orig (task row y)) same) in absurd (omega arith)
      go skipped e sees (inr m) next = rw sees (next skipped e m)
      go (applies k) e sees (inl same) next = let z : ◌≡◌ {A = ℕ} 0 1 = cc (ap (λ y. judge tables orig (task row y)) same) in absurd (omega arith)
      go (applies k) e sees (inr m) next = rw sees (next (applies k) e m)

  -- the crate's order of a function's relocations, and ours
  abbrev theirs : ℕ → List Relocation
  theirs row = hidden.values (row_of tables row).home

  abbrev ours : ℕ → List Relocation
  ours row = only (λ r. eqb r.home (row_of tables row).home) tables.relocations

  abbrev their_tasks : ℕ → ℕ → List Task
  their_tasks from count = tasks tables (λ row. map (task row) (theirs row)) from count

  ours_distinct : (row : ℕ) → Distinct (ours row)
  ours_distinct row = rising_distinct (row_of tables row).home tables.relocations domain.rising

  theirs_distinct : (row : ℕ) → Distinct (theirs row)
  theirs_distinct row = perm_distinct (domain.clauses.orders.order (row_of tables row).home) (ours_distinct row)

  abbrev functions_run : ℕ → ℕ → Result (List Crate.Function)
  functions_run from count = relocate_functions crate (by_section tables hidden domain) (symbol_hash tables hidden domain) (run (crate_function tables hidden) from count)

  abbrev result : List Insn → ℕ → ℕ → List Crate.Function
  result final from count = run (λ row. with_insns (crate_function tables hidden row) (part tables final row)) from count

  -- the state before the functions from `from` on
  record Ready (from count : ℕ) (now : List Insn) : Type 0 where
    kept : Kept tables orig now (their_tasks from count)
    long : length now ≡ length orig
    untouched : (k : ℕ) → base tables from ≤ k → slot_at now k ≡ slot_at orig k

  apart_from : (from count : ℕ) → Apart tables (their_tasks from count)
  apart_from from count = apart_all tables theirs theirs_distinct from count

  kept_through : (xs later : List Task) (now : List Insn) → Apart tables (xs ++ later) → Kept tables orig now (xs ++ later) → Kept tables orig (rewrite_all tables orig xs now) later
  unfolding rewrite_all
  kept_through [] later now apart kept = kept
  kept_through (t ∷ xs) later now apart kept =
      kept_through xs later (rewrite tables (judge tables orig t) t now) apart.1 (kept_next tables orig t (xs ++ later) now apart kept (judge tables orig t) refl)

  ready_next : (from count : ℕ) (now : List Insn) → Ready from (suc count) now → Ready (suc from) count (rewrite_all tables orig (map (task from) (theirs from)) now)
  ready_next from count now ready = record {
    kept = kept_through (map (task from) (theirs from)) (their_tasks (suc from) count) now (apart_from from (suc count)) ready.kept;
    long = all_length tables orig (map (task from) (theirs from)) now ∙ ready.long;
    untouched = λ k l. keeps_outside tables orig (map (task from) (theirs from)) k
        (λ t m. inr (rw (ap (λ t. t.row) (map_member (task from) t (theirs from) m).is) l)) now ∙ ready.untouched k (omega (arith, base_suc tables from));
  }

  -- the first function's instructions have not been touched
  same_part : (from count : ℕ) (now : List Insn) → Ready from (suc count) now → part tables orig from ≡ part tables now from
  same_part from count now ready = part_same tables orig now from (λ k l. sym (ready.untouched (base tables from + k) (omega arith)))

  functions_pass : (from count : ℕ) (now : List Insn) → Ready from count now
      → ((t : Task) → Memᴰ t (their_tasks from count) → (n : ℕ) → judge tables orig t ≡ refused n → ⊥)
      → functions_run from count ≡ ok (result (rewrite_all tables orig (their_tasks from count) now) from count)
  unfolding relocate_functions rewrite_all crate_of
  functions_pass from zero now ready fine = refl
  functions_pass from (suc count) now ready fine =
      ap (λ x. bind x (λ insns. bind (functions_run (suc from) count) (λ rest. ok (with_insns (crate_function tables hidden from) insns ∷ rest))))
      (ap (runs from (theirs from)) (same_part from count now ready)
      ∙ row_passes from (theirs from) (their_tasks (suc from) count) now (apart_from from (suc count)) ready.kept ready.long
      (λ q m. fine (task from q) (Memᴰ.append_left (their_tasks (suc from) count) (map_in (task from) q (theirs from) m))))
      ∙ ap (λ x. bind x (λ rest. ok (with_insns (crate_function tables hidden from) (part tables (rewrite_all tables orig (map (task from) (theirs from)) now) from) ∷ rest)))
      (functions_pass (suc from) count (rewrite_all tables orig (map (task from) (theirs from)) now) (ready_next from count now ready)
      (λ t m. fine t (Memᴰ.append_right (map (task from) (theirs from)) m)))
      ∙ ap (λ p. ok (with_insns (crate_function tables hidden from) p ∷ result (rewrite_all tables orig (their_tasks (suc from) count) (rewrite_all tables orig (map (task from) (theirs from)) now)) (suc from) count))
      (part_same tables (rewrite_all tables orig (map (task from) (theirs from)) now)
      (rewrite_all tables orig (their_tasks (suc from) count) (rewrite_all tables orig (map (task from) (theirs from)) now)) from
      (λ k l. sym (keeps_outside tables orig (their_tasks (suc from) count) (base tables from + k) (λ t m. inl (below k l t (task_rows tables theirs (suc from) count t m).0))
      (rewrite_all tables orig (map (task from) (theirs from)) now))))
      ∙ ap (λ image. ok (result image from (suc count))) (sym (all_append tables orig (map (task from) (theirs from)) (their_tasks (suc from) count) now))
    where
      below : (k : ℕ) → k < (row_of tables from).slots → (t : Task) → suc from ≤ t.row → base tables from + k < base tables t.row
      below k l t b = omega (arith, base_past tables from t.row b)

  -- our tasks are theirs, in another order
  to_ours : (row : ℕ) (q : Relocation) → Memᴰ q (theirs row) → Memᴰ q (ours row)
  to_ours row q m = perm_member q (domain.clauses.orders.order (row_of tables row).home) m

  to_theirs : (row : ℕ) (q : Relocation) → Memᴰ q (ours row) → Memᴰ q (theirs row)
  to_theirs row q m = perm_member q (perm_sym (domain.clauses.orders.order (row_of tables row).home)) m

  row_task : (row : ℕ) (t : Task) → Memᴰ t (map (task row) (theirs row)) → Memᴰ t (tasks_of tables row)
  row_task row t m =
      let k = map_member (task row) t (theirs row) m in
      rw k.is (map_in (task row) k.of (ours row) (to_ours row k.of k.among))

  all_tasks_lem : (from count : ℕ) (t : Task) → Memᴰ t (their_tasks from count) → Memᴰ t (tasks tables (tasks_of tables) from count)
  all_tasks_lem from zero t m = m
  all_tasks_lem from (suc count) t m = go (Memᴰ.append_cases (map (task from) (theirs from)) m) (λ m. all_tasks_lem (suc from) count t m)
    where
      go : Memᴰ t (map (task from) (theirs from)) ⊎ Memᴰ t (their_tasks (suc from) count)
          → (Memᴰ t (their_tasks (suc from) count) → Memᴰ t (tasks tables (tasks_of tables) (suc from) count)) → Memᴰ t (tasks tables (tasks_of tables) from (suc count))
      go (inl m) later = Memᴰ.append_left (tasks tables (tasks_of tables) (suc from) count) (row_task from t m)
      go (inr m) later = Memᴰ.append_right (tasks_of tables from) (later m)

  module _ (why : Refusal) (compared : Compared why.number) (refusal_is : first_refusal tables orig (all_tasks tables) ≡ some why) where
    -- the function that is refused
    row_refused : (from : ℕ) (later : List Task) (now : List Insn) → Apart tables (map (task from) (theirs from) ++ later)
        → Kept tables orig now (map (task from) (theirs from) ++ later) → length now ≡ length orig
        → ((t : Task) → Memᴰ t (tasks_of tables from) → Memᴰ t (all_tasks tables)) → Refused tables orig why (tasks_of tables from)
        → runs from (theirs from) (part tables now from) ≡ err (cause_of why.number)
    row_refused from later now apart kept long within f =
        let k = map_member (task from) f.by (ours from) f.among in
        go k (ap (λ t. t.row) (sym k.is) ∙ f.in_row) (rw k.is at f.verdict) (rw k.is at (within f.by f.among))
      where
        go : (k : Mapped (task from) f.by (ours from)) → from ≡ why.row → judge tables orig (task from k.of) ≡ refused why.number
            → Memᴰ (task from k.of) (all_tasks tables) → runs from (theirs from) (part tables now from) ≡ err (cause_of why.number)
        go k here verdict among =
            row_stops from (theirs from) later now apart kept long why.number compared k.of (to_theirs from k.of k.among) verdict
            (λ u m n e. only_one u n e (within (task from u) (map_in (task from) u (ours from) (to_ours from u m))))
          where
            only_one : (u : Relocation) (n : ℕ) → judge tables orig (task from u) ≡ refused n → Memᴰ (task from u) (all_tasks tables)
                → (n ≡ why.number) × (n ≡ 5 → Five tables hidden domain u)
            only_one u n e m =
                let same = domain.clauses.single why refusal_is (task from u) (task from k.of) n why.number m among here here e verdict in
                let number : n ≡ why.number = cc (ap (judge tables orig) same) in (
                  number,
                  λ five s home sy at.
                      (domain.clauses.not_text why refusal_is (task from u) s home m here (e ∙ ap refused five) sy at, domain.clauses.no_map why refusal_is (task from u) s home m here (e ∙ ap refused five) sy at),
                )

    functions_stop : (from count : ℕ) (now : List Insn) → Ready from count now
        → ((t : Task) → Memᴰ t (tasks tables (tasks_of tables) from count) → Memᴰ t (all_tasks tables))
        → first_refusal tables orig (tasks tables (tasks_of tables) from count) ≡ some why → functions_run from count ≡ err (cause_of why.number)
    unfolding relocate_functions rewrite_all crate_of first_refusal
    functions_stop from zero now ready within e = let z : ◌≡◌ {A = ℕ} 0 1 = cc in absurd (omega arith)
    functions_stop from (suc count) now ready within e =
        go (first_refusal tables orig (tasks_of tables from)) refl (sym (refusal_append tables orig (tasks_of tables from) (tasks tables (tasks_of tables) (suc from) count)) ∙ e)
        (λ e. functions_stop (suc from) count (rewrite_all tables orig (map (task from) (theirs from)) now) (ready_next from count now ready)
        (λ t m. within t (Memᴰ.append_right (tasks_of tables from) m)) e)
      where
        within_row : (t : Task) → Memᴰ t (tasks_of tables from) → Memᴰ t (all_tasks tables)
        within_row t m = within t (Memᴰ.append_left (tasks tables (tasks_of tables) (suc from) count) m)

        rest : List Insn → Result (List Crate.Function)
        rest insns = bind (functions_run (suc from) count) (λ rest. ok (with_insns (crate_function tables hidden from) insns ∷ rest))

        go : (o : Option Refusal) → first_refusal tables orig (tasks_of tables from) ≡ o
            → or_later tables orig o (first_refusal tables orig (tasks tables (tasks_of tables) (suc from) count)) ≡ some why
            → (first_refusal tables orig (tasks tables (tasks_of tables) (suc from) count) ≡ some why → functions_run (suc from) count ≡ err (cause_of why.number))
            → bind (runs from (theirs from) (part tables orig from)) rest ≡ err (cause_of why.number)
        go (some w) f e later =
            ap (λ x. bind x rest)
            (ap (runs from (theirs from)) (same_part from count now ready)
            ∙ row_refused from (their_tasks (suc from) count) now (apart_from from (suc count)) ready.kept ready.long within_row
            (some_refused tables orig (tasks_of tables from) why (f ∙ e)))
        go none f e later =
            ap (λ x. bind x rest)
            (ap (runs from (theirs from)) (same_part from count now ready)
            ∙ row_passes from (theirs from) (their_tasks (suc from) count) now (apart_from from (suc count)) ready.kept ready.long
            (λ q m. none_refused tables orig (tasks_of tables from) f (task from q) (map_in (task from) q (ours from) (to_ours from q m))))
            ∙ ap (λ x. bind x (λ rest. ok (with_insns (crate_function tables hidden from) (part tables (rewrite_all tables orig (map (task from) (theirs from)) now) from) ∷ rest))) (later e)

  start : Ready 0 (length tables.functions) orig
  start = record { kept = kept_refl tables orig (their_tasks 0 (length tables.functions)); long = refl; untouched = λ k l. refl }

  abbrev n : ℕ
  n = length tables.functions

  -- what the map step accepts, the crate does
  pub maps_done : (image : List Insn) (count : ℕ) → map_step tables ≡ mapped image count
      → object_relocate_maps crate hidden.maps ≡ ok (crate_functions (with_instructions tables image) hidden)
  unfolding map_step object_relocate_maps crate_of
  maps_done image count e = go (first_refusal tables orig (all_tasks tables)) refl e
    where
      go : (o : Option Refusal) → first_refusal tables orig (all_tasks tables) ≡ o
          → unless_refused tables o (mapped (rewrite_all tables orig (all_tasks tables) orig) (applied tables orig (all_tasks tables))) ≡ mapped image count
          → functions_run 0 n ≡ ok (result image 0 n)
      go (some why) f e = let z : ◌≡◌ {A = ℕ} 0 1 = cc in absurd (omega arith)
      go none f e =
          let same : rewrite_all tables orig (all_tasks tables) orig ≡ image = cc in
          functions_pass 0 n orig start (λ t m. none_refused tables orig (all_tasks tables) f t (all_tasks_lem 0 n t m))
          ∙ ap (λ final. ok (result final 0 n)) (sym (all_order tables orig ours theirs (λ row. domain.clauses.orders.order (row_of tables row).home) ours_distinct 0 n orig) ∙ same)

  -- what it refuses, the crate refuses for the same cause
  pub maps_refused : (why : Refusal) → map_step tables ≡ refuses why → Compared why.number → object_relocate_maps crate hidden.maps ≡ err (cause_of why.number)
  unfolding map_step object_relocate_maps crate_of
  maps_refused why e compared = go (first_refusal tables orig (all_tasks tables)) refl e
    where
      go : (o : Option Refusal) → first_refusal tables orig (all_tasks tables) ≡ o
          → unless_refused tables o (mapped (rewrite_all tables orig (all_tasks tables) orig) (applied tables orig (all_tasks tables))) ≡ refuses why
          → functions_run 0 n ≡ err (cause_of why.number)
      go (some w) f e =
          let same : w ≡ why = cc in
          functions_stop why compared (f ∙ ap some same) 0 n orig start (λ t m. m) (f ∙ ap some same)
      go none f e = let z : ◌≡◌ {A = ℕ} 0 1 = cc in absurd (omega arith)
