-- The tasks of a function, as a scan of table 4 by row number. Rows of other sections, and those outside the function, change nothing.
-- Assumes nothing.
use mathlib.Core.Path.{◌≡◌, refl, sym, ap, ◌∙◌}
use mathlib.Core.Logic.{inl, inr}
use mathlib.Core.Bool.{Bool, true, false, cond, ◌&&◌}
use mathlib.Core.List.{List, [], ◌∷◌, ◌++◌, map}
use Prim.Native.Nat.{ℕ, zero, suc, ◌+◌, ◌-◌, ◌≤◌, ◌<◌}
use native.Mathlib.Numerals.{add-one}
use native.Mathlib.Omega.{arith}
use borrow.Author.Tests.{eqb-true, eq-eqb, lt-leb, le-ltb, ltb-true, ltb-false}
use lib.Dec.{eqb, ltb, leb}
use Rattle.rules.specs.declared.Table.TheVariants.{Functions, Relocations}
use Rattle.rules.specs.Object.{Insn}
use Rattle.rules.specs.Link.{run}
use Rattle.rules.specs.Bytes.{little}
use Rattle.rules.specs.Tables.{Relocation, Tables, row_of, Before}
use Rattle.rules.specs.Maps.{Task, task, Verdict, skipped, refused, applies, only, inside, judge, tasks_of, tasks, all_tasks, refusal_by, first_refusal, counted, rewrite, or_else}
use Rattle.rules.specs.Rows.{Offered, whole_rows, tables_of, function_row, function_section, function_offset, relocation_row, relocation_section, relocation_offset}
use Rattle.rules.specs.Lookups.{Sound}
use Rattle.rules.proofs.InPlace.{rewrite_in_place, applied_in_place}
use Rattle.rules.proofs.Passed.{below_before, before_below}
use Rattle.rules.proofs.Reading.{rows_are, row_is}
use Rattle.rows.specs.Matches.{relocation_is_before}
use Rattle.rows.proofs.Bound.{before_bound, from_bound}
use Rattle.judge.specs.Judged.{with_instructions, tables, task_of}
use Rattle.maps.specs.Passes.{end_of, first_row, past_row}

-- ---- lists of tasks, one after another
module _ (t : Tables) where
  pub refusal_joined : (image : List Insn) (xs ys : List Task) → first_refusal t image (xs ++ ys) ≡ or_else (first_refusal t image xs) (first_refusal t image ys)
  unfolding first_refusal
  refusal_joined image [] ys = refl
  refusal_joined image (x ∷ xs) ys = ap (refusal_by t (judge t image x) x) (refusal_joined image xs ys) ∙ go (judge t image x)
    where
      go : (v : Verdict) → refusal_by t v x (or_else (first_refusal t image xs) (first_refusal t image ys)) ≡ or_else (refusal_by t v x (first_refusal t image xs)) (first_refusal t image ys)
      go skipped = refl
      go (refused n) = refl
      go (applies c) = refl

  pub rewrite_joined : (xs ys : List Task) (image : List Insn) → rewrite_in_place t (xs ++ ys) image ≡ rewrite_in_place t ys (rewrite_in_place t xs image)
  unfolding rewrite_in_place
  rewrite_joined [] ys image = refl
  rewrite_joined (x ∷ xs) ys image = rewrite_joined xs ys (rewrite t (judge t image x) x image)

  pub counted_more : (v : Verdict) (a b : ℕ) → counted t v (a + b) ≡ counted t v a + b
  counted_more skipped a b = refl
  counted_more (refused n) a b = refl
  counted_more (applies c) a b = omega arith

  pub count_joined : (xs ys : List Task) (image : List Insn) → applied_in_place t (xs ++ ys) image ≡ applied_in_place t xs image + applied_in_place t ys (rewrite_in_place t xs image)
  unfolding applied_in_place rewrite_in_place
  count_joined [] ys image = let e : applied_in_place t ys image ≡ 0 + applied_in_place t ys image = omega arith in e
  count_joined (x ∷ xs) ys image =
      ap (counted t (judge t image x)) (count_joined xs ys (rewrite t (judge t image x) x image))
      ∙ counted_more (judge t image x) (applied_in_place t xs (rewrite t (judge t image x) x image)) _

  -- two lists that do the same
  pub record Same (xs ys : List Task) : Type 0 where
    pub refusals : (image : List Insn) → first_refusal t image xs ≡ first_refusal t image ys
    pub rewrites : (image : List Insn) → rewrite_in_place t xs image ≡ rewrite_in_place t ys image
    pub counts : (image : List Insn) → applied_in_place t xs image ≡ applied_in_place t ys image

  pub same : {xs ys : List Task} → xs ≡ ys → Same xs ys
  same e = record { refusals = λ image. ap (first_refusal t image) e; rewrites = λ image. ap (λ z. rewrite_in_place t z image) e; counts = λ image. ap (λ z. applied_in_place t z image) e }

  pub then_same : {xs ys zs : List Task} → Same xs ys → Same ys zs → Same xs zs
  then_same p q = record {
    refusals = λ image. p.refusals image ∙ q.refusals image;
    rewrites = λ image. p.rewrites image ∙ q.rewrites image;
    counts = λ image. p.counts image ∙ q.counts image;
  }

  skipped_same : (x : Task) (xs : List Task) → ((image : List Insn) → judge t image x ≡ skipped) → Same (x ∷ xs) xs
  unfolding first_refusal rewrite_in_place applied_in_place
  skipped_same x xs e = record {
    refusals = λ image. ap (λ v. refusal_by t v x (first_refusal t image xs)) (e image);
    rewrites = λ image. ap (λ v. rewrite_in_place t xs (rewrite t v x image)) (e image);
    counts = λ image. ap (λ v. counted t v (applied_in_place t xs (rewrite t v x image))) (e image);
  }

-- ---- the tasks of a function, from row k of table 4 on
unfoldable pub tasks_from : Offered → ℕ → ℕ → ℕ → List Task
tasks_from o row k n = map (task row) (only (λ r. eqb r.home (function_section o.functions row)) (run (relocation_row o.relocations) k n))

abbrev pub tasks_left : Offered → ℕ → ℕ → List Task
tasks_left o row k = tasks_from o row k (whole_rows Relocations o.relocations - k)

end_of_lem : (o : Offered) (row j : ℕ) → tasks_from o row j 0 ≡ []
unfolding tasks_from
end_of_lem o row j = refl

module _ (o : Offered) (row : ℕ) (inside-row : row < whole_rows Functions o.functions) where
  row_of_lem : row_of (tables o) row ≡ function_row o.functions row
  row_of_lem = row_is little o row inside-row

  pub all_of : tasks_of (tables o) row ≡ tasks_from o row 0 (whole_rows Relocations o.relocations)
  unfolding tasks_from tables_of
  all_of = ap (λ f. map (task row) (only (λ r. eqb r.home f.home) (run (relocation_row o.relocations) 0 (whole_rows Relocations o.relocations)))) row_of_lem

  -- a row that is judged, if at all, to be skipped
  unfoldable Idle : ℕ → Type 0
  Idle k = relocation_section o.relocations k ≡ function_section o.functions row → (image : List Insn) → judge (tables o) image (task_of o row k) ≡ skipped

  outside_idle : (k : ℕ) → (relocation_section o.relocations k ≡ function_section o.functions row → inside (function_row o.functions row) (relocation_row o.relocations k) ≡ false) → Idle k
  unfolding judge Idle
  outside_idle k e s image = rw (row_of_lem, e s)

  one_idle : (k n : ℕ) → Idle k → Same (tables o) (tasks_from o row k (suc n)) (tasks_from o row (suc k) n)
  unfolding tasks_from Idle
  one_idle k n idle = go (eqb (relocation_section o.relocations k) (function_section o.functions row)) refl
    where
      rest : List Relocation
      rest = only (λ r. eqb r.home (function_section o.functions row)) (run (relocation_row o.relocations) (suc k) n)

      go : (b : Bool) → eqb (relocation_section o.relocations k) (function_section o.functions row) ≡ b
          → Same (tables o) (map (task row) (cond b (relocation_row o.relocations k ∷ rest) rest)) (map (task row) rest)
      go true e = skipped_same (tables o) (task_of o row k) (map (task row) rest) (idle (eqb-true _ _ e))
      go false e = same (tables o) refl

  idle_run : (m k n : ℕ) → ((j : ℕ) → k ≤ j → j < k + m → Idle j) → Same (tables o) (tasks_from o row k (m + n)) (tasks_from o row (k + m) n)
  idle_run zero k n idle =
      let e : 0 + n ≡ n = omega arith in
      let f : k ≡ k + 0 = omega arith in
      same (tables o) (ap (tasks_from o row k) e ∙ ap (λ j. tasks_from o row j n) f)
  idle_run (suc m) k n idle =
      let e : suc m + n ≡ suc (m + n) = omega arith in
      let f : suc k + m ≡ k + suc m = omega arith in
      then_same (tables o) (same (tables o) (ap (tasks_from o row k) e))
      (then_same (tables o) (one_idle k (m + n) (idle k (omega arith) (omega arith)))
      (then_same (tables o) (idle_run m (suc k) n (λ j a b. idle j (omega arith) (omega arith))) (same (tables o) (ap (λ j. tasks_from o row j n) f))))

  -- ---- which rows are idle
  before_idle : (k : ℕ) → relocation_is_before o.relocations (function_section o.functions row) (function_offset o.functions row) k ≡ true → Idle k
  before_idle k e = outside_idle k (λ s. go s (below_before _ _ _ _ e))
    where
      go : relocation_section o.relocations k ≡ function_section o.functions row
          → Before (relocation_section o.relocations k) (relocation_offset o.relocations k) (function_section o.functions row) (function_offset o.functions row)
          → inside (function_row o.functions row) (relocation_row o.relocations k) ≡ false
      go s (inl less) = absurd (omega arith)
      go s (inr (same, less)) =
          ap (λ b. b && ltb (relocation_offset o.relocations k) (end_of o.functions row)) (lt-leb (function_offset o.functions row) (relocation_offset o.relocations k) less)

  and_none : (b : Bool) → (b && false) ≡ false
  and_none true = refl
  and_none false = refl

  end_idle : (k : ℕ) → (relocation_section o.relocations k ≡ function_section o.functions row → end_of o.functions row ≤ relocation_offset o.relocations k) → Idle k
  end_idle k e = outside_idle k past
    where
      past : relocation_section o.relocations k ≡ function_section o.functions row → inside (function_row o.functions row) (relocation_row o.relocations k) ≡ false
      past s =
          ap (λ b. leb (function_offset o.functions row) (relocation_offset o.relocations k) && b) (le-ltb (relocation_offset o.relocations k) (end_of o.functions row) (e s))
          ∙ and_none (leb (function_offset o.functions row) (relocation_offset o.relocations k))

  module _ (sound : Sound Relocations o.relocations) where
    -- from the first row past the function on
    own_end : (k : ℕ) → past_row o.functions o.relocations row ≤ k → k < whole_rows Relocations o.relocations
        → relocation_section o.relocations k ≡ function_section o.functions row → end_of o.functions row ≤ relocation_offset o.relocations k
    own_end k past h s = go (ltb (relocation_offset o.relocations k) (end_of o.functions row)) refl
      where
        go : (b : Bool) → ltb (relocation_offset o.relocations k) (end_of o.functions row) ≡ b → end_of o.functions row ≤ relocation_offset o.relocations k
        go false l = ltb-false _ _ l
        go true l =
            let e = before_below (relocation_section o.relocations k) (relocation_offset o.relocations k) (function_section o.functions row) (end_of o.functions row) (inr (s, ltb-true _ _ l)) in
            let f = from_bound o.relocations sound (function_section o.functions row) (end_of o.functions row) k past h in
            let z : ◌≡◌ {A = ℕ} 0 1 = cc in
            absurd (omega arith)

    pub none_left : (k : ℕ) → past_row o.functions o.relocations row ≤ k → Same (tables o) (tasks_left o row k) []
    none_left k past =
        let n = whole_rows Relocations o.relocations in
        let e : n - k ≡ n - k + 0 = omega arith in
        then_same (tables o) (same (tables o) (ap (tasks_from o row k) e))
        (then_same (tables o) (idle_run (n - k) k 0 (λ j a b. end_idle j (own_end j (omega arith) (omega arith)))) (same (tables o) (end_of_lem o row (k + (n - k)))))

    -- the rows between
    pub in_section : (k : ℕ) → first_row o.functions o.relocations row ≤ k → k < past_row o.functions o.relocations row → k < whole_rows Relocations o.relocations
        → relocation_section o.relocations k ≡ function_section o.functions row
    in_section k from to h =
        go (below_before _ _ _ _ (before_bound o.relocations sound (function_section o.functions row) (end_of o.functions row) k to))
      where
        go : Before (relocation_section o.relocations k) (relocation_offset o.relocations k) (function_section o.functions row) (end_of o.functions row)
            → relocation_section o.relocations k ≡ function_section o.functions row
        go (inl less) =
            let e = before_below (relocation_section o.relocations k) (relocation_offset o.relocations k) (function_section o.functions row) (function_offset o.functions row) (inl less) in
            let f = from_bound o.relocations sound (function_section o.functions row) (function_offset o.functions row) k from h in
            let z : ◌≡◌ {A = ℕ} 0 1 = cc in
            absurd (omega arith)
        go (inr (e, less)) = e

    pub from_first : first_row o.functions o.relocations row ≤ whole_rows Relocations o.relocations
        → Same (tables o) (tasks_of (tables o) row) (tasks_left o row (first_row o.functions o.relocations row))
    from_first h =
        let n = whole_rows Relocations o.relocations in
        let e : n ≡ first_row o.functions o.relocations row + (n - first_row o.functions o.relocations row) = omega arith in
        let f : 0 + first_row o.functions o.relocations row ≡ first_row o.functions o.relocations row = omega arith in
        then_same (tables o) (same (tables o) (all_of ∙ ap (tasks_from o row 0) e))
        (then_same (tables o)
        (idle_run (first_row o.functions o.relocations row) 0 (n - first_row o.functions o.relocations row) (λ j a b. before_idle j (before_bound o.relocations sound (function_section o.functions row) (function_offset o.functions row) j (omega arith))))
        (same (tables o) (ap (λ j. tasks_from o row j (n - first_row o.functions o.relocations row)) f)))

-- ---- one row of the scan
module _ (o : Offered) (row k : ℕ) where
  later : ℕ → List Relocation
  later n = only (λ r. eqb r.home (function_section o.functions row)) (run (relocation_row o.relocations) (suc k) n)

  pub within_next : k < whole_rows Relocations o.relocations → relocation_section o.relocations k ≡ function_section o.functions row
      → tasks_left o row k ≡ task_of o row k ∷ tasks_left o row (k + 1)
  unfolding tasks_from later
  within_next h s =
      let n = whole_rows Relocations o.relocations in
      let e : n - k ≡ suc (n - (k + 1)) = omega arith in
      ap (tasks_from o row k) e
      ∙ ap (λ b. map (task row) (cond b (relocation_row o.relocations k ∷ later (n - (k + 1))) (later (n - (k + 1)))))
      (eq-eqb (relocation_section o.relocations k) (function_section o.functions row) s)
      ∙ ap (λ j. task_of o row k ∷ tasks_from o row j (n - (k + 1))) (sym (add-one k))

-- ---- the functions from a row on
abbrev pub rows_left : Offered → ℕ → List Task
rows_left o row = tasks (tables o) (tasks_of (tables o)) row (whole_rows Functions o.functions - row)

module _ (o : Offered) where
  pub all_rows : all_tasks (tables o) ≡ rows_left o 0
  all_rows =
      let e : whole_rows Functions o.functions ≡ whole_rows Functions o.functions - 0 = omega arith in
      ap (tasks (tables o) (tasks_of (tables o)) 0) (rows_are little o ∙ e)

  pub rows_next : (row : ℕ) → row < whole_rows Functions o.functions → rows_left o row ≡ tasks_of (tables o) row ++ rows_left o (row + 1)
  rows_next row h =
      let n = whole_rows Functions o.functions in
      let e : n - row ≡ suc (n - (row + 1)) = omega arith in
      ap (tasks (tables o) (tasks_of (tables o)) row) e
      ∙ ap (λ j. tasks_of (tables o) row ++ tasks (tables o) (tasks_of (tables o)) j (n - (row + 1))) (sym (add-one row))

  pub rows_end : (row : ℕ) → whole_rows Functions o.functions ≤ row → rows_left o row ≡ []
  rows_end row h = let e : whole_rows Functions o.functions - row ≡ 0 = omega arith in ap (tasks (tables o) (tasks_of (tables o)) row) e

-- ---- only the slots are looked at, not table 6 as it was lent
module _ (o : Offered) (bytes : List ℕ) where
  pub rewrites_other : (xs : List Task) (image : List Insn) → rewrite_in_place (tables (with_instructions o bytes)) xs image ≡ rewrite_in_place (tables o) xs image
  unfolding rewrite_in_place judge tables_of
  rewrites_other [] image = refl
  rewrites_other (x ∷ xs) image = rewrites_other xs (rewrite (tables o) (judge (tables o) image x) x image)

  pub counts_other : (xs : List Task) (image : List Insn) → applied_in_place (tables (with_instructions o bytes)) xs image ≡ applied_in_place (tables o) xs image
  unfolding applied_in_place judge tables_of
  counts_other [] image = refl
  counts_other (x ∷ xs) image = ap (counted (tables o) (judge (tables o) image x)) (counts_other xs (rewrite (tables o) (judge (tables o) image x) x image))
