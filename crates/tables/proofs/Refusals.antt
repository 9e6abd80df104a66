-- What few rows say of a row's number, and the refusals of a check, link by link, against the check's own.
-- Assumes nothing.
use mathlib.Core.Path.{◌≡◌, refl, sym, ap, ◌∙◌}
use mathlib.Core.Bool.{Bool, true, false}
use mathlib.Core.Option.{Option, none, some}
use mathlib.Core.List.{List, [], ◌∷◌}
use Prim.Native.Nat.{ℕ, ◌*◌, ◌≤◌, ◌<◌}
use native.Mathlib.Omega.{arith}
use native.Mathlib.Nat.{mul-le-mul}
use Rattle.rules.specs.declared.Table.{Table}
use Rattle.rules.specs.declared.Table.TheVariants.{Functions}
use Rattle.std.specs.Prelude.{Result}
use Rattle.rules.specs.declared.Refusal.{Refusal}
use Rattle.std.specs.Prelude.{Err}
use Rattle.rules.specs.Answers.{Reply, refusal_in}
use Rattle.rules.specs.Rows.{row_size, most_rows, whole_rows, is_partial, is_too_many, first_from, or_partial, first_broken, Offered, bytes_of, too_many, broken_in, or_broken, broken, or_else}
use Rattle.rules.proofs.Searches.{found_passes}
use Rattle.rules.proofs.Passed.{few_whole}
use Rattle.tables.specs.Folds.{or_too_many}
use Rattle.tables.proofs.Bounds.{small}
use Rattle.tables.proofs.Rows.{is_bad}

-- ---- numbers
among : (o : Option ℕ) (p : Bool) (n k : ℕ) → ((j : ℕ) → o ≡ some j → j < n) → or_partial o p n ≡ some k → k ≤ n
among (some j) p n k f e = let q : j ≡ k = cc in omega (arith, f j refl)
among none true n k f e = let q : n ≡ k = cc in omega arith
among none false n k f e = let z : ◌≡◌ {A = ℕ} 0 1 = cc in absurd (omega arith)

pub broken_low : (table : Table) (t : List ℕ) (k : ℕ) → is_too_many table t ≡ false → first_broken table t ≡ some k → k ≤ 0xFFFF_FFFF
unfolding first_broken
broken_low table t k few e =
    let l : k ≤ whole_rows table t = among (first_from (is_bad table t) 0 (whole_rows table t)) (is_partial table t) (whole_rows table t) k (λ j f. omega (arith, (found_passes (is_bad table t) 0 (whole_rows table t) j f).high)) e in
    omega (arith, few_whole table t few, (small table).few_rows)

pub bytes_fit : (table : Table) (size sum : ℕ) → size ≡ row_size table → sum ≤ 0x1_0000_0000 * most_rows Functions → size * sum ≤ 0xFFFF_FFFF_FFFF_FFFF
bytes_fit table size sum e l =
    omega (arith, mul-le-mul {n₁ = size} {m₁ = sum} {n₂ = 0xFF} {m₂ = 0x1_0000_0000 * most_rows Functions} (omega (arith, (small table).few_bytes)) l)

-- ---- a check by table after table: what each table's refusal is, and what is left to say where it refuses nothing
abbrev pub many_each : Offered → List Table → Option Reply → Option Reply
many_each o [] later = later
many_each o (table ∷ tables) later = or_else (or_too_many (is_too_many table (bytes_of o table)) table none) (many_each o tables later)

abbrev pub broken_each : Offered → List Table → Option Reply → Option Reply
broken_each o [] end = end
broken_each o (table ∷ tables) end = or_else (or_broken (broken_in table o) table none) (broken_each o tables end)

module _ (o : Offered) where
  many_from : (tables : List Table) (later : Option Reply) → or_else (too_many o tables) later ≡ many_each o tables later
  unfolding too_many
  many_from [] later = refl
  many_from (table ∷ tables) later = go (is_too_many table (bytes_of o table)) (many_from tables later)
    where
      go : (b : Bool) → or_else (too_many o tables) later ≡ many_each o tables later
          → or_else (or_too_many b table (too_many o tables)) later ≡ or_else (or_too_many b table none) (many_each o tables later)
      go true rest = refl
      go false rest = rest

  broken_from : (tables : List Table) (end : Option Reply) → or_else (broken o tables) end ≡ broken_each o tables end
  unfolding broken
  broken_from [] end = refl
  broken_from (table ∷ tables) end = go (broken_in table o) (broken_from tables end)
    where
      go : (b : Option ℕ) → or_else (broken o tables) end ≡ broken_each o tables end
          → or_else (or_broken b table (broken o tables)) end ≡ or_else (or_broken b table none) (broken_each o tables end)
      go none rest = rest
      go (some row) rest = refl

  pub all_from : (tables : List Table) (end : Option Reply) → or_else (too_many o tables) (or_else (broken o tables) end) ≡ many_each o tables (broken_each o tables end)
  all_from tables end = many_from tables (or_else (broken o tables) end) ∙ ap (many_each o tables) (broken_from tables end)

-- nothing is refused: the rest is left
pub passed_on : {spec own rest : Option Reply} → spec ≡ or_else own rest → none ≡ own → spec ≡ rest
passed_on {rest = rest} is e = is ∙ ap (λ x. or_else x rest) (sym e)

-- what is refused is handed on by `?`
pub handed_on : {spec own : Option Reply} (rest : Option Reply) → spec ≡ or_else own rest → (r : Result (Unit {0}) Refusal) (why : Refusal) → r ≡ Err why → refusal_in (Err why) ≡ own → refusal_in r ≡ spec
handed_on rest is r why e f = ap refusal_in e ∙ ap (λ x. or_else x rest) f ∙ sym is

-- what is refused stands
pub stands : (r : Result (Unit {0}) Refusal) (why : Refusal) → r ≡ Err why → (later : Option Reply) → refusal_in r ≡ or_else (refusal_in r) later
stands r why e later = rw e

pub or_none_lem : (x : Option Reply) → or_else x none ≡ x
or_none_lem none = refl
or_none_lem (some r) = refl
