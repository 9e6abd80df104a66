-- What the scan of a table says of its first broken row, and the cases of a table that the code takes together.
-- Assumes nothing.
use mathlib.Core.Path.{◌≡◌, refl, ap, ◌∙◌, subst}
use mathlib.Core.Bool.{Bool, true, false, not}
use mathlib.Core.Option.{Option, none, some}
use mathlib.Core.List.{List, [], ◌∷◌}
use Prim.Native.Nat.{ℕ, suc, ◌+◌, ◌*◌, ◌/◌, ◌%◌, ◌≤◌, ◌<◌}
use native.Mathlib.Omega.{arith}
use native.Mathlib.Nat.{mul-suc, mul-le-mul_left, mul-div-le}
use lib.Dec.{eqb}
use lib.ListN.{length}
use denote.Enum.Declared.{tag_of}
use types.Run.{OneOf, miss}
use Rattle.rules.specs.declared.Table.{Table}
use Rattle.rules.specs.declared.Table.TheVariants.{Code, Symbols, Functions, Relocations, Maps, Instructions, FuncInfo, LineInfo}
use Rattle.std.specs.Option.{option_or}
use Rattle.std.specs.Bool.{then_some}
use Rattle.rules.specs.Rows.{row_size, is_good, first_from, or_partial, first_broken, count_of}
use Rattle.rules.specs.Lookups.{found_of}
use Rattle.rules.specs.contracts.Table.{the_type}

-- row k of n bytes ends in them
pub row_in : (size n k : ℕ) → k < n / size → size * k + size ≤ n
row_in size n k l = omega (arith, mul-le-mul_left {m = suc k} {n = n / size} size l, mul-suc size k, mul-div-le n size)

pub same_row : {table other : Table} (n k : ℕ) → table ≡ other → row_size table * k + row_size table ≤ n → row_size other * k + row_size other ≤ n
same_row n k e h = subst (λ x. row_size x * k + row_size x ≤ n) e h

abbrev pub is_bad : Table → List ℕ → ℕ → Bool
is_bad table t k = not (is_good table t k)

-- what was found among the whole rows, else a partial row: the first broken row. By the scan's own size of a row
or_then : (o : Option ℕ) (p : Bool) (n : ℕ) → option_or (found_of o) (then_some p n) ≡ found_of (or_partial o p n)
or_then (some k) p n = refl
or_then none true n = refl
or_then none false n = refl

pub or_last : (table : Table) (t : List ℕ) (size : ℕ) → size ≡ row_size table
    → option_or (found_of (first_from (is_bad table t) 0 (length t / size))) (then_some (not (eqb (length t % size) 0)) (length t / size)) ≡ found_of (first_broken table t)
unfolding first_broken
or_last table t size is =
    or_then (first_from (is_bad table t) 0 (length t / size)) (not (eqb (length t % size) 0)) (length t / size)
    ∙ ap (λ s. found_of (or_partial (first_from (is_bad table t) 0 (length t / s)) (not (eqb (length t % s) 0)) (length t / s))) is

-- the tables whose rows are not judged, and those of which nothing is added up
pub all_good : (table : Table) → OneOf (5 ∷ 6 ∷ 7 ∷ []) (tag_of the_type table) → (t : List ℕ) (k : ℕ) → true ≡ is_good table t k
unfolding is_good
all_good Instructions h t k = refl
all_good FuncInfo h t k = refl
all_good LineInfo h t k = refl
all_good Code h t k = absurd (miss (5 ∷ 6 ∷ 7 ∷ []) 0 tt h)
all_good Symbols h t k = absurd (miss (5 ∷ 6 ∷ 7 ∷ []) 1 tt h)
all_good Functions h t k = absurd (miss (5 ∷ 6 ∷ 7 ∷ []) 2 tt h)
all_good Relocations h t k = absurd (miss (5 ∷ 6 ∷ 7 ∷ []) 3 tt h)
all_good Maps h t k = absurd (miss (5 ∷ 6 ∷ 7 ∷ []) 4 tt h)

pub none_counted : (table : Table) → OneOf (0 ∷ 1 ∷ 2 ∷ 3 ∷ 4 ∷ []) (tag_of the_type table) → (t : List ℕ) (k : ℕ) → 0 ≡ count_of table t k
none_counted Code h t k = refl
none_counted Symbols h t k = refl
none_counted Functions h t k = refl
none_counted Relocations h t k = refl
none_counted Maps h t k = refl
none_counted Instructions h t k = absurd (miss (0 ∷ 1 ∷ 2 ∷ 3 ∷ 4 ∷ []) 5 tt h)
none_counted FuncInfo h t k = absurd (miss (0 ∷ 1 ∷ 2 ∷ 3 ∷ 4 ∷ []) 6 tt h)
none_counted LineInfo h t k = absurd (miss (0 ∷ 1 ∷ 2 ∷ 3 ∷ 4 ∷ []) 7 tt h)
