-- What a table's size of a row and most rows say of its bytes, once for all tables.
-- Assumes nothing.
use mathlib.Core.Path.{◌≡◌, refl, sym}
use mathlib.Core.Bool.{Bool, true, false, cond, not}
use mathlib.Core.List.{List}
use Prim.Native.Nat.{ℕ, suc, ◌*◌, ◌/◌, ◌%◌, ◌≤◌, ◌<◌}
use native.Mathlib.Omega.{arith}
use native.Mathlib.Nat.{div-add-mod, mod-lt, mul-suc, mul-le-mul_left, mul-lt-mul_of_pos_left}
use borrow.Author.Tests.{eqb-true, eqb-false, lt-ltb, le-ltb, ltb-true, ltb-false}
use lib.Dec.{eqb, ltb}
use lib.ListN.{length}
use Rattle.rules.specs.declared.Table.{Table}
use Rattle.rules.specs.declared.Table.TheVariants.{Code, Symbols, Functions, Relocations, Maps, Instructions, FuncInfo, LineInfo}
use Rattle.rules.specs.Rows.{row_size, most_rows, is_too_many}

-- a row has bytes, a row's number fits 32 bits and the bytes of the most rows 64
pub record Small (size most : ℕ) : Type 0 where
  pub some_bytes : 1 ≤ size
  pub few_bytes : size ≤ 0xFF
  pub few_rows : most ≤ 0xFFFF_FFFF
  pub room : size * most ≤ 0xFFFF_FFFF_FFFF_FFFF

pub small : (table : Table) → Small (row_size table) (most_rows table)
small Code = record { some_bytes = omega arith; few_bytes = omega arith; few_rows = omega arith; room = omega arith }
small Symbols = record { some_bytes = omega arith; few_bytes = omega arith; few_rows = omega arith; room = omega arith }
small Functions = record { some_bytes = omega arith; few_bytes = omega arith; few_rows = omega arith; room = omega arith }
small Relocations = record { some_bytes = omega arith; few_bytes = omega arith; few_rows = omega arith; room = omega arith }
small Maps = record { some_bytes = omega arith; few_bytes = omega arith; few_rows = omega arith; room = omega arith }
small Instructions = record { some_bytes = omega arith; few_bytes = omega arith; few_rows = omega arith; room = omega arith }
small FuncInfo = record { some_bytes = omega arith; few_bytes = omega arith; few_rows = omega arith; room = omega arith }
small LineInfo = record { some_bytes = omega arith; few_bytes = omega arith; few_rows = omega arith; room = omega arith }

-- a test is another where they hold of the same numbers
same_test : (a b c d : ℕ) → (a < b → c < d) → (b ≤ a → d ≤ c) → ltb a b ≡ ltb c d
same_test a b c d yes-so no-so = go (ltb a b) refl
  where
    go : (p : Bool) → ltb a b ≡ p → p ≡ ltb c d
    go true e = sym (lt-ltb c d (yes-so (ltb-true a b e)))
    go false e = sym (le-ltb c d (no-so (ltb-false a b e)))

-- too many rows, a partial one counted, are more bytes than the most rows have
counted : (size most n : ℕ) (p : Bool) → 0 < size → eqb (n % size) 0 ≡ p
    → ltb most (cond (not p) (suc (n / size)) (n / size)) ≡ ltb (size * most) n
counted size most n true s e =
    let q = eqb-true (n % size) 0 e in
    let w : size * (n / size) ≡ n = omega (arith, div-add-mod n size) in
    same_test most (n / size) (size * most) n
    (λ l. omega (arith, mul-lt-mul_of_pos_left {m = most} {n = n / size} {k = size} l s))
    (λ l. omega (arith, mul-le-mul_left {m = n / size} {n = most} size l))
counted size most n false s e =
    let w = div-add-mod n size in
    let r = mod-lt n {m = size} s in
    let q : n % size ≡ 0 → ⊥ = eqb-false (n % size) 0 e in
    same_test most (suc (n / size)) (size * most) n
    (λ l. omega (arith, mul-le-mul_left {m = most} {n = n / size} size (omega arith)))
    (λ l. omega (arith, mul-le-mul_left {m = suc (n / size)} {n = most} size l, mul-suc size (n / size)))

pub by_bytes : (table : Table) (t : List ℕ) → is_too_many table t ≡ ltb (row_size table * most_rows table) (length t)
by_bytes table t = counted (row_size table) (most_rows table) (length t) (eqb (length t % row_size table) 0) (small table).some_bytes refl
