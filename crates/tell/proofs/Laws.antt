-- One turn and the end of each loop: digits, bytes compared, and a search from the last record back.
-- Assumes nothing.
use mathlib.Core.Path.{◌≡◌, sym, ap, ◌∙◌}
use mathlib.Core.Bool.{cond}
use mathlib.Core.List.{List}
use Rattle.std.proofs.lemmas.Bool.Decides.{nat_tests}
use Prim.Native.Nat.{ℕ, min, suc, ◌+◌, ◌-◌, ◌*◌, ◌≤◌, ◌<◌}
use native.Mathlib.Omega.{arith}
use native.Mathlib.Nat.{mul-le-mul_left, mul-suc}
use borrow.Author.Tests.{le-leb, lt-leb, eq-eqb, ne_eqb}
use lib.Dec.{ltb}
use Rattle.rules.specs.declared.Table.TheVariants.{LineInfo}
use Rattle.std.specs.Prelude.{Some, None}
use Rattle.rules.specs.Bytes.{little, u32_at}
use Rattle.rules.specs.Rows.{row_size, whole_rows}
use Rattle.tell.specs.Listing.{last_at, line_at}

-- ---- the last record at or before a slot

-- record k − 1 stands in the bytes, where k records do
pub stands : (size k end len : ℕ) → 0 < k → k ≤ end → size * end ≤ len → size * (k - 1) + size ≤ len
stands size k end len p l h =
    let m : size * k ≤ size * end = mul-le-mul_left size l in
    let e : suc (k - 1) ≡ k = omega arith in
    let f : size * (k - 1) + size ≡ size * k = sym (mul-suc size (k - 1)) ∙ ap (λ (x : ℕ). size * x) e in
    omega arith

module _ (r : List ℕ) (size key from slot k : ℕ) (after : from < k) where
  step : last_at r size key from slot (k - from) ≡ last_at r size key from slot (suc (k - 1 - from))
  step = let e : k - from ≡ suc (k - 1 - from) = omega arith in ap (last_at r size key from slot) e

  here : from + (k - 1 - from) ≡ k - 1
  here = omega arith

  pub last_hit : u32_at little r (size * (k - 1) + key) ≤ slot → last_at r size key from slot (k - from) ≡ Some (k - 1)
  unfolding last_at
  last_hit h = step ∙ rw (here, le-leb (u32_at little r (size * (k - 1) + key)) slot h)

  pub last_on : slot < u32_at little r (size * (k - 1) + key) → last_at r size key from slot (k - from) ≡ last_at r size key from slot (k - 1 - from)
  unfolding last_at
  last_on h = step ∙ rw (here, lt-leb (u32_at little r (size * (k - 1) + key)) slot h)

pub last_none : (r : List ℕ) (size key from slot k : ℕ) → k ≤ from → last_at r size key from slot (k - from) ≡ None
unfolding last_at
last_none r size key from slot k h = let e : k - from ≡ 0 = omega arith in ap (last_at r size key from slot) e

pub no_less : (n : ℕ) → n - 0 ≡ n
no_less n = omega arith

less : (a b : ℕ) → min a b ≡ cond (ltb a b) a b
less a b = grind (arith, nat_tests)

-- ---- the line record of a slot

module _ (lines : List ℕ) (own start slot : ℕ) where
  -- of the root
  pub line_own : start ≡ 0 → last_at lines (row_size LineInfo) 0 0 slot (min own (whole_rows LineInfo lines) - 0) ≡ line_at lines own start slot
  unfolding line_at
  line_own e = rw (eq-eqb start 0 e, no_less (min own (whole_rows LineInfo lines)), less own (whole_rows LineInfo lines))

  -- of another copy
  pub line_other : (start ≡ 0 → ⊥) → last_at lines (row_size LineInfo) 0 own slot (whole_rows LineInfo lines - own) ≡ line_at lines own start slot
  unfolding line_at
  line_other h = rw (ne_eqb start 0 h)
