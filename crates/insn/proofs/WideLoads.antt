-- The tests of a wide load, one after another: the first that fails decides.
-- Assumes nothing.
use mathlib.Core.Path.{◌≡◌}
use mathlib.Core.Bool.{false}
use mathlib.Core.List.{List}
use Prim.Native.Nat.{ℕ, suc, ◌+◌, ◌≤◌, ◌<◌}
use native.Mathlib.Numerals.{add-one}
use borrow.Author.Tests.{eq-eqb, ne_eqb, lt-ltb, le-ltb}
use Rattle.rules.specs.Object.{is_blank}
use Rattle.rules.specs.Bytes.{little, slot_in}
use Rattle.insn.specs.Wide.{wide_load_in}

module _ (code : List ℕ) (slot end : ℕ) where
  pub other_opcode : ((slot_in little code slot).opcode ≡ 0x18 → ⊥) → false ≡ wide_load_in code slot end
  unfolding wide_load_in
  other_opcode n = rw (ne_eqb _ 0x18 n)

  pub no_next : (slot_in little code slot).opcode ≡ 0x18 → end ≤ slot + 1 → false ≡ wide_load_in code slot end
  unfolding wide_load_in
  no_next e l = rw (eq-eqb _ 0x18 e, le-ltb (suc slot) end (rw add-one at l))

  pub by_next : (slot_in little code slot).opcode ≡ 0x18 → slot + 1 < end → is_blank (slot_in little code (slot + 1)) ≡ wide_load_in code slot end
  unfolding wide_load_in
  by_next e l = rw (eq-eqb _ 0x18 e, lt-ltb (suc slot) end (rw add-one at l), add-one)
