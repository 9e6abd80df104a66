-- What the crate sees in a slot is what the link step makes of it, in the domain.
-- Assumes nothing.
use mathlib.Core.Path.{◌≡◌, refl, sym, ap}
use mathlib.Core.Logic.{inl, inr}
use mathlib.Core.Bool.{Bool, true, false, cond, ◌&&◌}
use mathlib.Core.Option.{Option, none, some}
use mathlib.Core.List.{List, [], ◌∷◌}
use Prim.Native.Nat.{ℕ, suc, ◌+◌, ◌*◌, ◌%◌, ◌<◌}
use native.Mathlib.Nat.{zero-add, add-zero, add-suc, suc-add}
use native.Mathlib.Omega.{arith}
use lib.IntN.{ℤ, pos, ◌+ℤ◌, ◌*ℤ◌}
use lib.Dec.{eqb}
use lib.ListN.{length, get_or}
use borrow.Author.Tests.{eqb-true}
use Rattle.rules.specs.Object.{Insn, is_call, nothing, unclear, is_wide_load, Meaning, copied, call, reference, refused, decide, meaning}
use Rattle.rules.specs.Link.{run}
use Rattle.rules.specs.Bytes.{Fits, half32}
use Rattle.rules.specs.Tables.{SymbolKind, other, text, section, Symbol, Relocation, Tables, first, first_row, is_at, no_function, or_missing, row_of, base, insn_of, row_at, function_at, is_code, slots_on, by_symbol, by_symbol_row, by_relocation, relocation_at, object_of}
use Rattle.rules.specs.Maps.{symbol_of}
use Rattle.rules.specs.Records.{Room}
use Rattle.equality.specs.Crate.{u64, add_u64, mul_u64, add_i32, Slot, continue, panic, unknown, callee, get_function, or_unknown, is_text, address_of, at_symbol, without_relocation, with_sym, with_rel, slot_of}
use Rattle.equality.specs.Domain.{Hidden, crate_function, crate_of, 2⁴⁸, Limits, Compared, LinkDomain}
use Rattle.equality.proofs.Numbers.{at_size_32, at_size_64, at_relative, same_call}

abbrev pub via_row : {A : Type 0} → (ℕ → A) → Option ℕ → Option A
via_row g none = none
via_row g (some row) = some (g row)

-- the first that passes among the values at rows, and the first row
first_run : {A B : Type 0} (test : A → Bool) (test' : B → Bool) (g : ℕ → B) (d : A) (xs : List A) (from : ℕ)
    → ((k : ℕ) → k < length xs → test' (g (from + k)) ≡ test (get_or xs k d)) → first test' (run g from (length xs)) ≡ via_row g (first_row test from xs)
first_run test test' g d [] from same = refl
first_run test test' g d (x ∷ xs) from same =
    rw (rw (add-zero from) at (same 0 (omega arith)))
    (go (test x) (first_run test test' g d xs (suc from) (λ k l. rw (suc-add from k, ← (add-suc from k)) (same (suc k) (omega arith)))))
  where
    go : (b : Bool) → first test' (run g (suc from) (length xs)) ≡ via_row g (first_row test (suc from) xs)
        → cond b (some (g from)) (first test' (run g (suc from) (length xs))) ≡ via_row g (cond b (some from) (first_row test (suc from) xs))
    go true later = refl
    go false later = later

pub not_6 : Compared 6 → ⊥
not_6 (inl e) = omega arith
not_6 (inr (inl e)) = omega arith
not_6 (inr (inr (inl e))) = omega arith
not_6 (inr (inr (inr e))) = omega arith

pub not_8 : Compared 8 → ⊥
not_8 (inl e) = omega arith
not_8 (inr (inl e)) = omega arith
not_8 (inr (inr (inl e))) = omega arith
not_8 (inr (inr (inr e))) = omega arith

pub not_9 : Compared 9 → ⊥
not_9 (inl e) = omega arith
not_9 (inr (inl e)) = omega arith
not_9 (inr (inr (inl e))) = omega arith
not_9 (inr (inr (inr e))) = omega arith

-- a slot that is a call or not, its meaning, and what the crate sees
abbrev pub Sees : Tables → Hidden → Bool → Meaning → Slot → Type 0
Sees tables hidden c copied s = s ≡ continue
Sees tables hidden c (call row) s = (c ≡ true) × (s ≡ callee (crate_function tables hidden row))
Sees tables hidden c (reference row) s = (c ≡ false) × (s ≡ callee (crate_function tables hidden row))
Sees tables hidden c (refused number) s = Compared number → (number ≡ 10) × (s ≡ unknown)

module _ (tables : Tables) (hidden : Hidden) (limits : Limits tables) where
  -- a function found by row and by value
  found_sees : (c w : Bool) (o : Option ℕ) → Sees tables hidden c (decide c w (or_missing o)) (or_unknown (crate_of tables hidden) (via_row (crate_function tables hidden) o))
  unfolding decide
  found_sees true w none = λ _. (refl, refl)
  found_sees true w (some row) = (refl, refl)
  found_sees false true none = λ _. (refl, refl)
  found_sees false true (some row) = (refl, refl)
  found_sees false false none = λ k. absurd (not_6 k)
  found_sees false false (some row) = λ k. absurd (not_6 k)

  pub same_function : (home : ℕ) (z : ℤ) (n : ℕ) → ((m : ℕ) → m < 2⁴⁸ → is_at m z ≡ eqb m n)
      → get_function (crate_of tables hidden) home n ≡ via_row (crate_function tables hidden) (row_at tables home z)
  unfolding crate_of
  same_function home z n same =
      first_run (λ f. eqb f.home home && is_at f.address z) (λ f. eqb f.section_index home && eqb f.address n) (crate_function tables hidden) no_function
      tables.functions 0
      (λ k l. rw (zero-add k) (ap (λ b. eqb (row_of tables k).home home && b) (sym (same (row_of tables k).address (limits.addresses k)))))

  target_sees : (c w : Bool) (home : ℕ) (z : ℤ) (n : ℕ) → ((m : ℕ) → m < 2⁴⁸ → is_at m z ≡ eqb m n)
      → Sees tables hidden c (decide c w (function_at tables home z)) (or_unknown (crate_of tables hidden) (get_function (crate_of tables hidden) home n))
  target_sees c w home z n same = rw (same_function home z n same) (found_sees c w (row_at tables home z))

  unclear_sees : (c w : Bool) (s : Slot) → Sees tables hidden c (decide c w (unclear 8)) s
  unfolding decide
  unclear_sees true w s = λ k. absurd (not_8 k)
  unclear_sees false true s = λ k. absurd (not_8 k)
  unclear_sees false false s = λ k. absurd (not_8 k)

  -- a relocation that is not to code: 9 on a call, else copied
  nothing_sees : (c w : Bool) (row slot : ℕ) (imm : ℤ) → Sees tables hidden c (decide c w nothing) (without_relocation (crate_of tables hidden) c (crate_function tables hidden row) slot imm)
  unfolding decide
  nothing_sees true w row slot imm = λ k. absurd (not_9 k)
  nothing_sees false true row slot imm = refl
  nothing_sees false false row slot imm = refl

module _ (tables : Tables) (hidden : Hidden) (room : Room) (root : ℕ) (domain : LinkDomain tables hidden room root) (row slot : ℕ)
    (inside : slot < (row_of tables row).slots) where
  open domain.limits use {addresses, offsets, slots, symbol_addresses, plain}

  i : Insn
  i = insn_of tables row slot

  fits : Fits half32 i.immediate
  unfolding i
  fits = (plain (base tables row + slot)).fits

  relative_sees : (c w : Bool) → is_call i ≡ c
      → Sees tables hidden c (decide c w (cond c (function_at tables (row_of tables row).home (pos ((row_of tables row).offset + 8 * slot) +ℤ slots_on i.immediate)) nothing))
      (without_relocation (crate_of tables hidden) c (crate_function tables hidden row) slot i.immediate)
  unfolding i
  relative_sees true w e =
      target_sees tables hidden domain.limits true w (row_of tables row).home (pos ((row_of tables row).offset + 8 * slot) +ℤ slots_on i.immediate)
      (u64 (pos (row_of tables row).offset +ℤ pos slot *ℤ pos 8 +ℤ add_i32 i.immediate (pos 1) *ℤ pos 8))
      (λ m l. at_relative m l i.immediate fits (row_of tables row).offset slot (offsets row) (omega (arith, slots row)) (domain.clauses.calls row slot inside e))
  relative_sees false w e = nothing_sees tables hidden domain.limits false w row slot i.immediate

  kind_sees : (c w : Bool) (r : Relocation) (s : Symbol) (k : SymbolKind) (o : Option ℕ) → is_call i ≡ c
      → relocation_at tables (row_of tables row) slot ≡ some r → symbol_of tables r ≡ some s → s.home ≡ o
      → Sees tables hidden c (decide c w (by_symbol tables k o s.address r.size i.immediate))
      (cond (is_text (crate_of tables hidden) k o) (at_symbol (crate_of tables hidden) (address_of (crate_of tables hidden) k r.size s.address i.immediate) o)
      (without_relocation (crate_of tables hidden) c (crate_function tables hidden row) slot i.immediate))
  unfolding crate_of i
  kind_sees c w r s text none e at sy h = unclear_sees tables hidden domain.limits c w panic
  kind_sees c w r s text (some home) e at sy h = target_sees tables hidden domain.limits c w home (pos s.address) s.address (λ m l. refl)
  kind_sees c w r s section none e at sy h = nothing_sees tables hidden domain.limits c w row slot i.immediate
  kind_sees c w r s section (some home) e at sy h = code (is_code tables home) refl
    where
      imm : ℤ
      imm = i.immediate

      whole : ℤ
      whole = pos s.address +ℤ imm

      scaled : ℤ
      scaled = pos s.address +ℤ slots_on imm

      size : (x y : Bool) → is_code tables home ≡ true → eqb r.size 32 ≡ x → Sees tables hidden c
          (decide c w (cond x (function_at tables home scaled) (cond y (function_at tables home whole) (unclear 8))))
          (at_symbol (crate_of tables hidden) (cond x (some (add_u64 s.address (mul_u64 (u64 (add_i32 imm (pos 1))) 8))) (cond y (some (add_u64 s.address (u64 imm))) none)) (some home))
      size true y b e₃₂ =
          target_sees tables hidden domain.limits c w home scaled (add_u64 s.address (mul_u64 (u64 (add_i32 imm (pos 1))) 8))
          (λ m l. at_size_32 m l imm fits s.address (symbol_addresses r s sy) (domain.clauses.references row slot r s home inside at (eqb-true r.size 32 e₃₂) sy h b))
      size false true b e₃₂ =
          target_sees tables hidden domain.limits c w home whole (add_u64 s.address (u64 imm)) (λ m l. at_size_64 m l imm fits s.address (symbol_addresses r s sy))
      size false false b e₃₂ = unclear_sees tables hidden domain.limits c w panic

      code : (b : Bool) → is_code tables home ≡ b → Sees tables hidden c
          (decide c w (cond b (cond (eqb r.size 32) (function_at tables home scaled) (cond (eqb r.size 64) (function_at tables home whole) (unclear 8))) nothing))
          (cond b (at_symbol (crate_of tables hidden) (address_of (crate_of tables hidden) section r.size s.address imm) (some home))
          (without_relocation (crate_of tables hidden) c (crate_function tables hidden row) slot imm))
      code true b = size (eqb r.size 32) (eqb r.size 64) b refl
      code false b = nothing_sees tables hidden domain.limits c w row slot imm
  kind_sees c w r s other none e at sy h = nothing_sees tables hidden domain.limits c w row slot i.immediate
  kind_sees c w r s other (some home) e at sy h = code (is_code tables home)
    where
      code : (b : Bool) → Sees tables hidden c (decide c w (cond b (unclear 8) nothing))
          (cond b panic (without_relocation (crate_of tables hidden) c (crate_function tables hidden row) slot i.immediate))
      code true = unclear_sees tables hidden domain.limits c w panic
      code false = nothing_sees tables hidden domain.limits c w row slot i.immediate

  symbol_sees : (c w : Bool) (r : Relocation) (o : Option Symbol) → is_call i ≡ c
      → relocation_at tables (row_of tables row) slot ≡ some r → symbol_of tables r ≡ o
      → Sees tables hidden c (decide c w (by_symbol_row tables o r.size i.immediate))
      (with_sym (crate_of tables hidden) o r c (crate_function tables hidden row) slot i.immediate)
  symbol_sees c w r none e at sy = absurd (domain.known row slot r inside at sy)
  symbol_sees c w r (some s) e at sy = kind_sees c w r s s.kind s.home e at sy refl

  relocation_sees : (c w : Bool) (o : Option Relocation) → is_call i ≡ c → relocation_at tables (row_of tables row) slot ≡ o
      → Sees tables hidden c (decide c w (by_relocation tables o (row_of tables row) slot i)) (with_rel (crate_of tables hidden) o c (crate_function tables hidden row) slot i.immediate)
  unfolding crate_of
  relocation_sees c w none e at = rw e (relative_sees c w e)
  relocation_sees c w (some r) e at = symbol_sees c w r (symbol_of tables r) e at refl

  pub slot_sees : Sees tables hidden (is_call (insn_of tables row slot)) (meaning (object_of tables) row slot)
      (slot_of (crate_of tables hidden) (crate_function tables hidden row) slot (insn_of tables row slot))
  unfolding i meaning object_of slot_of crate_of add_u64
  slot_sees =
      rw (same_call i (plain (base tables row + slot)).byte, offset_exact)
      (relocation_sees (is_call i) (is_wide_load (object_of tables) row slot) (relocation_at tables (row_of tables row) slot) refl refl)
    where
      offset_exact : ((row_of tables row).offset + slot * 8) % 0x1_0000_0000_0000_0000 ≡ (row_of tables row).offset + 8 * slot
      offset_exact = omega (arith, offsets row, slots row)
