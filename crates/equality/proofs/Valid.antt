-- What code tests of tables 3, 4 and 6, row after row, gives what the domain asks of valid tables.
-- Assumes nothing.
use mathlib.Core.Path.{◌≡◌, refl, sym, subst}
use mathlib.Core.Logic.{◌⊎◌, inl, inr}
use mathlib.Core.Bool.{Bool, true, false, cond}
use mathlib.Core.List.Memᴰ
use mathlib.Core.List.{List, [], ◌∷◌, Memᴰ}
use Prim.Native.Nat.{ℕ, zero, suc, ◌+◌, ◌*◌, ◌-◌, ◌/◌, ◌≤◌, ◌<◌}
use native.Mathlib.Nat.{add-zero, add-suc}
use native.Mathlib.Omega.{arith}
use native.Mathlib.Decide.{ℕ_discrete, dec_lt}
use lib.IntN.{pos, negsuc}
use lib.Dec.{ltb}
use lib.ListN.{length, get_or, get_or-eq_default}
use borrow.Author.Tests.{ltb-true, ltb-false}
use Rattle.rules.specs.Faithful.{blank, slot_at}
use Rattle.rules.specs.Bytes.{Order, signed, Fits, half32, byte_at, u32_at, decode, decoded}
use Rattle.rules.specs.Tables.{Function, Relocation, Tables, no_function, before, row_of, base, Earlier, RowsRise}
use Rattle.equality.specs.Domain.{Plain}
use Rattle.rules.proofs.Rounds.{u32_below}
use Rattle.rules.proofs.Writing.{decoded_at, decoded_length}
use Rattle.rules.proofs.MapsApart.{base_past}

-- decoded bytes are plain slots
pub signed_fits : (n : ℕ) → n < 0x1_0000_0000 → Fits half32 (signed half32 n)
unfolding signed
signed_fits n l = go (ltb n half32) refl
  where
    go : (b : Bool) → ltb n half32 ≡ b → Fits half32 (cond b (pos n) (negsuc (half32 + half32 - suc n)))
    go true e = ltb-true n half32 e
    go false e = omega (arith, ltb-false n half32 e)

pub decoded_plain : (order : Order) (bytes : List ℕ) → ((k : ℕ) → byte_at bytes k < 256) → (k : ℕ) → Plain (slot_at (decoded order bytes) k)
unfolding decode
decoded_plain order bytes small k = go (dec_lt k (length bytes / 8))
  where
    go : Dec (k < length bytes / 8) → Plain (slot_at (decoded order bytes) k)
    go (yes l) = rw (decoded_at order bytes k l) (record {
      byte = small (8 * k);
      fits = signed_fits (u32_at order bytes (8 * k + 4)) (u32_below order bytes small (8 * k + 4));
    })
    go (no n) =
        subst Plain (sym (get_or-eq_default (decoded order bytes) blank {n = k} (omega (arith, decoded_length order bytes))))
        (record { byte = omega arith; fits = omega arith })

-- each relocation after the one before it
abbrev pub Steps : List Relocation → Type 0
Steps [] = Unit {0}
Steps (r ∷ []) = Unit {0}
Steps (r ∷ q ∷ rs) = Earlier r q × Steps (q ∷ rs)

earlier_trans : (a b c : Relocation) → Earlier a b → Earlier b c → Earlier a c
earlier_trans a b c (inl p) (inl q) = inl (omega arith)
earlier_trans a b c (inl p) (inr q) = inl (omega arith)
earlier_trans a b c (inr p) (inl q) = inl (omega arith)
earlier_trans a b c (inr p) (inr q) = inr (omega arith, omega arith)

all_later : (r : Relocation) (rs : List Relocation) → Steps (r ∷ rs) → (q : Relocation) → Memᴰ q rs → Earlier r q
all_later r [] steps q m = absurd (Memᴰ.not-nil m)
all_later r (x ∷ xs) steps q m = go (Memᴰ.cases_cons m) (λ m. all_later x xs steps.1 q m)
  where
    go : (q ≡ x) ⊎ Memᴰ q xs → (Memᴰ q xs → Earlier x q) → Earlier r q
    go (inl e) later = rw e steps.0
    go (inr m) later = earlier_trans r x q steps.0 (later m)

pub steps_rise : (rs : List Relocation) → Steps rs → RowsRise rs
steps_rise [] steps = tt
steps_rise (r ∷ []) steps = (λ q m. absurd (Memᴰ.not-nil m), tt)
steps_rise (r ∷ q ∷ rs) steps = (all_later r (q ∷ rs) steps, steps_rise (q ∷ rs) steps.1)

-- (section, address) of functions, by row
module _ (tables : Tables) (rises : (row : ℕ) → suc row < length tables.functions
    → ((row_of tables row).home < (row_of tables (suc row)).home)
    ⊎ (((row_of tables row).home ≡ (row_of tables (suc row)).home) × ((row_of tables row).address < (row_of tables (suc row)).address))) where
  abbrev Before : ℕ → ℕ → Type 0
  Before a b = ((row_of tables a).home < (row_of tables b).home) ⊎ (((row_of tables a).home ≡ (row_of tables b).home) × ((row_of tables a).address < (row_of tables b).address))

  step : (a b c : ℕ) → Before a b → Before b c → Before a c
  step a b c (inl p) (inl q) = inl (omega arith)
  step a b c (inl p) (inr q) = inl (omega arith)
  step a b c (inr p) (inl q) = inl (omega arith)
  step a b c (inr p) (inr q) = inr (omega arith, omega arith)

  far : (a d : ℕ) → suc a + d < length tables.functions → Before a (suc a + d)
  far a zero l = rw (add-zero (suc a)) (rises a (omega arith))
  far a (suc d) l = rw (add-suc (suc a) d) (step a (suc a + d) (suc (suc a + d)) (far a d (omega arith)) (rises (suc a + d) (omega arith)))

  differs : (a b : ℕ) → a < b → b < length tables.functions → (row_of tables a).home ≡ (row_of tables b).home → (row_of tables a).address ≡ (row_of tables b).address → ⊥
  differs a b l l' h e = go (subst (Before a) (at b l) (far a (b - suc a) (omega arith)))
    where
      at : (b : ℕ) → a < b → suc a + (b - suc a) ≡ b
      at b l = omega arith

      go : Before a b → ⊥
      go (inl p) = omega arith
      go (inr p) = omega arith

  pub keys_differ : (a b : ℕ) → a < length tables.functions → b < length tables.functions → (row_of tables a).home ≡ (row_of tables b).home
      → (row_of tables a).address ≡ (row_of tables b).address → a ≡ b
  keys_differ a b la lb h e = go (ℕ_discrete a b) (dec_lt a b)
    where
      go : Dec (a ≡ b) → Dec (a < b) → a ≡ b
      go (yes same) d = same
      go (no n) (yes l) = absurd (differs a b l lb h e)
      go (no n) (no g) = absurd (differs b a (omega arith) la (sym h) (sym e))

-- table 6 holds exactly the rows that table 3 adds up to
past_end : (row : ℕ) (fs : List Function) → length fs ≤ row → before (λ f. f.slots) row fs + (get_or fs row no_function).slots ≤ before (λ f. f.slots) (length fs) fs
past_end zero [] l = omega arith
past_end zero (f ∷ fs) l = absurd (omega arith)
past_end (suc row) [] l = omega arith
past_end (suc row) (f ∷ fs) l = omega (arith, past_end row fs (omega arith))

pub whole_table : (tables : Tables) → base tables (length tables.functions) ≡ length tables.instructions
    → (row : ℕ) → base tables row + (row_of tables row).slots ≤ length tables.instructions
whole_table tables total row = go (dec_lt row (length tables.functions))
  where
    go : Dec (row < length tables.functions) → base tables row + (row_of tables row).slots ≤ length tables.instructions
    go (yes l) = rw (← total) (base_past tables row (length tables.functions) l)
    go (no n) = rw (← total) (past_end row tables.functions (omega arith))
