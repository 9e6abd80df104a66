-- What stands against adding a function, by the rows of table 3 and the counts of the image: room, then a line record outside.
-- Assumes nothing.
use mathlib.Core.Path.{◌≡◌, refl, ap, ◌∙◌}
use mathlib.Core.Bool.{Bool, true, false, cond, ◌&&◌}
use mathlib.Core.Option.{Option, none, some}
use Prim.Native.Nat.{ℕ, ◌+◌, ◌≤◌, ◌<◌}
use native.Mathlib.Omega.{arith}
use borrow.Author.Tests.{leb-true}
use lib.Dec.{leb}
use lib.ListN.{length}
use Rattle.rules.specs.declared.Table.TheVariants.{Functions}
use Rattle.rules.specs.Bytes.{little}
use Rattle.rules.specs.Link as Link
use Rattle.rules.specs.Link.{Refusal, refusal}
use Rattle.rules.specs.Tables.{row_of, function_records_of, lines_of}
use Rattle.rules.specs.Records.{room_for, stray_line, then_stray, admits}
use Rattle.rules.specs.Rows.{whole_rows, summed, Offered, function_slots, function_func_info, function_line_info, func_info_row, line_info_row, tables_of}
use Rattle.rules.specs.Lookups.{LinkChecked}
use Rattle.rules.specs.Entries.{Outputs, room_in}
use Rattle.rules.proofs.Passed.{and_left, and_right}
use Rattle.rules.proofs.Linking.{length_run}
use Rattle.rules.proofs.Reading.{row_is}
use Rattle.linker.specs.declared.State.{State}
use Rattle.merge.specs.declared.Used.{Used}
use Rattle.rules.specs.Lent.{Buffers, lent_by}
use Rattle.linker.specs.Linker.{Holds}
use Rattle.merge.specs.Merge.{stray_in, room_bytes}
use Rattle.linker.proofs.Extending as Extending
use Rattle.linker.proofs.Extending.{own_functions, own_lines}

module _ {o : Offered} (checked : LinkChecked o) (row : ℕ) (row_in : row < whole_rows Functions o.functions) where
  row_slots : (row_of (tables_of little o) row).slots ≡ function_slots o.functions row
  row_slots = ap (λ f. f.slots) (row_is little o row row_in)

  row_functions : length (function_records_of (tables_of little o) row) ≡ function_func_info o.functions row
  row_functions = ap length (own_functions checked row row_in) ∙ length_run (func_info_row little o.func_info) (summed (function_func_info o.functions) 0 row) (function_func_info o.functions row)

  row_lines : length (lines_of (tables_of little o) row) ≡ function_line_info o.functions row
  row_lines = ap length (own_lines checked row row_in) ∙ length_run (line_info_row little o.line_info) (summed (function_line_info o.functions) 0 row) (function_line_info o.functions row)

  -- the room's three tests, one after another
  decided : (a b c : Bool) → Option Refusal
  decided a b c = cond a (cond b (cond c none (some (refusal 11 row 0))) (some (refusal 11 row 0))) (some (refusal 11 row 0))

  all_pass : (a b c : Bool) → (a && (b && c)) ≡ true → decided a b c ≡ none
  unfolding decided
  all_pass true true true e = refl
  all_pass true true false e = let z : ◌≡◌ {A = ℕ} 0 1 = cc in absurd (omega arith)
  all_pass true false c e = let z : ◌≡◌ {A = ℕ} 0 1 = cc in absurd (omega arith)
  all_pass false b c e = let z : ◌≡◌ {A = ℕ} 0 1 = cc in absurd (omega arith)

  one_fails : (a b c : Bool) → (a && (b && c)) ≡ false → decided a b c ≡ some (refusal 11 row 0)
  unfolding decided
  one_fails true true true e = let z : ◌≡◌ {A = ℕ} 0 1 = cc in absurd (omega arith)
  one_fails true true false e = refl
  one_fails true false c e = refl
  one_fails false b c e = refl

  module _ (lent : Outputs) (u : Used) where
    room_is : room_for (tables_of little o) (room_in lent) u.slots u.funcs u.lines row
        ≡ decided (leb (u.slots + function_slots o.functions row) (room_in lent).slots) (leb (u.funcs + function_func_info o.functions row) (room_in lent).functions) (leb (u.lines + function_line_info o.functions row) (room_in lent).lines)
    unfolding room_for decided
    room_is = rw (row_slots, row_functions, row_lines)

    pub room_passes : room_bytes o.functions lent.image lent.func_info lent.line_info u row ≡ true
        → room_for (tables_of little o) (room_in lent) u.slots u.funcs u.lines row ≡ none
    unfolding room_bytes
    room_passes e = room_is ∙ all_pass _ _ _ e

    pub room_fails : room_bytes o.functions lent.image lent.func_info lent.line_info u row ≡ false
        → room_for (tables_of little o) (room_in lent) u.slots u.funcs u.lines row ≡ some (refusal 11 row 0)
    unfolding room_bytes
    room_fails e = room_is ∙ one_fails _ _ _ e

  pub room_of : (u : Used) (b : Buffers) → room_bytes o.functions (lent_by b).image (lent_by b).func_info (lent_by b).line_info u row ≡ true → Extending.Room o row u b
  unfolding room_bytes
  room_of u b e =
      let x = u.slots + function_slots o.functions row in
      let y = u.funcs + function_func_info o.functions row in
      let z = u.lines + function_line_info o.functions row in
      let r₁ = and_right (leb x (room_in (lent_by b)).slots) (leb y (room_in (lent_by b)).functions && leb z (room_in (lent_by b)).lines) e in
      let e₁ : x ≤ (room_in (lent_by b)).slots = leb-true x (room_in (lent_by b)).slots (and_left (leb x (room_in (lent_by b)).slots) (leb y (room_in (lent_by b)).functions && leb z (room_in (lent_by b)).lines) e) in
      let e₂ : y ≤ (room_in (lent_by b)).functions = leb-true y (room_in (lent_by b)).functions (and_left (leb y (room_in (lent_by b)).functions) (leb z (room_in (lent_by b)).lines) r₁) in
      let e₃ : z ≤ (room_in (lent_by b)).lines = leb-true z (room_in (lent_by b)).lines (and_right (leb y (room_in (lent_by b)).functions) (leb z (room_in (lent_by b)).lines) r₁) in
      record {
        slots = omega (arith, e₁);
        most_slots = omega (arith, e₁);
        funcs = omega (arith, e₂);
        most_funcs = omega (arith, e₂);
        lines = omega (arith, e₃);
        most_lines = omega (arith, e₃);
      }

  pub stray_is : stray_line (tables_of little o) row ≡ stray_in o.functions o.line_info row
  unfolding stray_line
  stray_is = rw (row_slots, own_lines checked row row_in)

  module _ {root : ℕ} {st : State} {b : Buffers} {s : Link.State} (h : Holds o root st b s) where
    admits_is : admits (tables_of little o) (room_in (lent_by b)) root row s
        ≡ then_stray (tables_of little o) (room_for (tables_of little o) (room_in (lent_by b)) st.used.slots st.used.funcs st.used.lines row) (stray_in o.functions o.line_info row) row
    unfolding admits
    admits_is = rw (← h.slots, ← h.funcs_count, ← h.lines_count, stray_is)

    pub no_room : room_bytes o.functions (lent_by b).image (lent_by b).func_info (lent_by b).line_info st.used row ≡ false
        → admits (tables_of little o) (room_in (lent_by b)) root row s ≡ some (refusal 11 row 0)
    no_room e = admits_is ∙ rw (room_fails (lent_by b) st.used e)

    pub strays : (k : ℕ) → room_bytes o.functions (lent_by b).image (lent_by b).func_info (lent_by b).line_info st.used row ≡ true
        → stray_in o.functions o.line_info row ≡ some k → admits (tables_of little o) (room_in (lent_by b)) root row s ≡ some (refusal 12 row k)
    strays k e f = admits_is ∙ rw (room_passes (lent_by b) st.used e, f)

    pub admitted : room_bytes o.functions (lent_by b).image (lent_by b).func_info (lent_by b).line_info st.used row ≡ true
        → stray_in o.functions o.line_info row ≡ none → admits (tables_of little o) (room_in (lent_by b)) root row s ≡ none
    admitted e f = admits_is ∙ rw (room_passes (lent_by b) st.used e, f)
