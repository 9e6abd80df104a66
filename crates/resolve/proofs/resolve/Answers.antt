-- The slot of table 6 that is read is the row's, its end the row's end, and its relocation the one that is found.
use mathlib.Core.Path.{◌≡◌, refl, sym, ap, ◌∙◌, subst}
use mathlib.Core.Bool.{Bool, false, not}
use Prim.Native.Nat.{ℕ, ◌+◌}
use native.Mathlib.Omega.{arith}
use Rattle.rules.specs.Object.{is_call, decide}
use Rattle.rules.specs.Bytes.{little, slot_in}
use Rattle.rules.specs.Tables.{by_relocation}
use Rattle.rules.specs.Rows.{tables_of, function_slots, function_row, relocation_row}
use Rattle.rules.specs.Lent.{lent_code}
use Rattle.rules.specs.Lookups.{read_row}
use Rattle.insn.specs.Wide.{wide_load_in}
use Rattle.resolve.specs.Means.{named_of, Means, option_of}
use Rattle.std.specs.Prelude as prelude
use Rattle.resolve.proofs.Targets.{not_call, not_called}
use Rattle.resolve.proofs.Slots.{slots_low, first_low, end_inside, rel_within, meaning_is}
use Rattle.resolve.proofs.resolve.Goals.{After-after-end}
use Rattle.resolve.proofs.resolve.Goals as goal

at_is : (e : After-after-end) → e.after-at.result.0 ≡ e.args.first.0 + e.args.slot.0
at_is e = e.after-at.ensures

end_is : (e : After-after-end) → e.after-end.result.0 ≡ e.args.first.0 + function_slots e.args.names.functions.now e.args.row
end_is e = e.after-end.ensures ∙ ap (λ (n : ℕ). e.args.first.0 + n) e.function_slots-slots.ensures

pub after-at-requires : goal.after-at-requires
after-at-requires c =
    omega (arith, first_low c.requires, slots_low c.requires, c.requires.slot_inside)

pub after-end-requires : goal.after-end-requires
after-end-requires c =
    omega (arith, first_low c.requires, slots_low c.requires, c.function_slots-slots.ensures)

pub by_relocation-named-requires : goal.by_relocation-named-requires
by_relocation-named-requires c =
    record {
      tables = c.requires.tables;
      row_inside = c.requires.row_inside;
      slot_inside = omega (arith, end_inside c.requires, c.requires.slot_inside, at_is c);
      rel_inside = rel_within c.requires;
    }

pub insn_is_call-is_call-requires : goal.insn_is_call-is_call-requires
insn_is_call-is_call-requires c =
    omega (arith, end_inside c.requires, c.requires.slot_inside, c.after-at.ensures)

pub is_wide_load-requires : goal.is_wide_load-requires
is_wide_load-requires c =
    (omega (arith, c.requires.slot_inside, at_is (goal.at.is_wide_load-requires c).After-after-end, end_is (goal.at.is_wide_load-requires c).After-after-end), omega (arith, end_inside c.requires, end_is (goal.at.is_wide_load-requires c).After-after-end))

pub returns : goal.returns
returns c =
    let a = c.args in
    let here = a.first.0 + a.slot.0 in
    subst (Means a.row a.slot.0 c.decide.result)
    (ap (λ (b : Bool). decide b c.is_wide_load.result (named_of c.by_relocation-named.result))
    (c.insn_is_call-is_call.ensures ∙ ap (λ (k : ℕ). is_call (slot_in little a.instructions.now k)) (at_is (goal.at.returns c).After-after-end))
    ∙ ap (λ (b : Bool). decide (is_call (slot_in little a.instructions.now here)) b (named_of c.by_relocation-named.result))
    (c.is_wide_load.ensures ∙ ap (λ (k : ℕ). wide_load_in a.instructions.now k c.after-end.result.0) (at_is (goal.at.returns c).After-after-end) ∙ ap (wide_load_in a.instructions.now here) (end_is (goal.at.returns c).After-after-end))
    ∙ ap (decide (is_call (slot_in little a.instructions.now here)) (wide_load_in a.instructions.now here (a.first.0 + function_slots a.names.functions.now a.row)))
    (c.by_relocation-named.ensures
    ∙ ap (λ (k : ℕ). by_relocation (tables_of little (lent_code a.names a.instructions.now))
    (read_row (relocation_row a.names.relocations.now) (option_of a.rel)) (function_row a.names.functions.now a.row) a.slot.0 (slot_in little a.instructions.now k)) (at_is (goal.at.returns c).After-after-end))
    ∙ sym (meaning_is c.requires))
    c.decide.ensures

none_is : (o : prelude.Option ℕ) → prelude.is_some o ≡ false → o ≡ prelude.None
none_is prelude.None e = refl
none_is (prelude.Some k) e = let z : ◌≡◌ {A = ℕ} 0 1 = cc in absurd (omega arith)

-- without a relocation, and no call: it names nothing
pub returns-then-not-is_call : goal.returns-then-not-is_call
returns-then-not-is_call c =
    let a = c.args in
    let here = a.first.0 + a.slot.0 in
    let t = lent_code a.names a.instructions.now in
    let i = slot_in little a.instructions.now here in
    let wide = wide_load_in a.instructions.now here (a.first.0 + function_slots a.names.functions.now a.row) in
    let plain = sym (c.insn_is_call-is_call.ensures ∙ ap (λ (k : ℕ). is_call (slot_in little a.instructions.now k)) c.after-at.ensures) ∙ c.if-not-is_call.true in
    meaning_is c.requires
    ∙ ap (λ (b : Bool). decide b wide (by_relocation (tables_of little t) (read_row (relocation_row a.names.relocations.now) (option_of a.rel)) (function_row a.names.functions.now a.row) a.slot.0 i)) plain
    ∙ ap (λ (k : prelude.Option ℕ). decide false wide (by_relocation (tables_of little t) (read_row (relocation_row a.names.relocations.now) (option_of k)) (function_row a.names.functions.now a.row) a.slot.0 i)) (none_is c.args.rel (c.is_none.ensures ∙ ap not c.if-is_none.true))
    ∙ ap (decide false wide) (not_call t a.row a.slot.0 i plain)
    ∙ not_called wide
