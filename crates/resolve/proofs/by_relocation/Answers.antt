-- Without a relocation a call leads from its own place and anything else nowhere; with one, its symbol leads.
use mathlib.Core.Path.{sym, ap, ◌∙◌}
use Prim.Native.Nat.{ℕ, ◌+◌, ◌*◌}
use lib.IntN.{ℤ, pos, ◌+ℤ◌}
use mir.Syntax.{w32}
use mir.ValLaws.{to_z-of_z}
use Rattle.std.specs.Prelude as prelude
use Rattle.rules.specs.Object.{Insn, Named}
use Rattle.rules.specs.Bytes.{little, slot_in}
use Rattle.rules.specs.Tables.{or_missing, slots_on, by_symbol_row, by_relocation}
use Rattle.rules.specs.Rows.{Offered, tables_of, function_section, function_offset, function_row, relocation_symbol, relocation_size, relocation_row, symbol_row}
use Rattle.rules.specs.Lent.{lent_code}
use Rattle.rules.specs.Lookups.{function_with, symbol_with, read_row}
use Rattle.resolve.specs.Means.{option_of, targets}
use Rattle.resolve.proofs.Targets.{own_call_lem, related}
use Rattle.resolve.proofs.by_relocation.Goals.{Start}
use Rattle.resolve.proofs.by_relocation.Goals as goal

abbrev tables : Start → Offered
tables s = lent_code s.args.names s.args.instructions.now

abbrev insn : Start → Insn
insn s = slot_in little s.args.instructions.now s.args.at.0

abbrev named : Start → (prelude.Option ℕ) → Named
named s f =
    by_relocation (tables_of little (tables s)) (read_row (relocation_row (tables s).relocations) (option_of f)) (function_row (tables s).functions s.args.row)
    s.args.slot.0 (insn s)

pub returns-in-None : goal.returns-in-None
returns-in-None c =
    let f = c.args.names.functions.now in
    c.by_place.ensures
    ∙ ap (λ (z : ℤ). or_missing (function_with f (function_section f c.args.row) (pos (function_offset f c.args.row + 8 * c.args.slot.0) +ℤ slots_on z)))
    (to_z-of_z w32 _ (record { sfits = c.immediate-in-None.type_inv }) ∙ c.immediate-in-None.ensures)
    ∙ sym (own_call_lem (tables (goal.at.returns-in-None c).Start) c.args.row c.args.slot.0 (insn (goal.at.returns-in-None c).Start)
    (sym c.insn_is_call.ensures ∙ c.if-insn_is_call.true))
    ∙ ap (named (goal.at.returns-in-None c).Start) (sym c.in-None.is)

pub returns-in-Some : goal.returns-in-Some
returns-in-Some c =
    let row = c.in-Some.k in
    c.by_row.ensures
    ∙ ap (by_symbol_row (targets c.args.names.code.now c.args.names.functions.now)
    (read_row (symbol_row c.args.names.symbols.now) (symbol_with c.args.names.symbols.now (relocation_symbol c.args.names.relocations.now row)))
    (relocation_size c.args.names.relocations.now row)) (to_z-of_z w32 _ (record { sfits = c.immediate.type_inv }) ∙ c.immediate.ensures)
    ∙ sym (related (tables (goal.at.returns-in-Some c).Start) c.args.row c.args.slot.0 (insn (goal.at.returns-in-Some c).Start) row)
    ∙ ap (named (goal.at.returns-in-Some c).Start) (sym c.in-Some.is)
