-- Outside its function there is nothing; inside, the slot is the row's.
use mathlib.Core.Path.{sym, ap, ◌∙◌}
use Prim.Native.Nat.{ℕ}
use mir.Syntax.{w64}
use mir.Val.{SFits}
use mir.ValLaws.{to_z-of_z}
use Rattle.std.proofs.Common.{rules}
use Rattle.rules.specs.Lent.{lent_code}
use Rattle.walk.specs.Moves.{move_of}
use Rattle.walk.proofs.Places.{slot_found}
use Rattle.source.proofs.Sights.{source_outside}
use Rattle.source.proofs.SourceGroundGround.look.Goals as goal

pub returns-in_err-slot_in : goal.returns-in_err-slot_in
returns-in_err-slot_in c =
    let s = c.args.self.now in
    let at = c.args.at in
    let fits : SFits w64 at.slot = search rules in
    ap move_of c.from_residual.ensures
    ∙ sym (source_outside (lent_code s.names s.instructions.now) at.row at.slot
    (sym c.in_err-slot_in.was ∙ c.slot_in.ensures ∙ ap (slot_found c.slots_of.result) (to_z-of_z w64 at.slot fits) ∙ ap (λ (n : ℕ). slot_found n at.slot) c.slots_of.ensures))
