-- The move of the slot's bytes is the source's, its callee named by the tables.
use mathlib.Core.Path.{◌≡◌, sym, ap, ◌∙◌}
use mathlib.Core.Option.{Option, some}
use Prim.Native.Nat.{ℕ, ◌+◌}
use native.Mathlib.Omega.{arith}
use lib.IntN.{ℤ, pos}
use mir.Syntax.{w64}
use mir.Val.{to_z, of_z, SFits}
use mir.ValLaws.{to_z-of_z}
use Rattle.std.proofs.Common.{rules}
use Rattle.std.specs.Prelude as prelude
use Rattle.std.specs.Prelude.{Some}
use Rattle.rules.specs.Object.{meaning}
use Rattle.rules.specs.Bytes.{little, slot_in}
use Rattle.rules.specs.Rows.{Offered}
use Rattle.rules.specs.Lent.{lent_code}
use Rattle.rules.specs.Walk.{Move, goes, chooses, enters, SourcePlace, place, in_source}
use Rattle.resolve.proofs.Slots.{first_low, slots_low, end_inside}
use Rattle.walk.specs.Moves.{move_of, leads_in}
use Rattle.walk.specs.declared.Move as move
use Rattle.walk.specs.declared.Move.TheVariants as found
use Rattle.source.specs.Moves.{object_in, called_by}
use Rattle.source.proofs.Sights.{resolves, source_inside, entered_by, sourced, sourced_is}
use Rattle.source.proofs.SourceGround.move_at.Goals.{After-leads_at}
use Rattle.source.proofs.SourceGround.move_at.Goals as goal

abbrev tables : After-leads_at → Offered
tables n = let s = n.args.self.now in lent_code s.names s.instructions.now

-- what the tables name here
abbrev named : After-leads_at → prelude.Option ℕ
named n = called_by (meaning (object_in (tables n)) n.args.row n.args.slot.0)

seen : (n : After-leads_at) (m : move.Move ℤ) → n.leads_at.result ≡ m → sourced n.args.row (named n) (move_of (Some m))
    ≡ in_source (object_in (tables n)) (place n.args.row (pos n.args.slot.0))
seen n m e =
    let a = n.args in
    let i = a.self.now.instructions.now in
    ap (λ (o : Option (Move ℤ)). sourced a.row (named n) o)
    (ap (λ (x : move.Move ℤ). move_of (Some x)) (sym e) ∙ n.leads_at.ensures ∙ ap (λ (k : ℕ). leads_in (slot_in little i k) a.slot.0) n.after.ensures)
    ∙ sym (source_inside n.requires ∙ sourced_is (slot_in little i (a.first.0 + a.slot.0)) a.row a.slot.0 (meaning (object_in (tables n)) a.row a.slot.0))

pub after-requires : goal.after-requires
after-requires c =
    omega (arith, first_low (resolves c.requires), slots_low (resolves c.requires), c.requires.slot_inside)

pub leads_at-requires : goal.leads_at-requires
leads_at-requires c =
    omega (arith, end_inside (resolves c.requires), c.requires.slot_inside, c.after.ensures)

-- a place as the word holds it
held : (row : ℕ) {z : ℤ} → SFits w64 z → place row (to_z w64 (of_z w64 z)) ≡ place row z
held row {z} f = ap (place row) (to_z-of_z w64 z f)

pub returns-in-Goes : goal.returns-in-Goes
returns-in-Goes c =
    ap (λ (p : SourcePlace). some (goes p)) (held c.args.row {z = c.in-Goes.next} (search rules))
    ∙ seen (goal.at.returns-in-Goes c).After-leads_at (found.Goes c.in-Goes.next) c.in-Goes.is

pub returns-in-Chooses : goal.returns-in-Chooses
returns-in-Chooses c =
    ap (λ (p : SourcePlace). some (chooses p (place c.args.row (to_z w64 (of_z w64 c.in-Chooses.on_no))))) (held c.args.row {z = c.in-Chooses.on_yes} (search rules))
    ∙ ap (λ (p : SourcePlace). some (chooses (place c.args.row c.in-Chooses.on_yes) p)) (held c.args.row {z = c.in-Chooses.on_no} (search rules))
    ∙ seen (goal.at.returns-in-Chooses c).After-leads_at (found.Chooses c.in-Chooses.on_yes c.in-Chooses.on_no) c.in-Chooses.is

pub returns-in-Some : goal.returns-in-Some
returns-in-Some c =
    ap (λ (p : SourcePlace). some (enters (place c.in-Some.to (pos 0)) p)) (held c.args.row {z = c.in-Enters.back} (search rules))
    ∙ ap (λ (t : prelude.Option ℕ). some (entered_by t (place c.args.row c.in-Enters.back))) (sym c.in-Some.is ∙ c.callee.ensures)
    ∙ seen (goal.at.returns-in-Some c).After-leads_at (found.Enters _ c.in-Enters.back) c.in-Enters.is

pub returns-in-None : goal.returns-in-None
returns-in-None c =
    ap (λ (t : prelude.Option ℕ). some (entered_by t (place c.args.row c.in-Enters.back))) (sym c.in-None.is ∙ c.callee.ensures)
    ∙ seen (goal.at.returns-in-None c).After-leads_at (found.Enters _ c.in-Enters.back) c.in-Enters.is

pub returns-in-Returns : goal.returns-in-Returns
returns-in-Returns c = seen (goal.at.returns-in-Returns c).After-leads_at found.Returns c.in-Returns.is

pub returns-in-Stuck : goal.returns-in-Stuck
returns-in-Stuck c = seen (goal.at.returns-in-Stuck c).After-leads_at found.Stuck c.in-Stuck.is
