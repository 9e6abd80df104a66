-- Outside the image there is nothing; inside, the slot of the lent bytes is the image's.
use mathlib.Core.Path.{◌≡◌, sym, ap, ◌∙◌}
use Prim.Native.Nat.{ℕ}
use mir.Syntax.{w64}
use mir.ValLaws.{to_z-of_z}
use Rattle.std.specs.Prelude.{Some}
use Rattle.rules.specs.Walk.{in_image}
use Rattle.walk.specs.Moves.{move_of, image_in}
use Rattle.walk.proofs.Leads.{seen, sees}
use Rattle.walk.proofs.Places.{slot_found}
use Rattle.walk.proofs.ImageGroundGround.look.Goals.{After-slot_in}
use Rattle.walk.proofs.ImageGroundGround.look.Goals as goal

sees_here : (n : After-slot_in) → seen n.args.self.now.ground n.slot_in.result ≡ in_image (image_in n.args.self.now.image.now n.args.self.now.slots) n.args.at
sees_here n =
    let a = n.args in
    sees a.self.now.ground a.at n.slot_in.result (n.slot_in.ensures ∙ ap (slot_found a.self.now.slots) (to_z-of_z w64 _ n.ranges.at))

pub returns-in_err-slot_in : goal.returns-in_err-slot_in
returns-in_err-slot_in c =
    ap move_of c.from_residual.ensures ∙ ap (seen c.args.self.now.ground) (sym c.in_err-slot_in.was) ∙ sees_here (goal.at.returns-in_err-slot_in c).After-slot_in

pub returns : goal.returns
returns c =
    c.leads_at.ensures ∙ ap (λ (k : ℕ). seen c.args.self.now.ground (Some k)) c.slot_at-slot.ensures ∙ ap (seen c.args.self.now.ground) (sym c.in_ok-slot_in.was) ∙ sees_here (goal.at.returns c).After-slot_in
