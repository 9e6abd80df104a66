-- What the code finds at a place, as the definitions' own.
-- Assumes nothing.
use Rattle.std.specs.Prelude as prelude
use Rattle.std.specs.Prelude.{◌≡◌, List, ℕ, ◌*◌, ◌≤◌, ℤ, pos, ◌+ℤ◌, length, take}
use Rattle.std.proofs.Math.Option.{Option, none, some}
use Rattle.rules.specs.Object.{Insn}
use Rattle.rules.specs.Bytes.{little, slot_size, decoded}
use Rattle.rules.specs.Walk.{Move, goes, chooses, enters, returns, stuck, leads, within}
use Rattle.walk.specs.declared.Move as found
use Rattle.walk.specs.declared.Move.TheVariants.{Goes, Chooses, Enters, Returns, Stuck}

module _ {Place : Type 0} where
  abbrev pub moved : found.Move Place → Move Place
  moved (Goes next) = goes next
  moved (Chooses onYes onNo) = chooses onYes onNo
  moved (Enters first back) = enters first back
  moved Returns = returns
  moved Stuck = stuck

  -- what one sees at a place; nothing outside
  abbrev pub move_of : prelude.Option (found.Move Place) → Option (Move Place)
  move_of prelude.None = none
  move_of (prelude.Some move) = some (moved move)

  -- what one sees at a number, of so many slots of which no more is known
  abbrev pub in_slots : ℕ → ℤ → Option (Move Place)
  in_slots slots at = within slots (λ n. stuck) at

-- an image of so many slots at the start of a buffer
pub record Ground (image : List ℕ) (slots : ℕ) : Type 0 where
  pub inside : slot_size * slots ≤ length image

abbrev pub image_in : List ℕ → ℕ → List Insn
image_in image slots = decoded little (take (slot_size * slots) image)

-- where a slot of an image leads
abbrev pub leads_in : Insn → ℕ → Option (Move ℤ)
leads_in i slot = some (leads i (λ d. pos slot +ℤ d) (some (pos slot +ℤ (pos 1 +ℤ i.immediate))))
