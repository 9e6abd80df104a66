-- A slot of an image against its source slot, by what the link makes of that.
-- Assumes nothing.
use Rattle.std.specs.Prelude.{◌≡◌, Bool, false, not, cond, List, ℕ, ◌+◌, ◌*◌, ◌≤◌, ◌<◌, eqb, length}
use Rattle.std.proofs.Math.Option.{Option, none, some}
use Rattle.rules.specs.declared.Table.TheVariants.{Functions}
use Rattle.std.specs.Prelude as prelude
use Rattle.std.specs.Prelude.{Some, None, Ok, Err}
use Rattle.rules.specs.declared.Refusal.{Refusal}
use Rattle.rules.specs.Object.{Insn}
use Rattle.rules.specs.Bytes.{slot_size}
use Rattle.rules.specs.Faithful.{Piece}
use Rattle.rules.specs.Answers.{Reply, reply, refused_reply}
use Rattle.rules.specs.Rows.{whole_rows, most_image_slots, summed, Offered, function_slots}
use Rattle.rules.specs.Lookups.{Checked}
use Rattle.rules.specs.Examine.{same_form, same_head, same_slot, target_of, starts_at}
use Rattle.resolve.specs.declared.Pointer.{Pointer}
use Rattle.std.proofs.Props.{props}
use Rattle.rules.specs.Lookups.{Rising}
use Rattle.pieces.specs.Tiling.{StartsRise}

-- a slot without a relocation whose opcode is not a call's
abbrev pub is_plain : (prelude.Option ℕ) → Insn → Bool
is_plain None i = not (eqb i.opcode 0x85)
is_plain (Some k) i = false

-- slot i of some bytes, and slot j of others
pub record Slots (a : List ℕ) (i : ℕ) (b : List ℕ) (j : ℕ) : Type 0 where
  pub first : slot_size * i + slot_size ≤ length a
  pub second : slot_size * j + slot_size ≤ length b

-- that starts rise is a fact: there is one proof of it at most
pub rise_prop : (pieces : List ℕ) → IsProp (StartsRise pieces)
unfolding Rising
rise_prop pieces = Prim.hlevel props

-- a callee's row is a number of 32 bits
abbrev pub Callable : prelude.Result (prelude.Option Pointer) Refusal → Type 0
Callable (Ok None) = Unit {0}
Callable (Ok (Some p)) = p.callee < 0x1_0000_0000
Callable (Err r) = Unit {0}

-- a row whose first slot in table 6 is `first`, and a piece of it that starts there, inside the image
pub record Visits (o : Offered) (image pieces : List ℕ) (row start first : ℕ) : Type 0 where
  pub tables : Checked o
  pub row_inside : row < whole_rows Functions o.functions
  pub first_is : first ≡ summed (function_slots o.functions) 0 row
  pub inside : slot_size * (start + function_slots o.functions row) ≤ length image
  pub low : start + function_slots o.functions row ≤ most_image_slots
  pub rise : StartsRise pieces

-- `slot_wrong` by the answer of the code: slot `slot` of piece k, at `here` in the image
module _ (pieces : List Piece) (k slot here : ℕ) where
  abbrev pub target_wrong : Insn → ℕ → Option Reply
  target_wrong i callee = cond (starts_at (target_of here i) callee pieces) none (some (reply 41 k slot callee))

  abbrev pub call_wrong : Insn → Insn → ℕ → Option Reply
  call_wrong source i callee = cond (same_head i source) (target_wrong i callee) (some (reply 39 k slot here))

  abbrev pub reference_wrong : Insn → Insn → ℕ → Option Reply
  reference_wrong source i callee =
      cond (same_form i source) (cond (eqb i.source 4) (target_wrong i callee) (some (reply 40 k slot callee))) (some (reply 39 k slot here))

  abbrev pub meant_wrong : Insn → Insn → prelude.Result (prelude.Option Pointer) Refusal → Option Reply
  meant_wrong source i (Ok None) = cond (same_slot i source) none (some (reply 39 k slot here))
  meant_wrong source i (Ok (Some p)) = cond p.reference (reference_wrong source i p.callee) (call_wrong source i p.callee)
  meant_wrong source i (Err r) = some (refused_reply r)
