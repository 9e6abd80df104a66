-- One case for each kind, each the definition's; a call byte by the test of a call.
use mathlib.Core.Path.{◌≡◌, sym, ap, ◌∙◌}
use mathlib.Core.Option.{Option, some}
use Prim.Native.Nat.{ℕ}
use lib.IntN.{ℤ, pos, ◌+ℤ◌}
use mir.Syntax.{w32, w64}
use mir.ValLaws.{to_z-of_z}
use mir.Val.{to_z, of_z, SFits}
use Rattle.rules.specs.declared.Kind.{Kind}
use Rattle.rules.specs.declared.Kind.TheVariants.{Plain, WideLoad, JumpByOffset, JumpByImmediate, Conditional, CallByte, Exit, Unknown}
use Rattle.rules.specs.Object.{Insn}
use Rattle.rules.specs.Bytes.{little, slot_in}
use Rattle.rules.specs.Walk.{Move, goes, kind, by_kind}
use Rattle.walk.specs.Moves.{leads_in}
use Rattle.walk.proofs.Leads.{by_kind_lem, calls, calls_not, chosen, entered}
use Rattle.walk.proofs.leads_at.Goals.{After-kind}
use Rattle.walk.proofs.leads_at.Goals as goal

abbrev insn : After-kind → Insn
insn n = slot_in little n.args.code.now n.args.here.0

kind_is : (n : After-kind) (k : Kind) → n.kind.result ≡ k → kind (insn n).opcode ≡ k
kind_is n k e = ap kind (sym n.opcode.ensures) ∙ sym n.kind.ensures.is ∙ e

-- the definition's case
by_kind_of : (n : After-kind) (k : Kind) → n.kind.result ≡ k → some (by_kind k (insn n) (λ d. pos n.args.slot.0 +ℤ d) (some (pos n.args.slot.0 +ℤ (pos 1 +ℤ (insn n).immediate)))) ≡ leads_in (insn n) n.args.slot.0
by_kind_of n k e = sym (by_kind_lem (insn n) n.args.slot.0 k (kind_is n k e))

went : {a b : ℤ} → a ≡ b → ◌≡◌ {A = Option (Move ℤ)} (some (goes a)) (some (goes b))
went e = ap (λ (z : ℤ). some (goes z)) e

-- a sum as the word holds it
sum : {r z : ℤ} → SFits w64 r → r ≡ z → to_z w64 (of_z w64 r) ≡ z
sum f e = to_z-of_z w64 _ f ∙ e

-- a sum with a distance that was read
sum_by : (slot : ℕ) {r d z : ℤ} → SFits w64 r → r ≡ pos slot +ℤ (pos 1 +ℤ to_z w32 (of_z w32 d)) → SFits w32 d → d ≡ z
    → to_z w64 (of_z w64 r) ≡ pos slot +ℤ (pos 1 +ℤ z)
sum_by slot f e g q = to_z-of_z w64 _ f ∙ e ∙ ap (λ (x : ℤ). pos slot +ℤ (pos 1 +ℤ x)) (to_z-of_z w32 _ g ∙ q)

pub returns-in-Plain : goal.returns-in-Plain
returns-in-Plain c =
    went (sum (record { sfits = c.ahead.type_inv }) c.ahead.ensures)
    ∙ by_kind_of (goal.at.returns-in-Plain c).After-kind Plain c.in-Plain.is

pub returns-in-WideLoad : goal.returns-in-WideLoad
returns-in-WideLoad c =
    went (sum (record { sfits = c.ahead-in-WideLoad.type_inv }) c.ahead-in-WideLoad.ensures)
    ∙ by_kind_of (goal.at.returns-in-WideLoad c).After-kind WideLoad c.in-WideLoad.is

pub returns-in-JumpByOffset : goal.returns-in-JumpByOffset
returns-in-JumpByOffset c =
    went (sum_by c.args.slot.0 (record { sfits = c.ahead-in-JumpByOffset.type_inv }) c.ahead-in-JumpByOffset.ensures (record { sfits = c.jump.type_inv }) c.jump.ensures)
    ∙ by_kind_of (goal.at.returns-in-JumpByOffset c).After-kind JumpByOffset c.in-JumpByOffset.is

pub returns-in-JumpByImmediate : goal.returns-in-JumpByImmediate
returns-in-JumpByImmediate c =
    went (sum_by c.args.slot.0 (record { sfits = c.ahead-in-JumpByImmediate.type_inv }) c.ahead-in-JumpByImmediate.ensures (record { sfits = c.immediate.type_inv }) c.immediate.ensures)
    ∙ by_kind_of (goal.at.returns-in-JumpByImmediate c).After-kind JumpByImmediate c.in-JumpByImmediate.is

pub returns-in-Conditional : goal.returns-in-Conditional
returns-in-Conditional c =
    chosen
    (sum_by c.args.slot.0 (record { sfits = c.ahead-on_yes.type_inv }) c.ahead-on_yes.ensures (record { sfits = c.jump-in-Conditional.type_inv }) c.jump-in-Conditional.ensures)
    (sum (record { sfits = c.ahead-on_no.type_inv }) c.ahead-on_no.ensures)
    ∙ by_kind_of (goal.at.returns-in-Conditional c).After-kind Conditional c.in-Conditional.is

pub returns-else-insn_is_call : goal.returns-else-insn_is_call
returns-else-insn_is_call c =
    went (sum (record { sfits = c.ahead-else-insn_is_call.type_inv }) c.ahead-else-insn_is_call.ensures)
    ∙ sym (calls_not (insn (goal.at.returns-else-insn_is_call c).After-kind) c.args.slot.0 (kind_is (goal.at.returns-else-insn_is_call c).After-kind CallByte c.in-CallByte.is)
    (sym c.insn_is_call.ensures ∙ c.if-insn_is_call.false))

pub returns-then-insn_is_call : goal.returns-then-insn_is_call
returns-then-insn_is_call c =
    entered
    (sum_by c.args.slot.0 (record { sfits = c.ahead-first.type_inv }) c.ahead-first.ensures (record { sfits = c.immediate-then-insn_is_call.type_inv }) c.immediate-then-insn_is_call.ensures)
    (sum (record { sfits = c.ahead-then-insn_is_call.type_inv }) c.ahead-then-insn_is_call.ensures)
    ∙ sym (calls (insn (goal.at.returns-then-insn_is_call c).After-kind) c.args.slot.0 (kind_is (goal.at.returns-then-insn_is_call c).After-kind CallByte c.in-CallByte.is)
    (sym c.insn_is_call.ensures ∙ c.if-insn_is_call.true))

pub returns-in-Exit : goal.returns-in-Exit
returns-in-Exit c =
    by_kind_of (goal.at.returns-in-Exit c).After-kind Exit c.in-Exit.is

pub returns-in-Unknown : goal.returns-in-Unknown
returns-in-Unknown c =
    by_kind_of (goal.at.returns-in-Unknown c).After-kind Unknown c.in-Unknown.is
