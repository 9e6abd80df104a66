-- The kinds by number, and the table of every opcode's.
-- Assumes nothing.
use Rattle.std.specs.Prelude.{cond, ◌≡◌, refl, List, ℕ, ◌<◌, eqb, get_or}
use Rattle.std.proofs.Common.{ap, ◌∙◌}
use Rattle.rules.specs.declared.Kind.{Kind}
use Rattle.rules.specs.declared.Kind.TheVariants.{Plain, WideLoad, JumpByOffset, JumpByImmediate, Conditional, CallByte, Exit, Unknown}
use Rattle.rules.specs.Walk.{kind}
use Rattle.insn.specs.Table.{values, values_at}

abbrev pub code_number : Kind → ℕ
code_number Plain = 0
code_number WideLoad = 1
code_number JumpByOffset = 2
code_number JumpByImmediate = 3
code_number Conditional = 4
code_number CallByte = 5
code_number Exit = 6
code_number Unknown = 7

abbrev pub kind_at : ℕ → Kind
kind_at n =
    cond (eqb n 0) Plain
    (cond (eqb n 1) WideLoad
    (cond (eqb n 2) JumpByOffset
    (cond (eqb n 3) JumpByImmediate
    (cond (eqb n 4) Conditional
    (cond (eqb n 5) CallByte
    (cond (eqb n 6) Exit
    Unknown))))))

kind_back : (k : Kind) → kind_at (code_number k) ≡ k
kind_back Plain = refl
kind_back WideLoad = refl
kind_back JumpByOffset = refl
kind_back JumpByImmediate = refl
kind_back Conditional = refl
kind_back CallByte = refl
kind_back Exit = refl
kind_back Unknown = refl

abbrev pub code_of : ℕ → ℕ
code_of opcode = code_number (kind opcode)

unfoldable pub codes : List ℕ
codes = values code_of 0 256

-- the rule, tested once over the whole table, at each of its entries
pub kind_at_lem : (opcode : ℕ) → opcode < 256 → kind_at (get_or codes opcode 0) ≡ kind opcode
unfolding codes
kind_at_lem opcode h = ap kind_at (values_at code_of 256 opcode 0 h) ∙ kind_back _
