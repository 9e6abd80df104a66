-- The table of every opcode's kind: the kinds of the table of codes, which `kind_at_lem` tests.
-- Assumes nothing.
use mathlib.Core.Path.{◌≡◌, refl, ◌∙◌}
use mathlib.Core.List.{List, map}
use Prim.Native.Nat.{ℕ, ◌<◌}
use lib.ListN.{length, get_or}
use Rattle.std.proofs.lemmas.List.{get_or-map}
use Rattle.rules.specs.declared.Kind.{Kind}
use Rattle.rules.specs.Walk.{kind}
use Rattle.insn.specs.Kinds.{codes, kind_at, kind_at_lem}

unfoldable pub kinds : List Kind
kinds = map kind_at codes

codes_length : length codes ≡ 256
unfolding codes
codes_length = refl

pub kind_of_code : (opcode : ℕ) (d : Kind) → opcode < 256 → get_or kinds opcode d ≡ kind_at (get_or codes opcode 0)
unfolding kinds
kind_of_code opcode d h = let l : opcode < length codes = rw codes_length h in get_or-map kind_at codes opcode 0 d l

-- the rule, tested once over the whole table, at each of its entries
pub kinds_at : (opcode : ℕ) (d : Kind) → opcode < 256 → get_or kinds opcode d ≡ kind opcode
kinds_at opcode d h = kind_of_code opcode d h ∙ kind_at_lem opcode h
