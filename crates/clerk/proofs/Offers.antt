-- The tables that are lent are those that the file holds.
-- Assumes nothing.
use mathlib.Core.Path.{◌≡◌}
use mathlib.Core.List.{List}
use Prim.Native.Nat.{ℕ}
use Rattle.rules.specs.declared.Names.{Names}
use Rattle.rules.specs.declared.Program.{Program}
use Rattle.rules.specs.Lent.{lent}
use Rattle.tell.specs.Files.{table_in}
use Rattle.clerk.specs.Steps.{held_offer}

pub lent_held : (n : Names) (p : Program) (file instructions : List ℕ) → n.code.now ≡ table_in file 0 → n.symbols.now ≡ table_in file 1 → n.functions.now ≡ table_in file 2
    → n.relocations.now ≡ table_in file 3 → p.instructions.now ≡ instructions → p.func_info.now ≡ table_in file 6 → p.line_info.now ≡ table_in file 7
    → lent n p ≡ held_offer file instructions
lent_held n p file instructions a b d e f g h = rw (a, b, d, e, f, g, h)
