-- The invariant: the rows before i are laid out.
use Rattle.symbols.proofs.Laws.{Laid}
use Rattle.symbols.proofs.lay_rows.Given as goal

abbrev pub invariant-loop-i : goal.invariant-loop-i
invariant-loop-i l = Laid l.rows l.fn.out l.i l.out
