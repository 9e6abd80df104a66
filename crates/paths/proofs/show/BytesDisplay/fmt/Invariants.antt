-- The digits of the bytes so far.
use Rattle.std.proofs.Common.{take, ◌++◌, codes}
use Rattle.std.specs.Fmt.{HasWritten, IsPlainFormatter}
use Rattle.paths.specs.Shown.{hex_digits}
use Rattle.paths.proofs.show.BytesDisplay.fmt.Given as goal

abbrev pub invariant-loop-b : goal.invariant-loop-b
invariant-loop-b g l =
    IsPlainFormatter l.fn.f → HasWritten g.W.Write.write_str_gives l.fn.f (codes "  " ++ hex_digits (take l.b-index l.bytes)) l.f
