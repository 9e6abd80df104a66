-- The invariant: what adds the lines that are left adds all. Assumes nothing.
use Rattle.std.proofs.Common.{◌≡◌, ◌*◌, drop, take}
use Rattle.tell.specs.Lines.{line_room, added, spoken}
use Rattle.tell.proofs.lines.spoken_line.Given as goal

abbrev pub invariant-loop-i : goal.invariant-loop-i
invariant-loop-i l = added (spoken l.text (drop l.i l.lines) l.numbers (3 * l.i)) l.words ≡ take line_room (spoken l.text l.lines l.numbers 0)
