-- The invariant: what adds the rest of the text's line adds the whole. Assumes nothing.
use Rattle.std.proofs.Common.{◌≡◌, ◌+◌, ◌≤◌, drop}
use Rattle.tell.specs.Lines.{added, words_in}
use Rattle.tell.proofs.lines.Words.push_line.Given as goal

abbrev pub invariant-loop-t : goal.invariant-loop-t
invariant-loop-t l =
    (l.j ≤ l.first + l.t-index)
    × (added (words_in (drop l.t-index l.text) l.numbers l.j) l.self ≡ added (words_in l.text l.numbers l.first) l.fn.self)
