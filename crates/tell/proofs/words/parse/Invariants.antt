-- The invariant: the digits that are left decide the number. Assumes nothing.
use Rattle.std.proofs.Common.{◌≡◌, drop}
use Rattle.tell.specs.Words.{digits_in, number_in}
use Rattle.tell.proofs.words.parse.Given as goal

abbrev pub invariant-loop-b : goal.invariant-loop-b
invariant-loop-b l = number_in l.text ≡ digits_in l.n (drop l.b-index l.text)
