-- The invariant: what adds the bytes that are left adds all. Assumes nothing.
use Rattle.std.proofs.Common.{◌≡◌, drop}
use Rattle.tell.specs.Lines.{added, bytes_words}
use Rattle.tell.proofs.Spelled.{over}
use Rattle.tell.proofs.lines.Words.push_bytes.Given as goal

abbrev pub invariant-loop-b : goal.invariant-loop-b
invariant-loop-b l = added (over l.spaced (drop l.b-index l.b-items)) l.self ≡ added (bytes_words 4 l.spaced l.n) l.fn.self
