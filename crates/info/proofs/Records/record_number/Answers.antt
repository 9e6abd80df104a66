-- The test is the definition's.
use Rattle.std.proofs.Common.{sym, ◌∙◌}
use Rattle.rules.specs.Readers.{record_reply}
use Rattle.info.proofs.Records.record_number.Goals as goal

pub returns-then-not-has_record : goal.returns-then-not-has_record
unfolding record_reply
returns-then-not-has_record c = simp (sym c.has_record.ensures ∙ c.if-not-has_record.true) c.refusal.ensures

pub returns : goal.returns
unfolding record_reply
returns c = simp (sym c.has_record.ensures ∙ c.if-not-has_record.false)
