-- Wiped first, and again where the step refuses: what the outputs hold is the entry's definition, whatever the answer.
use mathlib.Core.Path.{◌≡◌, sym, ap, ◌∙◌}
use mathlib.Core.Option.{none, some}
use Rattle.std.proofs.lemmas.Result.{err_from_is_err_and}
use Rattle.std.proofs.Common.{rules}
use Rattle.rules.specs.Answers.{refusal_in, refused_reply}
use Rattle.rules.specs.Lent.{lent}
use Rattle.rules.specs.Rows.{link_refusal}
use Rattle.linker.proofs.Whole as whole
use Rattle.linker.proofs.link_starts.Goals.{In_ok-check_link}
use Rattle.linker.proofs.link_starts.Goals as goal

-- the check refuses nothing
passed : (c : In_ok-check_link) → link_refusal (lent c.args.names c.args.program) c.args.root ≡ none
passed c = sym c.check_link.ensures ∙ ap refusal_in c.in_ok-check_link.was

pub returns-in_err-check_link-clause-outcomes : goal.returns-in_err-check_link-clause-outcomes
returns-in_err-check_link-clause-outcomes c =
    let p = err_from_is_err_and c.from_residual.result c.from_residual.ensures.1 in
    rw (p.1, p.2)
    (whole.entry_refused (lent c.args.names c.args.program) c.args.root c.wipe_all.ensures.wiped _ (sym (ap refusal_in c.in_err-check_link.was) ∙ c.check_link.ensures))

pub link_checked-linked-requires : goal.link_checked-linked-requires
link_checked-linked-requires c = whole.entry_starts (lent c.args.names c.args.program) c.args.root c.wipe_all.ensures.wiped (passed (goal.at.link_checked-linked-requires c).In_ok-check_link)

pub returns-in-Ok-clause-outcomes : goal.returns-in-Ok-clause-outcomes
returns-in-Ok-clause-outcomes c =
    whole.entry_done (lent c.args.names c.args.program) c.args.root c.wipe_all.ensures.wiped (passed (goal.at.returns-in-Ok-clause-outcomes c).In_ok-check_link) c.in-Ok.ensures

pub returns-in-Err-clause-outcomes : goal.returns-in-Err-clause-outcomes
returns-in-Err-clause-outcomes c =
    whole.entry_wiped (lent c.args.names c.args.program) c.args.root c.wipe_all.ensures.wiped (passed (goal.at.returns-in-Err-clause-outcomes c).In_ok-check_link) c.in-Err.ensures
    (record { image = search rules; funcs = search rules; lines = search rules })
