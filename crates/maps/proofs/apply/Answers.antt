-- The stores are the change of the decoded slots: source register 1, then the fd; or 2, the next immediate, last the fd.
use mathlib.Core.Path.{◌∙◌}
use Rattle.std.proofs.Common.{rules, FitsSigned, w32}
use Rattle.maps.proofs.Rewriting.{plain_changed, value_changed}
use Rattle.maps.proofs.apply.Goals.{in-None, in-Some}
use Rattle.maps.proofs.apply.Goals as goal

pub returns : goal.returns
returns c =
    let fd : FitsSigned w32 c.args.change.fd = search rules in
    elim c.match-change.branch [
      | in-None w ↦ plain_changed c.args.change fd w.in-None.is c.requires (w.instructions-is ∙ w.set_source.ensures) c.set_immediate-2.ensures
      | in-Some w ↦
          (let value : FitsSigned w32 w.in-Some.value = search rules in
          value_changed c.args.change fd value w.in-Some.is c.requires w.next.ensures w.set_source-in-Some.ensures (w.instructions-is ∙ w.set_immediate.ensures) c.set_immediate-2.ensures)
    ]
