-- The rows before the cursor are before the place, and those after it are after: the row is there or nowhere.
use mathlib.Core.Path.{sym, ◌∙◌}
use Rattle.examine.proofs.Cursors.{past_end, there, not_there}
use Rattle.examine.proofs.cursor.Cursor.relocation.Goals.{else-self-n-via-then-self-n+else-is_relocation, else-self-n-via-else-self-n}
use Rattle.examine.proofs.cursor.Cursor.relocation.Goals as goal

pub returns-then-is_relocation : goal.returns-then-is_relocation
returns-then-is_relocation c =
    let s = c.args.self in
    there s.relocations.now s.sound s.home s.offset.0 s.row s.stands c.if-self-n.true (sym c.is_relocation.ensures ∙ c.if-is_relocation.true)

pub returns : goal.returns
returns c =
    let s = c.args.self in
    elim c.else-self-n.branch [
      | else-self-n-via-then-self-n+else-is_relocation w ↦ not_there s.relocations.now s.sound s.home s.offset.0 s.row s.stands w.if-self-n.true (sym w.is_relocation.ensures ∙ w.if-is_relocation.false)
      | else-self-n-via-else-self-n w ↦ past_end s.relocations.now s.sound s.home s.offset.0 s.row s.stands w.if-self-n.false
    ]
