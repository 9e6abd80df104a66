-- Three copies: a row's slots and records, as bytes, are those that the definitions read there.
use mathlib.Core.Path.{ap, ◌∙◌}
use Rattle.rules.specs.Bytes.{splice}
use Rattle.rules.specs.Lent.{lent_parts, lent_image}
use Rattle.merge.specs.Merge.{unused}
use Rattle.merge.proofs.Rooms.{Places, places}
use Rattle.merge.proofs.Copied.{slots_copied, funcs_copied, lines_copied}
use Rattle.merge.proofs.begin.Goals.{After-counts-more}
use Rattle.merge.proofs.begin.Goals as goal

held : (c : After-counts-more) → Places (lent_parts c.args.functions.now c.args.program) (lent_image c.args.image.now) unused c.args.part c.counts-more.result
held c = places _ _ unused c.args.row c.args.part _ c.requires.parts c.requires.room c.requires.begins c.counts-more.ensures

pub copy_rows-requires : goal.copy_rows-requires
copy_rows-requires c = (held (goal.at.copy_rows-requires c).After-counts-more).slots

pub copy_rows-requires-2 : goal.copy_rows-requires-2
copy_rows-requires-2 c = (held (goal.at.copy_rows-requires-2 c).After-counts-more).function_records

pub copy_rows-requires-3 : goal.copy_rows-requires-3
copy_rows-requires-3 c = (held (goal.at.copy_rows-requires-3 c).After-counts-more).line_records

pub returns-clause-written : goal.returns-clause-written
returns-clause-written c =
    let a = c.args in
    let begins = c.requires.begins in
    let more = c.counts-more.ensures in
    let h = held (goal.at.returns-clause-written c).After-counts-more in record {
      image_is = c.copy_rows.ensures.copied ∙ ap (splice _ 0) (slots_copied a.functions.now a.row _ _ _ begins.slots_are more.slots_are);
      funcs_is = c.copy_rows-2.ensures.copied
          ∙ ap (splice _ 0) (funcs_copied a.functions.now a.row _ _ _ c.copy_rows-2.ensures.bytes begins.funcs_are more.funcs_are h.function_records.inside);
      lines_is = c.copy_rows-3.ensures.copied
          ∙ ap (splice _ 0) (lines_copied a.functions.now a.row _ _ _ c.copy_rows-3.ensures.bytes begins.lines_are more.lines_are h.line_records.inside);
      counts = more;
    }
