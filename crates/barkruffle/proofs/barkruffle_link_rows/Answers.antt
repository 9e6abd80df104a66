-- The rows are laid into an array of the entry's own, and what lies there is linked: the same answers, by `rows_link`.
use Rattle.std.proofs.Common.{subst}
use Rattle.rules.specs.Lent.{lent_image, lent_by}
use Rattle.barkruffle.specs.Promises.{LinkTold}
use Rattle.barkruffle.proofs.Rows.{rows_link}
use Rattle.barkruffle.proofs.barkruffle_link_rows.Goals as goal

pub returns-clause-told : goal.returns-clause-told
returns-clause-told c =
    let a = c.args in
    let p = a.program in
    subst
    (LinkTold a.places.now c.barkruffle_link.new.places (lent_image c.barkruffle_link.new.image) c.barkruffle_link.result)
    (rows_link a.code.now a.functions.now a.relocations.now p.instructions.now p.func_info.now p.line_info.now a.root
    (lent_by (lent_image a.image.now))
    a.symbols.now _ c.lay_rows-count.new.out c.lay_rows-count.result c.lay_rows-count.ensures.0 c.lay_rows-count.ensures.1)
    c.barkruffle_link.ensures.told
