-- The slots are copied as bytes; the records are those of the row, moved; no sum wraps, since there is room below the limits.
use mathlib.Core.Path.{ap, ◌∙◌}
use Prim.Native.Nat.{ℕ, ◌+◌, ◌*◌}
use native.Mathlib.Omega.{arith}
use Rattle.rules.specs.Bytes.{splice}
use Rattle.rules.specs.Lent.{lent_parts, lent_image}
use Rattle.merge.proofs.Rooms.{Places, places}
use Rattle.merge.proofs.Strays.{near_in}
use Rattle.merge.proofs.Copied.{slots_copied, funcs_moved, lines_moved}
use Rattle.merge.proofs.extend.Goals.{After-counts-more}
use Rattle.merge.proofs.extend.Goals as goal

held : (c : After-counts-more) → Places (lent_parts c.args.functions.now c.args.program) (lent_image c.args.image.now) c.args.used c.args.part c.counts-more.result
held c = places _ _ c.args.used c.args.row c.args.part _ c.requires.parts c.requires.room c.requires.begins c.counts-more.ensures

pub copy_rows-requires : goal.copy_rows-requires
copy_rows-requires c = (held (goal.at.copy_rows-requires c).After-counts-more).slots

pub link_func_info-requires : goal.link_func_info-requires
link_func_info-requires c = (held (goal.at.link_func_info-requires c).After-counts-more).function_records

pub link_line_info-requires : goal.link_line_info-requires
link_line_info-requires c =
    let h = held (goal.at.link_line_info-requires c).After-counts-more in
    let more = c.counts-more.ensures in (
      h.line_records,
      near_in _ _ c.args.row _ _ c.args.used.slots c.requires.begins.lines_are more.lines_are (omega (arith, h.most_slots, more.slots_are)) c.requires.no_stray,
    )

pub add-requires : goal.add-requires
add-requires c =
    let h = held (goal.at.add-requires c).After-counts-more in
    record { few_slots = omega (arith, h.most_slots); few_funcs = omega (arith, h.most_funcs); few_lines = omega (arith, h.most_lines) }

pub returns-clause-written : goal.returns-clause-written
returns-clause-written c =
    let a = c.args in
    let begins = c.requires.begins in
    let more = c.counts-more.ensures in record {
      image_is = c.copy_rows.ensures.copied ∙ ap (splice _ (8 * a.used.slots)) (slots_copied a.functions.now a.row _ _ _ begins.slots_are more.slots_are);
      funcs_is = c.link_func_info.ensures ∙ ap (splice _ (8 * a.used.funcs)) (funcs_moved a.functions.now a.row _ _ _ a.used.slots begins.funcs_are more.funcs_are);
      lines_is = c.link_line_info.ensures ∙ ap (splice _ (16 * a.used.lines)) (lines_moved a.functions.now a.row _ _ _ a.used.slots begins.lines_are more.lines_are);
      counts = rw c.add.ensures (record {
        slots_are = ap (λ (n : ℕ). a.used.slots + n) more.slots_are;
        funcs_are = ap (λ (n : ℕ). a.used.funcs + n) more.funcs_are;
        lines_are = ap (λ (n : ℕ). a.used.lines + n) more.lines_are;
      });
    }
