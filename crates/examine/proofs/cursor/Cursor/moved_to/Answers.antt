-- The cursor only moves on: a later place has no fewer rows before it.
use mathlib.Core.Path.{◌≡◌, ◌∙◌}
use mathlib.Core.Bool.{true, false}
use native.Mathlib.Omega.{arith}
use borrow.Author.Rules.{rules}
use borrow.Author.Tests.{tests}
use Rattle.std.proofs.lemmas.Iterator.{first_from_Range}
use Rattle.rows.specs.Matches.{relocation_is_before}
use Rattle.examine.proofs.Cursors.{before_rises, moved}
use Rattle.examine.proofs.cursor.Cursor.moved_to.Goals as goal

pub invariant_of-result : goal.invariant_of-result
invariant_of-result c =
    let s = c.args.self in
    let t = s.relocations.now in
    let place = c.args.offset.0 in record {
      sound = s.sound;
      stands = c.unwrap_or-row.ensures
          ∙ moved t s.sound s.home place s.row c.find.result (omega (arith, s.stands, before_rises t s.sound s.home s.offset.0 place c.requires))
          (first_from_Range _ _ _ c.find.result (λ k. relocation_is_before t s.home place k ≡ false) (λ k. relocation_is_before t s.home place k ≡ true) c.find.ensures.ran
          (λ x q k. search (rules, tests)) (λ x q k. search (rules, tests)));
    }
