-- What `link` returned and wrote keeps the path: demand 3 of the entry itself. And what `link_pieces` did is a yes of the examiner.
-- Assumes nothing.
use mathlib.Core.Path.{◌≡◌, sym, ap, subst, ◌∙◌}
use mathlib.Core.List.{List}
use Prim.Native.Nat.{ℕ}
use Rattle.std.specs.Prelude.{Result}
use Rattle.rules.specs.declared.Places.{Places}
use Rattle.rules.specs.declared.Refusal.{Refusal}
use Rattle.rules.specs.Bytes.{little, AreBytes}
use Rattle.rules.specs.Answers.{reply, reply_of}
use Rattle.rules.specs.Rows.{Offered}
use Rattle.rules.specs.Entries.{LinkResult, link_entry, PiecesResult, link_pieces_entry}
use Rattle.rules.specs.Pieces.{list_rows}
use Rattle.rules.specs.Examine.{examine_entry}
use Rattle.rules.specs.Demand3.{PathKept, shown_of}
use Rattle.rules.proofs.Demand3.{demand_3}
use Rattle.rules.proofs.Verdicts.{linked_examined}
use Rattle.rules.specs.Lent.{Buffers, lent_by}
use Rattle.linker.specs.declared.Listed.{Listed}
use Rattle.linker.specs.Linker.{list_answer, Outcomes, ListedOutcomes}

-- the answer and the outputs, as `link` promises them
abbrev pub said : Result Places Refusal → Buffers → LinkResult
said a b = record { reply = reply_of a; image = b.image; func_info = b.funcs; line_info = b.lines }

pub link_keeps_path : (o : Offered) (root : ℕ) (b b' : Buffers) (a : Result Places Refusal) → Outcomes b' a (link_entry little o root (lent_by b)) → AreBytes o.instructions
    → (reply_of a).number ≡ 0 → PathKept little o root (said a b')
link_keeps_path o root b b' a out are ok =
    subst (PathKept little o root) (λ j. record { reply = sym out.reply j; image = sym out.image j; func_info = sym out.funcs j; line_info = sym out.lines j })
    (demand_3 little o root (lent_by b) are (sym (ap (λ r. r.number) out.reply) ∙ ok))

-- what `link_pieces` returned and wrote is a yes of the examiner, with the list as its bytes show it
abbrev pub said_with : Result Places Refusal → Buffers → List ℕ → PiecesResult → PiecesResult
said_with a b pieces r = record { link = said a b; list = r.list; pieces = pieces }

pub link_pieces_examined : (o : Offered) (root size : ℕ) (b b' : Buffers) (pieces : List ℕ) (r : Result Listed Refusal)
    → ListedOutcomes b' pieces r (link_pieces_entry little o root (lent_by b) size) → AreBytes o.instructions → (reply_of (list_answer r)).number ≡ 0
    → examine_entry little o root (shown_of (said_with (list_answer r) b' pieces (link_pieces_entry little o root (lent_by b) size))) ≡ reply 0 (list_rows pieces) 0 0
link_pieces_examined o root size b b' pieces r out are ok =
    subst (λ (p : PiecesResult). examine_entry little o root (shown_of p) ≡ reply 0 (list_rows p.pieces) 0 0)
    (λ j. record { link = record { reply = sym out.outcomes.reply j; image = sym out.outcomes.image j; func_info = sym out.outcomes.funcs j; line_info = sym out.outcomes.lines j }; list = (link_pieces_entry little o root (lent_by b) size).list; pieces = sym out.pieces j })
    (linked_examined little o root (lent_by b) are size (sym (ap (λ x. x.number) out.outcomes.reply) ∙ ok))
