-- The linker's cycle of calls meets its contracts: each way out is one lemma of proofs/Steps and proofs/Ways.
use mathlib.Core.Path.{◌≡◌, sym, ap, subst, ◌∙◌}
use mathlib.Core.Bool.{true}
use mathlib.Core.Option.{none}
use lib.ListN.{length}
use Prim.Native.Nat.{ℕ, ◌+◌, ◌*◌, ◌≤◌, ◌<◌}
use native.Mathlib.Omega.{arith}
use Rattle.std.proofs.Common.{rules}
use Rattle.std.specs.Prelude.{Ok, Err, Some}
use Rattle.std.proofs.lemmas.Result.{err_from_is_err_and}
use Rattle.rules.specs.declared.Image.{Image}
use Rattle.rules.specs.Object.{meaning}
use Rattle.rules.specs.Bytes.{little}
use Rattle.rules.specs.Tables.{object_of}
use Rattle.rules.specs.Lent.{lent, lent_code, lent_image}
use Rattle.rules.specs.Rows.{tables_of, function_section, function_offset, function_slots}
use Rattle.rules.specs.Lookups.{found_of, relocation_with}
use Rattle.resolve.specs.Means.{Means}
use Rattle.resolve.specs.Resolves.{Resolves}
use Rattle.rows.proofs.Laws.{found_some, found_none}
use Rattle.merge.specs.Merge.{room_bytes, stray_in, SameOutputs}
use Rattle.linker.specs.Linker.{Placed}
use Rattle.linker.proofs.Steps.{Inv}
use Rattle.linker.proofs.Steps as steps
use Rattle.linker.proofs.Ways as ways
use Rattle.linker.proofs.+link_function_placed_relocate.Goals.{relocate-Joined-cur-n, relocate-then-cur-n, relocate-else-cur-n+then-is_relocation, relocate-else-cur-n+else-is_relocation+then-not-is_relocation_before, relocate-After-resolve, relocate-in-Some+in_ok-now, relocate-in_default}
use Rattle.linker.proofs.+link_function_placed_relocate.Goals as goal

-- ---- link_function
pub link_function-returns-then-not-has_room-clause-added : goal.link_function-returns-then-not-has_room-clause-added
link_function-returns-then-not-has_room-clause-added t c =
    ways.out_of_room c.requires (sym c.has_room.ensures ∙ c.if-not-has_room.true) _ c.refusal.ensures

pub link_function-part_of-part-requires : goal.link_function-part_of-part-requires
link_function-part_of-part-requires t c = ways.row_sums c.requires.asks.checked c.requires.asks.row_in

pub link_function-stray_line-requires : goal.link_function-stray_line-requires
link_function-stray_line-requires t c = ways.add_lined c.requires c.part_of-part.result c.part_of-part.ensures

pub link_function-overflow_cast-k : goal.link_function-overflow_cast-k
link_function-overflow_cast-k t c =
    record { fits = omega (arith, ways.stray_small c.requires _ (found_some _ _ (sym c.stray_line.ensures ∙ c.in-Some.is))) }

pub link_function-returns-in-Some-clause-added : goal.link_function-returns-in-Some-clause-added
link_function-returns-in-Some-clause-added t c =
    ways.line_strays c.requires (sym c.has_room.ensures ∙ c.if-not-has_room.false) _ (found_some _ _ (sym c.stray_line.ensures ∙ c.in-Some.is)) _ c.refusal-in-Some.ensures

pub link_function-extend-next-requires : goal.link_function-extend-next-requires
link_function-extend-next-requires t c =
    ways.add_extends c.requires (sym c.has_room.ensures ∙ c.if-not-has_room.false) (found_none _ (sym c.stray_line.ensures ∙ c.in_default.is)) c.part_of-part.ensures

pub link_function-relocate-requires : goal.link_function-relocate-requires
link_function-relocate-requires t c =
    let room = sym c.has_room.ensures ∙ c.if-not-has_room.false in
    let fine : stray_in c.args.names.functions.now c.args.program.line_info.now c.args.row ≡ none = found_none _ (sym c.stray_line.ensures ∙ c.in_default.is) in
    (rw (← c.decreases) (omega (arith, ways.next_falls c.requires room fine c.extend-next.ensures.written)), ways.next_visits c.requires room fine c.extend-next.ensures.written c.slot_at.ensures (c.slot_at-2.ensures ∙ c.part_of-part.ensures.slots_are))

pub link_function-returns-clause-added : goal.link_function-returns-clause-added
link_function-returns-clause-added t c =
    ways.next_done c.requires (sym c.has_room.ensures ∙ c.if-not-has_room.false) (found_none _ (sym c.stray_line.ensures ∙ c.in_default.is)) c.extend-next.ensures.written _ _ c.slot_at.ensures c.relocate.ensures.visited

-- ---- relocate
kept : {a b d : Image} → SameOutputs a b → SameOutputs b d → SameOutputs a d
kept x y = record { slots_same = y.slots_same ∙ x.slots_same; funcs_same = y.funcs_same ∙ x.funcs_same; lines_same = y.lines_same ∙ x.lines_same }

pub relocate-loop-slot-init : goal.relocate-loop-slot-init
relocate-loop-slot-init t c =
    let b = ways.begins_at c.requires _ _ _ c.function_section-home.ensures c.function_offset-offset.ensures c.relocations_before-cur.ensures.0 c.relocations_before-cur.ensures.1 in
    (b.0, b.1, search)

pub relocate-place-at-requires : goal.relocate-place-at-requires
relocate-place-at-requires t c = omega (arith, ways.offset_low c.requires, c.function_offset-offset.ensures)

pub relocate-loop-cur-preserved : goal.relocate-loop-cur-preserved
relocate-loop-cur-preserved t c =
    (omega (arith, ways.lt_of c.loop-cur.invariant.0 c.if-cur-n.false), ways.goes_on c.requires c.loop-cur.cur c.function_section-home.ensures (ways.at_is c.function_offset-offset.ensures c.slot_at-here.ensures c.place-at.ensures.0) c.loop-cur.invariant.1 c.is_relocation_before.ensures c.if-not-is_relocation_before.false)

-- what the search found
found-is : (t : ℕ) (c : relocate-Joined-cur-n t)
    → c.if-cur-n.rel ≡ found_of (relocation_with c.args.names.relocations.now (function_section c.args.names.functions.now c.args.row) (function_offset c.args.names.functions.now c.args.row + 8 * c.loop-slot.slot))
found-is t c =
    let l = c.loop-cur in
    let there = ways.at_is c.function_offset-offset.ensures c.slot_at-here.ensures c.place-at.ensures.0 in
    elim c.if-cur-n.branch [
      | relocate-then-cur-n w ↦ w.rel-is ∙ ways.found_end c.requires _ l.cur l.invariant.1 (ways.ge_of w.if-cur-n.true)
      | relocate-else-cur-n+then-is_relocation w ↦ w.rel-is ∙ ways.found_row' c.requires l.cur c.function_section-home.ensures there l.invariant.1 (ways.lt_of l.invariant.0 w.if-cur-n.false) w.is_relocation.ensures w.if-is_relocation.true
      | relocate-else-cur-n+else-is_relocation+then-not-is_relocation_before w ↦ w.rel-is ∙ ways.found_later' c.requires l.cur c.function_section-home.ensures there l.invariant.1 (ways.lt_of l.invariant.0 w.if-cur-n.false) w.is_relocation.ensures w.if-is_relocation.false w.is_relocation_before.ensures w.if-not-is_relocation_before.true
    ]

pub relocate-resolve-requires : goal.relocate-resolve-requires
relocate-resolve-requires t c =
    let a = c.args in
    let turn : c.loop-slot.slot < function_slots c.args.names.functions.now c.args.row = search rules in
    subst (λ (n : ℕ). Resolves (lent_code a.names a.program.instructions.now) a.row a.first.0 n c.if-cur-n.rel)
    (sym c.slot_at-here.ensures) (ways.resolves c.requires c.loop-slot.invariant.0 turn _ (found-is t (goal.at.relocate-resolve-requires t c).Joined-cur-n))

-- the slot that was resolved is the one that the loop stands at
means : (t : ℕ) (c : relocate-After-resolve t) →
    let a = c.args in
    Means a.row c.loop-slot.slot c.resolve.result
    (meaning (object_of (tables_of little (lent_code a.names a.program.instructions.now))) a.row c.loop-slot.slot)
means t c =
    let a = c.args in
    subst (λ (n : ℕ). Means a.row n c.resolve.result
    (meaning (object_of (tables_of little (lent_code a.names a.program.instructions.now))) a.row n))
    c.slot_at-here.ensures c.resolve.ensures

pub relocate-returns-in_err-meaning-clause-visited : goal.relocate-returns-in_err-meaning-clause-visited
relocate-returns-in_err-meaning-clause-visited t c =
    let turn : c.loop-slot.slot < function_slots c.args.names.functions.now c.args.row = search rules in
    let p = err_from_is_err_and c.from_residual.result c.from_residual.ensures.1 in
    rw (p.1, p.2)
    (ways.on_refused c.requires c.loop-slot.invariant.0 turn _ c.in_err-meaning.was (means t (goal.at.relocate-returns-in_err-meaning-clause-visited t c).After-resolve))

pub relocate-placed-requires : goal.relocate-placed-requires
relocate-placed-requires t c =
    let turn : c.loop-slot.slot < function_slots c.args.names.functions.now c.args.row = search rules in (
      rw (← c.decreases) (omega (arith, steps.visit_falls c.requires c.loop-slot.invariant.0)),
      ways.asks_placed c.requires c.loop-slot.invariant.0 turn c.in-Some.to
          (ways.by c.requires c.loop-slot.invariant.0 turn (c.in_ok-meaning.was ∙ ap Ok c.in-Some.is) (means t (goal.at.relocate-placed-requires t c).After-resolve)),
    )

pub relocate-returns-in_err-now-clause-visited : goal.relocate-returns-in_err-now-clause-visited
relocate-returns-in_err-now-clause-visited t c =
    let turn : c.loop-slot.slot < function_slots c.args.names.functions.now c.args.row = search rules in
    let p = err_from_is_err_and c.from_residual-in_err-now.result c.from_residual-in_err-now.ensures.1 in
    rw (p.1, p.2)
    (ways.out_refused c.requires c.loop-slot.invariant.0 turn c.in-Some.to
    (ways.by c.requires c.loop-slot.invariant.0 turn (c.in_ok-meaning.was ∙ ap Ok c.in-Some.is) (means t (goal.at.relocate-returns-in_err-now-clause-visited t c).After-resolve))
    c.in_err-now.ensures.placed)

pub relocate-loop-slot-preserved : goal.relocate-loop-slot-preserved
relocate-loop-slot-preserved t c =
    let inv = c.loop-slot.invariant.0 in
    let turn : c.loop-slot.slot < function_slots c.args.names.functions.now c.args.row = search rules in
    let m = means t (goal.at.relocate-loop-slot-preserved t c).After-resolve in
    let behind = ways.behind_next c.requires c.loop-slot.slot c.loop-cur.cur c.loop-cur.invariant.1 in
    elim c.match-meaning.branch [
      | relocate-in-Some+in_ok-now w ↦
          let here : w.after.result.0 ≡ c.args.start.0 + c.loop-slot.slot = omega (arith, w.after.ensures, c.slot_at-here.ensures) in
          let same = kept c.loop-slot.invariant.2 w.in_ok-now.ensures.same in
          let pointed = ways.by c.requires inv turn (c.in_ok-meaning.was ∙ ap Ok w.in-Some.is) m in
          rw (w.image-is, w.now-is) (
            ways.on_pointed c.requires inv turn w.in-Some.to pointed w.in_ok-now.ensures.placed _ here w.slot_at-there.ensures w.point.ensures,
            (c.loop-cur.invariant.0, behind),
            record { slots_same = same.slots_same; funcs_same = same.funcs_same; lines_same = same.lines_same },
          )
      | relocate-in_default w ↦ rw (w.image-is, w.now-is) (ways.on_copied c.requires inv turn (c.in_ok-meaning.was ∙ ap Ok w.in_default.is) m, (c.loop-cur.invariant.0, behind), c.loop-slot.invariant.2)
    ]

pub relocate-returns-clause-visited : goal.relocate-returns-clause-visited
relocate-returns-clause-visited t c =
    let over : function_slots c.args.names.functions.now c.args.row ≤ c.loop-slot.slot = search rules in
    steps.visit_done c.requires c.loop-slot.invariant.0 over
