-- The size says whether the immediate counts slots or bytes.
use mathlib.Core.Path.{refl, sym, ◌∙◌}
use mathlib.Core.List.{[]}
use Rattle.resolve.proofs.Targets.{passed_on, slots_from, bytes_from, at_is}
use Rattle.resolve.proofs.by_section.Goals as goal

pub returns-in-32 : goal.returns-in-32
returns-in-32 c =
    rw c.in-32.is
    (c.by_address.ensures
    ∙ passed_on c.args.functions.now c.args.home (record { sfits = c.call_target.type_inv })
    (c.call_target.ensures ∙ slots_from c.ranges.imm refl)
    ∙ sym (at_is [] c.args.functions.now c.args.home _))

pub returns-in-64 : goal.returns-in-64
returns-in-64 c =
    rw c.in-64.is
    (c.by_address-in-64.ensures
    ∙ passed_on c.args.functions.now c.args.home (record { sfits = c.byte_target.type_inv })
    (c.byte_target.ensures ∙ bytes_from c.ranges.imm refl)
    ∙ sym (at_is [] c.args.functions.now c.args.home _))
