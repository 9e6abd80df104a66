-- A refused link has a number: none is 0. So an answer of 0 is an accepted link.
-- Assumes nothing.
use mathlib.Core.Path.{◌≡◌, subst}
use mathlib.Core.Logic.{◌≢◌}
use mathlib.Core.Bool.{Bool, true, false, cond}
use mathlib.Core.Option.{Option, none, some}
use Prim.Native.Nat.{ℕ, zero, suc, ◌+◌, ◌*◌}
use native.Mathlib.Omega.{arith}
use lib.IntN.{ℤ, pos, ◌+ℤ◌}
use lib.Dec.{eqb, leb}
use lib.ListN.{length}
use Rattle.rules.specs.Object.{Insn, is_call, Named, nothing, function, missing, unclear, Object, is_wide_load, Meaning, copied, call, reference, refused, decide, meaning, calling, referring}
use Rattle.rules.specs.Link.{State, Refusal, refusal, Outcome, linked, refuses, unfinished, and_then, start_of, extended, rewritten, pointing, at_slot, visit, unless, root_only, append, link}
use Rattle.rules.specs.Tables.{SymbolKind, other, text, section, Symbol, Function, Relocation, Tables, first, is_code, slots_on, or_missing, row_at, function_at, by_symbol, by_symbol_row, by_relocation, relocation_at, row_of, insn_of, function_records_of, lines_of, object_of}
use Rattle.rules.specs.Records.{Room, image_functions, image_lines, room_for, stray_line, then_stray, admits, root_admits, link_step}

-- an outcome whose refusal has a number
abbrev pub Numbered : Outcome → Type 0
Numbered (linked s) = Unit {0}
Numbered (refuses why) = why.number ≢ 0
Numbered unfinished = Unit {0}

abbrev NamedOk : Named → Type 0
NamedOk nothing = Unit {0}
NamedOk (function row) = Unit {0}
NamedOk (missing n) = n ≢ 0
NamedOk (unclear n) = n ≢ 0

abbrev MeaningOk : Meaning → Type 0
MeaningOk copied = Unit {0}
MeaningOk (call row) = Unit {0}
MeaningOk (reference row) = Unit {0}
MeaningOk (refused n) = n ≢ 0

abbrev RefusalOk : Option Refusal → Type 0
RefusalOk none = Unit {0}
RefusalOk (some why) = why.number ≢ 0

decide_ok : (c w : Bool) (n : Named) → NamedOk n → MeaningOk (decide c w n)
unfolding decide
decide_ok true w nothing ok = λ e. omega arith
decide_ok true w (function row) ok = tt
decide_ok true w (missing n) ok = ok
decide_ok true w (unclear n) ok = ok
decide_ok false true nothing ok = tt
decide_ok false true (function row) ok = tt
decide_ok false true (missing n) ok = ok
decide_ok false true (unclear n) ok = ok
decide_ok false false nothing ok = tt
decide_ok false false (function row) ok = λ e. omega arith
decide_ok false false (missing n) ok = λ e. omega arith
decide_ok false false (unclear n) ok = ok

module _ (object : Object) (named_ok : (row slot : ℕ) → NamedOk (object.named row slot)) where
  meaning_ok : (row slot : ℕ) → MeaningOk (meaning object row slot)
  unfolding meaning
  meaning_ok row slot = decide_ok (is_call (object.insn row slot)) (is_wide_load object row slot) (object.named row slot) (named_ok row slot)

  module _ (add : ℕ → State → Outcome) (add_ok : (row : ℕ) (s : State) → Numbered (add row s)) where
    after_ok : (o : Outcome) (next : State → Outcome) → Numbered o → ((s : State) → Numbered (next s)) → Numbered (and_then o next)
    after_ok (linked s) next ok later = later s
    after_ok (refuses why) next ok later = ok
    after_ok unfinished next ok later = tt

    pointing_ok : (p : Option ℕ) (callee here : ℕ) (rewrite : ℕ → Insn → Insn) (next : State → Outcome) (s : State) → ((s : State) → Numbered (next s))
        → Numbered (pointing object add p callee here rewrite next s)
    pointing_ok (some start) callee here rewrite next s later = later (rewritten here (rewrite start) s)
    pointing_ok none callee here rewrite next s later =
        after_ok (add callee s) (λ after. next (rewritten here (rewrite (length s.image)) after)) (add_ok callee s) (λ after. later (rewritten here (rewrite (length s.image)) after))

    slot_ok : (m : Meaning) (row slot here : ℕ) (next : State → Outcome) (s : State) → MeaningOk m → ((s : State) → Numbered (next s)) → Numbered (at_slot object add m row slot here next s)
    slot_ok copied row slot here next s ok later = later s
    slot_ok (call callee) row slot here next s ok later = pointing_ok (start_of callee s.placed) callee here (λ start i. calling i start here) next s later
    slot_ok (reference callee) row slot here next s ok later = pointing_ok (start_of callee s.placed) callee here (λ start i. referring i start here) next s later
    slot_ok (refused n) row slot here next s ok later = ok

    visit_ok : (row start count slot : ℕ) (s : State) → Numbered (visit object add row start count slot s)
    unfolding visit
    visit_ok row start zero slot s = tt
    visit_ok row start (suc count) slot s =
        slot_ok (meaning object row slot) row slot (start + slot) (λ after. visit object add row start count (suc slot) after) s (meaning_ok row slot) (λ after. visit_ok row start count (suc slot) after)

  unless_ok : (r : Option Refusal) (o : Outcome) → RefusalOk r → Numbered o → Numbered (unless r o)
  unless_ok none o r ok = ok
  unless_ok (some why) o r ok = r

  module _ (admits' : ℕ → State → Option Refusal) (admits-ok : (row : ℕ) (s : State) → RefusalOk (admits' row s)) where
    append_ok : (fuel row : ℕ) (s : State) → Numbered (append object admits' fuel row s)
    unfolding append
    append_ok zero row s = tt
    append_ok (suc fuel) row s =
        unless_ok (admits' row s) (visit object (append object admits' fuel) row (length s.image) (object.slots row) 0 (extended object row s)) (admits-ok row s) (visit_ok (append object admits' fuel) (append_ok fuel) row (length s.image) (object.slots row) 0 (extended object row s))

    link_ok : (r : Option Refusal) (root : ℕ) → RefusalOk r → Numbered (link object admits' r root)
    unfolding link
    link_ok r root ok = unless_ok r (visit object (append object admits' object.rows) root 0 (object.slots root) 0 (root_only object root)) ok (visit_ok (append object admits' object.rows) (append_ok object.rows) root 0 (object.slots root) 0 (root_only object root))

-- ---- over the tables
module _ (tables : Tables) where
  missing_ok : (o : Option ℕ) → NamedOk (or_missing o)
  missing_ok none = λ e. omega arith
  missing_ok (some row) = tt

  at_ok : (home : ℕ) (address : ℤ) → NamedOk (function_at tables home address)
  at_ok home address = missing_ok (row_at tables home address)

  either_ok : (b : Bool) (x y : Named) → NamedOk x → NamedOk y → NamedOk (cond b x y)
  either_ok true x y l r = l
  either_ok false x y l r = r

  symbol_ok : (k : SymbolKind) (home : Option ℕ) (address size : ℕ) (immediate : ℤ) → NamedOk (by_symbol tables k home address size immediate)
  symbol_ok text none address size immediate = λ e. omega arith
  symbol_ok text (some home) address size immediate = at_ok home (pos address)
  symbol_ok section none address size immediate = tt
  symbol_ok section (some home) address size immediate =
      either_ok (is_code tables home) (cond (eqb size 32) (function_at tables home (pos address +ℤ slots_on immediate)) rest) nothing
      (either_ok (eqb size 32) (function_at tables home (pos address +ℤ slots_on immediate)) rest (at_ok home (pos address +ℤ slots_on immediate))
      (either_ok (eqb size 64) (function_at tables home (pos address +ℤ immediate)) (unclear 8) (at_ok home (pos address +ℤ immediate)) (λ e. omega arith)))
      tt
    where
      rest : Named
      rest = cond (eqb size 64) (function_at tables home (pos address +ℤ immediate)) (unclear 8)
  symbol_ok other none address size immediate = tt
  symbol_ok other (some home) address size immediate = either_ok (is_code tables home) (unclear 8) nothing (λ e. omega arith) tt

  row_ok : (s : Option Symbol) (size : ℕ) (immediate : ℤ) → NamedOk (by_symbol_row tables s size immediate)
  row_ok none size immediate = λ e. omega arith
  row_ok (some s) size immediate = symbol_ok s.kind s.home s.address size immediate

  relocation_ok : (r : Option Relocation) (f : Function) (slot : ℕ) (i : Insn) → NamedOk (by_relocation tables r f slot i)
  relocation_ok none f slot i =
      let address = pos (f.offset + 8 * slot) +ℤ slots_on i.immediate in
      either_ok (is_call i) (function_at tables f.home address) nothing (at_ok f.home address) tt
  relocation_ok (some r) f slot i = row_ok (first (λ s. eqb s.index r.symbol) tables.symbols) r.size i.immediate

  names_ok : (row slot : ℕ) → NamedOk ((object_of tables).named row slot)
  unfolding object_of
  names_ok row slot = relocation_ok (relocation_at tables (row_of tables row) slot) (row_of tables row) slot (insn_of tables row slot)

  -- of a slot
  pub meaning_numbered : (row slot number : ℕ) → meaning (object_of tables) row slot ≡ refused number → number ≢ 0
  meaning_numbered row slot number e = subst MeaningOk e (meaning_ok (object_of tables) names_ok row slot)

  room_ok : (room : Room) (slots functions lines row : ℕ) → RefusalOk (room_for tables room slots functions lines row)
  unfolding room_for
  room_ok room slots functions lines row =
      go (leb (slots + (row_of tables row).slots) room.slots) (leb (functions + length (function_records_of tables row)) room.functions) (leb (lines + length (lines_of tables row)) room.lines)
    where
      go : (a b c : Bool) → RefusalOk (cond a (cond b (cond c none (some (refusal 11 row 0))) (some (refusal 11 row 0))) (some (refusal 11 row 0)))
      go true true true = tt
      go true true false = λ e. omega arith
      go true false c = λ e. omega arith
      go false b c = λ e. omega arith

  stray_ok : (a : Option Refusal) (k : Option ℕ) (row : ℕ) → RefusalOk a → RefusalOk (then_stray tables a k row)
  stray_ok (some why) k row ok = ok
  stray_ok none (some k) row ok = λ e. omega arith
  stray_ok none none row ok = tt

  admits_numbered : (room : Room) (root row : ℕ) (s : State) → RefusalOk (admits tables room root row s)
  unfolding admits
  admits_numbered room root row s =
      let slots = length s.image in
      let functions = length (image_functions tables root s.placed) in
      let lines = length (image_lines tables root s.placed) in
      stray_ok (room_for tables room slots functions lines row) (stray_line tables row) row (room_ok room slots functions lines row)

  pub step_numbered : (room : Room) (root : ℕ) → Numbered (link_step tables room root)
  unfolding link_step
  step_numbered room root = link_ok (object_of tables) names_ok (admits tables room root) (admits_numbered room root) (root_admits tables room root) root (room_ok room 0 0 0 root)
