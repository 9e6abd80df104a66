-- In the domain the crate's link and document 01's agree: instructions, records and their counts; and where ours refuses, the crate's error.
-- Assumes nothing.
use mathlib.Core.Path.{◌≡◌, refl, sym, ◌∙◌, ap}
use mathlib.Core.Bool.{Bool, true, false, cond}
use mathlib.Core.Option.{Option, none, some}
use mathlib.Core.List.Memᴰ
use mathlib.Core.List.{List, [], ◌∷◌, ◌++◌, map, append-nil, Memᴰ}
use Prim.Native.Nat.{ℕ, zero, suc, ◌+◌, ◌-◌, ◌≤◌, ◌<◌}
use native.Mathlib.Nat.{zero-add}
use native.Mathlib.Omega.{arith}
use lib.Dec.{eqb}
use lib.ListN.{length, set, length-set, length-append, length-map}
use borrow.Author.Tests.{eqb-true, eqb-false, eq-eqb, ne_eqb}
use Rattle.rules.specs.Object.{Insn, is_call, Meaning, copied, call, reference, refused, meaning, calling, referring}
use Rattle.rules.specs.Faithful.{Piece, piece, slot_at}
use Rattle.rules.specs.Link.{State, Refusal, Outcome, linked, refuses, unfinished, and_then, run, slots_of, start_of, extended, rewritten, pointing, at_slot, visit, unless, append, root_only, link}
use Rattle.rules.specs.Bytes.{half32}
use Rattle.rules.specs.Tables.{Tables, row_of, base, insn_of, function_records_of, lines_of, object_of, LineRecord}
use Rattle.rules.specs.Records.{Room, image_functions, image_lines, admits, root_admits, link_step}
use Rattle.equality.specs.Crate as Crate
use Rattle.equality.specs.Crate.{2³², func_at, lines_at, Result, ok, err, bind, Linker, with_slot, extend, clone, pointed, Slot, slot_of, link_function, relocate_slot, relocate_from, relocate, link_new, unknown_function}
use Rattle.equality.specs.Met.{afterwards, pointing_met, slot_met, visit_met, unless_met, append_met, link_met}
use Rattle.equality.specs.Domain.{Hidden, crate_function, crate_of, reached, Compared, LinkDomain}
use Rattle.rules.proofs.Grown.{Grown, grown_refl, grown_rewritten, grown_longer, grown_then}
use Rattle.rules.proofs.Linking.{length_run, Appended, append_ok, slots_at, extended_fits, extended_raw}
use Rattle.rules.specs.Rows.{most_image_slots}
use Rattle.equality.proofs.Numbers.{u32_exact, pointed_exact, same_call}
use Rattle.equality.proofs.CrateSlots.{Sees, slot_sees}
use Rattle.equality.proofs.CrateRecords.{functions_exact, lines_exact, image_functions_lem, image_lines_lem, Admitted, Judged, admits_judged, RootJudged, root_judged}

-- the two rewritings
calling_same : (start here : ℕ) → start < half32 → here < half32 → (i : Insn) → pointed true start here i ≡ calling i start here
unfolding calling
calling_same start here l l' i = rw (pointed_exact start here l l') refl

referring_same : (start here : ℕ) → start < half32 → here < half32 → (i : Insn) → pointed false start here i ≡ referring i start here
unfolding referring
referring_same start here l l' i = rw (pointed_exact start here l l') refl

-- a start looked for after one more function is placed
abbrev else_at : Option ℕ → Bool → ℕ → Option ℕ
else_at (some start) b new = some start
else_at none b new = cond b (some new) none

start_placed : (row' row start : ℕ) (ps : List Piece) → start_of row' (ps ++ (piece row start ∷ [])) ≡ else_at (start_of row' ps) (eqb row row') start
start_placed row' row start [] = refl
start_placed row' row start (p ∷ ps) = go (eqb p.row row') (start_placed row' row start ps)
  where
    go : (b : Bool) → start_of row' (ps ++ (piece row start ∷ [])) ≡ else_at (start_of row' ps) (eqb row row') start
        → cond b (some p.start) (start_of row' (ps ++ (piece row start ∷ []))) ≡ else_at (cond b (some p.start) (start_of row' ps)) (eqb row row') start
    go true later = refl
    go false later = later

module _ (tables : Tables) (hidden : Hidden) (room : Room) (root : ℕ) where
  -- the state of the link and the crate's linker hold the same
  pub record Same (s : State) (p : Linker) : Type 0 where
    pub instructions : p.instructions ≡ s.image
    pub functions : p.func_info ≡ image_functions tables root s.placed
    pub lines : p.line_info ≡ image_lines tables root s.placed
    pub func_count : p.func_num_info ≡ length p.func_info
    pub line_count : p.line_num_info ≡ length p.line_info
    pub memory : (row : ℕ) → Memᴰ row (reached tables room root) → p.linked_functions (row_of tables row).address ≡ start_of row s.placed
    pub short : length s.image ≤ most_image_slots
    pub starts : (row start : ℕ) → start_of row s.placed ≡ some start → start ≤ most_image_slots

  pub record Done (s : State) (o : Result Linker) : Type 0 where
    pub linker : Linker
    pub is_ok : o ≡ ok linker
    pub same : Same s linker

  abbrev pub Agree : Outcome → Result Linker → Type 0
  Agree (linked s) o = Done s o
  Agree (refuses why) o = Compared why.number → (why.number ≡ 10) × (o ≡ err unknown_function)
  Agree unfinished o = Unit {0}

module _ (tables : Tables) (hidden : Hidden) (room : Room) (root : ℕ) (domain : LinkDomain tables hidden room root) where
  abbrev object : Rattle.rules.specs.Object.Object
  object = object_of tables

  abbrev crate : Crate.Object
  crate = crate_of tables hidden

  same_rewritten : (here : ℕ) (f g : Insn → Insn) (s : State) (p : Linker) → ((i : Insn) → g i ≡ f i) → Same tables hidden room root s p
      → Same tables hidden room root (rewritten here f s) (with_slot here g p)
  same_rewritten here f g s p e same = record {
    instructions = ap (λ image. set image here (g (slot_at image here))) same.instructions ∙ ap (set s.image here) (e (slot_at s.image here));
    functions = same.functions;
    lines = same.lines;
    func_count = same.func_count;
    line_count = same.line_count;
    memory = same.memory;
    short = simp length-set same.short;
    starts = same.starts;
  }

  -- a function that is admitted and not yet placed, appended
  module _ (row : ℕ) (s : State) (p : Linker) (is-met : Memᴰ row (reached tables room root)) (new : start_of row s.placed ≡ none)
      (admitted : Admitted tables room root row s) (same : Same tables hidden room root s p) where
    abbrev fun : Crate.Function
    fun = crate_function tables hidden row

    here : length p.instructions ≡ length s.image
    here = ap length same.instructions

    small : length p.instructions < half32
    small = omega (arith, here, same.short)

    functions_same : p.func_info ++ map (func_at (length p.instructions)) (function_records_of tables row)
        ≡ image_functions tables root (s.placed ++ (piece row (length s.image) ∷ []))
    functions_same =
        rw (functions_exact (length p.instructions) (omega (arith, small)) (function_records_of tables row), here, same.functions)
        (sym (image_functions_lem tables root s.placed (piece row (length s.image))))

    lines_same : p.line_info ++ lines_at (lines_of tables row) (length p.instructions) ≡ image_lines tables root (s.placed ++ (piece row (length s.image) ∷ []))
    lines_same =
        rw (lines_exact (length p.instructions) (row_of tables row).slots small (domain.limits.slots row) (lines_of tables row) admitted.no_stray, here, same.lines)
        (sym (image_lines_lem tables root s.placed (piece row (length s.image))))

    functions_few : length (p.func_info ++ map (func_at (length p.instructions)) (function_records_of tables row)) < 2³²
    functions_few =
        omega (
          arith,
          length-append p.func_info (map (func_at (length p.instructions)) (function_records_of tables row)),
          length-map (function_records_of tables row) (func_at (length p.instructions)),
          ap length same.functions,
          admitted.functions_fit,
          domain.room_limits.room_functions,
        )

    lines_length : (ls : List LineRecord) (start : ℕ) → length (lines_at ls start) ≡ length ls
    lines_length [] start = refl
    lines_length (l ∷ ls) start = ap suc (length-map ls (Crate.line_at l.slot start))

    lines_few : (ls : List LineRecord) → length (image_lines tables root s.placed) + length ls ≤ room.lines
        → length (p.line_info ++ lines_at ls (length p.instructions)) < 2³²
    lines_few ls fit =
        omega (arith, length-append p.line_info (lines_at ls (length p.instructions)), lines_length ls (length p.instructions), ap length same.lines, fit, domain.room_limits.room_lines)

    line_count_same : (ls : List LineRecord) → length (image_lines tables root s.placed) + length ls ≤ room.lines
        → Crate.line_count ls p.line_num_info (length (p.line_info ++ lines_at ls (length p.instructions))) ≡ length (p.line_info ++ lines_at ls (length p.instructions))
    line_count_same [] fit = same.line_count ∙ ap length (sym (append-nil p.line_info))
    line_count_same (l ∷ ls) fit = u32_exact (length (p.line_info ++ lines_at (l ∷ ls) (length p.instructions))) (lines_few (l ∷ ls) fit)

    memory_same : (row' : ℕ) → Memᴰ row' (reached tables room root)
        → cond (eqb (row_of tables row').address (row_of tables row).address) (some (length p.instructions)) (p.linked_functions (row_of tables row').address)
        ≡ start_of row' (s.placed ++ (piece row (length s.image) ∷ []))
    memory_same row' is-met' = rw (start_placed row' row (length s.image) s.placed, same.memory row' is-met', here) (go (eqb (row_of tables row').address (row_of tables row).address) refl)
      where
        -- another row has another address
        other : (o : Option ℕ) → (row ≡ row' → ⊥) → o ≡ else_at o (eqb row row') (length s.image)
        other none n = rw (ne_eqb row row' n) refl
        other (some start) n = refl

        go : (b : Bool) → eqb (row_of tables row').address (row_of tables row).address ≡ b
            → cond b (some (length s.image)) (start_of row' s.placed) ≡ else_at (start_of row' s.placed) (eqb row row') (length s.image)
        go true e =
            let rows : row ≡ row' = domain.clauses.differ row row' is-met is-met' (sym (eqb-true (row_of tables row').address (row_of tables row).address e)) in
            rw (← rows, new, eq-eqb row row refl) refl
        go false e = other (start_of row' s.placed) (λ rows. eqb-false (row_of tables row').address (row_of tables row).address e (ap (λ r. (row_of tables r).address) (sym rows)))

    starts_same : (row' start : ℕ) → start_of row' (s.placed ++ (piece row (length s.image) ∷ [])) ≡ some start → start ≤ most_image_slots
    starts_same row' start e = go (start_of row' s.placed) (eqb row row') refl (rw (start_placed row' row (length s.image) s.placed) at e)
      where
        go : (o : Option ℕ) (b : Bool) → start_of row' s.placed ≡ o → else_at o b (length s.image) ≡ some start → start ≤ most_image_slots
        go (some old) b f e = same.starts row' start (f ∙ e)
        go none true f e = let new : length s.image ≡ start = cc in omega (arith, same.short)
        go none false f e = let z : ◌≡◌ {A = ℕ} 0 1 = cc in absurd (omega arith)

    same_extended : Same tables hidden room root (extended object row s) (extend fun p)
    unfolding object_of
    same_extended = record {
      instructions = ap (λ image. image ++ fun.instructions) same.instructions;
      functions = functions_same;
      lines = lines_same;
      func_count = u32_exact (length (p.func_info ++ map (func_at (length p.instructions)) (function_records_of tables row))) functions_few;
      line_count = line_count_same (lines_of tables row) admitted.lines_fit;
      memory = memory_same;
      short = omega (arith, length-append s.image (slots_of object row), length_run (insn_of tables row) 0 (row_of tables row).slots, admitted.slots_fit, domain.room_limits.room_slots);
      starts = starts_same;
    }

  -- all of a list is among the callees reached
  abbrev Within : List ℕ → Type 0
  Within rows = (r : ℕ) → Memᴰ r rows → Memᴰ r (reached tables room root)

  module _ (append : ℕ → State → Outcome) (link_new : Crate.Function → Linker → Result Linker) (met : ℕ → State → List ℕ)
      (grows : (row : ℕ) (before after : State) → append row before ≡ linked after → Appended object row before after)
      (agrees : (row : ℕ) (s : State) (p : Linker) → Memᴰ row (reached tables room root) → start_of row s.placed ≡ none → Same tables hidden room root s p
      → Within (met row s) → Agree tables hidden room root (append row s) (link_new (crate_function tables hidden row) p)) where
    pointing_agrees : (o : Option ℕ) (row here : ℕ) (rewrite : ℕ → Insn → Insn) (c : Bool) (next : State → Outcome) (next' : Linker → Result Linker) (nextMet : State → List ℕ) (s : State) (p : Linker)
        → start_of row s.placed ≡ o → Memᴰ row (reached tables room root) → Same tables hidden room root s p → here < length s.image
        → ((start : ℕ) → start < half32 → (i : Insn) → pointed c start here i ≡ rewrite start i)
        → Within (pointing_met object append met o row here rewrite nextMet s)
        → ((after : State) (p' : Linker) → Grown object here (suc here) s after → Same tables hidden room root after p' → Within (nextMet after)
        → Agree tables hidden room root (next after) (next' p'))
        → Agree tables hidden room root (pointing object append o row here rewrite next s)
        (link_function crate link_new o (crate_function tables hidden row) (λ start after. next' (with_slot here (pointed c start here) after)) p)
    pointing_agrees (some start) row here rewrite c next next' nextMet s p e here-met same l re within rest =
        rest (rewritten here (rewrite start) s) (with_slot here (pointed c start here) p) (grown_rewritten object here (rewrite start) s)
        (same_rewritten here (rewrite start) (pointed c start here) s p (re start (omega (arith, same.starts row start e))) same) within
    pointing_agrees none row here rewrite c next next' nextMet s p e here-met same l re within rest =
        rw (ap length same.instructions) (go (append row s) (link_new (crate_function tables hidden row) p) refl refl
        (agrees row s p here-met e same (λ r m. within r (Memᴰ.append_left (afterwards (append row s) (λ after. nextMet (rewritten here (rewrite (length s.image)) after))) m))))
      where
        n : ℕ
        n = length s.image

        go : (o : Outcome) (r : Result Linker) → append row s ≡ o → link_new (crate_function tables hidden row) p ≡ r → Agree tables hidden room root o r
            → Agree tables hidden room root (and_then o (λ after. next (rewritten here (rewrite n) after))) (bind r (λ after. next' (with_slot here (pointed c n here) after)))
        go (linked mid) r a b done =
            let grown = (grows row s mid a).grown in
            rw done.is_ok
            (rest (rewritten here (rewrite n) mid) (with_slot here (pointed c n here) done.linker)
            (grown_then object here (suc here) grown (grown_rewritten object here (rewrite n) mid) (omega arith) (omega arith) (omega arith) (omega arith) (omega arith))
            (same_rewritten here (rewrite n) (pointed c n here) mid done.linker (re n (omega (arith, same.short))) done.same)
            (λ r m. within r (Memᴰ.append_right (met row s) (rw a m))))
        go (refuses why) r a b no-good = λ k. ((no-good k).0, ap (λ x. bind x (λ after. next' (with_slot here (pointed c n here) after))) (no-good k).1)
        go unfinished r a b u = tt

    slot_agrees : (m : Meaning) (x : Slot) (c : Bool) (row slot here : ℕ) (next : State → Outcome) (next' : Linker → Result Linker) (nextMet : State → List ℕ) (s : State) (p : Linker)
        → Sees tables hidden c m x → Within (slot_met object append met m here nextMet s) → Same tables hidden room root s p → here < length s.image
        → ((after : State) (p' : Linker) → Grown object here (suc here) s after → Same tables hidden room root after p' → Within (nextMet after)
        → Agree tables hidden room root (next after) (next' p'))
        → Agree tables hidden room root (at_slot object append m row slot here next s) (relocate_slot crate link_new x c here next' p)
    slot_agrees copied x c row slot here next next' nextMet s p sees within same l rest = rw sees (rest s p (grown_refl object here (suc here) s) same within)
    slot_agrees (call to) x c row slot here next next' nextMet s p sees within same l rest =
        rw (sees.1, sees.0, same.memory to (within to (Memᴰ.head refl)))
        (pointing_agrees (start_of to s.placed) to here (λ start i. calling i start here) true next next' nextMet s p refl (within to (Memᴰ.head refl)) same l
        (λ start b i. calling_same start here b (omega (arith, same.short)) i) (λ r m. within r (Memᴰ.tail m)) rest)
    slot_agrees (reference to) x c row slot here next next' nextMet s p sees within same l rest =
        rw (sees.1, sees.0, same.memory to (within to (Memᴰ.head refl)))
        (pointing_agrees (start_of to s.placed) to here (λ start i. referring i start here) false next next' nextMet s p refl (within to (Memᴰ.head refl)) same l
        (λ start b i. referring_same start here b (omega (arith, same.short)) i) (λ r m. within r (Memᴰ.tail m)) rest)
    slot_agrees (refused number) x c row slot here next next' nextMet s p sees within same l rest =
        λ k. ((sees k).0, ap (λ y. relocate_slot crate link_new y c here next' p) (sees k).1)

    visit_agrees : (row start count slot : ℕ) (s : State) (p : Linker) → slot + count ≤ (row_of tables row).slots → start + slot + count ≤ length s.image
        → ((k : ℕ) → slot ≤ k → k < slot + count → slot_at s.image (start + k) ≡ insn_of tables row k)
        → Within (visit_met object append met row start count slot s)
        → Same tables hidden room root s p
        → Agree tables hidden room root (visit object append row start count slot s) (relocate_from crate link_new (crate_function tables hidden row) start count slot p)
    unfolding visit relocate_from visit_met
    visit_agrees row start zero slot s p f l raw within same = record { linker = p; is_ok = refl; same = same }
    visit_agrees row start (suc count) slot s p f l raw within same =
        rw (ap (λ image. slot_at image (start + slot)) same.instructions ∙ raw slot (omega arith) (omega arith), same_call (insn_of tables row slot) (domain.limits.plain (base tables row + slot)).byte)
        (slot_agrees (meaning object row slot) (slot_of crate (crate_function tables hidden row) slot (insn_of tables row slot)) (is_call (insn_of tables row slot)) row slot (start + slot)
        (λ after. visit object append row start count (suc slot) after) (λ after. relocate_from crate link_new (crate_function tables hidden row) start count (suc slot) after)
        (λ after. visit_met object append met row start count (suc slot) after) s p
        (slot_sees tables hidden room root domain row slot (omega arith)) within same (omega arith)
        (λ after p' g same' within'. visit_agrees row start count (suc slot) after p' (omega arith) (omega (arith, grown_longer object g))
        (λ k low high. g.kept_above (start + k) (omega arith) (omega arith) ∙ raw k (omega arith) (omega arith)) within' same'))

    extended_agrees : (row : ℕ) (s : State) (p : Linker) → Memᴰ row (reached tables room root) → start_of row s.placed ≡ none → Admitted tables room root row s
        → Same tables hidden room root s p → Within (visit_met object append met row (length s.image) (object.slots row) 0 (extended object row s))
        → Agree tables hidden room root (visit object append row (length s.image) (object.slots row) 0 (extended object row s))
        (relocate crate link_new (crate_function tables hidden row) (extend (crate_function tables hidden row) p))
    unfolding relocate object_of
    extended_agrees row s p here-met e admitted same within =
        rw (from, length_run (insn_of tables row) 0 (row_of tables row).slots)
        (visit_agrees row (length s.image) (row_of tables row).slots 0 (extended object row s) (extend (crate_function tables hidden row) p)
        (omega arith) (extended_fits object row s) (extended_raw object row s) within
        (same_extended row s p here-met e admitted same))
      where
        from : length (p.instructions ++ run (insn_of tables row) 0 (row_of tables row).slots) - length (run (insn_of tables row) 0 (row_of tables row).slots) ≡ length s.image
        from = omega (arith, length-append p.instructions (run (insn_of tables row) 0 (row_of tables row).slots), ap length same.instructions)

  append_agrees : (bound row : ℕ) (s : State) (p : Linker) → Memᴰ row (reached tables room root) → start_of row s.placed ≡ none → Same tables hidden room root s p
      → Within (append_met object (admits tables room root) bound row s) → Agree tables hidden room root (append object (admits tables room root) bound row s) (link_new crate bound (crate_function tables hidden row) p)
  unfolding append link_new append_met
  append_agrees zero row s p here-met e same within = tt
  append_agrees (suc bound) row s p here-met e same within =
      go (admits tables room root row s) (admits_judged tables room root row s) within
      (λ admitted within. extended_agrees (append object (admits tables room root) bound) (link_new crate bound) (append_met object (admits tables room root) bound)
      (append_ok object (admits tables room root) bound) (append_agrees bound) row s p here-met e admitted same within)
    where
      inner : List ℕ
      inner =
          visit_met object (append object (admits tables room root) bound) (append_met object (admits tables room root) bound) row (length s.image) (object.slots row) 0
          (extended object row s)

      go : (o : Option Refusal) → Judged tables room root row s o → Within (unless_met o inner)
          → (Admitted tables room root row s → Within inner → Agree tables hidden room root
          (visit object (append object (admits tables room root) bound) row (length s.image) (object.slots row) 0 (extended object row s))
          (relocate crate (link_new crate bound) (crate_function tables hidden row) (extend (crate_function tables hidden row) p)))
          → Agree tables hidden room root
          (unless o (visit object (append object (admits tables room root) bound) row (length s.image) (object.slots row) 0 (extended object row s)))
          (relocate crate (link_new crate bound) (crate_function tables hidden row) (extend (crate_function tables hidden row) p))
      go (some why) never within later = λ k. absurd (never k)
      go none admitted within later = later admitted within

  root_same : (row_of tables root).slots ≤ room.slots → Same tables hidden room root (root_only object root) (clone crate (crate_function tables hidden root))
  unfolding object_of image_functions image_lines
  root_same fit = record {
    instructions = refl;
    functions = sym (append-nil (function_records_of tables root));
    lines = sym (append-nil (lines_of tables root));
    func_count = domain.clauses.func_num;
    line_count = domain.clauses.line_num;
    memory = λ row m. refl;
    short = omega (arith, length_run (insn_of tables root) 0 (row_of tables root).slots, domain.room_limits.room_slots);
    starts = λ row start e. let z : ◌≡◌ {A = ℕ} 0 1 = cc in absurd (omega arith);
  }

  pub link_agrees : Agree tables hidden room root (link_step tables room root) (Crate.link crate (crate_function tables hidden root))
  unfolding link_step link Crate.link relocate object_of crate_of reached link_met
  link_agrees =
      rw (length_run (insn_of tables root) 0 (row_of tables root).slots, length_run (crate_function tables hidden) 0 (length tables.functions))
      (go (root_admits tables room root) (root_judged tables room root) (λ r m. m))
    where
      none_left : (row_of tables root).slots - (row_of tables root).slots ≡ 0
      none_left = omega arith

      inner : List ℕ
      inner =
          visit_met object (append object (admits tables room root) object.rows) (append_met object (admits tables room root) object.rows) root 0 (object.slots root) 0
          (root_only object root)

      go : (o : Option Refusal) → RootJudged tables room root o → Within (unless_met o inner)
          → Agree tables hidden room root
          (unless o (visit object (append object (admits tables room root) object.rows) root 0 (object.slots root) 0 (root_only object root)))
          (relocate_from crate (link_new crate (length tables.functions)) (crate_function tables hidden root) ((row_of tables root).slots - (row_of tables root).slots)
          (row_of tables root).slots 0 (clone crate (crate_function tables hidden root)))
      go (some why) never within = λ k. absurd (never k)
      go none fit within =
          rw none_left
          (visit_agrees (append object (admits tables room root) object.rows) (link_new crate (length tables.functions)) (append_met object (admits tables room root) object.rows) (append_ok object (admits tables room root) object.rows)
          (append_agrees object.rows) root 0 (row_of tables root).slots 0 (root_only object root) (clone crate (crate_function tables hidden root)) (omega arith)
          (omega (arith, length_run (insn_of tables root) 0 (row_of tables root).slots))
          (λ k low high. rw (zero-add k) (slots_at object root k (omega arith))) within (root_same fit))
