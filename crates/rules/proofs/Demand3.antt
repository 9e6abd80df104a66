-- Demand 3: an accepted link keeps the path, over the bytes that the entry reads and writes.
-- Assumes nothing.
use mathlib.Core.Path.{◌≡◌, refl, sym, ap, subst, ◌∙◌}
use mathlib.Core.Bool.{Bool, true, false, cond}
use mathlib.Core.Option.{Option, none, some}
use mathlib.Core.List.{List, ◌∷◌, Memᴰ}
use Prim.Native.Nat.{ℕ, ◌+◌, ◌-◌, ◌*◌, ◌/◌, ◌≤◌, ◌<◌}
use native.Mathlib.Omega.{arith}
use native.Mathlib.Decide.{dec_lt}
use lib.IntN.{ℤ, pos, ◌+ℤ◌}
use lib.Dec.{eqb, leb}
use borrow.Author.Tests.{leb-true}
use lib.ListN.{length, take, replicate, get_or-eq_default}
use lib.Seq.{take_at}
use Rattle.rules.specs.Object.{Insn, Object, is_call, is_wide_load, Named, nothing, function, missing, unclear, Meaning, copied, call, reference, refused, decide, meaning, calling, referring}
use Rattle.rules.specs.Faithful.{Piece, piece, blank, slot_at, Placed, LinkOf, Linked, Faithful}
use Rattle.rules.specs.Link.{State, Refusal, refusal, Outcome, linked, refuses, unfinished, link}
use Rattle.rules.specs.Walk.{Walk, standing, stopped, ended, left, SourcePlace, place, source_walk, image_walk}
use Rattle.rules.specs.Together.{Together, both_stand, SamePlace, KeepsPath}
use Rattle.rules.specs.Bytes.{Order, half32, decoded, encoded, padded, AreBytes}
use Rattle.rules.specs.Tables.{SymbolKind, other, text, section, Tables, or_missing, slots_on, row_of, function_records_of, lines_of, base, insn_of, row_at, function_at, by_symbol, by_symbol_row, by_relocation, object_of, refers_to_code}
use Rattle.rules.specs.Records.{Room, image_functions, image_lines, room_for, stray_line, then_stray, admits, root_admits, link_step}
use Rattle.rules.specs.Answers.{Reply}
use Rattle.rules.specs.Rows.{Offered, tables_of, link_refusal}
use Rattle.rules.specs.Entries.{func_info_bytes, line_info_bytes, Outputs, room_in, LinkResult, accepted_link, by_outcome, unless_link_refused, link_entry}
use Rattle.rules.specs.Demand3.{used_image, Calls, FunctionReference, Refers, PathKeptBy, PathKept}
use Rattle.rules.proofs.Path.{keeps_path, stands_in}
use Rattle.rules.proofs.Slots.{meaning_fits, call_opcode, wide_opcode}
use Rattle.rules.proofs.Slots as Slots
use Rattle.rules.proofs.Linking.{link_faithful}
use Rattle.rules.proofs.Tiles.{tile_fits, tile_covers}
use Rattle.rules.proofs.Admitted.{within_room}
use Rattle.rules.proofs.Writing.{decoded_at, decoded_length, displacement_fits}
use Rattle.rules.proofs.Rounds.{Plain, AllPlain, all_plain, decode_plain, decoded_encoded, encoded_length}
use Rattle.rules.proofs.Merging.{func_bytes_length, line_bytes_length}
use Rattle.rules.proofs.Ending.{Finished}
use Rattle.rules.proofs.Lookups.{tables_finish}
use Rattle.rules.proofs.Numbered.{Numbered, step_numbered}
use Rattle.rules.proofs.Refusing.{link_number}

pub linking_keeps_path : (object : Object) (admits : ℕ → State → Option Refusal) (rootRefusal : Option Refusal) (root : ℕ) (final : State)
    → link object admits rootRefusal root ≡ linked final → KeepsPath object root final.image (piece root 0 ∷ final.placed)
linking_keeps_path object admits rootRefusal root final e =
    keeps_path object root final.image (piece root 0 ∷ final.placed) (link_faithful object admits rootRefusal root final e)

-- ---- over the bytes

-- a call names a function or is refused
call_only : (w : Bool) (n : Named) (m : Meaning) → decide true w n ≡ m → (m ≡ copied → ⊥) × ((callee : ℕ) → m ≡ reference callee → ⊥)
unfolding decide
call_only w nothing m e = ((λ f. clash (e ∙ f)), λ callee f. clash' callee (e ∙ f))
  where
    clash : refused 9 ≡ copied → ⊥
    clash z = let y : ◌≡◌ {A = ℕ} 0 1 = cc in omega arith

    clash' : (callee : ℕ) → refused 9 ≡ reference callee → ⊥
    clash' callee z = let y : ◌≡◌ {A = ℕ} 0 1 = cc in omega arith
call_only w (function row) m e = ((λ f. clash (e ∙ f)), λ callee f. clash' callee (e ∙ f))
  where
    clash : call row ≡ copied → ⊥
    clash z = let y : ◌≡◌ {A = ℕ} 0 1 = cc in omega arith

    clash' : (callee : ℕ) → call row ≡ reference callee → ⊥
    clash' callee z = let y : ◌≡◌ {A = ℕ} 0 1 = cc in omega arith
call_only w (missing number) m e = ((λ f. clash (e ∙ f)), λ callee f. clash' callee (e ∙ f))
  where
    clash : refused number ≡ copied → ⊥
    clash z = let y : ◌≡◌ {A = ℕ} 0 1 = cc in omega arith

    clash' : (callee : ℕ) → refused number ≡ reference callee → ⊥
    clash' callee z = let y : ◌≡◌ {A = ℕ} 0 1 = cc in omega arith
call_only w (unclear number) m e = ((λ f. clash (e ∙ f)), λ callee f. clash' callee (e ∙ f))
  where
    clash : refused number ≡ copied → ⊥
    clash z = let y : ◌≡◌ {A = ℕ} 0 1 = cc in omega arith

    clash' : (callee : ℕ) → refused number ≡ reference callee → ⊥
    clash' callee z = let y : ◌≡◌ {A = ℕ} 0 1 = cc in omega arith

-- in a faithful image a call of a piece's function names a function
module _ (object : Object) (root : ℕ) (image : List Insn) (pieces : List Piece) (faithful : Faithful object root image pieces) where
  names_one : (row slot start : ℕ) → Memᴰ (piece row start) pieces → slot < object.slots row → is_call (object.insn row slot) ≡ true → Calls object row slot
  unfolding Linked meaning
  names_one row slot start m l c = go (meaning object row slot) refl (faithful.linked (piece row start) m slot l)
    where
      is_call_lem : decide true (is_wide_load object row slot) (object.named row slot) ≡ meaning object row slot
      is_call_lem = ap (λ b. decide b (is_wide_load object row slot) (object.named row slot)) (sym c)

      go : (x : Meaning) → meaning object row slot ≡ x → LinkOf pieces (object.insn row slot) (start + slot) (slot_at image (start + slot)) x → Calls object row slot
      go copied e k = absurd ((call_only (is_wide_load object row slot) (object.named row slot) (meaning object row slot) is_call_lem).0 e)
      go (call callee) e k = record { callee = callee; is = e }
      go (reference callee) e k = absurd ((call_only (is_wide_load object row slot) (object.named row slot) (meaning object row slot) is_call_lem).1 callee e)
      go (refused number) e k = absurd k

  -- where the source walk stands there is a piece of its function
  in_piece : (answers : List Bool) (steps row slot : ℕ) (back : List SourcePlace) (rest : List Bool) → source_walk object root answers steps ≡ standing (place row (pos slot)) back rest
      → Placed pieces row (λ start. Unit {0})
  in_piece answers steps row slot back rest e = go (image_walk image answers steps) (subst (λ w. Together (SamePlace pieces) w (image_walk image answers steps)) e ((keeps_path object root image pieces faithful).together answers steps))
    where
      go : (w : Walk ℤ) → Together (SamePlace pieces) (standing (place row (pos slot)) back rest) w → Placed pieces row (λ start. Unit {0})
      go (standing b t answers') (both_stand same frames) = record { start = same.start; among = same.among; holds = tt }
      go (stopped _ _) x = elim x [ ]
      go (ended _) x = elim x [ ]
      go left x = elim x [ ]

  walk_names : (answers : List Bool) (steps row slot : ℕ) (back : List SourcePlace) (rest : List Bool) → source_walk object root answers steps ≡ standing (place row (pos slot)) back rest
      → is_call (object.insn row slot) ≡ true → Calls object row slot
  walk_names answers steps row slot back rest e c =
      let p = in_piece answers steps row slot back rest e in
      names_one row slot p.start p.among (stands_in object root image pieces faithful answers steps row slot back rest e) c

-- ---- what refers to code names a function, or is refused
found_or_missing : (o : Option ℕ) → or_missing o ≡ nothing → ⊥
found_or_missing none e = let z : ◌≡◌ {A = ℕ} 0 1 = cc in omega arith
found_or_missing (some row) e = let z : ◌≡◌ {A = ℕ} 0 1 = cc in omega arith

code_names : (tables : Tables) (kind : SymbolKind) (home : Option ℕ) (address size : ℕ) (immediate : ℤ) → refers_to_code tables kind home ≡ true
    → by_symbol tables kind home address size immediate ≡ nothing → ⊥
code_names tables text none address size immediate c e = let z : ◌≡◌ {A = ℕ} 0 1 = cc in omega arith
code_names tables text (some home) address size immediate c e = found_or_missing (row_at tables home (pos address)) e
code_names tables section none address size immediate c e = let z : ◌≡◌ {A = ℕ} 0 1 = cc in omega arith
code_names tables section (some home) address size immediate c e = sized (eqb size 32) (eqb size 64) (sym (ap (λ b. cond b (targets (eqb size 32) (eqb size 64)) nothing) c) ∙ e)
  where
    targets : Bool → Bool → Named
    targets a b =
        cond a (function_at tables home (pos address +ℤ slots_on immediate))
        (cond b (function_at tables home (pos address +ℤ immediate)) (unclear 8))

    sized : (a b : Bool) → targets a b ≡ nothing → ⊥
    sized true b e = found_or_missing (row_at tables home (pos address +ℤ slots_on immediate)) e
    sized false true e = found_or_missing (row_at tables home (pos address +ℤ immediate)) e
    sized false false e = let z : ◌≡◌ {A = ℕ} 0 1 = cc in omega arith
code_names tables other none address size immediate c e = let z : ◌≡◌ {A = ℕ} 0 1 = cc in omega arith
code_names tables other (some home) address size immediate c e = unknown (sym (ap (λ b. cond b (unclear 8) nothing) c) ∙ e)
  where
    unknown : unclear 8 ≡ nothing → ⊥
    unknown e = let z : ◌≡◌ {A = ℕ} 0 1 = cc in omega arith

reference_names : (tables : Tables) (row slot : ℕ) → FunctionReference tables row slot → (object_of tables).named row slot ≡ nothing → ⊥
unfolding object_of
reference_names tables row slot r e =
    code_names tables r.symbol.kind r.symbol.home r.symbol.address r.relocation.size (insn_of tables row slot).immediate r.code
    (sym (ap (λ o. by_relocation tables o (row_of tables row) slot (insn_of tables row slot)) r.relocates
    ∙ ap (λ o. by_symbol_row tables o r.relocation.size (insn_of tables row slot).immediate) r.known) ∙ e)

-- a wide load that names something is not copied
not_copied : (c : Bool) (n : Named) → (n ≡ nothing → ⊥) → decide c true n ≡ copied → ⊥
unfolding decide
not_copied c nothing named e = named refl
not_copied true (function row) named e = let z : ◌≡◌ {A = ℕ} 0 1 = cc in omega arith
not_copied false (function row) named e = let z : ◌≡◌ {A = ℕ} 0 1 = cc in omega arith
not_copied true (missing number) named e = let z : ◌≡◌ {A = ℕ} 0 1 = cc in omega arith
not_copied false (missing number) named e = let z : ◌≡◌ {A = ℕ} 0 1 = cc in omega arith
not_copied true (unclear number) named e = let z : ◌≡◌ {A = ℕ} 0 1 = cc in omega arith
not_copied false (unclear number) named e = let z : ◌≡◌ {A = ℕ} 0 1 = cc in omega arith

module _ (tables : Tables) (root : ℕ) (image : List Insn) (pieces : List Piece) (faithful : Faithful (object_of tables) root image pieces) where
  refers_one : (row slot start : ℕ) → Memᴰ (piece row start) pieces → slot < (object_of tables).slots row → FunctionReference tables row slot → Refers (object_of tables) row slot
  unfolding Linked meaning
  refers_one row slot start m l r = go (meaning (object_of tables) row slot) refl (faithful.linked (piece row start) m slot l)
    where
      go : (x : Meaning) → meaning (object_of tables) row slot ≡ x → LinkOf pieces ((object_of tables).insn row slot) (start + slot) (slot_at image (start + slot)) x → Refers (object_of tables) row slot
      go copied e k =
          absurd (not_copied (is_call ((object_of tables).insn row slot)) ((object_of tables).named row slot) (reference_names tables row slot r)
          (ap (λ w. decide (is_call ((object_of tables).insn row slot)) w ((object_of tables).named row slot)) (sym r.wide) ∙ e))
      go (call callee) e k =
          let is : is_call ((object_of tables).insn row slot) ≡ true = subst (Slots.Fits (is_call ((object_of tables).insn row slot)) (is_wide_load (object_of tables) row slot)) e (meaning_fits (object_of tables) row slot) in
          absurd (omega (arith, call_opcode ((object_of tables).insn row slot) is, wide_opcode (object_of tables) row slot r.wide))
      go (reference callee) e k = record { callee = callee; is = e }
      go (refused number) e k = absurd k

  walk_refers : (answers : List Bool) (steps row slot : ℕ) (back : List SourcePlace) (rest : List Bool) → source_walk (object_of tables) root answers steps ≡ standing (place row (pos slot)) back rest
      → FunctionReference tables row slot → Refers (object_of tables) row slot
  walk_refers answers steps row slot back rest e r =
      let p = in_piece (object_of tables) root image pieces faithful answers steps row slot back rest e in
      refers_one row slot p.start p.among (stands_in (object_of tables) root image pieces faithful answers steps row slot back rest e) r

-- ---- every slot of the image fits its eight bytes
blank_plain : Plain blank
blank_plain = record { opcode = omega arith; destination = omega arith; source = omega arith; offset = omega arith; immediate = omega arith }

slot_plain : (order : Order) (bytes : List ℕ) → AreBytes bytes → (k : ℕ) → Plain (slot_at (decoded order bytes) k)
slot_plain order bytes are k = go (dec_lt k (length bytes / 8))
  where
    go : Dec (k < length bytes / 8) → Plain (slot_at (decoded order bytes) k)
    go (yes l) = subst Plain (sym (decoded_at order bytes k l)) (decode_plain order bytes are (8 * k))
    go (no n) = subst Plain (sym (get_or-eq_default (decoded order bytes) blank {n = k} (rw (decoded_length order bytes) (omega arith)))) blank_plain

calling_plain : (i : Insn) (start here : ℕ) → Plain i → start < half32 → here < half32 → Plain (calling i start here)
unfolding calling
calling_plain i start here p l m = record { opcode = p.opcode; destination = p.destination; source = p.source; offset = p.offset; immediate = displacement_fits start here l m }

referring_plain : (i : Insn) (start here : ℕ) → Plain i → start < half32 → here < half32 → Plain (referring i start here)
unfolding referring
referring_plain i start here p l m = record { opcode = p.opcode; destination = p.destination; source = omega arith; offset = p.offset; immediate = displacement_fits start here l m }

module _ (object : Object) (root : ℕ) (image : List Insn) (pieces : List Piece) (faithful : Faithful object root image pieces)
    (sources : (row slot : ℕ) → Plain (object.insn row slot)) (small : length image < half32) where
  linked_plain : (row slot here : ℕ) (i : Insn) (m : Meaning) → here < half32 → LinkOf pieces (object.insn row slot) here i m → Plain i
  linked_plain row slot here i copied l k = subst Plain (sym k) (sources row slot)
  linked_plain row slot here i (call callee) l k =
      subst Plain (sym k.holds) (calling_plain (object.insn row slot) k.start here (sources row slot) (omega (arith, (tile_fits object 0 (length image) k.among faithful.tiled).1)) l)
  linked_plain row slot here i (reference callee) l k =
      subst Plain (sym k.holds) (referring_plain (object.insn row slot) k.start here (sources row slot) (omega (arith, (tile_fits object 0 (length image) k.among faithful.tiled).1)) l)
  linked_plain row slot here i (refused number) l k = absurd k

  image_plain : (k : ℕ) → k < length image → Plain (slot_at image k)
  unfolding Linked
  image_plain k l =
      let c = tile_covers object pieces 0 (length image) k faithful.tiled (omega arith) l in
      let slot : ℕ = k - c.by.start in
      let at : c.by.start + slot ≡ k = omega (arith, c.low) in
      subst (λ n. Plain (slot_at image n)) at
      (linked_plain c.by.row slot (c.by.start + slot) (slot_at image (c.by.start + slot)) (meaning object c.by.row slot) (omega arith)
      (faithful.linked c.by c.among slot (omega (arith, c.low, c.high))))

-- ---- room keeps the image small
module _ (tables : Tables) (room : Room) where
  room_passed : (slots functions lines row : ℕ) → room_for tables room slots functions lines row ≡ none → slots + (row_of tables row).slots ≤ room.slots
  unfolding room_for
  room_passed slots functions lines row e = go (leb (slots + (row_of tables row).slots) room.slots) refl e
    where
      rest : Option Refusal
      rest = cond (leb (functions + length (function_records_of tables row)) room.functions)
          (cond (leb (lines + length (lines_of tables row)) room.lines) none (some (refusal 11 row 0)))
          (some (refusal 11 row 0))

      go : (b : Bool) → leb (slots + (row_of tables row).slots) room.slots ≡ b → cond b rest (some (refusal 11 row 0)) ≡ none → slots + (row_of tables row).slots ≤ room.slots
      go true f e = leb-true _ _ f
      go false f e = let z : ◌≡◌ {A = ℕ} 0 1 = cc in absurd (omega arith)

  pub stray_passed : (a : Option Refusal) (k : Option ℕ) (row : ℕ) → then_stray tables a k row ≡ none → a ≡ none
  stray_passed none k row e = refl
  stray_passed (some why) k row e = let z : ◌≡◌ {A = ℕ} 0 1 = cc in absurd (omega arith)

  pub image_small : (root : ℕ) (final : State) → link_step tables room root ≡ linked final → length final.image ≤ room.slots
  unfolding link_step object_of admits
  image_small root final e =
      within_room (object_of tables) (admits tables room root) (root_admits tables room root) root final e room.slots
      (λ ok. omega (arith, room_passed 0 0 0 root ok))
      (λ row state ok. room_passed (length state.image) (length (image_functions tables root state.placed)) (length (image_lines tables root state.placed)) row
      (stray_passed (room_for tables room (length state.image) (length (image_functions tables root state.placed)) (length (image_lines tables root state.placed)) row) (stray_line tables row) row ok))

-- ---- the theorem
pub front : (n k : ℕ) (bytes : List ℕ) → length bytes ≡ k → take k (padded n bytes) ≡ bytes
unfolding padded
front n k bytes e = take_at bytes (replicate (n - length bytes) 0) k e

-- the fuel never runs out
pub step_finishes : (order : Order) (o : Offered) (lent : Outputs) (root : ℕ) → Finished (link_step (tables_of order o) (room_in lent) root)
unfolding link_step
step_finishes order o lent root = tables_finish (tables_of order o) (admits (tables_of order o) (room_in lent) root) (root_admits (tables_of order o) (room_in lent) root) root

-- a faithful image with the records of its pieces keeps the path, whoever made it
pub kept_by : (order : Order) (o : Offered) (root : ℕ) (image func_info line_info : List ℕ) (others : List Piece)
    → Faithful (object_of (tables_of order o)) root (decoded order image) (piece root 0 ∷ others)
    → func_info ≡ func_info_bytes order (image_functions (tables_of order o) root others)
    → line_info ≡ line_info_bytes order (image_lines (tables_of order o) root others)
    → PathKeptBy order o root image func_info line_info others
kept_by order o root image func_info line_info others f functions lines = record {
  layout = f;
  functions = functions;
  lines = lines;
  path = keeps_path (object_of (tables_of order o)) root (decoded order image) (piece root 0 ∷ others) f;
  named = λ answers steps row slot back rest.
      walk_names (object_of (tables_of order o)) root (decoded order image) (piece root 0 ∷ others) f answers steps row slot back rest;
  referred = λ answers steps row slot back rest.
      walk_refers (tables_of order o) root (decoded order image) (piece root 0 ∷ others) f answers steps row slot back rest;
}

module _ (order : Order) (o : Offered) (root : ℕ) (lent : Outputs) (are : AreBytes o.instructions) where
  source_plain : (row slot : ℕ) → Plain ((object_of (tables_of order o)).insn row slot)
  unfolding object_of tables_of
  source_plain row slot = slot_plain order o.instructions are (base (tables_of order o) row + slot)

  module _ (final : State) (e : link_step (tables_of order o) (room_in lent) root ≡ linked final) where
    faithful : Faithful (object_of (tables_of order o)) root final.image (piece root 0 ∷ final.placed)
    unfolding link_step
    faithful = link_faithful (object_of (tables_of order o)) (admits (tables_of order o) (room_in lent) root) (root_admits (tables_of order o) (room_in lent) root) root final e

    pub plain : AllPlain final.image
    plain =
        all_plain final.image
        (image_plain (object_of (tables_of order o)) root final.image (piece root 0 ∷ final.placed) faithful source_plain
        (omega (arith, image_small (tables_of order o) (room_in lent) root final e)))

    result : LinkResult
    result = accepted_link order lent final.image (image_functions (tables_of order o) root final.placed) (image_lines (tables_of order o) root final.placed)

    image_back : decoded order (used_image result) ≡ final.image
    unfolding result
    image_back =
        ap (decoded order) (front lent.image (8 * length final.image) (encoded order final.image) (encoded_length order final.image))
        ∙ decoded_encoded order final.image plain

    accepted_keeps : PathKept order o root result
    unfolding result
    accepted_keeps = record {
      others = final.placed;
      kept = kept_by order o root (used_image (accepted_link order lent final.image (image_functions (tables_of order o) root final.placed) (image_lines (tables_of order o) root final.placed))) _ _ final.placed
          (subst (λ image. Faithful (object_of (tables_of order o)) root image (piece root 0 ∷ final.placed)) (sym image_back) faithful)
          (front lent.func_info (8 * length (image_functions (tables_of order o) root final.placed)) (func_info_bytes order (image_functions (tables_of order o) root final.placed))
          (func_bytes_length order (image_functions (tables_of order o) root final.placed)))
          (front lent.line_info (16 * length (image_lines (tables_of order o) root final.placed)) (line_info_bytes order (image_lines (tables_of order o) root final.placed))
          (line_bytes_length order (image_lines (tables_of order o) root final.placed)));
      slots = ap length image_back;
      functions_count = refl;
      lines_count = refl;
    }

  -- an answer of 0, on any bytes, root and lent sizes
  pub demand_3 : (link_entry order o root lent).reply.number ≡ 0 → PathKept order o root (link_entry order o root lent)
  unfolding link_entry result
  demand_3 ok = go (link_refusal o root) refl ok
    where
      by : (out : Outcome) → link_step (tables_of order o) (room_in lent) root ≡ out → Finished out → Numbered out → (by_outcome order (tables_of order o) root lent out).reply.number ≡ 0
          → PathKept order o root (by_outcome order (tables_of order o) root lent out)
      by (linked final) e f n z = accepted_keeps final e
      by (refuses why) e f n z = absurd (n z)
      by unfinished e f n z = absurd f

      go : (x : Option Reply) → link_refusal o root ≡ x → (unless_link_refused order o root lent x).reply.number ≡ 0 → PathKept order o root (unless_link_refused order o root lent x)
      go none e z = by (link_step (tables_of order o) (room_in lent) root) refl (step_finishes order o lent root) (step_numbered (tables_of order o) (room_in lent) root) z
      go (some r) e z = absurd (link_number o r root e z)
