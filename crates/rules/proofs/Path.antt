-- Demand 3 for every faithful image.
-- Assumes nothing.
use mathlib.Core.Path.{◌≡◌, refl, sym, ◌∙◌, ap}
use mathlib.Core.Bool.{Bool, true, false, cond, false≢true}
use mathlib.Core.Option.{Option, none, some, IsSome}
use mathlib.Core.List.{List, Memᴰ}
use Prim.Native.Nat.{ℕ, ◌+◌, ◌≤◌, ◌<◌}
use native.Mathlib.Omega.{arith}
use lib.IntN.{ℤ, pos, negsuc, nat_abs, ◌+ℤ◌, +ℤ_assoc, +ℤ_idr}
use lib.ListN.{length}
use lib.Dec.{ltb}
use borrow.Author.Tests.{ltb-true, lt-ltb}
use Rattle.rules.specs.declared.Kind.{Kind}
use Rattle.rules.specs.declared.Kind.TheVariants.{Plain, WideLoad, JumpByOffset, JumpByImmediate, Conditional, CallByte, Exit, Unknown}
use Rattle.rules.specs.Object.{Insn, is_call, Object, is_wide_load, Meaning, copied, call, reference, refused, meaning, calling, referring}
use Rattle.rules.specs.Faithful.{Piece, piece, slot_at, LinkOf, Linked, Faithful}
use Rattle.rules.specs.Walk.{Move, by_kind, leads, kind, SourcePlace, place, callee_of, in_source, in_image, source_walk, image_walk, standing, stopped, ended, left, Walk}
use Rattle.rules.specs.Together.{Together, SamePlace, RefersTo, ReferencePassed, KeepsPath, both_stand}
use Rattle.rules.proofs.Simulation.{SameMove, same_goes, same_chooses, same_enters, same_returns, same_stuck, SameSight, outside, inside, walk_together, walk_inside}
use Rattle.rules.proofs.Tiles.{tile_fits, tile_one}
use Rattle.rules.proofs.Slots.{Fits, meaning_fits, wide_opcode, leads_call, leads_wide, displaced}

module _ (pieces : List Piece) where
  -- a slot further on is the same slot further on
  ahead_same : (row : ℕ) (slot there : ℤ) → SamePlace pieces (place row slot) there → (d : ℤ) → SamePlace pieces (place row (slot +ℤ d)) (there +ℤ d)
  ahead_same row slot there same d = record {
    start = same.start;
    among = same.among;
    holds = ap (λ x. x +ℤ d) same.holds ∙ +ℤ_assoc (pos same.start) slot d;
  }

  module _ (ahead : ℤ → SourcePlace) (ahead' : ℤ → ℤ) (same : (d : ℤ) → SamePlace pieces (ahead d) (ahead' d)) where
    -- a slot that is copied, and no call, leads to the same places
    copied_same : (k : Kind) (i : Insn) (callee : Option SourcePlace) (callee' : Option ℤ) → is_call i ≡ false
        → SameMove (SamePlace pieces) (by_kind k i ahead callee) (by_kind k i ahead' callee')
    copied_same Plain i callee callee' e = same_goes (same (pos 1))
    copied_same WideLoad i callee callee' e = same_goes (same (pos 2))
    copied_same JumpByOffset i callee callee' e = same_goes (same (pos 1 +ℤ i.offset))
    copied_same JumpByImmediate i callee callee' e = same_goes (same (pos 1 +ℤ i.immediate))
    copied_same Conditional i callee callee' e = same_chooses (same (pos 1 +ℤ i.offset)) (same (pos 1))
    copied_same CallByte i callee callee' e = rw e (same_goes (same (pos 1)))
    copied_same Exit i callee callee' e = same_returns
    copied_same Unknown i callee callee' e = same_stuck

    -- and so does every slot that is a right link of its source slot
    link_same : (i : Insn) (wide : Bool) (here : ℕ) (j : Insn) → (wide ≡ true → i.opcode ≡ 0x18)
        → (m : Meaning) → Fits (is_call i) wide m → LinkOf pieces i here j m → (first : ℤ) → first ≡ pos here +ℤ (pos 1 +ℤ j.immediate)
        → SameMove (SamePlace pieces) (leads i ahead (callee_of m)) (leads j ahead' (some first))
    unfolding leads is_call calling referring
    link_same i wide here j w copied f l first e = rw l (copied_same (kind i.opcode) i none (some first) f)
    link_same i wide here j w (call row) f l first e =
        rw (leads_call ahead i (place row (pos 0)) f, leads_call ahead' j first (ap is_call l.holds ∙ f))
        (same_enters (record {
          start = l.start;
          among = l.among;
          holds = e ∙ ap (λ x. pos here +ℤ (pos 1 +ℤ x.immediate)) l.holds ∙ displaced l.start here ∙ sym (+ℤ_idr (pos l.start));
        }) (same (pos 1)))
    link_same i wide here j w (reference row) f l first e =
        rw (leads_wide ahead i none (w f), leads_wide ahead' j (some first) (ap (λ x. x.opcode) l.holds ∙ w f)) (same_goes (same (pos 2)))
    link_same i wide here j w (refused number) f l first e = absurd l

-- two tests for the inside, the second passing where the first does
sight_of : {Same : SourcePlace → ℤ → Type 0} {m : Move SourcePlace} {m' : Move ℤ} (b b' : Bool)
    → (b ≡ true → b' ≡ true) → (b ≡ true → SameMove Same m m') → SameSight Same (cond b (some m) none) (cond b' (some m') none)
sight_of true true t s = inside (s refl)
sight_of true false t s = absurd (false≢true (t refl))
sight_of false b' t s = outside

some_of : {A : Type 0} (a : A) (b : Bool) → IsSome (cond b (some a) none) → b ≡ true
some_of a true s = refl
some_of a false s = absurd s

pub stood : {A B : Type 0} {Same : A → B → Type 0} {a : A} {b : B} {s : List A} {t : List B} {answers answers' : List Bool}
    → Together Same (standing a s answers) (standing b t answers') → Same a b
stood (both_stand here frames) = here

module _ (object : Object) (root : ℕ) (image : List Insn) (pieces : List Piece) (faithful : Faithful object root image pieces) where
  ends_inside : (row start : ℕ) → Memᴰ (piece row start) pieces → start + object.slots row ≤ length image
  ends_inside row start m = (tile_fits object 0 (length image) m faithful.tiled).1

  -- inside the function, its copy's slot in the image shows the same
  sight_in : (row start slot : ℕ) → Memᴰ (piece row start) pieces
      → SameSight (SamePlace pieces) (in_source object (place row (pos slot))) (in_image image (pos (start + slot)))
  unfolding in_source in_image Linked
  sight_in row start slot m =
      sight_of (ltb slot (object.slots row)) (ltb (start + slot) (length image))
      (λ b. lt-ltb (start + slot) (length image) (omega (arith, ltb-true slot (object.slots row) b, ends_inside row start m)))
      (λ b. link_same pieces (λ d. place row (pos slot +ℤ d)) (λ d. pos (start + slot) +ℤ d)
      (ahead_same pieces row (pos slot) (pos (start + slot)) (record { start = start; among = m; holds = refl }))
      (object.insn row slot) (is_wide_load object row slot) (start + slot) (slot_at image (start + slot))
      (wide_opcode object row slot) (meaning object row slot) (meaning_fits object row slot)
      (faithful.linked (piece row start) m slot (ltb-true slot (object.slots row) b))
      (pos (start + slot) +ℤ (pos 1 +ℤ (slot_at image (start + slot)).immediate)) refl)

  sight : (row : ℕ) (slot there : ℤ) → SamePlace pieces (place row slot) there
      → SameSight (SamePlace pieces) (in_source object (place row slot)) (in_image image there)
  unfolding in_source
  sight row (negsuc n) there same = outside
  sight row (pos n) there same = rw same.holds (sight_in row same.start n same.among)

  together : (answers : List Bool) (steps : ℕ)
      → Together (SamePlace pieces) (source_walk object root answers steps) (image_walk image answers steps)
  together = walk_together (SamePlace pieces) (in_source object) (in_image image) (λ here there same. sight here.row here.slot there same)
      (record { start = 0; among = rw faithful.root_first (Memᴰ.head refl); holds = refl })

  -- a source walk stands at slots of its function only
  pub stands_in : (answers : List Bool) (steps row slot : ℕ) (back : List SourcePlace) (rest : List Bool)
      → source_walk object root answers steps ≡ standing (place row (pos slot)) back rest → slot < object.slots row
  unfolding in_source
  stands_in answers steps row slot back rest e =
      ltb-true slot (object.slots row)
      (some_of _ (ltb slot (object.slots row)) (rw e at (walk_inside (in_source object) (place root (pos 0)) answers steps)))

  refers : (row slot callee here : ℕ) → slot < object.slots row → SamePlace pieces (place row (pos slot)) (pos here)
      → meaning object row slot ≡ reference callee → RefersTo image pieces callee here
  unfolding Linked referring
  refers row slot callee here within_row same e =
      let link = rw e at (faithful.linked (piece row same.start) same.among slot within_row) in
      rw (ap nat_abs same.holds) (record {
        register = ap (λ x. x.source) link.holds;
        target = record {
          start = link.start;
          among = link.among;
          holds = ap (λ x. pos (same.start + slot) +ℤ (pos 1 +ℤ x.immediate)) link.holds ∙ displaced link.start (same.start + slot);
        };
      })

  passed : (row slot callee : ℕ) (answers : List Bool) (steps : ℕ) (back : List SourcePlace) (rest : List Bool) → slot < object.slots row → meaning object row slot ≡ reference callee
      → (w : Walk ℤ) → image_walk image answers steps ≡ w → Together (SamePlace pieces) (standing (place row (pos slot)) back rest) w
      → ReferencePassed image pieces callee answers steps rest
  passed row slot callee answers steps back rest l named (standing there frames rest') e (both_stand same framed) = record {
    here = same.start + slot;
    back = frames;
    stands = e ∙ ap (λ x. standing x frames rest) same.holds;
    refers = refers row slot callee (same.start + slot) l (record { start = same.start; among = same.among; holds = refl }) named;
  }
  passed row slot callee answers steps back rest l named (stopped _ _) e x = elim x [ ]
  passed row slot callee answers steps back rest l named (ended _) e x = elim x [ ]
  passed row slot callee answers steps back rest l named left e x = elim x [ ]

  one_place : (row row' slot slot' : ℕ) (there : ℤ) → slot < object.slots row → slot' < object.slots row'
      → SamePlace pieces (place row (pos slot)) there → SamePlace pieces (place row' (pos slot')) there → (row ≡ row') × (slot ≡ slot')
  one_place row row' slot slot' there l l' same same' =
      let here : same.start + slot ≡ same'.start + slot' = ap nat_abs (sym same.holds ∙ same'.holds) in
      let one = tile_one object (piece row same.start) (piece row' same'.start) pieces 0 (length image) (same.start + slot) same.among same'.among
      faithful.tiled (omega arith) (omega arith) (omega arith) (omega arith) in
      (ap (λ p. p.row) one, omega (arith, ap (λ p. p.start) one))

  pub keeps_path : KeepsPath object root image pieces
  keeps_path = record {
    together = together;
    references = λ answers steps row slot callee back rest e named.
        passed row slot callee answers steps back rest (stands_in answers steps row slot back rest e) named (image_walk image answers steps) refl (rw e at (together answers steps));
    one_place = one_place;
  }
