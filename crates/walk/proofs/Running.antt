-- A run goes step by step with the definition's walk, until the walk rests or lacks a frame: then it stays so.
-- Assumes nothing.
use mathlib.Core.Path.{◌≡◌, refl, sym, ap, ◌∙◌, subst}
use mathlib.Core.Logic.{◌⊎◌, inl, inr}
use mathlib.Core.Bool.{Bool, true, false, cond, ◌||◌}
use mathlib.Core.Option.{Option, none, some}
use mathlib.Core.List.{List, []}
use Prim.Native.Nat.{ℕ, zero, suc, ◌≤◌, ◌<◌}
use native.Mathlib.Nat.{eq-or-lt_of_le}
use native.Mathlib.Omega.{arith}
use lib.Dec.{ltb}
use lib.ListN.{length}
use borrow.Author.Tests.{le-ltb}
use Rattle.rules.specs.Tables.{is_some}
use Rattle.rules.specs.Walk.{Walk, standing, stopped, ended, left, Move, goes, chooses, enters, returns, stuck, arriving, step, walk}
use Rattle.walk.specs.Runs.{answers_in, Stood, stands, stops, ends, leaves, lacks, deeper, stood, stood_in, runs_out, Frames, walk_from, writing, frames_after, frames_through, Stepped, Ran}
use Rattle.walk.proofs.Runs.{FrameLaws, Kept, stays, halts, finishes, is_out, sinks, moving_kept, stack_length, standing_is, stopped_is}

-- from one number on
onward : (P : ℕ → Type 0) (k : ℕ) → P k → ((m : ℕ) → P m → P (suc m)) → (limit : ℕ) → k ≤ limit → P limit
onward P k p next zero h = subst P (omega arith) p
onward P k p next (suc limit) h = by (eq-or-lt_of_le h) (λ l. onward P k p next limit l)
  where
    by : (k ≡ suc limit) ⊎ (k < suc limit) → (k ≤ limit → P limit) → P (suc limit)
    by (inl e) before = subst P e p
    by (inr l) before = next limit (before (omega arith))

module _ {Place : Type 0} where
  -- is it a state that no step changes
  abbrev pub is_rest : Stood Place → Bool
  is_rest (stands at depth taken) = false
  is_rest (stops at depth) = true
  is_rest (ends at) = true
  is_rest leaves = true
  is_rest lacks = false

  abbrev is_stand : Stood Place → Bool
  is_stand (stands at depth taken) = true
  is_stand (stops at depth) = false
  is_stand (ends at) = false
  is_stand leaves = false
  is_stand lacks = false

  abbrev is_lack : Stood Place → Bool
  is_lack (stands at depth taken) = false
  is_lack (stops at depth) = false
  is_lack (ends at) = false
  is_lack leaves = false
  is_lack lacks = true

  abbrev depth_in : Stood Place → ℕ
  depth_in (stands at depth taken) = depth
  depth_in (stops at depth) = 0
  depth_in (ends at) = 0
  depth_in leaves = 0
  depth_in lacks = 0

  abbrev taken_in : Stood Place → ℕ
  taken_in (stands at depth taken) = taken
  taken_in (stops at depth) = 0
  taken_in (ends at) = 0
  taken_in leaves = 0
  taken_in lacks = 0

never : {A : Type 0} → true ≡ false → A
never e = let z : ◌≡◌ {A = ℕ} 0 1 = cc in absurd (omega arith)

module _ {Place : Type 0} (room given : ℕ) where
  deep_lacks : (w : Walk Place) → lacks ≡ stood_in room given w → deeper room w ≡ true
  deep_lacks w e = by (deeper room w) e
    where
      told : (v : Walk Place) → lacks ≡ stood given v → false ≡ true
      told (standing at stack answers) q = sym (ap is_lack q)
      told (stopped at stack) q = sym (ap is_lack q)
      told (ended at) q = sym (ap is_lack q)
      told left q = sym (ap is_lack q)

      by : (b : Bool) → lacks ≡ cond b lacks (stood given w) → b ≡ true
      by true q = refl
      by false q = told w q

module _ {Place Lent : Type 0} (frames : Frames Place Lent) (look : Place → Option (Move Place)) where
  record Rests (room given : ℕ) (w : Walk Place) (s : Stood Place) : Type 0 where
    pub shallow : deeper room w ≡ false
    pub stand : s ≡ stood given w
    pub still : step look w ≡ w
    pub unwritten : (lent : Lent) → frames_after frames look lent w ≡ lent

  rests : (room given : ℕ) (w : Walk Place) (s : Stood Place) → is_rest s ≡ true → s ≡ stood_in room given w → Rests room given w s
  rests room given w s r e = by (deeper room w) refl e
    where
      told : (v : Walk Place) → deeper room v ≡ false → s ≡ stood given v → Rests room given v s
      told (standing at stack answers) d q = never (sym r ∙ ap is_rest q)
      told (stopped at stack) d q = record { shallow = d; stand = q; still = refl; unwritten = λ lent. refl }
      told (ended at) d q = record { shallow = d; stand = q; still = refl; unwritten = λ lent. refl }
      told left d q = record { shallow = d; stand = q; still = refl; unwritten = λ lent. refl }

      by : (b : Bool) → deeper room w ≡ b → s ≡ cond b lacks (stood given w) → Rests room given w s
      by true d q = never (sym r ∙ ap is_rest q)
      by false d q = told w d q

  room_writing : FrameLaws frames → (lent : Lent) (d : ℕ) (m : Option (Move Place)) → frames.room (writing frames m lent d) ≡ frames.room lent
  room_writing laws lent d none = refl
  room_writing laws lent d (some (goes next)) = refl
  room_writing laws lent d (some (chooses a b)) = refl
  room_writing laws lent d (some (enters first back)) = by (ltb d (frames.room lent))
    where
      by : (v : Bool) → frames.room (cond v (frames.put lent d back) lent) ≡ frames.room lent
      by true = laws.kept lent d back
      by false = refl
  room_writing laws lent d (some returns) = refl
  room_writing laws lent d (some stuck) = refl

  -- where a step comes to, if it stands
  record Lands (answers : List ℕ) (after : Lent) (w : Walk Place) (at : Place) (depth taken : ℕ) : Type 0 where
    pub here : w ≡ walk_from frames after answers at depth taken
    pub deep : depth ≤ frames.room after
    pub few : taken ≤ length answers

  lands : (answers : List ℕ) (after : Lent) (w : Walk Place) (at : Place) (depth taken : ℕ) → Kept frames answers after w
      → stands at depth taken ≡ stood_in (frames.room after) (length answers) w → Lands answers after w at depth taken
  lands answers after w at depth taken (stays at' d t h k) e =
      let q : stands at depth taken ≡ stands at' d t = e ∙ sym (standing_is frames look answers after at' d t h k) in
      let dq : depth ≡ d = ap depth_in q in
      let tq : taken ≡ t = ap taken_in q in
      let aq : at ≡ at' = cc in
      record { here = rw (aq, dq, tq); deep = omega arith; few = omega arith }
  lands answers after w at depth taken (halts at' d h) e = never (ap is_stand (e ∙ sym (stopped_is frames look answers after at' d h)))
  lands answers after w at depth taken (finishes at') e =
      never (ap is_stand (e ∙ ap (λ (b : Bool). cond b lacks (ends at')) (le-ltb (frames.room after) 0 (omega arith))))
  lands answers after w at depth taken is_out e = never (ap is_stand (e ∙ ap (λ (b : Bool). cond b lacks leaves) (le-ltb (frames.room after) 0 (omega arith))))
  lands answers after w at depth taken (sinks v d) e = never (ap is_stand (e ∙ ap (λ (b : Bool). cond b lacks (stood (length answers) v)) d))

module _ {Place Lent : Type 0} (frames : Frames Place Lent) (look : Place → Option (Move Place)) (first : Place) (answers : List ℕ) (lent₀ : Lent) where
  abbrev walked : ℕ → Walk Place
  walked = walk look first (answers_in answers)

  -- after k steps the walk stands where the numbers say, and the frames hold its stack
  pub record Running (lent : Lent) (k : ℕ) (at : Place) (depth taken : ℕ) : Type 0 where
    pub here : walked k ≡ walk_from frames lent answers at depth taken
    pub deep : depth ≤ frames.room lent
    pub few : taken ≤ length answers
    pub not_out : runs_out (frames.room lent₀) walked k ≡ false
    pub frames_are : lent ≡ frames_through frames look lent₀ walked k
    pub room_kept : frames.room lent ≡ frames.room lent₀

  begins_at : (m : Option (Move Place)) → look first ≡ m → walked 0 ≡ arriving look m first [] (answers_in answers)
  begins_at m e = ap (λ (o : Option (Move Place)). arriving look o first [] (answers_in answers)) e

  begins_with : (m : Move Place) → look first ≡ some m → Running lent₀ 0 first 0 0
  unfolding runs_out frames_through
  begins_with m e = record {
    here = begins_at (some m) e;
    deep = omega arith;
    few = omega arith;
    not_out = ap (deeper (frames.room lent₀)) (begins_at (some m) e) ∙ le-ltb (frames.room lent₀) 0 (omega arith);
    frames_are = refl;
    room_kept = refl;
  }

  pub begins : is_some (look first) ≡ true → Running lent₀ 0 first 0 0
  begins h = by (look first) refl h
    where
      by : (o : Option (Move Place)) → look first ≡ o → is_some o ≡ true → Running lent₀ 0 first 0 0
      by none e t = never (sym t)
      by (some m) e t = begins_with m e

  -- a walk that rests stays as it is
  record Settled (after : Lent) (w : Walk Place) (k : ℕ) : Type 0 where
    pub here : walked k ≡ w
    pub not_out : runs_out (frames.room lent₀) walked k ≡ false
    pub frames_are : after ≡ frames_through frames look lent₀ walked k

  through : (k : ℕ) → runs_out (frames.room lent₀) walked k ≡ false
      → frames_through frames look lent₀ walked (suc k) ≡ frames_after frames look (frames_through frames look lent₀ walked k) (walked k)
  unfolding frames_through
  through k e =
      ap (λ (b : Bool). cond b (frames_through frames look lent₀ walked k) (frames_after frames look (frames_through frames look lent₀ walked k) (walked k))) e

  still_in : (k : ℕ) → runs_out (frames.room lent₀) walked k ≡ false → deeper (frames.room lent₀) (walked (suc k)) ≡ false
      → runs_out (frames.room lent₀) walked (suc k) ≡ false
  unfolding runs_out
  still_in k e d = ap (λ (b : Bool). b || deeper (frames.room lent₀) (walked (suc k))) e ∙ d

  settled : {s : Stood Place} (after : Lent) (w : Walk Place) → Rests frames look (frames.room lent₀) (length answers) w s → (k : ℕ) → Settled after w k
      → Settled after w (suc k)
  settled after w r k t =
      let h : walked (suc k) ≡ w = ap (step look) t.here ∙ r.still in
      record {
        here = h;
        not_out = still_in k t.not_out (ap (deeper (frames.room lent₀)) h ∙ r.shallow);
        frames_are =
            sym (through k t.not_out
            ∙ ap (λ (v : Walk Place). frames_after frames look (frames_through frames look lent₀ walked k) v) t.here
            ∙ r.unwritten (frames_through frames look lent₀ walked k)
            ∙ sym t.frames_are);
      }

  rested : (after : Lent) (w : Walk Place) (s : Stood Place) → Rests frames look (frames.room lent₀) (length answers) w s → (k : ℕ) → Settled after w k
      → (limit : ℕ) → k ≤ limit → Ran frames look (length answers) lent₀ after walked limit s
  rested after w s r k t limit h =
      let e : Settled after w limit = onward (Settled after w) k t (settled after w r) limit h in
      record {
        stand =
            r.stand
            ∙ ap (stood (length answers)) (sym e.here)
            ∙ ap (λ (b : Bool). cond b lacks (stood (length answers) (walked limit))) (sym e.not_out);
        frames_are = e.frames_are;
      }

  -- the first place has no slot
  leaves_from : look first ≡ none → (limit : ℕ) → Ran frames look (length answers) lent₀ lent₀ walked limit leaves
  unfolding runs_out frames_through
  leaves_from e limit =
      let d : ltb (frames.room lent₀) 0 ≡ false = le-ltb (frames.room lent₀) 0 (omega arith) in
      rested lent₀ left leaves (record { shallow = d; stand = refl; still = refl; unwritten = λ lent. refl }) 0
      (record { here = begins_at none e; not_out = ap (deeper (frames.room lent₀)) (begins_at none e) ∙ d; frames_are = refl }) limit (omega arith)

  pub leaves_at_once : is_some (look first) ≡ false → (limit : ℕ) → Ran frames look (length answers) lent₀ lent₀ walked limit leaves
  leaves_at_once h limit = by (look first) refl h
    where
      by : (o : Option (Move Place)) → look first ≡ o → is_some o ≡ false → Ran frames look (length answers) lent₀ lent₀ walked limit leaves
      by none e t = leaves_from e limit
      by (some m) e t = never t

  arrives_now : (lent : Lent) (limit : ℕ) (at : Place) (depth taken : ℕ) → Running lent limit at depth taken
      → Ran frames look (length answers) lent₀ lent walked limit (stands at depth taken)
  arrives_now lent limit at depth taken r =
      let d : deeper (frames.room lent) (walk_from frames lent answers at depth taken) ≡ false =
      rw (stack_length frames lent depth) (le-ltb (frames.room lent) depth r.deep) in
      record {
        stand =
            standing_is frames look answers lent at depth taken r.deep r.few
            ∙ ap (λ (b : Bool). cond b lacks (stood (length answers) (walk_from frames lent answers at depth taken))) d
            ∙ ap (stood (length answers)) (sym r.here)
            ∙ ap (λ (b : Bool). cond b lacks (stood (length answers) (walked limit))) (sym r.not_out);
        frames_are = r.frames_are;
      }

  pub arrives_last : {lent : Lent} {k limit depth taken : ℕ} {at : Place} → Running lent k at depth taken → k ≡ limit
      → Ran frames look (length answers) lent₀ lent walked limit (stands at depth taken)
  arrives_last {lent} {k} {limit} {depth} {taken} {at} r e =
      subst (λ (n : ℕ). Ran frames look (length answers) lent₀ lent walked n (stands at depth taken)) e (arrives_now lent k at depth taken r)

  module _ (laws : FrameLaws frames) {lent after : Lent} {k depth taken : ℕ} {at : Place} {s : Stood Place} (r : Running lent k at depth taken)
      (p : Stepped frames look (length answers) lent after (walk_from frames lent answers at depth taken) s) where
    abbrev come : Walk Place
    come = step look (walk_from frames lent answers at depth taken)

    come_is : walked (suc k) ≡ come
    come_is = ap (step look) r.here

    written_is : after ≡ writing frames (look at) lent depth
    written_is = p.frames_are ∙ ap (writing frames (look at) lent) (stack_length frames lent depth)

    pub after_room : frames.room after ≡ frames.room lent
    after_room = ap frames.room written_is ∙ room_writing frames look laws lent depth (look at)

    frames_next : after ≡ frames_through frames look lent₀ walked (suc k)
    frames_next =
        p.frames_are
        ∙ ap (λ (l : Lent). frames_after frames look l (walk_from frames lent answers at depth taken)) r.frames_are
        ∙ ap (frames_after frames look (frames_through frames look lent₀ walked k)) (sym r.here)
        ∙ sym (through k r.not_out)

    pub goes_on : (at' : Place) (depth' taken' : ℕ) → s ≡ stands at' depth' taken' → Running after (suc k) at' depth' taken'
    goes_on at' depth' taken' e =
        let q : stands at' depth' taken' ≡ stood_in (frames.room after) (length answers) come =
        sym e ∙ p.stand ∙ ap (λ (n : ℕ). stood_in n (length answers) come) (sym after_room) in
        let l : Lands frames look answers after come at' depth' taken' =
        lands frames look answers after come at' depth' taken'
        (subst (λ (x : Lent). Kept frames answers x come) (sym written_is) (moving_kept laws look answers lent at depth taken r.deep r.few (look at))) q in
        record {
          here = come_is ∙ l.here;
          deep = l.deep;
          few = l.few;
          not_out =
              still_in k r.not_out
              (ap (deeper (frames.room lent₀)) (come_is ∙ l.here)
              ∙ rw (stack_length frames after depth') (le-ltb (frames.room lent₀) depth' (omega (arith, l.deep, after_room, r.room_kept))));
          frames_are = frames_next;
          room_kept = after_room ∙ r.room_kept;
        }

    pub comes_to_rest : is_rest s ≡ true → (limit : ℕ) → k < limit → Ran frames look (length answers) lent₀ after walked limit s
    comes_to_rest t limit h =
        let o : Rests frames look (frames.room lent₀) (length answers) come s =
        rests frames look (frames.room lent₀) (length answers) come s t (p.stand ∙ ap (λ (n : ℕ). stood_in n (length answers) come) r.room_kept) in
        rested after come s o (suc k)
        (record { here = come_is; not_out = still_in k r.not_out (ap (deeper (frames.room lent₀)) come_is ∙ o.shallow); frames_are = frames_next }) limit (omega arith)

    record Lacking (m : ℕ) : Type 0 where
      pub out : runs_out (frames.room lent₀) walked m ≡ true
      pub frames_are : after ≡ frames_through frames look lent₀ walked m

    lacking : (m : ℕ) → Lacking m → Lacking (suc m)
    unfolding runs_out frames_through
    lacking m t = record {
      out = ap (λ (b : Bool). b || deeper (frames.room lent₀) (walked (suc m))) t.out;
      frames_are =
          t.frames_are
          ∙ ap (λ (b : Bool). cond b (frames_through frames look lent₀ walked m) (frames_after frames look (frames_through frames look lent₀ walked m) (walked m))) (sym t.out);
    }

    lacks_first : s ≡ lacks → Lacking (suc k)
    unfolding runs_out
    lacks_first e = record {
      out =
          ap (λ (b : Bool). b || deeper (frames.room lent₀) (walked (suc k))) r.not_out
          ∙ ap (deeper (frames.room lent₀)) come_is
          ∙ deep_lacks (frames.room lent₀) (length answers) come (sym e ∙ p.stand ∙ ap (λ (n : ℕ). stood_in n (length answers) come) r.room_kept);
      frames_are = frames_next;
    }

    pub lacks_a_frame : s ≡ lacks → (limit : ℕ) → k < limit → Ran frames look (length answers) lent₀ after walked limit s
    lacks_a_frame e limit h =
        let l : Lacking limit = onward Lacking (suc k) (lacks_first e) lacking limit (omega arith) in
        record {
          stand = e ∙ ap (λ (b : Bool). cond b lacks (stood (length answers) (walked limit))) (sym l.out);
          frames_are = l.frames_are;
        }
