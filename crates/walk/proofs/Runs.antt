-- A step over lent frames is the definition's, and leaves frames that hold the stack it comes to.
-- Assumes nothing.
use mathlib.Core.Path.{◌≡◌, refl, sym, ap, ◌∙◌, subst}
use mathlib.Core.Bool.{Bool, true, false, cond}
use mathlib.Core.Option.{Option, none, some}
use mathlib.Core.List.{List, [], ◌∷◌}
use Prim.Native.Nat.{ℕ, zero, suc, ◌+◌, ◌-◌, ◌≤◌, ◌<◌}
use native.Mathlib.Numerals.{add-one}
use native.Mathlib.Omega.{arith}
use lib.Dec.{eqb, ltb}
use lib.ListN.{length, get_or, drop, length-drop, drop_of_length-le}
use lib.Seq.{drop-cons}
use borrow.Author.Tests.{lt-ltb, le-ltb, ltb-true, ltb-false, ne_eqb}
use Rattle.rules.specs.Walk.{Walk, standing, stopped, ended, left, Move, goes, chooses, enters, returns, stuck, arriving, choosing, moving}
use Rattle.walk.specs.Runs.{answers_in, answers_from, Stood, stands, stops, ends, leaves, lacks, deeper, stood_in, Frames, stack_of, walk_from, writing, Stepped}

-- what frames keep: the place put last, and all below it
pub record FrameLaws {Place Lent : Type 0} (frames : Frames Place Lent) : Type 0 where
  pub same : (lent : Lent) (d : ℕ) (p : Place) → d < frames.room lent → frames.held (frames.put lent d p) d ≡ p
  pub other : (lent : Lent) (d : ℕ) (p : Place) (n : ℕ) → n < d → frames.held (frames.put lent d p) n ≡ frames.held lent n
  pub kept : (lent : Lent) (d : ℕ) (p : Place) → frames.room (frames.put lent d p) ≡ frames.room lent

answers_length : (bs : List ℕ) → length (answers_in bs) ≡ length bs
answers_length [] = refl
answers_length (b ∷ bs) = ap suc (answers_length bs)

pub taken_is : (answers : List ℕ) (taken : ℕ) → taken ≤ length answers → length answers - length (answers_from answers taken) ≡ taken
taken_is answers taken h = omega (arith, answers_length (drop taken answers), length-drop taken answers)

next_answer : (answers : List ℕ) (taken : ℕ) → taken < length answers
    → answers_from answers taken ≡ eqb (get_or answers taken 0) 1 ∷ answers_from answers (taken + 1)
next_answer answers taken h = ap answers_in (drop-cons answers taken 0 h) ∙ rw (add-one)

no_answer : (answers : List ℕ) (taken : ℕ) → length answers ≤ taken → answers_from answers taken ≡ []
no_answer answers taken h = ap answers_in (drop_of_length-le answers h)

module _ {Place Lent : Type 0} (frames : Frames Place Lent) where
  pub stack_length : (lent : Lent) (d : ℕ) → length (stack_of frames lent d) ≡ d
  stack_length lent zero = refl
  stack_length lent (suc d) = ap suc (stack_length lent d)

module _ {Place Lent : Type 0} {frames : Frames Place Lent} (laws : FrameLaws frames) (lent : Lent) (d : ℕ) (p : Place) where
  below_put : (n : ℕ) → n ≤ d → stack_of frames (frames.put lent d p) n ≡ stack_of frames lent n
  below_put zero h = refl
  below_put (suc n) h = rw (laws.other lent d p n (omega arith), below_put n (omega arith))

  pushed : d < frames.room lent → stack_of frames (frames.put lent d p) (suc d) ≡ p ∷ stack_of frames lent d
  pushed h = rw (laws.same lent d p h, below_put d (omega arith))

-- a walk that the frames and the answers hold, or one that is too deep for them
pub data Kept {Place Lent : Type 0} (frames : Frames Place Lent) (answers : List ℕ) (lent : Lent) : Walk Place → Type 0 where
  stays : (at : Place) (d t : ℕ) → d ≤ frames.room lent → t ≤ length answers → Kept frames answers lent (standing at (stack_of frames lent d) (answers_from answers t))
  halts : (at : Place) (d : ℕ) → d ≤ frames.room lent → Kept frames answers lent (stopped at (stack_of frames lent d))
  finishes : (at : Place) → Kept frames answers lent (ended at)
  is_out : Kept frames answers lent left
  sinks : (w : Walk Place) → deeper (frames.room lent) w ≡ true → Kept frames answers lent w

module _ {Place Lent : Type 0} {frames : Frames Place Lent} (laws : FrameLaws frames) (look : Place → Option (Move Place)) (answers : List ℕ) where
  arriving_kept : (lent : Lent) (at : Place) (d t : ℕ) → d ≤ frames.room lent → t ≤ length answers → (o : Option (Move Place))
      → Kept frames answers lent (arriving look o at (stack_of frames lent d) (answers_from answers t))
  arriving_kept lent at d t h k none = is_out
  arriving_kept lent at d t h k (some m) = stays at d t h k

  choosing_kept : (lent : Lent) (at a b : Place) (d t : ℕ) → d ≤ frames.room lent → t ≤ length answers
      → Kept frames answers lent (choosing look at a b (stack_of frames lent d) (answers_from answers t))
  choosing_kept lent at a b d t h k = by (ltb t (length answers)) refl
    where
      told : (v : Bool) → t < length answers → Kept frames answers lent (choosing look at a b (stack_of frames lent d) (v ∷ answers_from answers (t + 1)))
      told true l = arriving_kept lent a d (t + 1) h (omega arith) (look a)
      told false l = arriving_kept lent b d (t + 1) h (omega arith) (look b)

      by : (v : Bool) → ltb t (length answers) ≡ v → Kept frames answers lent (choosing look at a b (stack_of frames lent d) (answers_from answers t))
      by true e =
          let l : t < length answers = ltb-true t (length answers) e in
          subst (λ (bs : List Bool). Kept frames answers lent (choosing look at a b (stack_of frames lent d) bs)) (sym (next_answer answers t l))
          (told (eqb (get_or answers t 0) 1) l)
      by false e =
          subst (λ (bs : List Bool). Kept frames answers lent (choosing look at a b (stack_of frames lent d) bs))
          (sym (no_answer answers t (ltb-false t (length answers) e))) (halts at d h)

  entering_kept : (lent : Lent) (first back : Place) (d t : ℕ) → d ≤ frames.room lent → t ≤ length answers → (o : Option (Move Place)) (v : Bool) → ltb d (frames.room lent) ≡ v
      → Kept frames answers (cond v (frames.put lent d back) lent) (arriving look o first (back ∷ stack_of frames lent d) (answers_from answers t))
  entering_kept lent first back d t h k none v e = is_out
  entering_kept lent first back d t h k (some m) true e =
      let l : d < frames.room lent = ltb-true d (frames.room lent) e in
      subst (λ (s : List Place). Kept frames answers (frames.put lent d back) (standing first s (answers_from answers t))) (pushed laws lent d back l)
      (stays first (suc d) t (omega (arith, laws.kept lent d back)) k)
  entering_kept lent first back d t h k (some m) false e =
      sinks (standing first (back ∷ stack_of frames lent d) (answers_from answers t))
      (lt-ltb (frames.room lent) (suc (length (stack_of frames lent d))) (omega (arith, ltb-false d (frames.room lent) e, stack_length frames lent d)))

  pub moving_kept : (lent : Lent) (at : Place) (d t : ℕ) → d ≤ frames.room lent → t ≤ length answers → (m : Option (Move Place))
      → Kept frames answers (writing frames m lent d) (moving look m at (stack_of frames lent d) (answers_from answers t))
  moving_kept lent at d t h k none = is_out
  moving_kept lent at d t h k (some (goes next)) = arriving_kept lent next d t h k (look next)
  moving_kept lent at d t h k (some (chooses a b)) = choosing_kept lent at a b d t h k
  moving_kept lent at d t h k (some (enters first back)) = entering_kept lent first back d t h k (look first) (ltb d (frames.room lent)) refl
  moving_kept lent at zero t h k (some returns) = finishes at
  moving_kept lent at (suc d) t h k (some returns) = arriving_kept lent (frames.held lent d) d t (omega arith) k (look (frames.held lent d))
  moving_kept lent at d t h k (some stuck) = halts at d h

-- what code answers, by what it sees at the place that it comes to
module _ {Place : Type 0} where
  abbrev pub arrived : Option (Move Place) → Place → ℕ → ℕ → Stood Place
  arrived none at depth taken = leaves
  arrived (some m) at depth taken = stands at depth taken

  abbrev pub frameless : Option (Move Place) → Stood Place
  frameless none = leaves
  frameless (some m) = lacks

module _ {Place Lent : Type 0} (frames : Frames Place Lent) (look : Place → Option (Move Place)) (answers : List ℕ) (lent : Lent) where
  abbrev pub stood_after : Place → ℕ → ℕ → Option (Move Place) → Stood Place
  stood_after at d t none = leaves
  stood_after at d t (some (goes next)) = arrived (look next) next d t
  stood_after at d t (some (chooses a b)) =
      cond (ltb t (length answers)) (cond (eqb (get_or answers t 0) 1) (arrived (look a) a d (t + 1)) (arrived (look b) b d (t + 1))) (stops at d)
  stood_after at d t (some (enters first back)) = cond (ltb d (frames.room lent)) (arrived (look first) first (d + 1) t) (frameless (look first))
  stood_after at d t (some returns) = cond (eqb d 0) (ends at) (arrived (look (frames.held lent (d - 1))) (frames.held lent (d - 1)) (d - 1) t)
  stood_after at d t (some stuck) = stops at d

  abbrev come : Walk Place → Stood Place
  come w = stood_in (frames.room lent) (length answers) w

  left_is : leaves ≡ come left
  left_is = rw (le-ltb (frames.room lent) 0 (omega arith))

  ended_is : (at : Place) → ends at ≡ come (ended at)
  ended_is at = rw (le-ltb (frames.room lent) 0 (omega arith))

  pub stopped_is : (at : Place) (d : ℕ) → d ≤ frames.room lent → stops at d ≡ come (stopped at (stack_of frames lent d))
  stopped_is at d h = rw (stack_length frames lent d, le-ltb (frames.room lent) d h)

  pub standing_is : (at : Place) (d t : ℕ) → d ≤ frames.room lent → t ≤ length answers → stands at d t ≡ come (standing at (stack_of frames lent d) (answers_from answers t))
  standing_is at d t h k = rw (stack_length frames lent d, le-ltb (frames.room lent) d h, taken_is answers t k)

  arrived_is : (at : Place) (d t : ℕ) → d ≤ frames.room lent → t ≤ length answers → (o : Option (Move Place))
      → arrived o at d t ≡ come (arriving look o at (stack_of frames lent d) (answers_from answers t))
  arrived_is at d t h k none = left_is
  arrived_is at d t h k (some m) = standing_is at d t h k

  chosen_is : (at a b : Place) (d t : ℕ) → d ≤ frames.room lent → t ≤ length answers → (v : Bool) → ltb t (length answers) ≡ v
      → cond v (cond (eqb (get_or answers t 0) 1) (arrived (look a) a d (t + 1)) (arrived (look b) b d (t + 1))) (stops at d)
      ≡ come (choosing look at a b (stack_of frames lent d) (answers_from answers t))
  chosen_is at a b d t h k true e =
      told (eqb (get_or answers t 0) 1) ∙ ap (λ (bs : List Bool). come (choosing look at a b (stack_of frames lent d) bs)) (sym (next_answer answers t l))
    where
      l : t < length answers
      l = ltb-true t (length answers) e

      told : (v : Bool) → cond v (arrived (look a) a d (t + 1)) (arrived (look b) b d (t + 1))
          ≡ come (choosing look at a b (stack_of frames lent d) (v ∷ answers_from answers (t + 1)))
      told true = arrived_is a d (t + 1) h (omega (arith, l)) (look a)
      told false = arrived_is b d (t + 1) h (omega (arith, l)) (look b)
  chosen_is at a b d t h k false e =
      stopped_is at d h
      ∙ ap (λ (bs : List Bool). come (choosing look at a b (stack_of frames lent d) bs)) (sym (no_answer answers t (ltb-false t (length answers) e)))

  entered_is : (first back : Place) (d t : ℕ) → t ≤ length answers → (o : Option (Move Place)) (v : Bool) → ltb d (frames.room lent) ≡ v
      → cond v (arrived o first (d + 1) t) (frameless o) ≡ come (arriving look o first (back ∷ stack_of frames lent d) (answers_from answers t))
  entered_is first back d t k none true e = left_is
  entered_is first back d t k none false e = left_is
  entered_is first back d t k (some m) true e =
      rw (add-one, stack_length frames lent d, le-ltb (frames.room lent) (suc d) (omega (arith, ltb-true d (frames.room lent) e)), taken_is answers t k)
  entered_is first back d t k (some m) false e =
      rw (stack_length frames lent d, lt-ltb (frames.room lent) (suc d) (omega (arith, ltb-false d (frames.room lent) e)))

  after_is : (at : Place) (d t : ℕ) → d ≤ frames.room lent → t ≤ length answers → (m : Option (Move Place))
      → stood_after at d t m ≡ come (moving look m at (stack_of frames lent d) (answers_from answers t))
  after_is at d t h k none = left_is
  after_is at d t h k (some (goes next)) = arrived_is next d t h k (look next)
  after_is at d t h k (some (chooses a b)) = chosen_is at a b d t h k (ltb t (length answers)) refl
  after_is at d t h k (some (enters first back)) = entered_is first back d t k (look first) (ltb d (frames.room lent)) refl
  after_is at zero t h k (some returns) = ended_is at
  after_is at (suc d) t h k (some returns) =
      let q : suc d - 1 ≡ d = omega arith in
      rw (ne_eqb (suc d) 0 (λ e. omega arith), q) (arrived_is (frames.held lent d) d t (omega arith) k (look (frames.held lent d)))
  after_is at d t h k (some stuck) = stopped_is at d h

  -- a step, by the move that code has found
  pub stepped : {after : Lent} {s : Stood Place} (at : Place) (d t : ℕ) → d ≤ frames.room lent → t ≤ length answers → (m : Option (Move Place)) → look at ≡ m
      → s ≡ stood_after at d t m → after ≡ writing frames m lent d
      → Stepped frames look (length answers) lent after (walk_from frames lent answers at d t) s
  stepped at d t h k m e q f = record {
    stand = q ∙ after_is at d t h k m ∙ ap (λ (o : Option (Move Place)). come (moving look o at (stack_of frames lent d) (answers_from answers t))) (sym e);
    frames_are = f ∙ ap (λ (o : Option (Move Place)). writing frames o lent d) (sym e) ∙ ap (writing frames (look at) lent) (sym (stack_length frames lent d));
  }

  -- each test of the code
  module _ (at : Place) (d t : ℕ) where
    pub unanswered : (a b : Place) → length answers ≤ t → stops at d ≡ stood_after at d t (some (chooses a b))
    unanswered a b h = rw (le-ltb t (length answers) h)

    pub chooses_one : (a b : Place) → t < length answers
        → arrived (look (cond (eqb (get_or answers t 0) 1) a b)) (cond (eqb (get_or answers t 0) 1) a b) d (t + 1) ≡ stood_after at d t (some (chooses a b))
    chooses_one a b h = rw (lt-ltb t (length answers) h) (by (eqb (get_or answers t 0) 1))
      where
        by : (v : Bool) → arrived (look (cond v a b)) (cond v a b) d (t + 1) ≡ cond v (arrived (look a) a d (t + 1)) (arrived (look b) b d (t + 1))
        by true = refl
        by false = refl

    pub finds_none : (first back : Place) → frames.room lent ≤ d → frameless (look first) ≡ stood_after at d t (some (enters first back))
    finds_none first back h = rw (le-ltb d (frames.room lent) h)

    pub finds_one : (first back : Place) → d < frames.room lent → arrived (look first) first (d + 1) t ≡ stood_after at d t (some (enters first back))
    finds_one first back h = rw (lt-ltb d (frames.room lent) h)

    pub pops : (d ≡ 0 → ⊥) → arrived (look (frames.held lent (d - 1))) (frames.held lent (d - 1)) (d - 1) t ≡ stood_after at d t (some returns)
    pops e = rw (ne_eqb d 0 e)

  pub unwritten : (d : ℕ) (first back : Place) → frames.room lent ≤ d → lent ≡ writing frames (some (enters first back)) lent d
  unwritten d first back h = rw (le-ltb d (frames.room lent) h)

  pub written : (d : ℕ) (first back : Place) → d < frames.room lent → frames.put lent d back ≡ writing frames (some (enters first back)) lent d
  written d first back h = rw (lt-ltb d (frames.room lent) h)
