-- Walks that go together are cut short together: lent equally many frames, their runs come to the same.
-- Assumes nothing.
use mathlib.Core.Path.{◌≡◌, refl, sym, ap, ◌∙◌, subst}
use mathlib.Core.Logic.{◌⊎◌, inl, inr}
use mathlib.Core.Bool.{Bool, true, false, cond, ◌||◌}
use mathlib.Core.List.{List}
use Prim.Native.Nat.{ℕ, zero, suc, ◌-◌}
use native.Mathlib.Omega.{arith}
use lib.Dec.{ltb}
use lib.ListN.{length}
use borrow.Author.Tests.{le-ltb}
use Rattle.rules.specs.Object.{Insn, Object}
use Rattle.rules.specs.Faithful.{Piece}
use Rattle.rules.specs.Walk.{Walk, left, step, in_source, source_walk, image_walk}
use Rattle.rules.specs.Together as both
use Rattle.rules.specs.Together.{Pairwise, no_frames, frame, Together, SamePlace, KeepsPath}
use Rattle.walk.specs.Runs.{stands, stops, lacks, deeper, stood, runs_out, ran}
use Rattle.walk.specs.Alike.{Alike, both_stand, both_stop, both_end, both_lack, first_left}

never : {A : Type 0} → false ≡ true → A
never e = let z : ◌≡◌ {A = ℕ} 0 1 = cc in absurd (omega arith)

module _ {A B : Type 0} {Same : A → B → Type 0} where
  same_depth : {s : List A} {t : List B} → Pairwise Same s t → length s ≡ length t
  same_depth no_frames = refl
  same_depth (frame e p) = ap suc (same_depth p)

  deeper_too : (room : ℕ) {w : Walk A} {v : Walk B} → Together Same w v → deeper room w ≡ true → deeper room v ≡ true
  deeper_too room (both.both_stand e p) d = ap (ltb room) (sym (same_depth p)) ∙ d
  deeper_too room (both.both_stop e p) d = ap (ltb room) (sym (same_depth p)) ∙ d
  deeper_too room (both.both_end e) d = d
  deeper_too room both.first_left d = never (sym (le-ltb room 0 (omega arith)) ∙ d)

  shallow_too : (room : ℕ) {w : Walk A} {v : Walk B} → Together Same w v → deeper room w ≡ false → (w ≡ left) ⊎ (deeper room v ≡ false)
  shallow_too room (both.both_stand e p) d = inr (ap (ltb room) (sym (same_depth p)) ∙ d)
  shallow_too room (both.both_stop e p) d = inr (ap (ltb room) (sym (same_depth p)) ∙ d)
  shallow_too room (both.both_end e) d = inr d
  shallow_too room both.first_left d = inl refl

  stood_alike : (given : ℕ) {w : Walk A} {v : Walk B} → Together Same w v → Alike Same (stood given w) (stood given v)
  stood_alike given (both.both_stand {a} {b} {s} {t} {answers} e p) =
      subst (λ (n : ℕ). Alike Same (stands a (length s) (given - length answers)) (stands b n (given - length answers))) (same_depth p) (both_stand (length s) (given - length answers) e)
  stood_alike given (both.both_stop {a} {b} {s} {t} e p) =
      subst (λ (n : ℕ). Alike Same (stops a (length s)) (stops b n)) (same_depth p) (both_stop (length s) e)
  stood_alike given (both.both_end e) = both_end e
  stood_alike given both.first_left = first_left

  module _ (w : ℕ → Walk A) (v : ℕ → Walk B) (together : (k : ℕ) → Together Same (w k) (v k)) (stays : (k : ℕ) → w k ≡ left → w (suc k) ≡ left) (room : ℕ) where
    out_too : (k : ℕ) → runs_out room w k ≡ true → runs_out room v k ≡ true
    unfolding runs_out
    out_too zero e = deeper_too room (together 0) e
    out_too (suc k) e = by (runs_out room w k) refl (runs_out room v k) refl e (out_too k)
      where
        by : (a : Bool) → runs_out room w k ≡ a → (b : Bool) → runs_out room v k ≡ b → (a || deeper room (w (suc k))) ≡ true → (runs_out room w k ≡ true → runs_out room v k ≡ true)
            → (b || deeper room (v (suc k))) ≡ true
        by true p true q f before = refl
        by true p false q f before = never (sym q ∙ before p)
        by false p true q f before = refl
        by false p false q f before = deeper_too room (together (suc k)) f

    in_too : (k : ℕ) → runs_out room w k ≡ false → (w k ≡ left) ⊎ (runs_out room v k ≡ false)
    unfolding runs_out
    in_too zero e = shallow_too room (together 0) e
    in_too (suc k) e = by (runs_out room w k) refl e (in_too k)
      where
        now : (b : Bool) → b ≡ false → (w (suc k) ≡ left) ⊎ (deeper room (v (suc k)) ≡ false) → (w (suc k) ≡ left) ⊎ ((b || deeper room (v (suc k))) ≡ false)
        now b e (inl l) = inl l
        now b e (inr d) = inr (ap (λ (x : Bool). x || deeper room (v (suc k))) e ∙ d)

        next : deeper room (w (suc k)) ≡ false → (w k ≡ left) ⊎ (runs_out room v k ≡ false) → (w (suc k) ≡ left) ⊎ ((runs_out room v k || deeper room (v (suc k))) ≡ false)
        next d (inl l) = inl (stays k l)
        next d (inr q) = now (runs_out room v k) q (shallow_too room (together (suc k)) d)

        by : (a : Bool) → runs_out room w k ≡ a → (a || deeper room (w (suc k))) ≡ false → (runs_out room w k ≡ false → (w k ≡ left) ⊎ (runs_out room v k ≡ false))
            → (w (suc k) ≡ left) ⊎ ((runs_out room v k || deeper room (v (suc k))) ≡ false)
        by true p f before = never (sym f)
        by false p f before = next f (before p)

    pub runs_alike : (given limit : ℕ) → Alike Same (ran room given w limit) (ran room given v limit)
    runs_alike given limit = by (runs_out room w limit) refl
      where
        inside : (b : Bool) → (w limit ≡ left) ⊎ (b ≡ false) → Alike Same (stood given (w limit)) (cond b lacks (stood given (v limit)))
        inside b (inl l) = subst (λ (x : Walk A). Alike Same (stood given x) (cond b lacks (stood given (v limit)))) (sym l) first_left
        inside b (inr e) = subst (λ (x : Bool). Alike Same (stood given (w limit)) (cond x lacks (stood given (v limit)))) (sym e) (stood_alike given (together limit))

        by : (a : Bool) → runs_out room w limit ≡ a → Alike Same (cond a lacks (stood given (w limit))) (ran room given v limit)
        by true e = subst (λ (x : Bool). Alike Same lacks (cond x lacks (stood given (v limit)))) (sym (out_too limit e)) both_lack
        by false e = inside (runs_out room v limit) (in_too limit e)

-- of an object and an image that keep the path
pub paths_alike : (object : Object) (root : ℕ) (image : List Insn) (pieces : List Piece) → KeepsPath object root image pieces → (answers : List Bool) (room given limit : ℕ)
    → Alike (SamePlace pieces) (ran room given (source_walk object root answers) limit) (ran room given (image_walk image answers) limit)
paths_alike object root image pieces kept answers room given limit =
    runs_alike (source_walk object root answers) (image_walk image answers) (kept.together answers) (λ (k : ℕ) e. ap (step (in_source object)) e) room given limit
