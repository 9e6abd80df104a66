-- Frames in a lent slice, and what a step comes to by the move that was found.
-- Assumes nothing.
use mathlib.Core.Path.{◌≡◌, refl, sym, ap, ◌∙◌}
use mathlib.Core.Bool.{cond}
use mathlib.Core.Option.{Option, none, some}
use mathlib.Core.List.{List}
use Prim.Native.Nat.{ℕ, ◌+◌, ◌-◌, ◌≤◌, ◌<◌}
use native.Mathlib.Omega.{arith}
use lib.Dec.{eqb}
use lib.ListN.{length, get_or, set, length-set}
use lib.Seq.{get_or-set_same, get_or-set_other}
use Rattle.std.proofs.lemmas.List.{get_or_default}
use Rattle.std.specs.Prelude as prelude
use Rattle.std.specs.Prelude.{Some}
use Rattle.rules.specs.Walk.{Move}
use Rattle.walk.specs.Moves.{moved, move_of}
use Rattle.walk.specs.Runs.{Stood, walk_from, writing, Stepped}
use Rattle.walk.specs.Steps.{stood_of, slice_frames, Fitting, arrived_at, frameless_at, SteppedOver}
use Rattle.walk.specs.declared.Here.{Here}
use Rattle.walk.specs.declared.Move as found
use Rattle.walk.specs.declared.Move.TheVariants.{Goes, Chooses, Enters, Returns, Stuck}
use Rattle.walk.specs.declared.Stand.{Stand}
use Rattle.walk.specs.declared.Stand.TheVariants.{Stopped}
use Rattle.walk.proofs.Runs.{FrameLaws, arrived, frameless, stood_after, stepped, unanswered, chooses_one, finds_none, finds_one, pops, unwritten, written}

module _ {Place : Type 0} where
  pub slice_laws : (blank : Place) → FrameLaws (slice_frames blank)
  slice_laws blank = record {
    same = λ lent d p h. get_or-set_same lent d p blank h;
    other = λ lent d p n h. get_or-set_other lent d n p blank (λ (e : n ≡ d). omega arith);
    kept = λ lent d p. length-set lent d p;
  }

  module _ (look : Place → Option (Move Place)) where
    pub arrives : (at : Place) (depth taken : ℕ) → stood_of (arrived_at look at depth taken) ≡ arrived (look at) at depth taken
    arrives at depth taken = by (look at)
      where
        by : (o : Option (Move Place)) → stood_of (arrived_at (λ p. o) at depth taken) ≡ arrived o at depth taken
        by none = refl
        by (some m) = refl

    pub lacks_one : (first : Place) → stood_of (frameless_at look first) ≡ frameless (look first)
    lacks_one first = by (look first)
      where
        by : (o : Option (Move Place)) → stood_of (frameless_at (λ p. o) first) ≡ frameless o
        by none = refl
        by (some m) = refl

-- a step, by the move that was found
module _ {Place : Type 0} {look : Place → Option (Move Place)} {blank : Place} {frames : List Place} {answers : List ℕ} {here : Here Place} (fits : Fitting frames answers here)
    {r : prelude.Option (found.Move Place)} {f : found.Move Place} (seen : move_of r ≡ look here.at) (is : r ≡ Some f) where
  by : (m : found.Move Place) → f ≡ m → {after : List Place} {s : Stood Place}
      → s ≡ stood_after (slice_frames blank) look answers frames here.at here.depth here.taken (some (moved m))
      → after ≡ writing (slice_frames blank) (some (moved m)) frames here.depth
      → Stepped (slice_frames blank) look (length answers) frames after (walk_from (slice_frames blank) frames answers here.at here.depth here.taken) s
  by m e q w =
      stepped (slice_frames blank) look answers frames here.at here.depth here.taken fits.deep fits.few (some (moved m))
      (sym seen ∙ ap move_of (is ∙ ap Some e)) q w

  pub by_going : (next : Place) → f ≡ Goes next → (s : Stand Place) → s ≡ arrived_at look next here.depth here.taken
      → SteppedOver look blank frames frames answers here s
  by_going next e s q = by (Goes next) e (ap stood_of q ∙ arrives look _ _ _) refl

  pub by_no_answer : (on_yes on_no : Place) → f ≡ Chooses on_yes on_no → length answers ≤ here.taken → SteppedOver look blank frames frames answers here (Stopped here.at here.depth)
  by_no_answer a b e h = by (Chooses a b) e (unanswered (slice_frames blank) look answers frames here.at here.depth here.taken a b h) refl

  pub by_choosing : (on_yes on_no next : Place) → f ≡ Chooses on_yes on_no → here.taken < length answers → next ≡ cond (eqb (get_or answers here.taken 0) 1) on_yes on_no
      → (s : Stand Place) → s ≡ arrived_at look next here.depth (here.taken + 1)
      → SteppedOver look blank frames frames answers here s
  by_choosing a b next e h n s q =
      by (Chooses a b) e
      (ap stood_of q ∙ arrives look _ _ _ ∙ ap (λ (p : Place). arrived (look p) p here.depth (here.taken + 1)) n
      ∙ chooses_one (slice_frames blank) look answers frames here.at here.depth here.taken a b h) refl

  pub by_lacking : (first back : Place) → f ≡ Enters first back → length frames ≤ here.depth → (s : Stand Place) → s ≡ frameless_at look first
      → SteppedOver look blank frames frames answers here s
  by_lacking first back e h s q =
      by (Enters first back) e
      (ap stood_of q ∙ lacks_one look first ∙ finds_none (slice_frames blank) look answers frames here.at here.depth here.taken first back h)
      (unwritten (slice_frames blank) look answers frames here.depth first back h)

  pub by_entering : (first back : Place) → f ≡ Enters first back → here.depth < length frames
      → (s : Stand Place) → s ≡ arrived_at look first (here.depth + 1) here.taken
      → SteppedOver look blank frames (set frames here.depth back) answers here s
  by_entering first back e h s q =
      by (Enters first back) e
      (ap stood_of q ∙ arrives look _ _ _ ∙ finds_one (slice_frames blank) look answers frames here.at here.depth here.taken first back h)
      (written (slice_frames blank) look answers frames here.depth first back h)

  pub by_returning : f ≡ Returns → (here.depth ≡ 0 → ⊥) → (back : Place) → back ≡ get_or frames (here.depth - 1) back
      → (s : Stand Place) → s ≡ arrived_at look back (here.depth - 1) here.taken
      → SteppedOver look blank frames frames answers here s
  by_returning e h back b s q =
      by Returns e
      (ap stood_of q ∙ arrives look _ _ _ ∙ ap (λ (p : Place). arrived (look p) p (here.depth - 1) here.taken)
      (b ∙ get_or_default frames (here.depth - 1) back blank (let d = fits.deep in omega (arith, h)))
      ∙ pops (slice_frames blank) look answers frames here.at here.depth here.taken h) refl

  pub by_stopping : f ≡ Stuck → SteppedOver look blank frames frames answers here (Stopped here.at here.depth)
  by_stopping e = by Stuck e refl refl
