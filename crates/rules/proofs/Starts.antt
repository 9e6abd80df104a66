-- The placed functions as code keeps them: an array with a start, or none, for each row.
-- Assumes nothing.
use mathlib.Core.Path.{◌≡◌, refl, sym, ◌∙◌, ap}
use mathlib.Core.Logic.{◌≢◌}
use mathlib.Core.Bool.{Bool, true, false, cond}
use mathlib.Core.Option.{Option, none, some}
use mathlib.Core.List.{List, [], ◌∷◌, ◌++◌}
use Prim.Native.Nat.{ℕ, ◌<◌}
use native.Mathlib.Nat.{zero-add}
use native.Mathlib.Decide.{ℕ_discrete}
use native.Mathlib.Omega.{arith}
use lib.Dec.{eqb}
use borrow.Author.Tests.{eq-eqb, ne_eqb}
use lib.ListN.{get_or, set, length-set}
use lib.Seq.{get_or-set_same, get_or-set_other, ext_get_or}
use Rattle.rules.specs.Faithful.{Piece, piece}
use Rattle.rules.specs.Link.{run, start_of}
use Rattle.rules.proofs.Linking.{length_run, run_at}

abbrev pub or_none : Option ℕ → ℕ
or_none none = 0xffff_ffff
or_none (some start) = start

abbrev pub starts : ℕ → List Piece → List ℕ
starts rows placed = run (λ row. or_none (start_of row placed)) 0 rows

pub start_now : (row start : ℕ) (ps : List Piece) → start_of row ps ≡ none → start_of row (ps ++ (piece row start ∷ [])) ≡ some start
start_now row start [] e = rw (eq-eqb row row refl) refl
start_now row start (p ∷ ps) e = go (eqb p.row row) e (start_now row start ps)
  where
    go : (b : Bool) → cond b (some p.start) (start_of row ps) ≡ none → (start_of row ps ≡ none → start_of row (ps ++ (piece row start ∷ [])) ≡ some start)
        → cond b (some p.start) (start_of row (ps ++ (piece row start ∷ []))) ≡ some start
    go true e later = let z : ◌≡◌ {A = ℕ} 0 1 = cc in absurd (omega arith)
    go false e later = later e

pub start_other : (k row start : ℕ) (ps : List Piece) → row ≢ k → start_of k (ps ++ (piece row start ∷ [])) ≡ start_of k ps
start_other k row start [] n = rw (ne_eqb row k n) refl
start_other k row start (p ∷ ps) n = ap (cond (eqb p.row k) (some p.start)) (start_other k row start ps n)

-- to place a function is to store its start
pub starts_placed : (rows row start : ℕ) (ps : List Piece) → row < rows → start_of row ps ≡ none
    → starts rows (ps ++ (piece row start ∷ [])) ≡ set (starts rows ps) row start
starts_placed rows row start ps l e =
    ext_get_or 0 _ _ (length_run (λ k. or_none (start_of k (ps ++ (piece row start ∷ [])))) 0 rows ∙ sym (length-set (starts rows ps) row start ∙ length_run (λ k. or_none (start_of k ps)) 0 rows))
    (λ k lk. at k (omega (arith, length_run (λ k. or_none (start_of k (ps ++ (piece row start ∷ [])))) 0 rows)) (ℕ_discrete row k))
  where
    now_at : (ps : List Piece) (k : ℕ) → k < rows → get_or (starts rows ps) k 0 ≡ or_none (start_of k ps)
    now_at ps k lk = run_at (λ k. or_none (start_of k ps)) 0 rows k 0 lk ∙ ap (λ x. or_none (start_of x ps)) (zero-add k)

    at : (k : ℕ) → k < rows → Dec (row ≡ k) → get_or (starts rows (ps ++ (piece row start ∷ []))) k 0 ≡ get_or (set (starts rows ps) row start) k 0
    at k lk (yes same) =
        now_at (ps ++ (piece row start ∷ [])) k lk
        ∙ rw (← same) (ap or_none (start_now row start ps e) ∙ sym (get_or-set_same (starts rows ps) row start 0 (omega (arith, length_run (λ k. or_none (start_of k ps)) 0 rows))))
    at k lk (no n) =
        now_at (ps ++ (piece row start ∷ [])) k lk ∙ ap or_none (start_other k row start ps n) ∙ sym (now_at ps k lk)
        ∙ sym (get_or-set_other (starts rows ps) row k start 0 (λ q. n (sym q)))
