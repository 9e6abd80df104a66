-- What is added to a line, piece after piece, is added as one.
-- Assumes nothing.
use Rattle.std.proofs.Common.{◌≡◌, refl, sym, ap, ◌∙◌, List, [], ◌∷◌, ◌++◌, ℕ, zero, suc, ◌-◌, ◌≤◌, ◌<◌, arith, length, take, append_assoc, length-append, append-nil}
use Rattle.std.proofs.Math.Seq.{take-nil}
use Rattle.tell.specs.Lines.{line_room, added}

-- what is cut behind one piece
cut : (n : ℕ) (a b : List ℕ) → take n a ++ take (n - length (take n a)) b ≡ take n (a ++ b)
cut n [] b =
    let e : n - length {A = ℕ} (take n []) ≡ n = omega (arith, ap length (take-nil {A = ℕ} n)) in
    ap (λ (s : List ℕ). s ++ take (n - length {A = ℕ} (take n [])) b) (take-nil n) ∙ ap (λ (k : ℕ). take k b) e
cut zero (x ∷ xs) b = refl
cut (suc n) (x ∷ xs) b =
    let e : suc n - suc (length (take n xs)) ≡ n - length (take n xs) = omega arith in
    ap (λ (k : ℕ). x ∷ (take n xs ++ take k b)) e ∙ ap (λ (r : List ℕ). x ∷ r) (cut n xs b)

pub none : (w : List ℕ) → w ≡ added [] w
unfolding added
none w = sym (ap (λ (s : List ℕ). w ++ s) (take-nil (line_room - length w)) ∙ append-nil w)

pub then : (a b w : List ℕ) → added b (added a w) ≡ added (a ++ b) w
unfolding added
then a b w =
    let m : ℕ = line_room - length w in
    let e : line_room - length (w ++ take m a) ≡ m - length (take m a) = omega (arith, length-append w (take m a)) in
    ap (λ (n : ℕ). (w ++ take m a) ++ take n b) e
    ∙ append_assoc w (take m a) (take (m - length (take m a)) b)
    ∙ ap (λ (r : List ℕ). w ++ r) (cut m a b)

-- what a line is that had no words
pub first : (a : List ℕ) → added a [] ≡ take line_room a
unfolding added
first a = refl

-- one byte, where there is room for it
pub one : (b : ℕ) (w : List ℕ) → length w < line_room → w ++ b ∷ [] ≡ added (b ∷ []) w
unfolding added
one b w h =
    let e : line_room - length w ≡ suc (line_room - length w - 1) = omega arith in
    sym (ap (λ (n : ℕ). w ++ take n (b ∷ [])) e ∙ ap (λ (r : List ℕ). w ++ b ∷ r) (take-nil (line_room - length w - 1)))

-- and nothing where there is none
pub full : (more w : List ℕ) → line_room ≤ length w → w ≡ added more w
unfolding added
full more w h =
    let e : line_room - length w ≡ 0 = omega arith in
    sym (ap (λ (n : ℕ). w ++ take n more) e ∙ append-nil w)
