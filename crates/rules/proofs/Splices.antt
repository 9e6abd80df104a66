-- What a splice keeps and what it puts: stated once, over any list.
-- Assumes nothing.
use mathlib.Core.Path.{◌≡◌, sym, ap, ◌∙◌, subst}
use mathlib.Core.List.{List, [], ◌∷◌, ◌++◌, append_assoc, append-nil}
use Prim.Native.Nat.{ℕ, zero, suc, ◌+◌, ◌-◌, ◌≤◌, ◌<◌}
use native.Mathlib.Omega.{arith}
use native.Mathlib.Numerals.{add-one}
use lib.ListN.{length, replicate, get_or, take, drop, set, length-append, length-drop, get_or-append}
use lib.Seq.{take-nil, drop-drop, take-take, take-append-add, drop-append-add, drop-length, length-take-le, get_or-append-add, get_or-take, get_or-drop, take_at, drop_at, sets-eq, paste, paste-suc, paste-zero}
use Rattle.rules.specs.Bytes.{splice, zero_after}

-- a part's part
drop_take : (k n : ℕ) (d : List ℕ) → k ≤ n → drop k (take n d) ≡ take (n - k) (drop k d)
drop_take zero n d l = let e : n ≡ n - 0 = omega arith in ap (λ m. take m d) e
drop_take (suc k) (suc n) [] l = sym (take-nil (suc n - suc k))
drop_take (suc k) (suc n) (x ∷ d) l =
    let e : n - k ≡ suc n - suc k = omega arith in
    drop_take k n d (omega arith) ∙ ap (λ m. take m (drop k d)) e
drop_take (suc k) zero d l = absurd (omega arith)

module _ (d : List ℕ) (p : ℕ) (vs : List ℕ) (fits : p + length vs ≤ length d) where
  front : length (take p d) ≡ p
  front = length-take-le p d (omega arith)

  head : length (take p d ++ vs) ≡ p + length vs
  head = simp (length-append, front)

  pub splice_length : length (splice d p vs) ≡ length d
  unfolding splice
  splice_length = simp (length-append, length-drop, front) (omega arith)

  -- before it, in it, after it
  pub splice_before : (k : ℕ) → k < p → get_or (splice d p vs) k 0 ≡ get_or d k 0
  unfolding splice
  splice_before k h =
      ap (λ (l : List ℕ). get_or l k 0) (append_assoc (take p d) vs (drop (p + length vs) d))
      ∙ get_or-append (take p d) (vs ++ drop (p + length vs) d) 0 k (rw front h)
      ∙ get_or-take p d k 0 h

  pub splice_in : (j : ℕ) → j < length vs → get_or (splice d p vs) (p + j) 0 ≡ get_or vs j 0
  unfolding splice
  splice_in j h =
      ap (λ (l : List ℕ). get_or l (p + j) 0) (append_assoc (take p d) vs (drop (p + length vs) d))
      ∙ ap (λ (k : ℕ). get_or (take p d ++ (vs ++ drop (p + length vs) d)) (k + j) 0) (sym front)
      ∙ get_or-append-add (take p d) (vs ++ drop (p + length vs) d) j 0
      ∙ get_or-append vs (drop (p + length vs) d) 0 j h

  pub splice_after : (j : ℕ) → get_or (splice d p vs) (p + length vs + j) 0 ≡ get_or d (p + length vs + j) 0
  unfolding splice
  splice_after j =
      ap (λ (k : ℕ). get_or ((take p d ++ vs) ++ drop (p + length vs) d) (k + j) 0) (sym head)
      ∙ get_or-append-add (take p d ++ vs) (drop (p + length vs) d) j 0
      ∙ get_or-drop (p + length vs) d j 0

  -- as parts
  pub splice_take : take p (splice d p vs) ≡ take p d
  unfolding splice
  splice_take = ap (take p) (append_assoc (take p d) vs (drop (p + length vs) d)) ∙ take_at (take p d) (vs ++ drop (p + length vs) d) p front

  pub splice_drop : drop (p + length vs) (splice d p vs) ≡ drop (p + length vs) d
  unfolding splice
  splice_drop = drop_at (take p d ++ vs) (drop (p + length vs) d) (p + length vs) head

  pub splice_past : (k : ℕ) → p + length vs ≤ k → get_or (splice d p vs) k 0 ≡ get_or d k 0
  splice_past k h =
      let e : p + length vs + (k - (p + length vs)) ≡ k = omega arith in
      subst (λ (n : ℕ). get_or (splice d p vs) n 0 ≡ get_or d n 0) e (splice_after (k - (p + length vs)))

-- ---- a splice and the parts of a list
module _ (d : List ℕ) (p : ℕ) (vs : List ℕ) (n : ℕ) where
  -- up to the end of what was put
  pub splice_front : p + length vs ≡ n → p ≤ length d → take n (splice d p vs) ≡ take p d ++ vs
  unfolding splice
  splice_front e l =
      take_at (take p d ++ vs) (drop (p + length vs) d) n (simp (length-append, length-take-le p d l) e)

  -- past it
  pub splice_rest : p + length vs ≤ n → p + length vs ≤ length d → drop n (splice d p vs) ≡ drop n d
  splice_rest l m =
      let e : p + length vs + (n - (p + length vs)) ≡ n = omega arith in
      ap (λ k. drop k (splice d p vs)) (sym e)
      ∙ sym (drop-drop (n - (p + length vs)) (p + length vs) (splice d p vs))
      ∙ ap (drop (n - (p + length vs))) (splice_drop d p vs m)
      ∙ drop-drop (n - (p + length vs)) (p + length vs) d
      ∙ ap (λ k. drop k d) e

  -- inside a front
  pub splice_within : p + length vs ≤ n → n ≤ length d → take n (splice d p vs) ≡ splice (take n d) p vs
  unfolding splice
  splice_within l m =
      ap (λ k. take k ((take p d ++ vs) ++ drop (p + length vs) d)) (sym e)
      ∙ take-append-add (take p d ++ vs) (drop (p + length vs) d) (n - (p + length vs))
      ∙ ap (λ x. x ++ vs ++ take (n - (p + length vs)) (drop (p + length vs) d)) (sym (take-take p n d (omega arith)))
      ∙ ap (λ x. take p (take n d) ++ vs ++ x) (sym (drop_take (p + length vs) n d (omega arith)))
    where
      e : length (take p d ++ vs) + (n - (p + length vs)) ≡ n
      e = simp (length-append, length-take-le p d (omega arith)) (omega arith)

-- the other writer's law: a copy of n elements is a splice of them
pub paste_splice : (d : List ℕ) (p : ℕ) (s : List ℕ) (n : ℕ) → n ≤ length s → paste d p s n ≡ splice d p (take n s)
unfolding splice
paste_splice d p s n h = ap (λ (k : ℕ). take p d ++ take n s ++ drop (p + k) d) (sym (length-take-le n s h))

-- one store more
pub copy_turn : (d : List ℕ) (p : ℕ) (s : List ℕ) (from i : ℕ) → p + i < length d → from + i < length s
    → set (paste d p (drop from s) i) (p + i) (get_or s (from + i) 0) ≡ paste d p (drop from s) (i + 1)
copy_turn d p s from i h g =
    ap (λ (v : ℕ). set (paste d p (drop from s) i) (p + i) v) (sym (get_or-drop from s i 0))
    ∙ paste-suc d p (drop from s) i 0 h (rw length-drop (omega arith))
    ∙ ap (paste d p (drop from s)) (sym (add-one i))

-- four stores in a row
pub four : (d : List ℕ) (p a b c e : ℕ) → p + 4 ≤ length d
    → set (set (set (set d p a) (p + 1) b) (p + 2) c) (p + 3) e ≡ splice d p (a ∷ b ∷ c ∷ e ∷ [])
unfolding splice
four d p a b c e h =
    let e1 : p + 1 ≡ suc p = omega arith in
    let e2 : p + 2 ≡ suc (suc p) = omega arith in
    let e3 : p + 3 ≡ suc (suc (suc p)) = omega arith in
    rw (e1, e2, e3) (sets-eq (a ∷ b ∷ c ∷ e ∷ []) d p h)

-- the rest of a slice, wiped as a part that was lent
pub wiped_rest : (n : ℕ) (d ys : List ℕ) → n ≤ length d → ys ≡ replicate (length (take (length d - n) (drop n d))) 0
    → take n d ++ (ys ++ drop (length d - n) (drop n d)) ≡ zero_after n d
unfolding zero_after
wiped_rest n d ys h e =
    let m : length (drop n d) ≡ length d - n = length-drop n d in
    ap (λ (x : List ℕ). take n d ++ (ys ++ x)) (ap (λ (k : ℕ). drop k (drop n d)) (sym m) ∙ drop-length (drop n d))
    ∙ ap (λ (x : List ℕ). take n d ++ x) (append-nil ys ∙ e)
    ∙ ap (λ (k : ℕ). take n d ++ replicate k 0) (length-take-le (length d - n) (drop n d) (omega arith))

-- one store
pub one_put : (d : List ℕ) (p v : ℕ) → p < length d → set d p v ≡ splice d p (v ∷ [])
unfolding splice
one_put d p v h = sets-eq (v ∷ []) d p (omega arith)

-- ---- a splice of nothing, and one right after another
pub splice_nothing : (d : List ℕ) (p : ℕ) → d ≡ splice d p []
unfolding splice
splice_nothing d p = paste-zero d p []

module _ (d : List ℕ) (p : ℕ) (xs ys : List ℕ) (q : ℕ) (next : q ≡ p + length xs) (fits : q + length ys ≤ length d) where
  put : length (take p d ++ xs) ≡ q
  put = length-append (take p d) xs ∙ omega (arith, length-take-le p d (omega arith))

  behind : drop (q + length ys) ((take p d ++ xs) ++ drop (p + length xs) d) ≡ drop (p + length (xs ++ ys)) d
  behind =
      ap (λ (n : ℕ). drop (n + length ys) ((take p d ++ xs) ++ drop (p + length xs) d)) (sym put)
      ∙ drop-append-add (take p d ++ xs) (drop (p + length xs) d) (length ys)
      ∙ drop-drop (length ys) (p + length xs) d
      ∙ ap (λ (n : ℕ). drop n d) (let e : p + length xs + length ys ≡ p + length (xs ++ ys) = omega (arith, length-append xs ys) in e)

  pub splice_more : splice (splice d p xs) q ys ≡ splice d p (xs ++ ys)
  unfolding splice
  splice_more =
      ap (λ (l : List ℕ). l ++ ys ++ drop (q + length ys) ((take p d ++ xs) ++ drop (p + length xs) d)) (take_at (take p d ++ xs) (drop (p + length xs) d) q put)
      ∙ ap (λ (l : List ℕ). (take p d ++ xs) ++ ys ++ l) behind
      ∙ ap (λ (l : List ℕ). l ++ drop (p + length (xs ++ ys)) d) (append_assoc (take p d) xs ys)
