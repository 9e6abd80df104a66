-- One turn and the end of each loop that writes words: digits, bytes, a text's bytes and its lines.
-- Assumes nothing.
use Rattle.std.proofs.Common.{◌≡◌, refl, sym, ap, ◌∙◌, Bool, true, false, cond, Option, None, Some, List, [], ◌∷◌, ◌++◌, ℕ, zero, suc, ◌+◌, ◌-◌, ◌*◌, ◌/◌, ◌%◌, ◌^◌, ◌≤◌, ◌<◌, arith, eqb, leb, length, get_or, take, drop, add-one, not, length-drop}
use Rattle.std.proofs.Math.Seq.{drop-cons, take_all}
use Rattle.std.proofs.lemmas.List.{drop_all}
use Rattle.std.proofs.Math.Nat.{div-div-eq-div-mul, pow-suc}
use native.Mathlib.Numerals.{one-add}
use Rattle.std.specs.List.{position, position_or_len}
use Rattle.std.specs.Int.{byte_at, bytes_low_first}
use borrow.Author.Tests.{eq-eqb, ne_eqb, ltb-false}
use Rattle.tell.specs.declared.lines.Mark.{Mark}
use Rattle.tell.specs.Lines.{added, place_of, shows, numeral, byte_words, bytes_words, mark_of, marked, piece_at, takes_at, plain, behind, line_from, words_in, spoken}
use Rattle.tell.proofs.Added.{then}

-- ---- digits

pub digits_on : (left m power n width : ℕ) (begun : Bool) (w : List ℕ) → left ≡ suc m → power ≡ 10 ^ m
    → added (numeral m (shows begun left (n / power % 10)) width n) (added (place_of (shows begun left (n / power % 10)) (leb left width) (n / power % 10)) w)
    ≡ added (numeral left begun width n) w
unfolding numeral
digits_on left m power n width begun w e f = rw (f, e) (then (place_of (shows begun (suc m) (n / 10 ^ m % 10)) (leb (suc m) width) (n / 10 ^ m % 10)) (numeral m (shows begun (suc m) (n / 10 ^ m % 10)) width n) w)

pub digits_end : (left : ℕ) (begun : Bool) (width n : ℕ) → left ≡ 0 → [] ≡ numeral left begun width n
unfolding numeral
digits_end left begun width n e = rw e

-- ---- a number's bytes

abbrev pub over : Bool → List ℕ → List ℕ
over spaced [] = []
over spaced (b ∷ bs) = place_of false spaced 0 ++ (byte_words b ++ over spaced bs)

low_byte : (x : ℕ) → byte_words (x % 256) ≡ byte_words x
low_byte x =
    let h : x % 256 / 16 % 16 ≡ x / 16 % 16 = omega arith in
    let l : x % 256 % 16 ≡ x % 16 = omega arith in
    rw (h, l)

byte_is : (i n : ℕ) → byte_at i n ≡ n / 256 ^ i % 256
byte_is zero n = let e : n / 1 ≡ n = omega arith in ap (λ (x : ℕ). x % 256) (sym e)
byte_is (suc i) n = refl

bytes_from : (spaced : Bool) (i k n : ℕ) → over spaced (bytes_low_first i k n) ≡ bytes_words k spaced (n / 256 ^ i)
unfolding bytes_words
bytes_from spaced i zero n = refl
bytes_from spaced i (suc k) n =
    let b : byte_words (byte_at i n) ≡ byte_words (n / 256 ^ i) = ap byte_words (byte_is i n) ∙ low_byte (n / 256 ^ i) in
    let e : n / 256 ^ suc i ≡ n / 256 ^ i / 256 = ap (λ (x : ℕ). n / x) (pow-suc 256 i) ∙ sym (div-div-eq-div-mul n (256 ^ i) 256) in
    ap (λ (s : List ℕ). place_of false spaced 0 ++ (s ++ over spaced (bytes_low_first (suc i) k n))) b
    ∙ ap (λ (s : List ℕ). place_of false spaced 0 ++ (byte_words (n / 256 ^ i) ++ s)) (bytes_from spaced (suc i) k n ∙ ap (bytes_words k spaced) e)

pub four : (spaced : Bool) (n : ℕ) → over spaced (bytes_low_first 0 4 n) ≡ bytes_words 4 spaced n
four spaced n = let e : n / 1 ≡ n = omega arith in bytes_from spaced 0 4 n ∙ ap (bytes_words 4 spaced) e

pub bytes_on : (spaced : Bool) (bs w : List ℕ) (i : ℕ) → i < length bs
    → added (over spaced (drop (i + 1) bs)) (added (byte_words (get_or bs i 0)) (added (place_of false spaced 0) w)) ≡ added (over spaced (drop i bs)) w
bytes_on spaced bs w i h =
    let b : ℕ = get_or bs i 0 in
    let rest : List ℕ = over spaced (drop (i + 1) bs) in
    then (byte_words b) rest (added (place_of false spaced 0) w)
    ∙ then (place_of false spaced 0) (byte_words b ++ rest) w
    ∙ ap (λ (k : ℕ). added (place_of false spaced 0 ++ (byte_words b ++ over spaced (drop k bs))) w) (add-one i)
    ∙ sym (ap (λ (s : List ℕ). added (over spaced s) w) (drop-cons bs i 0 h))

pub bytes_end : (spaced : Bool) (bs : List ℕ) (i : ℕ) → length bs ≤ i → [] ≡ over spaced (drop i bs)
bytes_end spaced bs i h = sym (ap (over spaced) (drop_all i bs h))

-- ---- a text's lines

from_one : (p : Bool) (k i : ℕ) → cond p (Some k) None ≡ Some i → k ≡ i
from_one true k i e = cc
from_one false k i e = cc

from_none : (p : Bool) (k : ℕ) → cond p (Some k) None ≡ None → p ≡ false
from_none true k e = cc
from_none false k e = refl

behind_is : (t : List ℕ) → behind t ≡ drop (suc (position_or_len (λ x. eqb x 10) t)) t
unfolding behind
behind_is [] = refl
behind_is (x ∷ xs) = either (eqb x 10) (behind_is xs)
  where
    either : (p : Bool) → behind xs ≡ drop (suc (position_or_len (λ y. eqb y 10) xs)) xs → cond p xs (behind xs) ≡ drop (cond (not p) (1 + position_or_len (λ y. eqb y 10) xs) 0) xs
    either true e = refl
    either false e = e ∙ ap (λ (k : ℕ). drop k xs) (sym (one-add (position_or_len (λ y. eqb y 10) xs)))

pub behind_at : (t : List ℕ) (i : ℕ) → position (λ x. eqb x 10) t ≡ Some i → take (length t - (i + 1)) (drop (i + 1) t) ≡ behind t
behind_at t i e =
    let p : position_or_len (λ x. eqb x 10) t ≡ i = from_one _ _ i e in
    let n : length (drop (i + 1) t) ≡ length t - (i + 1) = length-drop (i + 1) t in
    take_all (length t - (i + 1)) (drop (i + 1) t) (omega arith)
    ∙ ap (λ (k : ℕ). drop k t) (add-one i)
    ∙ sym (behind_is t ∙ ap (λ (k : ℕ). drop (suc k) t) p)

pub behind_none : (t : List ℕ) → position (λ x. eqb x 10) t ≡ None → [] ≡ behind t
behind_none t e =
    let l : length t ≤ position_or_len (λ x. eqb x 10) t = ltb-false _ _ (from_none _ _ e) in
    sym (behind_is t ∙ drop_all (suc (position_or_len (λ x. eqb x 10) t)) t (omega arith))

pub from_first : (t : List ℕ) → line_from t 0 ≡ t
unfolding line_from
from_first [] = refl
from_first (x ∷ xs) = refl

pub from_end : (t : List ℕ) (m : ℕ) → length t ≡ 0 → t ≡ line_from t m
unfolding line_from
from_end [] m e = refl
from_end (x ∷ xs) m e = absurd (omega arith)

pub from_next : (t : List ℕ) (k : ℕ) → line_from t (suc k) ≡ line_from (behind t) k
unfolding line_from behind
from_next [] k = refl
from_next (x ∷ xs) k =
    let s : suc k ≡ 0 → ⊥ = λ e. absurd (omega arith) in
    ap (λ (p : Bool). cond p (x ∷ xs) (line_from xs (suc k - cond (eqb x 10) 1 0))) (ne_eqb (suc k) 0 s) ∙ either (eqb x 10) (from_next xs k)
  where
    either : (p : Bool) → line_from xs (suc k) ≡ line_from (behind xs) k → line_from xs (suc k - cond p 1 0) ≡ line_from (cond p xs (behind xs)) k
    either true e = let z : suc k - 1 ≡ k = omega arith in ap (line_from xs) z
    either false e = let z : suc k - 0 ≡ suc k = omega arith in ap (line_from xs) z ∙ e

-- ---- a line's bytes

module _ (text numbers : List ℕ) (i j : ℕ) (h : i < length text) where
  abbrev t : ℕ
  t = get_or text i 0

  pub line_end : t ≡ 10 → [] ≡ words_in (drop i text) numbers j
  unfolding words_in
  line_end e = sym (ap (λ (s : List ℕ). words_in s numbers j) (drop-cons text i 0 h) ∙ ap (λ (p : Bool). cond p [] (piece_at (mark_of t) t (get_or numbers j 0) ++ words_in (drop (suc i) text) numbers (j + takes_at (mark_of t)))) (eq-eqb t 10 e))

  line_on : (t ≡ 10 → ⊥) → words_in (drop i text) numbers j ≡ piece_at (mark_of t) t (get_or numbers j 0) ++ words_in (drop (i + 1) text) numbers (j + takes_at (mark_of t))
  unfolding words_in
  line_on f =
      ap (λ (s : List ℕ). words_in s numbers j) (drop-cons text i 0 h)
      ∙ ap (λ (p : Bool). cond p [] (piece_at (mark_of t) t (get_or numbers j 0) ++ words_in (drop (suc i) text) numbers (j + takes_at (mark_of t)))) (ne_eqb t 10 f)
      ∙ ap (λ (k : ℕ). piece_at (mark_of t) t (get_or numbers j 0) ++ words_in (drop k text) numbers (j + takes_at (mark_of t))) (sym (add-one i))

  pub on_mark : (w : List ℕ) (mark : Mark) → (t ≡ 10 → ⊥) → mark_of t ≡ Some mark
      → added (words_in (drop (i + 1) text) numbers (j + 1)) (added (marked mark (get_or numbers j 0)) w) ≡ added (words_in (drop i text) numbers j) w
  on_mark w mark f e =
      then (marked mark (get_or numbers j 0)) (words_in (drop (i + 1) text) numbers (j + 1)) w
      ∙ sym (ap (λ (s : List ℕ). added s w)
      (line_on f ∙ ap (λ (m : Option Mark). piece_at m t (get_or numbers j 0) ++ words_in (drop (i + 1) text) numbers (j + takes_at m)) e))

  pub on_plain : (w : List ℕ) → (t ≡ 10 → ⊥) → mark_of t ≡ None
      → added (words_in (drop (i + 1) text) numbers j) (added (plain t ∷ []) w) ≡ added (words_in (drop i text) numbers j) w
  on_plain w f e =
      let z : j + 0 ≡ j = omega arith in
      then (plain t ∷ []) (words_in (drop (i + 1) text) numbers j) w
      ∙ sym (ap (λ (s : List ℕ). added s w)
      (line_on f
      ∙ ap (λ (m : Option Mark). piece_at m t (get_or numbers j 0) ++ words_in (drop (i + 1) text) numbers (j + takes_at m)) e
      ∙ ap (λ (k : ℕ). plain t ∷ words_in (drop (i + 1) text) numbers k) z))

pub text_end : (text numbers : List ℕ) (i j : ℕ) → length text ≤ i → [] ≡ words_in (drop i text) numbers j
unfolding words_in
text_end text numbers i j e = sym (ap (λ (s : List ℕ). words_in s numbers j) (drop_all i text e))

-- ---- lines, one after the other

pub spoken_on : (text lines numbers w : List ℕ) (i : ℕ) → i < length lines
    → added (spoken text (drop (i + 1) lines) numbers (3 * (i + 1))) (added (words_in (line_from text (get_or lines i 0)) numbers (3 * i)) w)
    ≡ added (spoken text (drop i lines) numbers (3 * i)) w
unfolding spoken
spoken_on text lines numbers w i h =
    let k : ℕ = get_or lines i 0 in
    let e : 3 * (i + 1) ≡ 3 * i + 3 = omega arith in
    then (words_in (line_from text k) numbers (3 * i)) (spoken text (drop (i + 1) lines) numbers (3 * (i + 1))) w
    ∙ ap (λ (j : ℕ). added (words_in (line_from text k) numbers (3 * i) ++ spoken text (drop (i + 1) lines) numbers j) w) e
    ∙ ap (λ (n : ℕ). added (words_in (line_from text k) numbers (3 * i) ++ spoken text (drop n lines) numbers (3 * i + 3)) w) (add-one i)
    ∙ sym (ap (λ (s : List ℕ). added (spoken text s numbers (3 * i)) w) (drop-cons lines i 0 h))

pub spoken_end : (text lines numbers : List ℕ) (i j : ℕ) → length lines ≤ i → [] ≡ spoken text (drop i lines) numbers j
unfolding spoken
spoken_end text lines numbers i j h = sym (ap (λ (s : List ℕ). spoken text s numbers j) (drop_all i lines h))
