-- Tests joined one after another, as the code joins them, against tests each joined to all that follow.
-- Assumes nothing.
use mathlib.Core.Path.{◌≡◌, ap, ◌∙◌}
use mathlib.Core.Bool.{Bool, ◌&&◌, ◌||◌, and_assoc}
use Prim.Native.Nat.{ℕ, ◌-◌}
use lib.Dec.{eqb, ltb}
use Rattle.rules.specs.Rows.{below, rises, rises_pair}

module _ {a a' b b' : Bool} (p : a ≡ a') (q : b ≡ b') where
  pub both : (a && b) ≡ (a' && b')
  both = rw (p, q)

pub four : {a a' b b' c c' d d' : Bool} → a ≡ a' → b ≡ b' → c ≡ c' → d ≡ d' → (a && b && c && d) ≡ (a' && (b' && (c' && d')))
four p q r s = simp and_assoc (both p (both q (both r s)))

pub five : {a a' b b' c c' d d' e e' : Bool} → a ≡ a' → b ≡ b' → c ≡ c' → d ≡ d' → e ≡ e'
    → (a && b && c && d && e) ≡ (a' && (b' && (c' && (d' && e'))))
five p q r s t = simp and_assoc (both p (both q (both r (both s t))))

pub six : {a a' b b' c c' d d' e e' f f' : Bool} → a ≡ a' → b ≡ b' → c ≡ c' → d ≡ d' → e ≡ e' → f ≡ f'
    → (a && b && c && d && e && f) ≡ (a' && (b' && (c' && (d' && (e' && f')))))
six p q r s t u = simp and_assoc (both p (both q (both r (both s (both t u)))))

pub seven : {a a' b b' c c' d d' e e' f f' g g' : Bool} → a ≡ a' → b ≡ b' → c ≡ c' → d ≡ d' → e ≡ e' → f ≡ f' → g ≡ g'
    → (a && b && c && d && e && f && g) ≡ (a' && (b' && (c' && (d' && (e' && (f' && g'))))))
seven p q r s t u v = simp and_assoc (both p (both q (both r (both s (both t (both u v))))))

-- keys that were read, of row k and of the row before: `last` is what the code takes for it
module _ (key : ℕ → ℕ) (k : ℕ) {last : ℕ} (is : last ≡ k - 1) where
  pub key_last : {a : ℕ} → a ≡ key last → a ≡ key (k - 1)
  key_last e = e ∙ ap key is

pub keys_rise : (key : ℕ → ℕ) (k : ℕ) {a b : ℕ} → a ≡ key (k - 1) → b ≡ key k → (eqb k 0 || ltb a b) ≡ rises key k
keys_rise key k p q = rw (p, q)

pub pairs_rise : (first second : ℕ → ℕ) (k : ℕ) {r : Bool} {a b c d : ℕ} → r ≡ below a b c d
    → a ≡ first (k - 1) → b ≡ second (k - 1) → c ≡ first k → d ≡ second k → (eqb k 0 || r) ≡ rises_pair first second k
pairs_rise first second k e p q u v = rw (e, p, q, u, v)
