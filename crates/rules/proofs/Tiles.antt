-- Pieces that stand one after another.
-- Assumes nothing.
use mathlib.Core.Path.{◌≡◌, refl, sym, ◌∙◌}
use mathlib.Core.List.Memᴰ
use mathlib.Core.List.{List, [], ◌∷◌, ◌++◌, Memᴰ}
use mathlib.Core.Logic.{◌⊎◌, inl, inr}
use Prim.Native.Nat.{ℕ, ◌+◌, ◌≤◌, ◌<◌}
use native.Mathlib.Omega.{arith}
use native.Mathlib.Decide.{dec_lt}
use Rattle.rules.specs.Object.{Object}
use Rattle.rules.specs.Faithful.{Piece, Tile}

pub tile_le : (object : Object) (ps : List Piece) (from to : ℕ) → Tile object from ps to → from ≤ to
tile_le object [] from to t = omega arith
tile_le object (p ∷ ps) from to t = omega (arith, tile_le object ps (from + object.slots p.row) to t.1)

-- a piece lies within what its list tiles
pub tile_fits : (object : Object) {p : Piece} {ps : List Piece} (from to : ℕ) → Memᴰ p ps → Tile object from ps to
    → (from ≤ p.start) × (p.start + object.slots p.row ≤ to)
tile_fits object {p} from to (Memᴰ.head {x} {xs} e) t =
    rw e (omega (arith, tile_le object xs (from + object.slots x.row) to t.1))
tile_fits object {p} from to (Memᴰ.tail {x} {xs} m) t =
    let later = tile_fits object (from + object.slots x.row) to m t.1 in
    (omega arith, later.1)

pub tile_append : (object : Object) (ps qs : List Piece) (from mid to : ℕ) → Tile object from ps mid → Tile object mid qs to → Tile object from (ps ++ qs) to
tile_append object [] qs from mid to t u = rw t u
tile_append object (p ∷ ps) qs from mid to t u = (t.0, tile_append object ps qs (from + object.slots p.row) mid to t.1 u)

-- a slot of what is tiled lies in a piece
pub record Covered (object : Object) (ps : List Piece) (k : ℕ) : Type 0 where
  pub by : Piece
  pub among : Memᴰ by ps
  pub low : by.start ≤ k
  pub high : k < by.start + object.slots by.row

pub tile_covers : (object : Object) (ps : List Piece) (from to k : ℕ) → Tile object from ps to → from ≤ k → k < to → Covered object ps k
tile_covers object [] from to k t a b = absurd (omega arith)
tile_covers object (p ∷ ps) from to k t a b =
    go (dec_lt k (from + object.slots p.row)) (λ l. tile_covers object ps (from + object.slots p.row) to k t.1 l b)
  where
    go : Dec (k < from + object.slots p.row) → (from + object.slots p.row ≤ k → Covered object ps k) → Covered object (p ∷ ps) k
    go (yes l) later = record { by = p; among = Memᴰ.head refl; low = omega (arith, t.0); high = omega (arith, t.0) }
    go (no n) later =
        let c = later (omega arith) in
        record { by = c.by; among = Memᴰ.tail c.among; low = c.low; high = c.high }

-- a slot lies in one piece only
pub tile_one : (object : Object) (p q : Piece) (ps : List Piece) (from to k : ℕ) → Memᴰ p ps → Memᴰ q ps → Tile object from ps to
    → p.start ≤ k → k < p.start + object.slots p.row → q.start ≤ k → k < q.start + object.slots q.row → p ≡ q
tile_one object p q [] from to k m m' t a b c d = absurd (Memᴰ.not-nil m)
tile_one object p q (x ∷ xs) from to k m m' t a b c d =
    go (Memᴰ.cases_cons m) (Memᴰ.cases_cons m')
    (λ m m'. tile_one object p q xs (from + object.slots x.row) to k m m' t.1 a b c d)
  where
    -- the first piece ends where the others begin
    apart : (p q : Piece) → k < p.start + object.slots p.row → q.start ≤ k → p ≡ x → Memᴰ q xs → ⊥
    apart p q b c e m = omega (arith, rw e at b, (tile_fits object (from + object.slots x.row) to m t.1).0, t.0)

    go : (p ≡ x) ⊎ Memᴰ p xs → (q ≡ x) ⊎ Memᴰ q xs → (Memᴰ p xs → Memᴰ q xs → p ≡ q) → p ≡ q
    go (inl e) (inl e') later = e ∙ sym e'
    go (inl e) (inr n) later = absurd (apart p q b c e n)
    go (inr n) (inl e) later = absurd (apart q p d a e n)
    go (inr n) (inr n') later = later n n'
