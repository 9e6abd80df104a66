-- What makes an image a link of an object, whoever made it: the pieces tile it, and each of its slots is its source slot,
-- rewritten only where the slot names a function, and then to the first slot of a piece of that function.
-- Assumes nothing.
use Rattle.std.specs.Prelude.{◌≡◌, ℕ, ◌+◌, ◌<◌, pos, length, get_or}
use mathlib.Core.List.{List, [], ◌∷◌, Memᴰ}
use Rattle.rules.specs.Object.{Insn, Object, Meaning, copied, call, reference, refused, meaning, calling, referring}

-- a copy of the function `row`, from the slot `start` of the image on
pub record Piece : Type 0 where
  pub row : ℕ
  pub start : ℕ

abbrev pub piece : ℕ → ℕ → Piece
piece row start = record { row = row; start = start }

abbrev pub blank : Insn
blank = record { opcode = 0; destination = 0; source = 0; offset = pos 0; immediate = pos 0 }

-- the slot `here` of an image
abbrev pub slot_at : List Insn → ℕ → Insn
slot_at image here = get_or image here blank

-- the pieces stand one after another, the first at `from`, the last ending at `to`
abbrev pub Tile : Object → ℕ → List Piece → ℕ → Type 0
Tile object from [] to = from ≡ to
Tile object from (p ∷ ps) to = (p.start ≡ from) × Tile object (from + object.slots p.row) ps to

-- `row` has a piece at some start, of which `Holds` is true
pub record Placed (pieces : List Piece) (row : ℕ) (Holds : ℕ → Type 0) : Type 0 where
  pub start : ℕ
  pub among : Memᴰ (piece row start) pieces
  pub holds : Holds start

-- `i`, at the slot `here` of the image, is a right link of a source slot that has this meaning
abbrev pub LinkOf : List Piece → Insn → ℕ → Insn → Meaning → Type 0
LinkOf pieces source here i copied = i ≡ source
LinkOf pieces source here i (call row) = Placed pieces row (λ start. i ≡ calling source start here)
LinkOf pieces source here i (reference row) = Placed pieces row (λ start. i ≡ referring source start here)
LinkOf pieces source here i (refused number) = ⊥

unfoldable pub Linked : Object → List Piece → ℕ → ℕ → ℕ → Insn → Type 0
Linked object pieces row slot here i = LinkOf pieces (object.insn row slot) here i (meaning object row slot)

pub record Faithful (object : Object) (root : ℕ) (image : List Insn) (pieces : List Piece) : Type 0 where
  pub others : List Piece
  pub root_first : pieces ≡ piece root 0 ∷ others
  pub tiled : Tile object 0 pieces (length image)
  pub linked : (p : Piece) → Memᴰ p pieces → (slot : ℕ) → slot < object.slots p.row
      → Linked object pieces p.row slot (p.start + slot) (slot_at image (p.start + slot))
