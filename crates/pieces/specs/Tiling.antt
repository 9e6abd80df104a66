-- What a list of pieces is checked against: table 3 alone says which rows there are, and how many slots each has.
-- Assumes nothing.
use Rattle.std.specs.Prelude.{Bool, List, [], ℕ, ◌*◌, ◌/◌, ◌≤◌, ltb, length}
use Rattle.rules.specs.declared.Table.TheVariants.{Functions}
use Rattle.rules.specs.Object.{Object}
use Rattle.rules.specs.Bytes.{little}
use Rattle.rules.specs.Tables.{object_of}
use Rattle.rules.specs.Rows.{most_image_slots, Offered, link_offer, tables_of}
use Rattle.rules.specs.Lookups.{Sound, Rising, how_many}
use Rattle.rules.specs.Pieces.{piece_size, piece_start}

-- table 3 with the others empty
abbrev pub functions_offer : List ℕ → Offered
functions_offer functions = link_offer [] [] functions [] [] [] []

abbrev pub functions_only : List ℕ → Object
functions_only functions = object_of (tables_of little (functions_offer functions))

-- a checked table 3, and no more pieces than an image has slots: what they count fits
pub record Tileable (functions pieces : List ℕ) : Type 0 where
  pub table : Sound Functions functions
  pub few : length pieces ≤ piece_size * most_image_slots

-- whole rows of a list
abbrev pub listed : List ℕ → ℕ
listed t = length t / piece_size

abbrev pub StartsRise : List ℕ → Type 0
StartsRise t = Rising (piece_start t) (listed t)

abbrev pub start_is_before : List ℕ → ℕ → ℕ → Bool
start_is_before t place k = ltb (piece_start t k) place

-- how many pieces start before a slot of the image
unfoldable pub starts_before : List ℕ → ℕ → ℕ
starts_before t place = how_many (start_is_before t place) (listed t)
