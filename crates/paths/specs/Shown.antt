-- What a line says of a walk: the place and the slot's bytes, where it shows them, and how the walk goes on.
-- Assumes nothing.
use Rattle.std.specs.Prelude.{◌≡◌, Bool, true, false, List, [], ◌∷◌, ◌++◌, ℕ, ◌*◌, ◌/◌, ◌%◌, ◌-◌, ◌^◌, ltb, ℤ, length, take, drop, Option, Some, None, codes, flat_map}
use Rattle.std.specs.Borrow.{Bor}
use Rattle.std.specs.Fmt.{decimal, digit_glyph, padded_integral, format_spec}
use Rattle.std.specs.Option.{option_map}
use Rattle.rules.specs.Bytes.{slot_size}
use Rattle.rules.specs.Lookups.{found_of}
use Rattle.rules.specs.Walk.{within, SourcePlace}
use Rattle.walk.specs.declared.Stand.{Stand}
use Rattle.walk.specs.declared.Stand.TheVariants as stand
use Rattle.paths.specs.declared.show.End.{End}
use Rattle.paths.specs.declared.show.End.TheVariants.{Stands, Stopped, Ended, Left, NoFrame, Refused, TooLong}
use Rattle.paths.specs.declared.show.InSource.{InSource}
use Rattle.paths.specs.declared.show.InImage.{InImage}
use Rattle.paths.specs.declared.show.Place.{Place}
use Rattle.paths.specs.declared.show.Line.{Line}

-- ---- places

-- a line shows slots below this number
abbrev pub most_shown : ℕ
most_shown = 0xFFFF_FFFF

-- the slot of a place, where a line shows it
abbrev pub slot_shown : ℤ → Option ℕ
slot_shown at = found_of (within most_shown (λ n. n) at)

abbrev pub source_at : SourcePlace → ℕ → Option InSource
source_at at depth = option_map (λ slot. record { row = at.row; slot = slot; depth = depth }) (slot_shown at.slot)

abbrev pub image_at : ℤ → ℕ → Option InImage
image_at at depth = option_map (λ slot. record { slot = slot; depth = depth }) (slot_shown at)

module _ {P At : Type 0} (shown : P → ℕ → Option At) where
  abbrev pub place_shown : Stand P → Place At
  place_shown (stand.Standing here) = record { at = shown here.at here.depth; end = Stands }
  place_shown (stand.Stopped at depth) = record { at = shown at depth; end = Stopped }
  place_shown (stand.Ended at) = record { at = shown at 0; end = Ended }
  place_shown stand.Left = record { at = None; end = Left }
  place_shown stand.NoFrame = record { at = None; end = NoFrame }

abbrev pub source_shown : Stand SourcePlace → Place InSource
source_shown = place_shown source_at

abbrev pub image_shown : Stand ℤ → Place InImage
image_shown = place_shown image_at

-- ---- a slot's bytes

-- a slot's eight bytes, where the code has the slot
abbrev pub bytes_at : Bool → List ℕ → ℕ → Option (List ℕ)
bytes_at true code slot = Some (take slot_size (drop (slot_size * slot) code))
bytes_at false code slot = None

abbrev pub SlotIn : List ℕ → ℕ → Option (Bor (List ℕ)) → Type 0
SlotIn code slot r = option_map (λ b. b.now) r ≡ bytes_at (ltb slot (length code / slot_size)) code slot

-- ---- a line's text

-- in decimal, in a column of four
abbrev pub column : ℕ → List ℕ
column n = padded_integral (format_spec 32 0 0 4 (2 ^ 64 - 1)) false [] (decimal n)

abbrev pub end_text : End → List ℕ
end_text Stands = []
end_text Stopped = codes "  stopped"
end_text Ended = codes "  ended"
end_text Left = codes "  left"
end_text NoFrame = codes "  no frame"
end_text Refused = codes "  refused"
end_text TooLong = codes "  too long"

abbrev pub source_text : InSource → List ℕ
source_text s = codes " " ++ (column s.row ++ (codes " " ++ (column s.slot ++ (codes " " ++ column s.depth))))

abbrev pub image_text : InImage → List ℕ
image_text s = codes " " ++ (column s.slot ++ (codes " " ++ column s.depth))

-- two digits for each byte
abbrev pub hex_digits : List ℕ → List ℕ
hex_digits bytes = flat_map (λ b. digit_glyph false (b / 16) ∷ digit_glyph false (b % 16) ∷ []) bytes

abbrev pub bytes_text : Option (Bor (List ℕ)) → List ℕ
bytes_text None = []
bytes_text (Some b) = codes "  " ++ hex_digits b.now

-- what is there, as P writes it, or nothing
abbrev pub where_text : {P : Type 0} → (P → Option (List ℕ)) → Option P → Option (List ℕ)
where_text output None = Some []
where_text output (Some p) = output p

abbrev pub source_place_text : Option InSource → List ℕ
source_place_text None = []
source_place_text (Some s) = source_text s

abbrev pub image_place_text : Option InImage → List ℕ
image_place_text None = []
image_place_text (Some s) = image_text s

-- the step; of each walk its place, its slot's bytes and how it goes on
abbrev pub line_text : Line → List ℕ
line_text l =
    (codes " " ++ (column l.step ++ (codes " |" ++ (source_place_text l.source.at ++ (bytes_text l.source_bytes ++ end_text l.source.end)))))
    ++ (codes " |" ++ (image_place_text l.image.at ++ (bytes_text l.image_bytes ++ end_text l.image.end)))
