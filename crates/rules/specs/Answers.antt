-- "Numbers returned": document 01's number and places of each answer, and how places are written to a lent buffer.
-- Assumes nothing.
use Rattle.std.proofs.Math.Option.{Option, none, some}
use Rattle.std.specs.Prelude.{List, [], ◌∷◌, ◌++◌, ℕ, ◌/◌, take, Result, Ok, Err}
use Rattle.rules.specs.Bytes.{little, bytes4, padded}
use Rattle.rules.specs.declared.Places.{Places}
use Rattle.rules.specs.declared.Cause.{Cause}
use Rattle.rules.specs.declared.Cause.TheVariants.{TooManyRows, BrokenRow, UnknownSymbol, InvalidRelocationOffset, SectionNotFound, NotWideLoad, ValueOutside, UnknownForm, NoCode, UnknownFunction, NoRoom, LineOutside, NoRoot, BrokenInfo, NoListRoom, ShownTooLong, ShownPartial, RootNotFirst, NoSuchFunction, NotTiled, EndsElsewhere, SlotChanged, NotReference, WrongTarget, FuncInfoDiffers, LineInfoDiffers, RecordsOver}
use Rattle.rules.specs.declared.Refusal.{Refusal}

-- "They return the number and write the place numbers": three of them
pub record Reply : Type 0 where
  pub number : ℕ
  pub places : List ℕ

-- "Place numbers not named are 0"
abbrev pub reply : ℕ → ℕ → ℕ → ℕ → Reply
reply number a b c = record { number = number; places = a ∷ b ∷ c ∷ [] }

abbrev pub places_of : Places → List ℕ
places_of p = p.0 ∷ p.1 ∷ p.2 ∷ []

-- document 01's number of each cause, to 14
abbrev pub number_of : Cause → ℕ
number_of TooManyRows = 1
number_of BrokenRow = 2
number_of UnknownSymbol = 3
number_of InvalidRelocationOffset = 4
number_of SectionNotFound = 5
number_of NotWideLoad = 6
number_of ValueOutside = 7
number_of UnknownForm = 8
number_of NoCode = 9
number_of UnknownFunction = 10
number_of NoRoom = 11
number_of LineOutside = 12
number_of NoRoot = 13
number_of BrokenInfo = 14
-- ours, from 32 on
number_of NoListRoom = 32
number_of ShownTooLong = 33
number_of ShownPartial = 34
number_of RootNotFirst = 35
number_of NoSuchFunction = 36
number_of NotTiled = 37
number_of EndsElsewhere = 38
number_of SlotChanged = 39
number_of NotReference = 40
number_of WrongTarget = 41
number_of FuncInfoDiffers = 42
number_of LineInfoDiffers = 43
number_of RecordsOver = 44

abbrev pub refused_reply : Refusal → Reply
refused_reply r = record { number = number_of r.cause; places = places_of r.places }

-- of what an entry answers: link: slots, function records, line records; map step: relocations applied; readers: records
abbrev pub reply_of : Result Places Refusal → Reply
reply_of (Ok p) = record { number = 0; places = places_of p }
reply_of (Err r) = refused_reply r

-- the reply of what is refused, if anything is
abbrev pub refusal_in : Result (Unit {0}) Refusal → Option Reply
refusal_in (Ok passed) = none
refusal_in (Err r) = some (refused_reply r)

-- numbers as u32 each
abbrev pub numbers : List ℕ → List ℕ
numbers [] = []
numbers (n ∷ ns) = bytes4 little n ++ numbers ns

-- "to a lent buffer: those that fit whole, zero after". The buffer has `size` bytes
unfoldable pub places_in : ℕ → List ℕ → List ℕ
places_in size places = padded size (numbers (take (size / 4) places))
