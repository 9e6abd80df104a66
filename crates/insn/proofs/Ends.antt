-- Where calls lead, in numbers: next to the slot itself, and at both ends of an immediate.
-- Assumes nothing.
use mathlib.Core.Path.{◌≡◌, refl}
use mathlib.Core.Option.{some}
use mathlib.Core.List.{[], ◌∷◌}
use Prim.Native.Nat.{ℕ}
use lib.IntN.{pos, negsuc}
use Rattle.rules.specs.Object.{function, missing, displacement}
use Rattle.rules.specs.Tables.{section, Tables, slots_on, by_code}

-- −2 is the slot before, −1 the slot itself, 0 the slot after
pub called : (slots_on (negsuc 1) ≡ negsuc 7) × (slots_on (negsuc 0) ≡ pos 0) × (slots_on (pos 0) ≡ pos 8)
    × (slots_on (negsuc 0x7FFF_FFFF) ≡ negsuc 17179869175) × (slots_on (pos 0x7FFF_FFFF) ≡ pos 17179869184)
called = (refl, refl, refl, refl, refl)

-- the immediates that lead there, and the lowest of all
pub displaced : (displacement 6 7 ≡ negsuc 1) × (displacement 7 7 ≡ negsuc 0) × (displacement 8 7 ≡ pos 0)
    × (displacement 0 0x7FFF_FFFF ≡ negsuc 0x7FFF_FFFF) × (displacement 0x7FFF_FFFF 0 ≡ pos 0x7FFF_FFFE)
unfolding displacement
displaced = (refl, refl, refl, refl, refl)

-- one function, in section 1 at that address
abbrev alone : ℕ → Tables
alone address = record {
  code = 1 ∷ [];
  symbols = [];
  functions = record { home = 1; slots = 1; address = address; offset = 0; functions = 0; lines = 0 } ∷ [];
  relocations = [];
  maps = [];
  instructions = [];
  function_records = [];
  line_records = [];
}

-- a Section symbol at 16, size 64: bytes, counted from the address itself; below 0 there is nothing
pub reached : (by_code (alone 14) section (some 1) 16 64 (negsuc 1) ≡ function 0) × (by_code (alone 15) section (some 1) 16 64 (negsuc 0) ≡ function 0)
    × (by_code (alone 16) section (some 1) 16 64 (pos 0) ≡ function 0) × (by_code (alone 0x7FFF_FFF0) section (some 1) 16 64 (negsuc 0x7FFF_FFFF) ≡ missing 10)
    × (by_code (alone 0x8000_000F) section (some 1) 16 64 (pos 0x7FFF_FFFF) ≡ function 0)
reached = (refl, refl, refl, refl, refl)
