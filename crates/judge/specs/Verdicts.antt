-- What the code says of a relocation as a verdict of the map step, and that verdict by rows of the tables' bytes.
-- Assumes nothing.
use Rattle.std.specs.Prelude.{◌≡◌, true, cond, ◌||◌, List, [], ◌∷◌, ℕ, ◌+◌, ◌*◌, ◌≤◌, ◌<◌, ◌^◌, pos, ℤ, ◌+ℤ◌, eqb, length}
use Rattle.std.specs.Prelude as prelude
use Rattle.std.proofs.Math.Option.{Option, none, some}
use Rattle.rules.specs.declared.Table.TheVariants.{Code, Symbols, Maps}
use Rattle.rules.specs.Object.{is_call}
use Rattle.rules.specs.Bytes.{little, slot_in, slot_size}
use Rattle.rules.specs.declared.Cause.{Cause}
use Rattle.rules.specs.declared.Cause.TheVariants.{UnknownSymbol}
use Rattle.rules.specs.declared.Refusal.{Refusal}
use Rattle.rules.specs.Answers.{number_of, refused_reply}
use Rattle.rules.specs.Tables.{Tables}
use Rattle.rules.specs.Maps as step
use Rattle.rules.specs.Maps.{or_else, change, by_data, by_map, by_kind}
use Rattle.rules.specs.Rows.{row_size, with_data, or_none, kind_of, symbol_section, symbol_address, symbol_kind, map_fd, map_has_data, map_row}
use Rattle.rules.specs.Lookups.{Sound, is_code_section, symbol_with, map_with_symbol, map_of_section, read_row}
use Rattle.insn.specs.Wide.{wide_load_in}
use Rattle.judge.specs.declared.Site.{Site}
use Rattle.judge.specs.declared.Change.{Change}

-- what the code answers
abbrev pub Verdict : Type 0
Verdict = prelude.Result (prelude.Option Change) Refusal

-- the next slot's immediate
abbrev pub value_of : prelude.Option ℤ → Option ℤ
value_of prelude.None = none
value_of (prelude.Some value) = some value

abbrev pub verdict_of : Verdict → step.Verdict
verdict_of (prelude.Ok prelude.None) = step.skipped
verdict_of (prelude.Ok (prelude.Some c)) = step.applies (change c.fd (value_of c.value))
verdict_of (prelude.Err a) = step.refused (refused_reply a).number

-- a refusal's places; and the slot that is to be rewritten, where the next must be one of the function's too
abbrev pub RoomFor : Type 0 → Type 0 → prelude.Option ℤ → Type 0
RoomFor inside next prelude.None = inside
RoomFor inside next (prelude.Some value) = next

abbrev pub PlacedAt : ℕ → ℕ → ℕ → Type 0 → Type 0 → Verdict → Type 0
PlacedAt row slot here inside next (prelude.Ok prelude.None) = Unit {0}
PlacedAt row slot here inside next (prelude.Ok (prelude.Some c)) = (c.here.0 ≡ here) × RoomFor inside next c.value
PlacedAt row slot here inside next (prelude.Err a) = (refused_reply a).places ≡ (row ∷ slot ∷ 0 ∷ [])

-- ---- by rows. The tables are not looked at
abbrev pub refused_for : Cause → Tables → step.Verdict
refused_for cause tables = step.refused (number_of cause)

abbrev pub map_found : List ℕ → ℕ → ℕ → Option ℕ
map_found maps symbol home = or_else (map_with_symbol maps symbol) (map_of_section maps home)

abbrev pub data_verdict : List ℕ → ℕ → ℕ → Site → Tables → step.Verdict
data_verdict maps m address site tables = by_data tables (eqb (map_has_data maps m) with_data) (map_fd maps m) (site.imm +ℤ pos address)

abbrev pub map_verdict : List ℕ → ℕ → ℕ → ℕ → Site → Tables → step.Verdict
map_verdict maps symbol home address site tables = by_map tables (read_row (map_row maps) (map_found maps symbol home)) site.wide (site.imm +ℤ pos address)

abbrev pub home_verdict : List ℕ → List ℕ → List ℕ → ℕ → ℕ → Site → Tables → Option ℕ → step.Verdict
home_verdict code symbols maps s symbol site tables none = step.skipped
home_verdict code symbols maps s symbol site tables (some home) =
    cond (site.call || is_code_section code home) step.skipped
    (by_kind tables (kind_of (symbol_kind symbols s)) (read_row (map_row maps) (map_found maps symbol home)) site.wide (site.imm +ℤ pos (symbol_address symbols s)))

abbrev pub row_verdict : List ℕ → List ℕ → List ℕ → ℕ → ℕ → Site → Tables → step.Verdict
row_verdict code symbols maps s symbol site tables = home_verdict code symbols maps s symbol site tables (or_none (symbol_section symbols s))

abbrev pub found_verdict : List ℕ → List ℕ → List ℕ → ℕ → Site → Tables → Option ℕ → step.Verdict
found_verdict code symbols maps symbol site tables none = refused_for UnknownSymbol tables
found_verdict code symbols maps symbol site tables (some s) = row_verdict code symbols maps s symbol site tables

abbrev pub symbol_verdict : List ℕ → List ℕ → List ℕ → ℕ → Site → Tables → step.Verdict
symbol_verdict code symbols maps symbol site tables = found_verdict code symbols maps symbol site tables (symbol_with symbols symbol)

-- ---- contracts
pub record Says (site : Site) (verdict : Tables → step.Verdict) (r : Verdict) : Type 0 where
  pub says : (tables : Tables) → verdict_of r ≡ verdict tables
  pub places : PlacedAt site.row site.slot.0 site.here.0 (Unit {0}) (site.wide ≡ true) r

pub record DataAsked (maps : List ℕ) (m address : ℕ) (site : Site) : Type 0 where
  pub map_inside : row_size Maps * m + row_size Maps ≤ length maps
  pub address_low : address < 2 ^ 48
  pub wide_load : site.wide ≡ true

pub record Tabled (code symbols maps : List ℕ) : Type 0 where
  pub code_sound : Sound Code code
  pub symbols_sound : Sound Symbols symbols
  pub maps_sound : Sound Maps maps

pub record SiteAsked (instructions : List ℕ) (slot first slots : ℕ) : Type 0 where
  pub in_function : slot < slots
  pub in_table : slot_size * (first + slots) ≤ length instructions
  pub low : first + slots < 2 ^ 32

pub record SiteAt (instructions : List ℕ) (row slot first slots : ℕ) (site : Site) : Type 0 where
  pub row_is : site.row ≡ row
  pub slot_is : site.slot.0 ≡ slot
  pub here_is : site.here.0 ≡ first + slot
  pub imm_is : site.imm ≡ (slot_in little instructions (first + slot)).immediate
  pub call_is : site.call ≡ is_call (slot_in little instructions (first + slot))
  pub wide_is : site.wide ≡ wide_load_in instructions (first + slot) (first + slots)
