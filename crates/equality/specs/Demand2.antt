-- Demand 2: in document 01's domain, instructions and records equal the crate's. "Maps first, then calls; the root is the only program".
-- Assumes nothing.
use Rattle.std.specs.Prelude.{◌≡◌, ◌≢◌, ℕ, ◌+◌, ◌≤◌, ◌<◌, length}
use mathlib.Core.List.{List, Memᴰ}
use Rattle.rules.specs.Object.{Insn}
use Rattle.rules.specs.Link.{State, Refusal, Outcome, linked, refuses, unfinished}
use Rattle.rules.specs.Bytes.{Fits, half32}
use Rattle.rules.specs.Tables.{MapRow, Tables, RowsRise, row_of, base}
use Rattle.rules.specs.Maps as Maps
use Rattle.rules.specs.Maps.{MapOutcome, mapped, map_step}
use Rattle.rules.specs.Records.{Room, image_functions, image_lines, link_step}
use Rattle.equality.specs.Crate as Crate
use Rattle.equality.specs.Crate.{Result, ok, err, bind, Linker, object_relocate_maps, relocate_calls}
use Rattle.equality.specs.Domain.{Hidden, crate_functions, crate_of, Compared, cause_of, Limits, RoomLimits, Once, Orders, Alone, OneRefusable, FiveNotText, FiveNoMap, CallsBelow, ReferencesBelow, CalleesDiffer, FunctionCount, LineCount, with_instructions}

-- the crate's: `relocate_maps`, then `relocate_calls` of what it leaves
abbrev pub with_functions : Crate.Object → List Crate.Function → Crate.Object
with_functions object functions = record {
  functions = functions;
  relocations = object.relocations;
  values = object.values;
  symbol_table = object.symbol_table;
  text_sections = object.text_sections;
}

unfoldable pub both_steps : Crate.Object → List MapRow → ℕ → ℕ → Result Linker
both_steps object maps section_index address =
    bind (object_relocate_maps object maps) (λ functions. relocate_calls (with_functions object functions) section_index address)

-- ours: the map step, then the link step of table 6 as it leaves it
pub data Answer : Type 0 where
  image : State → Answer
  refusal : Refusal → Answer
  endless : Answer

abbrev pub by_link : Outcome → Answer
by_link (linked state) = image state
by_link (refuses why) = refusal why
by_link unfinished = endless

abbrev pub by_maps : Tables → Room → ℕ → MapOutcome → Answer
by_maps tables room root (mapped instructions count) = by_link (link_step (with_instructions tables instructions) room root)
by_maps tables room root (Maps.refuses why) = refusal why

unfoldable pub our_steps : Tables → Room → ℕ → Answer
our_steps tables room root = by_maps tables room root (map_step tables)

-- "Valid tables in our limits": what is used of it. proofs/Offered.antt has it of tables that the refusals 1, 2 and 13 let pass
pub record Valid (tables : Tables) (room : Room) (root : ℕ) : Type 0 where
  pub limits : Limits tables
  pub room_limits : RoomLimits room
  -- table 6 holds every function's slots
  pub whole : (row : ℕ) → base tables row + (row_of tables row).slots ≤ length tables.instructions
  -- table 4: (section, offset) strictly rising
  pub rising : RowsRise tables.relocations
  -- table 5: no symbol twice; fd i32
  pub once : Once tables.maps
  pub fds : (m : MapRow) → Memᴰ m tables.maps → Fits half32 m.fd
  -- table 3: (section, address) strictly rising; the root a row
  pub keys : (a b : ℕ) → a < length tables.functions → b < length tables.functions → (row_of tables a).home ≡ (row_of tables b).home
      → (row_of tables a).address ≡ (row_of tables b).address → a ≡ b
  pub root_row : root < length tables.functions

-- "no refusal but 3, 4, 5, 10"
abbrev pub ComparedOnly : Tables → Room → ℕ → Type 0
ComparedOnly tables room root = (why : Refusal) → our_steps tables room root ≡ refusal why → Compared why.number

-- "Maps first, then calls": of the tables that the map step leaves
abbrev pub AfterMaps : Tables → (Tables → Type 0) → Type 0
AfterMaps tables Said = (instructions : List Insn) (count : ℕ) → map_step tables ≡ mapped instructions count → Said (with_instructions tables instructions)

-- the domain's clauses, by name
pub data Clause : Type 0 where
  valid_tables compared_only one_refusable five_not_text five_no_map map_alone call_below reference_below callees_differ function_count line_count : Clause

abbrev pub Holds : Clause → Tables → Hidden → Room → ℕ → Type 0
Holds valid_tables tables hidden room root = Valid tables room root
Holds compared_only tables hidden room root = ComparedOnly tables room root
Holds one_refusable tables hidden room root = OneRefusable tables
Holds five_not_text tables hidden room root = FiveNotText tables
Holds five_no_map tables hidden room root = FiveNoMap tables
Holds map_alone tables hidden room root = Alone tables
Holds call_below tables hidden room root = AfterMaps tables CallsBelow
Holds reference_below tables hidden room root = AfterMaps tables ReferencesBelow
Holds callees_differ tables hidden room root = AfterMaps tables (λ after. CalleesDiffer after room root)
Holds function_count tables hidden room root = AfterMaps tables (λ after. FunctionCount after hidden root)
Holds line_count tables hidden room root = AfterMaps tables (λ after. LineCount after hidden root)

-- those that are asked hold, whatever the crate's order is
pub record Within (Asked : Clause → Type 0) (tables : Tables) (hidden : Hidden) (room : Room) (root : ℕ) : Type 0 where
  pub orders : Orders tables hidden
  pub holds : (c : Clause) → Asked c → Holds c tables hidden room root

-- document 01's domain; and without one clause
abbrev pub Domain : Tables → Hidden → Room → ℕ → Type 0
Domain = Within (λ c. Unit {0})

abbrev pub Except : Clause → Tables → Hidden → Room → ℕ → Type 0
Except x = Within (λ c. c ≢ x)

-- instructions, function records, line records and both counts are the crate's
pub record SameImage (tables : Tables) (root : ℕ) (final : State) (o : Result Linker) : Type 0 where
  pub linker : Linker
  pub is_ok : o ≡ ok linker
  pub instructions : linker.instructions ≡ final.image
  pub functions : linker.func_info ≡ image_functions tables root final.placed
  pub lines : linker.line_info ≡ image_lines tables root final.placed
  pub func_num : linker.func_num_info ≡ length (image_functions tables root final.placed)
  pub line_num : linker.line_num_info ≡ length (image_lines tables root final.placed)

-- an image equals the crate's; a refusal has the crate's cause; and ours always ends
abbrev pub Equal : Tables → ℕ → Answer → Result Linker → Type 0
Equal tables root (image final) o = SameImage tables root final o
Equal tables root (refusal why) o = o ≡ err (cause_of why.number)
Equal tables root endless o = ⊥

-- demand 2, over the clauses that are asked
abbrev pub EqualWithin : (Clause → Type 0) → Type 0
EqualWithin Asked =
    (tables : Tables) (hidden : Hidden) (room : Room) (root : ℕ) → Within Asked tables hidden room root
    → Equal tables root (our_steps tables room root) (both_steps (crate_of tables hidden) hidden.maps (row_of tables root).home (row_of tables root).address)

-- the map step alone: every function's instructions are the crate's, reached by the root or not
abbrev pub EqualMaps : Tables → Hidden → MapOutcome → Result (List Crate.Function) → Type 0
EqualMaps tables hidden (mapped instructions count) o = o ≡ ok (crate_functions (with_instructions tables instructions) hidden)
EqualMaps tables hidden (Maps.refuses why) o = o ≡ err (cause_of why.number)
