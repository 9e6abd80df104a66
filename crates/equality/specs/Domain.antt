-- The crate's object of some tables, and document 01's "Domain of equality with the Rust", clause by clause.
-- Assumes nothing.
use Rattle.std.specs.Prelude.{◌≡◌, ◌≢◌, ◌⊎◌, true, cond, ◌&&◌, ℕ, ◌+◌, ◌≤◌, ◌<◌, ℤ, pos, eqb, length}
use Rattle.std.proofs.Math.Option.{none, some}
use mathlib.Core.List.{List, [], ◌∷◌, Memᴰ}
use Rattle.rules.specs.Object.{Insn, is_call}
use Rattle.rules.specs.Faithful.{slot_at}
use Rattle.rules.specs.Link.{Refusal, run}
use Rattle.rules.specs.Bytes.{Fits, half32}
use Rattle.rules.specs.Tables.{text, Symbol, Relocation, MapRow, Tables, first, row_of, base, insn_of, function_records_of, lines_of, is_code, relocation_at, object_of, RowsRise}
use Rattle.rules.specs.Maps.{Task, only, refused, judge, all_tasks, first_refusal, symbol_of}
use Rattle.rules.specs.Rows.{most_image_slots, most_image_functions, most_image_lines, most_function_slots}
use Rattle.rules.specs.Records.{Room, admits, root_admits}
use Rattle.equality.specs.Met.{link_met}
use Rattle.equality.specs.Crate as Crate

-- what the crate holds and no table says: the order of a section's relocations, that of the maps, and each function's `num_info`
pub record Hidden : Type 0 where
  pub values : ℕ → List Relocation
  pub maps : List MapRow
  pub func_nums : ℕ → ℕ
  pub line_nums : ℕ → ℕ

module _ (tables : Tables) (hidden : Hidden) where
  abbrev pub crate_function : ℕ → Crate.Function
  crate_function row = record {
    address = (row_of tables row).address;
    section_index = (row_of tables row).home;
    section_offset = (row_of tables row).offset;
    instructions = run (insn_of tables row) 0 (row_of tables row).slots;
    func_info = function_records_of tables row;
    func_num_info = hidden.func_nums row;
    line_info = lines_of tables row;
    line_num_info = hidden.line_nums row;
  }

  abbrev pub crate_functions : List Crate.Function
  crate_functions = run crate_function 0 (length tables.functions)

  unfoldable pub crate_of : Crate.Object
  crate_of = record {
    functions = crate_functions;
    relocations = λ home offset. first (λ r. eqb r.home home && eqb r.offset offset) tables.relocations;
    values = hidden.values;
    symbol_table = λ index. first (λ s. eqb s.index index) tables.symbols;
    text_sections = λ home. is_code tables home;
  }

-- a slot as bytes give it
pub record Plain (i : Insn) : Type 0 where
  pub byte : i.opcode < 256
  pub fits : Fits half32 i.immediate

abbrev pub 2⁴⁸ : ℕ
2⁴⁸ = 0x1_0000_0000_0000

-- "Valid tables in our limits": what is used of it. At most 4,096 slots a function; addresses, offsets and symbol addresses below 2⁴⁸;
-- instructions as eight bytes give them
pub record Limits (tables : Tables) : Type 0 where
  pub addresses : (row : ℕ) → (row_of tables row).address < 2⁴⁸
  pub offsets : (row : ℕ) → (row_of tables row).offset < 2⁴⁸
  pub slots : (row : ℕ) → (row_of tables row).slots ≤ most_function_slots
  pub symbol_addresses : (r : Relocation) (s : Symbol) → symbol_of tables r ≡ some s → s.address < 2⁴⁸
  pub plain : (k : ℕ) → Plain (slot_at tables.instructions k)

-- "reached callees": those that the link step comes to
unfoldable pub reached : Tables → Room → ℕ → List ℕ
reached tables room root = link_met (object_of tables) (admits tables room root) (root_admits tables room root) root

-- "no refusal but 3, 4, 5, 10"
abbrev pub Compared : ℕ → Type 0
Compared number = (number ≡ 3) ⊎ ((number ≡ 4) ⊎ ((number ≡ 5) ⊎ (number ≡ 10)))

abbrev pub top_immediate : ℤ
top_immediate = pos 0x7fff_ffff

-- "in our limits": an image holds at most 4,096 slots, 256 function records, 4,096 line records
pub record RoomLimits (room : Room) : Type 0 where
  pub room_slots : room.slots ≤ most_image_slots
  pub room_functions : room.functions ≤ most_image_functions
  pub room_lines : room.lines ≤ most_image_lines

-- "no call or size-32 code reference with immediate 2,147,483,647"
abbrev pub CallsBelow : Tables → Type 0
CallsBelow tables =
    (row slot : ℕ) → slot < (row_of tables row).slots → is_call (insn_of tables row slot) ≡ true → (insn_of tables row slot).immediate ≢ top_immediate

abbrev pub ReferencesBelow : Tables → Type 0
ReferencesBelow tables =
    (row slot : ℕ) (r : Relocation) (s : Symbol) (home : ℕ) → slot < (row_of tables row).slots
    → relocation_at tables (row_of tables row) slot ≡ some r → r.size ≡ 32
    → symbol_of tables r ≡ some s → s.home ≡ some home → is_code tables home ≡ true → (insn_of tables row slot).immediate ≢ top_immediate

-- "reached callees differ in address"
abbrev pub CalleesDiffer : Tables → Room → ℕ → Type 0
CalleesDiffer tables room root =
    (a b : ℕ) → Memᴰ a (reached tables room root) → Memᴰ b (reached tables room root) → (row_of tables a).address ≡ (row_of tables b).address → a ≡ b

-- "`num_info` is the record count": the root's; no other is read
abbrev pub FunctionCount : Tables → Hidden → ℕ → Type 0
FunctionCount tables hidden root = hidden.func_nums root ≡ length (function_records_of tables root)

abbrev pub LineCount : Tables → Hidden → ℕ → Type 0
LineCount tables hidden root = hidden.line_nums root ≡ length (lines_of tables root)

-- the clauses that speak of calls, of the tables that the map step leaves
pub record CallDomain (tables : Tables) (hidden : Hidden) (room : Room) (root : ℕ) : Type 0 where
  pub calls : CallsBelow tables
  pub references : ReferencesBelow tables
  pub differ : CalleesDiffer tables room root
  pub func_num : FunctionCount tables hidden root
  pub line_num : LineCount tables hidden root

-- what the link needs
pub record LinkDomain (tables : Tables) (hidden : Hidden) (room : Room) (root : ℕ) : Type 0 where
  -- "Valid tables in our limits"
  pub limits : Limits tables
  -- "Maps first, then calls": what the map step refuses as 3 does not come to the link (`known_after_maps`)
  pub known : (row slot : ℕ) (r : Relocation) → slot < (row_of tables row).slots → relocation_at tables (row_of tables row) slot ≡ some r
      → symbol_of tables r ≢ none
  pub room_limits : RoomLimits room
  pub clauses : CallDomain tables hidden room root

-- one list in another order
pub data Perm {A : Type 0} : List A → List A → Type 0 where
  done : Perm [] []
  keep : (x : A) {xs ys : List A} → Perm xs ys → Perm (x ∷ xs) (x ∷ ys)
  swap : (x y : A) (zs : List A) → Perm (x ∷ y ∷ zs) (y ∷ x ∷ zs)
  both : {xs ys zs : List A} → Perm xs ys → Perm ys zs → Perm xs zs

-- of table 5: "no symbol twice"
abbrev pub Once : List MapRow → Type 0
Once [] = Unit {0}
Once (m ∷ ms) = ((x : MapRow) → Memᴰ x ms → (s : ℕ) → m.symbol ≡ some s → x.symbol ≢ some s) × Once ms

-- "`HashMap` order": whatever it is
pub record Orders (tables : Tables) (hidden : Hidden) : Type 0 where
  pub order : (home : ℕ) → Perm (only (λ r. eqb r.home home) tables.relocations) (hidden.values home)
  pub map_order : Perm tables.maps hidden.maps

-- "a section with a map without a symbol has no other map". Of "no relocation finds its map by section where only maps with symbols stand"
-- nothing is needed: ours is 5 there, and `FiveNoMap` asks that no map has the section
abbrev pub Alone : Tables → Type 0
Alone tables = (m x : MapRow) → Memᴰ m tables.maps → Memᴰ x tables.maps → m.symbol ≡ none → x.home ≡ m.home → x ≡ m

-- "the function refused by the map step has one refusable relocation"
abbrev pub OneRefusable : Tables → Type 0
OneRefusable tables =
    (why : Refusal) → first_refusal tables tables.instructions (all_tasks tables) ≡ some why
    → (t u : Task) (m n : ℕ) → Memᴰ t (all_tasks tables) → Memᴰ u (all_tasks tables) → t.row ≡ why.row → u.row ≡ why.row
    → judge tables tables.instructions t ≡ refused m → judge tables tables.instructions u ≡ refused n → t ≡ u

-- each 5 of that function: its symbol and that symbol's section
abbrev pub Fives : Tables → (Symbol → ℕ → Type 0) → Type 0
Fives tables Said =
    (why : Refusal) → first_refusal tables tables.instructions (all_tasks tables) ≡ some why
    → (t : Task) (s : Symbol) (home : ℕ) → Memᴰ t (all_tasks tables) → t.row ≡ why.row → judge tables tables.instructions t ≡ refused 5
    → symbol_of tables t.relocation ≡ some s → s.home ≡ some home → Said s home

-- "5 only where the kind is not Text"
abbrev pub FiveNotText : Tables → Type 0
FiveNotText tables = Fives tables (λ s home. s.kind ≢ text)

-- "and no map has the section"
abbrev pub FiveNoMap : Tables → Type 0
FiveNoMap tables = Fives tables (λ s home. (m : MapRow) → Memᴰ m tables.maps → m.home ≢ home)

-- the clauses that speak of maps
pub record MapClauses (tables : Tables) (hidden : Hidden) : Type 0 where
  pub orders : Orders tables hidden
  pub alone : Alone tables
  pub single : OneRefusable tables
  pub not_text : FiveNotText tables
  pub no_map : FiveNoMap tables

-- what the map step needs
pub record MapDomain (tables : Tables) (hidden : Hidden) : Type 0 where
  -- "Valid tables in our limits": table 6 holds every function's slots, table 4 rises, table 5 has no symbol twice
  pub limits : Limits tables
  pub whole : (row : ℕ) → base tables row + (row_of tables row).slots ≤ length tables.instructions
  pub rising : RowsRise tables.relocations
  pub once : Once tables.maps
  pub clauses : MapClauses tables hidden

-- "whose cause alone is compared": the crate's error of a cause
abbrev pub cause_of : ℕ → Crate.Error
cause_of number = cond (eqb number 3) Crate.unknown_symbol (cond (eqb number 4) Crate.invalid_relocation_offset (cond (eqb number 5) Crate.section_not_found Crate.unknown_function))

-- table 6 as the map step leaves it
abbrev pub with_instructions : Tables → List Insn → Tables
with_instructions tables image = record {
  code = tables.code;
  symbols = tables.symbols;
  functions = tables.functions;
  relocations = tables.relocations;
  maps = tables.maps;
  instructions = image;
  function_records = tables.function_records;
  line_records = tables.line_records;
}
