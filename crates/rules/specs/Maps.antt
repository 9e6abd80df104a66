-- "Map step": every relocation judged against the slots as they were, then all that apply are rewritten. Executable.
-- Assumes nothing.
use Rattle.std.specs.Prelude.{Bool, true, false, cond, ◌&&◌, ◌||◌, List, [], ◌∷◌, ◌++◌, map, ℕ, zero, suc, ◌+◌, ◌*◌, ◌-◌, ◌/◌, ◌%◌, ℤ, pos, negsuc, ◌+ℤ◌, eqb, ltb, leb, length, set}
use Rattle.std.proofs.Math.Option.{Option, none, some}
use Rattle.rules.specs.Object.{Insn, is_call, is_wide_in}
use Rattle.rules.specs.Faithful.{slot_at}
use Rattle.rules.specs.Link.{Refusal, refusal}
use Rattle.rules.specs.Bytes.{half32, with_immediate, with_source}
use Rattle.rules.specs.Tables.{SymbolKind, other, text, section, Symbol, Function, Relocation, MapRow, Tables, first, row_of, base, is_code}

-- one relocation to be tried in one function
pub record Task : Type 0 where
  pub row : ℕ
  pub relocation : Relocation

abbrev pub task : ℕ → Relocation → Task
task row r = record { row = row; relocation = r }

-- fd, and with data the next slot's immediate
pub record Change : Type 0 where
  pub fd : ℤ
  pub value : Option ℤ

abbrev pub change : ℤ → Option ℤ → Change
change fd value = record { fd = fd; value = value }

pub data Verdict : Type 0 where
  skipped : Verdict
  refused : ℕ → Verdict
  applies : Change → Verdict

abbrev pub only {ℓ} : {A : Type ℓ} → (A → Bool) → List A → List A
only test [] = []
only test (x ∷ xs) = cond (test x) (x ∷ only test xs) (only test xs)

abbrev pub or_else {ℓ} : {A : Type ℓ} → Option A → Option A → Option A
or_else none o = o
or_else (some a) o = some a

abbrev pub is_symbol : ℕ → Option ℕ → Bool
is_symbol symbol none = false
is_symbol symbol (some s) = eqb s symbol

abbrev pub has_none : Option ℕ → Bool
has_none none = true
has_none (some s) = false

-- 7: "value offset outside i32"
abbrev pub fits32 : ℤ → Bool
fits32 (pos n) = ltb n half32
fits32 (negsuc n) = ltb n half32

-- 4: "off the 8-byte grid": places are "function, slot rounded down"
abbrev pub slot_for : Function → Relocation → ℕ
slot_for f r = (r.offset - f.offset) / 8

-- "Skip an offset outside the function's bytes from its section offset"
abbrev pub inside : Function → Relocation → Bool
inside f r = leb f.offset r.offset && ltb r.offset (f.offset + 8 * f.slots)

abbrev pub on_grid : Function → Relocation → Bool
on_grid f r = eqb ((r.offset - f.offset) % 8) 0

module _ (tables : Tables) where
  -- "the map with that symbol, else the map of that section without a symbol, else 5"
  abbrev pub map_for : ℕ → ℕ → Option MapRow
  map_for symbol home =
      or_else (first (λ m. is_symbol symbol m.symbol) tables.maps) (first (λ m. eqb m.home home && has_none m.symbol) tables.maps)

  -- "6; with data, 7"
  abbrev pub by_data : Bool → ℤ → ℤ → Verdict
  by_data false fd sum = applies (change fd none)
  by_data true fd sum = cond (fits32 sum) (applies (change fd (some sum))) (refused 7)

  abbrev pub by_map : Option MapRow → Bool → ℤ → Verdict
  by_map none wide sum = refused 5
  by_map (some m) wide sum = cond wide (by_data m.has_data m.fd sum) (refused 6)

  -- "5 if the kind is Text"
  abbrev pub by_kind : SymbolKind → Option MapRow → Bool → ℤ → Verdict
  by_kind text m wide sum = refused 5
  by_kind other m wide sum = by_map m wide sum
  by_kind section m wide sum = by_map m wide sum

  -- "skip if the symbol has no section; skip if the slot is a call or the section is in table 1"
  abbrev pub by_home : Option ℕ → Symbol → ℕ → Insn → Bool → Verdict
  by_home none s symbol i wide = skipped
  by_home (some home) s symbol i wide =
      cond (is_call i || is_code tables home) skipped (by_kind s.kind (map_for symbol home) wide (i.immediate +ℤ pos s.address))

  abbrev pub by_symbol : Option Symbol → ℕ → Insn → Bool → Verdict
  by_symbol none symbol i wide = refused 3
  by_symbol (some s) symbol i wide = by_home s.home s symbol i wide

  -- with table 6 as `image`: slots of a row, and whether one is a wide load
  abbrev pub slot_in : List Insn → ℕ → ℕ → Insn
  slot_in image row slot = slot_at image (base tables row + slot)

  abbrev pub is_wide : List Insn → ℕ → ℕ → Bool
  is_wide image row slot = is_wide_in (slot_in image row) (row_of tables row).slots slot

  abbrev pub symbol_of : Relocation → Option Symbol
  symbol_of r = first (λ s. eqb s.index r.symbol) tables.symbols

  abbrev pub task_slot : Task → ℕ
  task_slot t = slot_for (row_of tables t.row) t.relocation

  -- "Then, in order: 4; 3; ..."
  unfoldable pub judge : List Insn → Task → Verdict
  judge image t =
      cond (inside (row_of tables t.row) t.relocation)
      (cond (on_grid (row_of tables t.row) t.relocation)
      (by_symbol (symbol_of t.relocation) t.relocation.symbol (slot_in image t.row (task_slot t)) (is_wide image t.row (task_slot t)))
      (refused 4))
      skipped

  -- "Functions by row, then relocations of that section by row"
  abbrev pub tasks_of : ℕ → List Task
  tasks_of row = map (task row) (only (λ r. eqb r.home (row_of tables row).home) tables.relocations)

  abbrev pub tasks : (ℕ → List Task) → ℕ → ℕ → List Task
  tasks each from zero = []
  tasks each from (suc count) = each from ++ tasks each (suc from) count

  abbrev pub all_tasks : List Task
  all_tasks = tasks tasks_of 0 (length tables.functions)

  abbrev pub refusal_by : Verdict → Task → Option Refusal → Option Refusal
  refusal_by skipped t later = later
  refusal_by (refused number) t later = some (refusal number t.row (task_slot t))
  refusal_by (applies c) t later = later

  unfoldable pub first_refusal : List Insn → List Task → Option Refusal
  first_refusal image [] = none
  first_refusal image (t ∷ ts) = refusal_by (judge image t) t (first_refusal image ts)

  abbrev pub counted : Verdict → ℕ → ℕ
  counted skipped n = n
  counted (refused number) n = n
  counted (applies c) n = suc n

  unfoldable pub applied : List Insn → List Task → ℕ
  applied image [] = 0
  applied image (t ∷ ts) = counted (judge image t) (applied image ts)

-- a slot of table 6 rewritten
abbrev pub at : ℕ → (Insn → Insn) → List Insn → List Insn
at here rewrite image = set image here (rewrite (slot_at image here))

-- "no data, source register 1. With data, source register 2 and the next slot's immediate becomes old immediate plus symbol address. Last,
-- immediate = fd"
abbrev pub changed : ℕ → ℤ → Option ℤ → List Insn → List Insn
changed here fd none image = at here (with_immediate fd) (at here (with_source 1) image)
changed here fd (some value) image = at here (with_immediate fd) (at (suc here) (with_immediate value) (at here (with_source 2) image))

pub data MapOutcome : Type 0 where
  mapped : List Insn → ℕ → MapOutcome
  refuses : Refusal → MapOutcome

module _ (tables : Tables) where
  abbrev pub place : Task → ℕ
  place t = base tables t.row + task_slot tables t

  abbrev pub rewrite : Verdict → Task → List Insn → List Insn
  rewrite skipped t image = image
  rewrite (refused number) t image = image
  rewrite (applies c) t image = changed (place t) c.fd c.value image

  -- every task judged by `judged`, the slots as they were
  unfoldable pub rewrite_all : List Insn → List Task → List Insn → List Insn
  rewrite_all judged [] image = image
  rewrite_all judged (t ∷ ts) image = rewrite_all judged ts (rewrite (judge tables judged t) t image)

  abbrev pub unless_refused : Option Refusal → MapOutcome → MapOutcome
  unless_refused none outcome = outcome
  unless_refused (some why) outcome = refuses why

  -- "rewrites table 6 in place, only once nothing is refused"
  unfoldable pub map_step : MapOutcome
  map_step =
      unless_refused (first_refusal tables tables.instructions (all_tasks tables))
      (mapped (rewrite_all tables.instructions (all_tasks tables) tables.instructions) (applied tables tables.instructions (all_tasks tables)))
