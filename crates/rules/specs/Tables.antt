-- The tables of document 01 with their rows read (table 6 decoded: `decoded order` of its bytes), and the object that they make:
-- what each slot names, by section and address.
-- Assumes nothing.
use Rattle.std.specs.Prelude.{Bool, true, false, cond, ◌&&◌, ◌≡◌, ◌⊎◌, ℕ, zero, suc, ◌+◌, ◌*◌, ◌<◌, ℤ, pos, negsuc, ◌+ℤ◌, ◌*ℤ◌, eqb, length, get_or, take, drop}
use Rattle.std.proofs.Math.Option.{Option, none, some}
use mathlib.Core.List.{List, [], ◌∷◌, Memᴰ}
use Rattle.rules.specs.Object.{Insn, is_call, Named, nothing, function, missing, unclear, Object}
use Rattle.rules.specs.Faithful.{slot_at}

pub data SymbolKind : Type 0 where
  other text section : SymbolKind

pub record Symbol : Type 0 where
  pub index : ℕ
  pub home : Option ℕ
  pub address : ℕ
  pub kind : SymbolKind

-- `functions` and `lines` count its records in tables 7 and 8
pub record Function : Type 0 where
  pub home : ℕ
  pub slots : ℕ
  pub address : ℕ
  pub offset : ℕ
  pub functions : ℕ
  pub lines : ℕ

pub record Relocation : Type 0 where
  pub home : ℕ
  pub symbol : ℕ
  pub offset : ℕ
  pub size : ℕ

pub record MapRow : Type 0 where
  pub home : ℕ
  pub symbol : Option ℕ
  pub fd : ℤ
  pub has_data : Bool

pub record FunctionRecord : Type 0 where
  pub slot : ℕ
  pub kind : ℕ

pub record LineRecord : Type 0 where
  pub slot : ℕ
  pub file : ℕ
  pub line : ℕ
  pub column : ℕ

pub record Tables : Type 0 where
  pub code : List ℕ
  pub symbols : List Symbol
  pub functions : List Function
  pub relocations : List Relocation
  pub maps : List MapRow
  pub instructions : List Insn
  pub function_records : List FunctionRecord
  pub line_records : List LineRecord

-- (a, b) before (c, d)
abbrev pub Before : ℕ → ℕ → ℕ → ℕ → Type 0
Before a b c d = (a < c) ⊎ ((a ≡ c) × (b < d))

-- of table 4: (section, offset) strictly rising
abbrev pub Earlier : Relocation → Relocation → Type 0
Earlier r q = Before r.home r.offset q.home q.offset

abbrev pub RowsRise : List Relocation → Type 0
RowsRise [] = Unit {0}
RowsRise (r ∷ rs) = ((q : Relocation) → Memᴰ q rs → Earlier r q) × RowsRise rs

-- the first row that passes
abbrev pub first {ℓ} : {A : Type ℓ} → (A → Bool) → List A → Option A
first test [] = none
first test (x ∷ xs) = cond (test x) (some x) (first test xs)

-- and its number, the list's first being `from`
abbrev pub first_row {ℓ} : {A : Type ℓ} → (A → Bool) → ℕ → List A → Option ℕ
first_row test from [] = none
first_row test from (x ∷ xs) = cond (test x) (some from) (first_row test (suc from) xs)

abbrev pub is_some {ℓ} : {A : Type ℓ} → Option A → Bool
is_some none = false
is_some (some a) = true

abbrev pub is_at : ℕ → ℤ → Bool
is_at n (pos m) = eqb n m
is_at n (negsuc m) = false

abbrev pub no_function : Function
no_function = record { home = 0; slots = 0; address = 0; offset = 0; functions = 0; lines = 0 }

abbrev pub or_missing : Option ℕ → Named
or_missing none = missing 10
or_missing (some row) = function row

-- the sum of a count over the rows before `row`: where a row's part of table 6, 7 or 8 begins
abbrev pub before : (Function → ℕ) → ℕ → List Function → ℕ
before count zero fs = 0
before count (suc row) [] = 0
before count (suc row) (f ∷ fs) = count f + before count row fs

-- "8 × (immediate + 1)"
abbrev pub slots_on : ℤ → ℤ
slots_on immediate = pos 8 *ℤ (immediate +ℤ pos 1)

module _ (tables : Tables) where
  abbrev pub row_of : ℕ → Function
  row_of row = get_or tables.functions row no_function

  -- the first slot of a row in table 6
  abbrev pub base : ℕ → ℕ
  base row = before (λ f. f.slots) row tables.functions

  abbrev pub insn_of : ℕ → ℕ → Insn
  insn_of row slot = slot_at tables.instructions (base row + slot)

  -- the records of a row
  abbrev pub function_records_of : ℕ → List FunctionRecord
  function_records_of row = take (row_of row).functions (drop (before (λ f. f.functions) row tables.functions) tables.function_records)

  abbrev pub lines_of : ℕ → List LineRecord
  lines_of row = take (row_of row).lines (drop (before (λ f. f.lines) row tables.functions) tables.line_records)

  -- 10: "no row has that section and exactly that address"
  abbrev pub row_at : ℕ → ℤ → Option ℕ
  row_at home address = first_row (λ f. eqb f.home home && is_at f.address address) 0 tables.functions

  abbrev pub function_at : ℕ → ℤ → Named
  function_at home address = or_missing (row_at home address)

  abbrev pub is_code : ℕ → Bool
  is_code home = is_some (first (eqb home) tables.code)

  -- "It refers to code if the kind is Text or its section is in table 1"
  abbrev pub refers_to_code : SymbolKind → Option ℕ → Bool
  refers_to_code text home = true
  refers_to_code section none = false
  refers_to_code section (some home) = is_code home
  refers_to_code other none = false
  refers_to_code other (some home) = is_code home

  -- "Text without section gives 8; Text targets the address; Section with size 32 targets address + 8 × (immediate + 1), with size 64
  -- address + immediate; anything else 8"
  abbrev pub by_code : SymbolKind → Option ℕ → ℕ → ℕ → ℤ → Named
  by_code text none address size immediate = unclear 8
  by_code text (some home) address size immediate = function_at home (pos address)
  by_code section none address size immediate = unclear 8
  by_code section (some home) address size immediate =
      cond (eqb size 32) (function_at home (pos address +ℤ slots_on immediate))
      (cond (eqb size 64) (function_at home (pos address +ℤ immediate)) (unclear 8))
  by_code other home address size immediate = unclear 8

  -- "If not: 9 on a call, else copied": what does not refer to code names nothing
  abbrev pub by_symbol : SymbolKind → Option ℕ → ℕ → ℕ → ℤ → Named
  by_symbol kind home address size immediate = cond (refers_to_code kind home) (by_code kind home address size immediate) nothing

  abbrev pub by_symbol_row : Option Symbol → ℕ → ℤ → Named
  by_symbol_row none size immediate = unclear 3
  by_symbol_row (some s) size immediate = by_symbol s.kind s.home s.address size immediate

  -- "No relocation: a call's target is the function's own section, at section offset + 8 × slot + 8 × (immediate + 1)"; 3: "relocation's
  -- symbol not in table 2"
  abbrev pub by_relocation : Option Relocation → Function → ℕ → Insn → Named
  by_relocation none f slot i =
      cond (is_call i) (function_at f.home (pos (f.offset + 8 * slot) +ℤ slots_on i.immediate)) nothing
  by_relocation (some r) f slot i = by_symbol_row (first (λ s. eqb s.index r.symbol) tables.symbols) r.size i.immediate

  -- "A slot's relocation is the row with the function's section and offset section offset + 8 × slot; the search stops at the first
  -- matching row"
  abbrev pub relocation_at : Function → ℕ → Option Relocation
  relocation_at f slot = first (λ r. eqb r.home f.home && eqb r.offset (f.offset + 8 * slot)) tables.relocations

  abbrev pub named_of : ℕ → ℕ → Named
  named_of row slot = by_relocation (relocation_at (row_of row) slot) (row_of row) slot (insn_of row slot)

  unfoldable pub object_of : Object
  object_of = record {
    rows = length tables.functions;
    slots = λ row. (row_of row).slots;
    insn = insn_of;
    named = named_of;
  }
