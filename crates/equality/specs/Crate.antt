-- What the Rust crate does (src/relocation.rs, a release build), on values: written from that text, the names its own, with - for _.
-- Assumes nothing.
use Rattle.std.specs.Prelude.{Bool, true, false, cond, ◌&&◌, ◌||◌, not, List, [], ◌∷◌, ◌++◌, map, ℕ, zero, suc, ◌+◌, ◌*◌, ◌-◌, ◌/◌, ◌%◌, ℤ, pos, negsuc, ◌+ℤ◌, ◌-ℤ◌, ◌*ℤ◌, eqb, ltb, leb, length}
use Rattle.std.proofs.Math.Option.{Option, none, some}
use Rattle.rules.specs.Object.{Insn, is_zero}
use Rattle.rules.specs.Faithful.{slot_at}
use Rattle.rules.specs.Bytes.{signed, half32, with_immediate, with_source}
use Rattle.rules.specs.Tables.{SymbolKind, other, text, section, Symbol, Relocation, MapRow, FunctionRecord, first, LineRecord}
use Rattle.rules.specs.Maps.{at}

-- A map (HashMap, BTreeMap, HashSet) is its `get`. Arithmetic wraps. `todo!`, `unwrap` on nothing and an index past the end are `panics`

-- Rust's numbers. z modulo m
abbrev pub modulo : ℕ → ℤ → ℕ
modulo m (pos n) = n % m
modulo m (negsuc n) = m - suc (n % m)

abbrev pub 2³² : ℕ
2³² = 0x1_0000_0000

abbrev pub 2⁶⁴ : ℕ
2⁶⁴ = 0x1_0000_0000_0000_0000

unfoldable pub u32 : ℤ → ℕ
u32 z = modulo 2³² z

unfoldable pub u64 : ℤ → ℕ
u64 z = modulo 2⁶⁴ z

unfoldable pub i32 : ℤ → ℤ
i32 z = signed half32 (modulo 2³² z)

-- wrapping sums and products: of two u64, and of two i32
unfoldable pub add_u64 : ℕ → ℕ → ℕ
add_u64 a b = (a + b) % 2⁶⁴

unfoldable pub mul_u64 : ℕ → ℕ → ℕ
mul_u64 a b = a * b % 2⁶⁴

unfoldable pub add_u32 : ℕ → ℕ → ℕ
add_u32 a b = (a + b) % 2³²

unfoldable pub sub_u32 : ℕ → ℕ → ℕ
sub_u32 a b = u32 (pos a -ℤ pos b)

unfoldable pub add_i32 : ℤ → ℤ → ℤ
add_i32 a b = i32 (a +ℤ b)

unfoldable pub sub_i32 : ℤ → ℤ → ℤ
sub_i32 a b = i32 (a -ℤ b)

abbrev pub HashMap : Type 0 → Type 0
HashMap A = ℕ → Option A

abbrev pub insert : {A : Type 0} → ℕ → A → HashMap A → HashMap A
insert k v m = λ key. cond (eqb key k) (some v) (m key)

abbrev pub new : {A : Type 0} → HashMap A
new key = none

pub data Error : Type 0 where
  unknown_symbol section_not_found unknown_function unknown_program invalid_relocation_offset : Error

pub data Result (A : Type 0) : Type 0 where
  ok : A → Result A
  err : Error → Result A
  panics : Result A
  -- the bound on nested calls is met: never returned (the theorem's equations say so)
  too_deep : Result A

abbrev pub bind : {A B : Type 0} → Result A → (A → Result B) → Result B
bind (ok a) next = next a
bind (err e) next = err e
bind panics next = panics
bind too_deep next = too_deep

pub record Function : Type 0 where
  pub address : ℕ
  pub section_index : ℕ
  pub section_offset : ℕ
  pub instructions : List Insn
  pub func_info : List FunctionRecord
  pub func_num_info : ℕ
  pub line_info : List LineRecord
  pub line_num_info : ℕ

-- the object, with the order in which `relocations.values()` of a section iterates
pub record Object : Type 0 where
  -- in the order of their keys
  pub functions : List Function
  -- by section, then by offset
  pub relocations : ℕ → HashMap Relocation
  pub values : ℕ → List Relocation
  pub symbol_table : HashMap Symbol
  pub text_sections : ℕ → Bool

abbrev pub with_insns : Function → List Insn → Function
with_insns f insns = record {
  address = f.address;
  section_index = f.section_index;
  section_offset = f.section_offset;
  instructions = insns;
  func_info = f.func_info;
  func_num_info = f.func_num_info;
  line_info = f.line_info;
  line_num_info = f.line_num_info;
}

-- klass = code & 0x07, op = code & 0xF0, src = code & 0x08, of a byte
unfoldable pub insn_is_call : Insn → Bool
insn_is_call i =
    eqb (i.opcode % 8) 0x05 && eqb (i.opcode / 16 % 16 * 16) 0x80 && eqb (i.opcode / 8 % 2 * 8) 0x00 && eqb i.source 1 && eqb i.destination 0
    && is_zero i.offset

-- fn relocate_maps

abbrev pub maps_by_section : List MapRow → HashMap MapRow → HashMap MapRow
maps_by_section [] m = m
maps_by_section (x ∷ xs) m = maps_by_section xs (insert x.home x m)

abbrev pub insert_symbol : Option ℕ → MapRow → HashMap MapRow → HashMap MapRow
insert_symbol none x m = m
insert_symbol (some index) x m = insert index x m

abbrev pub maps_by_symbol : List MapRow → HashMap MapRow → HashMap MapRow
maps_by_symbol [] m = m
maps_by_symbol (x ∷ xs) m = maps_by_symbol xs (insert_symbol x.symbol x m)

module _ (object : Object) (by_section symbol_hash : HashMap MapRow) where
  -- `instructions[k + 1].imm = instructions[k].imm + sym.address as i32` is an index past the end at the last slot
  abbrev pub set_map : Bool → Bool → ℤ → ℕ → ℕ → List Insn → Result (List Insn)
  set_map false inside fd address k insns = ok (at k (with_immediate fd) (at k (with_source 1) insns))
  set_map true inside fd address k insns =
      cond inside
      (ok (at k (with_immediate fd) (at (suc k) (with_immediate (add_i32 (slot_at insns k).immediate (i32 (pos address)))) (at k (with_source 2) insns))))
      panics

  abbrev pub with_map : Option MapRow → ℕ → ℕ → List Insn → Result (List Insn)
  with_map none address k insns = err section_not_found
  with_map (some m) address k insns = set_map m.has_data (ltb (suc k) (length insns)) m.fd address k insns

  abbrev pub find_map : Option MapRow → ℕ → Option MapRow
  find_map (some m) section_index = some m
  find_map none section_index = by_section section_index

  abbrev pub in_section : Option ℕ → Symbol → Relocation → ℕ → List Insn → Result (List Insn)
  in_section none sym rel k insns = ok insns
  in_section (some section_index) sym rel k insns =
      cond (insn_is_call (slot_at insns k) || object.text_sections section_index) (ok insns)
      (with_map (find_map (symbol_hash rel.symbol) section_index) sym.address k insns)

  abbrev pub with_symbol : Option Symbol → Relocation → ℕ → List Insn → Result (List Insn)
  with_symbol none rel k insns = err unknown_symbol
  with_symbol (some sym) rel k insns = in_section sym.home sym rel k insns

  -- one turn of the loop. `instructions[ins_index]` is inside by the first test
  unfoldable pub relocate_map : Function → Relocation → List Insn → Result (List Insn)
  relocate_map fun rel insns =
      cond (ltb rel.offset fun.section_offset || leb (add_u64 fun.section_offset (length fun.instructions * 8)) rel.offset) (ok insns)
      (cond (not (eqb ((rel.offset - fun.section_offset) % 8) 0)) (err invalid_relocation_offset)
      (with_symbol (object.symbol_table rel.symbol) rel ((rel.offset - fun.section_offset) / 8) insns))

  unfoldable pub relocate_maps : Function → List Relocation → List Insn → Result (List Insn)
  relocate_maps fun [] insns = ok insns
  relocate_maps fun (rel ∷ rels) insns = bind (relocate_map fun rel insns) (relocate_maps fun rels)

  -- for function in self.functions.values_mut()
  unfoldable pub relocate_functions : List Function → Result (List Function)
  relocate_functions [] = ok []
  relocate_functions (fun ∷ funs) =
      bind (relocate_maps fun (object.values fun.section_index) fun.instructions)
      (λ insns. bind (relocate_functions funs) (λ rest. ok (with_insns fun insns ∷ rest)))

unfoldable pub object_relocate_maps : Object → List MapRow → Result (List Function)
object_relocate_maps object maps = relocate_functions object (maps_by_section maps new) (maps_by_symbol maps new) object.functions

-- struct FunctionLinker: the program that grows, and `linked_functions`, BY ADDRESS
pub record Linker : Type 0 where
  pub instructions : List Insn
  pub func_info : List FunctionRecord
  pub func_num_info : ℕ
  pub line_info : List LineRecord
  pub line_num_info : ℕ
  pub linked_functions : HashMap ℕ

-- fn link_func_and_line_info
abbrev pub func_at : ℕ → FunctionRecord → FunctionRecord
func_at start info = record { slot = u32 (pos start); kind = info.kind }

abbrev pub line_at : ℕ → ℕ → LineRecord → LineRecord
line_at original-start-off start info = record {
  slot = add_u32 (u32 (pos start)) (sub_u32 info.slot original-start-off);
  file = info.file;
  line = info.line;
  column = info.column;
}

abbrev pub lines_at : List LineRecord → ℕ → List LineRecord
lines_at [] start = []
lines_at (l ∷ ls) start = map (line_at l.slot start) (l ∷ ls)

abbrev pub line_count : List LineRecord → ℕ → ℕ → ℕ
line_count [] old new = old
line_count (l ∷ ls) old new = u32 (pos new)

-- the instructions appended, the records linked, the address remembered
abbrev pub extend : Function → Linker → Linker
extend fun program = record {
  instructions = program.instructions ++ fun.instructions;
  func_info = program.func_info ++ map (func_at (length program.instructions)) fun.func_info;
  func_num_info = u32 (pos (length (program.func_info ++ map (func_at (length program.instructions)) fun.func_info)));
  line_info = program.line_info ++ lines_at fun.line_info (length program.instructions);
  line_num_info = line_count fun.line_info program.line_num_info (length (program.line_info ++ lines_at fun.line_info (length program.instructions)));
  linked_functions = insert fun.address (length program.instructions) program.linked_functions;
}

abbrev pub with_slot : ℕ → (Insn → Insn) → Linker → Linker
with_slot ins-index rewrite program = record {
  instructions = at ins-index rewrite program.instructions;
  func_info = program.func_info;
  func_num_info = program.func_num_info;
  line_info = program.line_info;
  line_num_info = program.line_num_info;
  linked_functions = program.linked_functions;
}

-- a slot in `relocate`: left as it is; a panic; no such function; a callee
pub data Slot : Type 0 where
  continue : Slot
  panic : Slot
  unknown : Slot
  callee : Function → Slot

-- ins.imm = callee_ins_index - ins_index - 1, as i32; source register 4 unless it is a call
abbrev pub pointed : Bool → ℕ → ℕ → Insn → Insn
pointed true callee-ins-index ins-index i = with_immediate (sub_i32 (sub_i32 (i32 (pos callee-ins-index)) (i32 (pos ins-index))) (pos 1)) i
pointed false callee-ins-index ins-index i =
    with_source 4 (with_immediate (sub_i32 (sub_i32 (i32 (pos callee-ins-index)) (i32 (pos ins-index))) (pos 1)) i)

module _ (object : Object) where
  abbrev pub get_function : ℕ → ℕ → Option Function
  get_function section_index address = first (λ f. eqb f.section_index section_index && eqb f.address address) object.functions

  abbrev pub or_unknown : Option Function → Slot
  or_unknown none = unknown
  or_unknown (some f) = callee f

  -- sym.kind == Text || sym.section_index.is_some_and(text_sections.contains)
  abbrev pub is_text : SymbolKind → Option ℕ → Bool
  is_text text home = true
  is_text other none = false
  is_text other (some section_index) = object.text_sections section_index
  is_text section none = false
  is_text section (some section_index) = object.text_sections section_index

  -- the address by the symbol's kind; `none` is the todo!
  abbrev pub address_of : SymbolKind → ℕ → ℕ → ℤ → Option ℕ
  address_of text size address imm = some address
  address_of section size address imm =
      cond (eqb size 32) (some (add_u64 address (mul_u64 (u64 (add_i32 imm (pos 1))) 8)))
      (cond (eqb size 64) (some (add_u64 address (u64 imm))) none)
  address_of other size address imm = none

  abbrev pub at_symbol : Option ℕ → Option ℕ → Slot
  at_symbol none home = panic
  at_symbol (some address) none = panic
  at_symbol (some address) (some section_index) = or_unknown (get_function section_index address)

  -- not a call and not a text relocation: continue. A call without one is relative to the pc
  abbrev pub without_relocation : Bool → Function → ℕ → ℤ → Slot
  without_relocation false fun slot imm = continue
  without_relocation true fun slot imm =
      or_unknown (get_function fun.section_index (u64 (pos fun.section_offset +ℤ pos slot *ℤ pos 8 +ℤ add_i32 imm (pos 1) *ℤ pos 8)))

  abbrev pub with_sym : Option Symbol → Relocation → Bool → Function → ℕ → ℤ → Slot
  with_sym none rel is_call fun slot imm = without_relocation is_call fun slot imm
  with_sym (some sym) rel is_call fun slot imm =
      cond (is_text sym.kind sym.home) (at_symbol (address_of sym.kind rel.size sym.address imm) sym.home)
      (without_relocation is_call fun slot imm)

  abbrev pub with_rel : Option Relocation → Bool → Function → ℕ → ℤ → Slot
  with_rel none is_call fun slot imm = without_relocation is_call fun slot imm
  with_rel (some rel) is_call fun slot imm = with_sym (object.symbol_table rel.symbol) rel is_call fun slot imm

  -- `ins`, the slot of the program
  unfoldable pub slot_of : Function → ℕ → Insn → Slot
  slot_of fun slot ins =
      with_rel (object.relocations fun.section_index (add_u64 fun.section_offset (slot * 8))) (insn_is_call ins) fun slot ins.immediate

  module _ (link_new : Function → Linker → Result Linker) where
    -- fn link_function, and the slot rewritten with what it returns
    abbrev pub link_function : Option ℕ → Function → (ℕ → Linker → Result Linker) → Linker → Result Linker
    link_function (some fun-ins-index) fun next program = next fun-ins-index program
    link_function none fun next program = bind (link_new fun program) (next (length program.instructions))

    abbrev pub relocate_slot : Slot → Bool → ℕ → (Linker → Result Linker) → Linker → Result Linker
    relocate_slot continue is_call ins-index next program = next program
    relocate_slot panic is_call ins-index next program = panics
    relocate_slot unknown is_call ins-index next program = err unknown_function
    relocate_slot (callee fun) is_call ins-index next program =
        link_function (program.linked_functions fun.address) fun
        (λ callee-ins-index after. next (with_slot ins-index (pointed is_call callee-ins-index ins-index) after)) program

    -- for ins_index in start_ins..start_ins + n_instructions: `count` of them left, from `slot` on
    unfoldable pub relocate_from : Function → ℕ → ℕ → ℕ → Linker → Result Linker
    relocate_from fun start-ins zero slot program = ok program
    relocate_from fun start-ins (suc count) slot program =
        relocate_slot (slot_of fun slot (slot_at program.instructions (start-ins + slot))) (insn_is_call (slot_at program.instructions (start-ins + slot)))
        (start-ins + slot) (λ after. relocate_from fun start-ins count (suc slot) after) program

    -- fn relocate
    unfoldable pub relocate : Function → Linker → Result Linker
    relocate fun program = relocate_from fun (length program.instructions - length fun.instructions) (length fun.instructions) 0 program

  -- a function that is not linked yet, with `bound` functions inside one another at most
  unfoldable pub link_new : ℕ → Function → Linker → Result Linker
  link_new zero fun program = too_deep
  link_new (suc bound) fun program = relocate (link_new bound) fun (extend fun program)

  abbrev pub clone : Function → Linker
  clone fun = record {
    instructions = fun.instructions;
    func_info = fun.func_info;
    func_num_info = fun.func_num_info;
    line_info = fun.line_info;
    line_num_info = fun.line_num_info;
    linked_functions = new;
  }

  -- fn link
  unfoldable pub link : Function → Result Linker
  link program-function = relocate (link_new (length object.functions)) program-function (clone program-function)

  abbrev pub or_unknown_program : Option Function → Result Linker
  or_unknown_program none = err unknown_program
  or_unknown_program (some fun) = link fun

  -- fn relocate_calls, with one program
  unfoldable pub relocate_calls : ℕ → ℕ → Result Linker
  relocate_calls section_index address = or_unknown_program (get_function section_index address)
