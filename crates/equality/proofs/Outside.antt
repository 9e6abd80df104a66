-- For each clause of the domain, a smallest input outside it, and what the two then answer: they differ. And inside it, the crate's answers to document 01's cases.
-- Assumes nothing.
use mathlib.Core.Path.{◌≡◌, refl}
use mathlib.Core.Bool.{Bool, true, false}
use mathlib.Core.Option.{Option, none, some}
use mathlib.Core.List.{List, [], ◌∷◌, ◌++◌, reverse}
use Prim.Native.Nat.{ℕ}
use lib.IntN.{pos}
use lib.Dec.{eqb}
use lib.ListN.{length}
use Rattle.rules.specs.Object.{Insn, is_call, is_blank, is_wide_load, decide, meaning, displacement, calling, referring}
use Rattle.rules.specs.Entries.{most_room}
use Rattle.rules.specs.Link.{Outcome, linked, refuses, unfinished, visit, append, link}
use Rattle.rules.specs.Bytes.{little, signed, u16_at, u32_at, decode, decoded}
use Rattle.rules.specs.Tables.{SymbolKind, other, text, section, Symbol, Function, Relocation, MapRow, Tables, row_of, object_of}
use Rattle.rules.specs.Maps.{only, judge, first_refusal, applied, rewrite_all, map_step}
use Rattle.rules.specs.Records.{Room, image_functions, image_lines, admits, link_step, room_for, stray_line}
use Rattle.equality.specs.Crate as Crate
use Rattle.equality.specs.Crate.{u32, u64, i32, add_u64, mul_u64, add_u32, sub_u32, add_i32, sub_i32, insn_is_call, Result, ok, err, panics, too_deep, Error, unknown_function, invalid_relocation_offset, Linker, relocate_map, relocate_maps, relocate_functions, object_relocate_maps, slot_of, relocate_from, relocate, link_new, relocate_calls}
use Rattle.equality.specs.Domain.{Hidden, crate_of}
use Rattle.equality.specs.Demand2.{both_steps, Answer, image, refusal, endless, our_steps}

-- what each answers, to be read
data Seen : Type 0 where
  gives : List Insn → Seen
  refuses_by : ℕ → Seen
  errs : Error → Seen
  panicked : Seen
  never : Seen

abbrev seen_ours : Answer → Seen
seen_ours (image state) = gives state.image
seen_ours (refusal why) = refuses_by why.number
seen_ours endless = never

abbrev seen_crate : Result Linker → Seen
seen_crate (ok linker) = gives linker.instructions
seen_crate (err e) = errs e
seen_crate panics = panicked
seen_crate too_deep = never

abbrev room : Room
room = most_room

abbrev sym : ℕ → ℕ → ℕ → SymbolKind → Symbol
sym index home address kind = record { index = index; home = some home; address = address; kind = kind }

abbrev fun : ℕ → ℕ → ℕ → Function
fun home slots address = record { home = home; slots = slots; address = address; offset = address; functions = 0; lines = 0 }

abbrev rel : ℕ → ℕ → ℕ → ℕ → Relocation
rel home symbol offset size = record { home = home; symbol = symbol; offset = offset; size = size }

abbrev map_row : ℕ → Option ℕ → ℕ → Bool → MapRow
map_row home symbol fd has_data = record { home = home; symbol = symbol; fd = pos fd; has_data = has_data }

abbrev tables_of : List ℕ → List Symbol → List Function → List Relocation → List MapRow → List ℕ → Tables
tables_of code symbols functions relocations maps bytes = record {
  code = code;
  symbols = symbols;
  functions = functions;
  relocations = relocations;
  maps = maps;
  instructions = decoded little bytes;
  function_records = [];
  line_records = [];
}

abbrev hidden_by : (List Relocation → List Relocation) → Tables → Hidden
hidden_by order tables = record { values = λ home. order (only (λ r. eqb r.home home) tables.relocations); maps = tables.maps; func_nums = λ row. 0; line_nums = λ row. 0 }

abbrev same : List Relocation → List Relocation
same rs = rs

-- both, of a root
abbrev pair : (List Relocation → List Relocation) → Tables → ℕ → List Seen
pair order tables root =
    seen_ours (our_steps tables room root)
    ∷ seen_crate (both_steps (crate_of tables (hidden_by order tables)) tables.maps (row_of tables root).home (row_of tables root).address)
    ∷ []

abbrev exits : List ℕ
exits = 0x95 ∷ 0 ∷ 0 ∷ 0 ∷ 0 ∷ 0 ∷ 0 ∷ 0 ∷ []

abbrev zeros : List ℕ
zeros = 0 ∷ 0 ∷ 0 ∷ 0 ∷ 0 ∷ 0 ∷ 0 ∷ 0 ∷ []

-- opcode, registers, and the four bytes of the immediate
abbrev insn : ℕ → ℕ → ℕ → ℕ → ℕ → ℕ → List ℕ
insn opcode registers a b c d = opcode ∷ registers ∷ 0 ∷ 0 ∷ a ∷ b ∷ c ∷ d ∷ []

abbrev call_of : ℕ → ℕ → List ℕ
call_of low rest = insn 0x85 0x10 low rest rest rest

abbrev calls_next : List ℕ
calls_next = call_of 0xff 0xff

abbrev load : ℕ → ℕ → List ℕ
load registers immediate = insn 0x18 registers immediate 0 0 0

-- inside: document 01's cases, by both. A call by relocation; to itself; F, G, H; a reference; a map with data
inside : (
    pair same (tables_of (1 ∷ 2 ∷ []) (sym 7 1 0 section ∷ []) (fun 1 1 0 ∷ fun 2 3 0 ∷ []) (rel 2 7 0 32 ∷ []) [] (exits ++ (calls_next ++ (exits ++ exits)))) 1
    ∷ pair same (tables_of (1 ∷ []) [] (fun 1 2 0 ∷ []) [] [] (calls_next ++ exits)) 0
    -- root at 0 calls F at 24 and H at 48; F calls G at 40
    ∷ pair same (tables_of (1 ∷ []) [] (fun 1 3 0 ∷ fun 1 2 24 ∷ fun 1 1 40 ∷ fun 1 1 48 ∷ []) [] []
    (call_of 2 0 ++ (call_of 4 0 ++ (exits ++ (call_of 1 0 ++ (exits ++ (exits ++ exits))))))) 0
    ∷ pair same (tables_of (1 ∷ 2 ∷ []) (sym 7 1 0 section ∷ []) (fun 1 1 16 ∷ fun 2 3 0 ∷ []) (rel 2 7 0 64 ∷ []) [] (exits ++ (load 0x01 16 ++ (zeros ++ exits)))) 1
    ∷ pair same (tables_of (1 ∷ []) (sym 9 5 16 other ∷ []) (fun 1 3 0 ∷ []) (rel 1 9 0 64 ∷ []) (map_row 5 (some 9) 7 true ∷ []) (load 0x01 4 ++ (zeros ++ exits))) 0
    ∷ [])
    ≡ (
    (gives (decoded little (call_of 2 0 ++ (exits ++ (exits ++ exits)))) ∷ gives (decoded little (call_of 2 0 ++ (exits ++ (exits ++ exits)))) ∷ [])
    ∷ (gives (decoded little (call_of 1 0 ++ (exits ++ (calls_next ++ exits)))) ∷ gives (decoded little (call_of 1 0 ++ (exits ++ (calls_next ++ exits)))) ∷ [])
    ∷ (gives (decoded little (call_of 2 0 ++ (call_of 4 0 ++ (exits ++ (call_of 1 0 ++ (exits ++ (exits ++ exits)))))))
    ∷ gives (decoded little (call_of 2 0 ++ (call_of 4 0 ++ (exits ++ (call_of 1 0 ++ (exits ++ (exits ++ exits))))))) ∷ [])
    ∷ (gives (decoded little (load 0x41 2 ++ (zeros ++ (exits ++ exits)))) ∷ gives (decoded little (load 0x41 2 ++ (zeros ++ (exits ++ exits)))) ∷ [])
    ∷ (gives (decoded little (load 0x21 7 ++ (insn 0 0 20 0 0 0 ++ exits))) ∷ gives (decoded little (load 0x21 7 ++ (insn 0 0 20 0 0 0 ++ exits))) ∷ [])
    ∷ [])
unfolding is_call is_blank is_wide_load decide meaning displacement calling referring visit append link signed u16_at u32_at decode decoded object_of judge first_refusal applied rewrite_all map_step image_functions image_lines admits room_for stray_line link_step u32 u64 i32 add_u64 mul_u64 add_u32 sub_u32 add_i32 sub_i32 insn_is_call relocate_map relocate_maps relocate_functions object_relocate_maps slot_of relocate_from relocate link_new Crate.link relocate_calls crate_of both_steps our_steps
inside = refl

outside : (
    -- reached callees of one address: F of 2 slots in section 1, H in section 2, both at 0. The crate calls F twice
    pair same (tables_of (1 ∷ 2 ∷ 3 ∷ []) (sym 4 1 0 section ∷ sym 5 2 0 section ∷ []) (fun 1 2 0 ∷ fun 2 1 0 ∷ fun 3 3 0 ∷ []) (rel 3 4 0 32 ∷ rel 3 5 8 32 ∷ []) []
    (exits ++ (exits ++ (exits ++ (calls_next ++ (calls_next ++ exits)))))) 2
    -- a call with immediate 2,147,483,647: its target is 2³⁴ on, the crate's is before 0
    ∷ pair same (tables_of (1 ∷ []) [] (fun 1 1 0 ∷ fun 1 1 0x4_0000_0000 ∷ []) [] [] (insn 0x85 0x10 0xff 0xff 0xff 0x7f ++ exits)) 0
    -- a size-32 reference with that immediate
    ∷ pair same (tables_of (1 ∷ []) (sym 7 1 0 section ∷ []) (fun 1 3 0 ∷ fun 1 1 0x4_0000_0000 ∷ []) (rel 1 7 0 32 ∷ []) []
    (insn 0x18 0x01 0xff 0xff 0xff 0x7f ++ (zeros ++ (exits ++ exits)))) 0
    -- two refusable relocations in one function, and an order of the HashMap
    ∷ pair reverse (tables_of (1 ∷ []) [] (fun 1 1 0 ∷ []) (rel 1 7 0 64 ∷ rel 1 7 4 64 ∷ []) [] exits) 0
    -- 5 by kind Text: the crate's map step passes, its link does not
    ∷ pair same (tables_of (1 ∷ []) (sym 9 5 0 text ∷ []) (fun 1 2 0 ∷ []) (rel 1 9 0 64 ∷ []) (map_row 5 (some 9) 7 false ∷ []) (load 0x01 0 ++ zeros)) 0
    -- 5 where a map with a symbol has the section
    ∷ pair same (tables_of (1 ∷ []) (sym 9 5 0 other ∷ []) (fun 1 2 0 ∷ []) (rel 1 9 0 64 ∷ []) (map_row 5 (some 8) 7 false ∷ []) (load 0x01 0 ++ zeros)) 0
    -- a map without a symbol and another map in one section: the crate takes the last
    ∷ pair same (tables_of (1 ∷ []) (sym 9 5 0 other ∷ []) (fun 1 2 0 ∷ []) (rel 1 9 0 64 ∷ []) (map_row 5 none 7 false ∷ map_row 5 (some 8) 6 false ∷ []) (load 0x01 0 ++ zeros)) 0
    -- 6 in the map step, at the function's last slot, with data and without; 6 in the link
    ∷ pair same (tables_of (1 ∷ []) (sym 9 5 0 other ∷ []) (fun 1 1 0 ∷ []) (rel 1 9 0 64 ∷ []) (map_row 5 (some 9) 7 true ∷ []) exits) 0
    ∷ pair same (tables_of (1 ∷ []) (sym 9 5 0 other ∷ []) (fun 1 1 0 ∷ []) (rel 1 9 0 64 ∷ []) (map_row 5 (some 9) 7 false ∷ []) exits) 0
    ∷ pair same (tables_of (1 ∷ []) (sym 9 1 0 text ∷ []) (fun 1 1 0 ∷ []) (rel 1 9 0 64 ∷ []) [] exits) 0
    -- 7
    ∷ pair same (tables_of (1 ∷ []) (sym 9 5 1 other ∷ []) (fun 1 2 0 ∷ []) (rel 1 9 0 64 ∷ []) (map_row 5 (some 9) 7 true ∷ []) (insn 0x18 0x01 0xff 0xff 0xff 0x7f ++ zeros)) 0
    -- 8
    ∷ pair same (tables_of (1 ∷ []) (sym 9 1 0 other ∷ []) (fun 1 1 0 ∷ []) (rel 1 9 0 32 ∷ []) [] calls_next) 0
    -- 9: the crate takes the call as relative
    ∷ pair same (tables_of (1 ∷ []) (sym 9 5 0 other ∷ []) (fun 1 1 0 ∷ []) (rel 1 9 0 32 ∷ []) [] calls_next) 0
    ∷ [])
    ≡ (
    (gives (decoded little (call_of 2 0 ++ (call_of 3 0 ++ (exits ++ (exits ++ (exits ++ exits))))))
    ∷ gives (decoded little (call_of 2 0 ++ (call_of 1 0 ++ (exits ++ (exits ++ exits))))) ∷ [])
    ∷ (gives (decoded little (call_of 0 0 ++ exits)) ∷ errs unknown_function ∷ [])
    ∷ (gives (decoded little (load 0x41 2 ++ (zeros ++ (exits ++ exits)))) ∷ errs unknown_function ∷ [])
    ∷ (refuses_by 3 ∷ errs invalid_relocation_offset ∷ [])
    ∷ (refuses_by 5 ∷ errs unknown_function ∷ [])
    ∷ (refuses_by 5 ∷ gives (decoded little (load 0x11 7 ++ zeros)) ∷ [])
    ∷ (gives (decoded little (load 0x11 7 ++ zeros)) ∷ gives (decoded little (load 0x11 6 ++ zeros)) ∷ [])
    ∷ (refuses_by 6 ∷ panicked ∷ [])
    ∷ (refuses_by 6 ∷ gives (decoded little (insn 0x95 0x10 7 0 0 0)) ∷ [])
    ∷ (refuses_by 6 ∷ gives (decoded little (insn 0x95 0x40 0 0 0 0 ++ insn 0x95 0x40 0xff 0xff 0xff 0xff)) ∷ [])
    ∷ (refuses_by 7 ∷ gives (decoded little (load 0x21 7 ++ insn 0 0 0 0 0 0x80)) ∷ [])
    ∷ (refuses_by 8 ∷ panicked ∷ [])
    ∷ (refuses_by 9 ∷ gives (decoded little (call_of 0 0 ++ calls_next)) ∷ [])
    ∷ [])
unfolding is_call is_blank is_wide_load decide meaning displacement calling referring visit append link signed u16_at u32_at decode decoded object_of judge first_refusal applied rewrite_all map_step image_functions image_lines admits room_for stray_line link_step u32 u64 i32 add_u64 mul_u64 add_u32 sub_u32 add_i32 sub_i32 insn_is_call relocate_map relocate_maps relocate_functions object_relocate_maps slot_of relocate_from relocate link_new Crate.link relocate_calls crate_of both_steps our_steps
outside = refl

-- the counts of function records: ours, and the crate's `num_info`
abbrev our_count : Tables → ℕ → Answer → ℕ
our_count tables root (image state) = length (image_functions tables root state.placed)
our_count tables root (refusal why) = 0
our_count tables root endless = 0

abbrev crate_count : Result Linker → ℕ
crate_count (ok linker) = linker.func_num_info
crate_count (err e) = 0
crate_count panics = 0
crate_count too_deep = 0

-- a root with one function record, and a `num_info` of 5
abbrev recorded : List ℕ → Tables
recorded bytes = record {
  code = 1 ∷ [];
  symbols = [];
  functions = record { home = 1; slots = 1; address = 0; offset = 0; functions = 1; lines = 0 } ∷ [];
  relocations = [];
  maps = [];
  instructions = decoded little bytes;
  function_records = record { slot = 0; kind = 3 } ∷ [];
  line_records = [];
}

abbrev counts : Tables → List ℕ
counts tables =
    our_count tables 0 (our_steps tables room 0)
    ∷ crate_count (both_steps (crate_of tables (record { values = λ home. []; maps = []; func_nums = λ row. 5; line_nums = λ row. 0 })) [] 1 0)
    ∷ []

-- num_info is not the record count: it stays where nothing is appended, and is set where something is
outside_counts : (counts (recorded exits) ∷ counts (recorded calls_next) ∷ []) ≡ (1 ∷ 5 ∷ []) ∷ (2 ∷ 2 ∷ []) ∷ []
unfolding is_call is_blank is_wide_load decide meaning displacement calling referring visit append link signed u16_at u32_at decode decoded object_of judge first_refusal applied rewrite_all map_step image_functions image_lines admits room_for stray_line link_step u32 u64 i32 add_u64 mul_u64 add_u32 sub_u32 add_i32 sub_i32 insn_is_call relocate_map relocate_maps relocate_functions object_relocate_maps slot_of relocate_from relocate link_new Crate.link relocate_calls crate_of both_steps our_steps
outside_counts = refl

-- the link alone, without the map step before it: a relocation of an exit to an unknown symbol. Ours is 3, the crate copies
abbrev alone : Tables
alone = tables_of (1 ∷ []) [] (fun 1 1 0 ∷ []) (rel 1 9 0 64 ∷ []) [] exits

abbrev seen_link : Outcome → Seen
seen_link (linked state) = gives state.image
seen_link (refuses why) = refuses_by why.number
seen_link unfinished = never

outside_alone : (seen_link (link_step alone room 0) ∷ seen_crate (relocate_calls (crate_of alone (hidden_by same alone)) 1 0) ∷ []) ≡ refuses_by 3 ∷ gives (decoded little exits) ∷ []
unfolding is_call is_blank is_wide_load decide meaning displacement calling referring visit append link signed u16_at u32_at decode decoded object_of judge first_refusal applied rewrite_all map_step image_functions image_lines admits room_for stray_line link_step u32 u64 i32 add_u64 mul_u64 add_u32 sub_u32 add_i32 sub_i32 insn_is_call relocate_map relocate_maps relocate_functions object_relocate_maps slot_of relocate_from relocate link_new Crate.link relocate_calls crate_of both_steps our_steps
outside_alone = refl

-- outside the domain as written, and still equal: a call with immediate 2,147,483,647 by a Text symbol, and a size-64 reference with it
spare : (
    pair same (tables_of (1 ∷ []) (sym 7 1 0 text ∷ []) (fun 1 1 0 ∷ []) (rel 1 7 0 32 ∷ []) [] (insn 0x85 0x10 0xff 0xff 0xff 0x7f)) 0
    ∷ pair same (tables_of (1 ∷ []) (sym 7 1 0 section ∷ []) (record { home = 1; slots = 1; address = 0x7fff_ffff; offset = 0; functions = 0; lines = 0 } ∷ []) (rel 1 7 0 64 ∷ []) [] (insn 0x85 0x10 0xff 0xff 0xff 0x7f)) 0
    ∷ [])
    ≡ (
    (gives (decoded little (call_of 0 0 ++ calls_next)) ∷ gives (decoded little (call_of 0 0 ++ calls_next)) ∷ [])
    ∷ (gives (decoded little (call_of 0 0 ++ calls_next)) ∷ gives (decoded little (call_of 0 0 ++ calls_next)) ∷ [])
    ∷ [])
unfolding is_call is_blank is_wide_load decide meaning displacement calling referring visit append link signed u16_at u32_at decode decoded object_of judge first_refusal applied rewrite_all map_step image_functions image_lines admits room_for stray_line link_step u32 u64 i32 add_u64 mul_u64 add_u32 sub_u32 add_i32 sub_i32 insn_is_call relocate_map relocate_maps relocate_functions object_relocate_maps slot_of relocate_from relocate link_new Crate.link relocate_calls crate_of both_steps our_steps
spare = refl
