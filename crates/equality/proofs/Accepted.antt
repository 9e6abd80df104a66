-- The domain holds an accepted object that uses all of it: a map with data, a call and a reference by relocation, function and line records.
-- Assumes nothing.
use mathlib.Core.Path.{◌≡◌, refl, sym, ◌∙◌, ap, subst}
use mathlib.Core.Logic.{◌≢◌, ◌⊎◌, inl, inr}
use mathlib.Core.Bool.{Bool, true, false, cond}
use mathlib.Core.Option.{none, some}
use mathlib.Core.List.Memᴰ
use mathlib.Core.List.{List, [], ◌∷◌, Memᴰ}
use Prim.Native.Nat.{ℕ, zero, suc, ◌+◌, ◌≤◌, ◌<◌}
use native.Mathlib.Omega.{arith}
use lib.IntN.{ℤ, pos, negsuc}
use lib.Dec.{eqb}
use Rattle.rules.specs.Object.{Insn, is_call, is_blank, is_wide_load, decide, meaning, displacement, calling, referring}
use Rattle.rules.specs.Entries.{most_room}
use Rattle.rules.specs.Faithful.{piece, slot_at}
use Rattle.rules.specs.Link.{State, Refusal, visit, append, link}
use Rattle.rules.specs.Bytes.{Fits, half32}
use Rattle.rules.specs.Rows.{most_function_slots}
use Rattle.rules.specs.Tables.{other, section, Symbol, Relocation, MapRow, LineRecord, Tables, object_of, row_of, base}
use Rattle.rules.specs.Maps as Maps
use Rattle.rules.specs.Maps.{only, judge, all_tasks, first_refusal, applied, rewrite_all, symbol_of, MapOutcome, mapped, map_step}
use Rattle.rules.specs.Records.{Room, image_functions, image_lines, admits, room_for, stray_line, link_step}
use Rattle.equality.specs.Met.{visit_met, append_met, link_met}
use Rattle.equality.specs.Domain.{Hidden, crate_of, 2⁴⁸, Plain, Limits, reached, top_immediate, MapClauses, CallDomain, with_instructions}
use Rattle.equality.specs.Demand2.{both_steps, image, refusal, our_steps, Valid, Domain, SameImage}
use Rattle.equality.proofs.Clauses.{domain_of}
use Rattle.equality.proofs.Perms.{perm_refl}
use Rattle.equality.proofs.Valid.{steps_rise}
use Rattle.equality.proofs.Demand2.{demand_2}

abbrev pub insn : ℕ → ℕ → ℕ → ℤ → Insn
insn opcode destination source immediate = record { opcode = opcode; destination = destination; source = source; offset = pos 0; immediate = immediate }

abbrev pub exits : Insn
exits = insn 0x95 0 0 (pos 0)

-- the code that is called, in section 2, and the map's value, 16 bytes into section 5
abbrev pub code_symbol : Symbol
code_symbol = record { index = 7; home = some 2; address = 0; kind = section }

abbrev pub the_map_symbol : Symbol
the_map_symbol = record { index = 9; home = some 5; address = 16; kind = other }

abbrev pub the_map : MapRow
the_map = record { home = 5; symbol = some 9; fd = pos 7; has_data = true }

abbrev pub relocation : ℕ → ℕ → ℕ → Relocation
relocation symbol offset size = record { home = 1; symbol = symbol; offset = offset; size = size }

abbrev pub line : ℕ → ℕ → LineRecord
line slot number = record { slot = slot; file = 1; line = number; column = 2 }

-- the root calls F, refers to F, loads 4 bytes into the map's value, and exits; F exits
abbrev pub tables : Tables
tables = record {
  code = 1 ∷ 2 ∷ [];
  symbols = code_symbol ∷ the_map_symbol ∷ [];
  functions = record { home = 1; slots = 6; address = 0; offset = 0; functions = 1; lines = 1 }
      ∷ record { home = 2; slots = 1; address = 0; offset = 0; functions = 1; lines = 2 } ∷ [];
  relocations = relocation 7 0 32 ∷ relocation 7 8 64 ∷ relocation 9 24 64 ∷ [];
  maps = the_map ∷ [];
  instructions = insn 0x85 0 1 (negsuc 0) ∷ insn 0x18 1 0 (pos 0) ∷ insn 0 0 0 (pos 0) ∷ insn 0x18 2 0 (pos 4) ∷ insn 0 0 0 (pos 0) ∷ exits ∷ exits ∷ [];
  function_records = record { slot = 0; kind = 3 } ∷ record { slot = 8; kind = 4 } ∷ [];
  line_records = line 0 20 ∷ line 10 30 ∷ line 10 31 ∷ [];
}

-- table 6 as the map step leaves it: source register 2, fd 7, and 4 + 16 in the next slot
abbrev pub after : List Insn
after = insn 0x85 0 1 (negsuc 0) ∷ insn 0x18 1 0 (pos 0) ∷ insn 0 0 0 (pos 0) ∷ insn 0x18 2 2 (pos 7) ∷ insn 0 0 0 (pos 20) ∷ exits ∷ exits ∷ []

abbrev pub hidden : Hidden
hidden = record { values = λ home. only (λ r. eqb r.home home) tables.relocations; maps = tables.maps; func_nums = λ row. 1; line_nums = λ row. 1 }

abbrev pub room : Room
room = most_room

-- the root's six slots, then F: the call 6 − 0 − 1 on, the reference 6 − 1 − 1 on with source register 4
abbrev pub final : State
final = record {
  image = insn 0x85 0 1 (pos 5) ∷ insn 0x18 1 4 (pos 4) ∷ insn 0 0 0 (pos 0) ∷ insn 0x18 2 2 (pos 7) ∷ insn 0 0 0 (pos 20) ∷ exits ∷ exits ∷ [];
  placed = piece 1 6 ∷ [];
}

plain : (k : ℕ) → Plain (slot_at tables.instructions k)
plain zero = record { byte = omega arith; fits = omega arith }
plain (suc zero) = record { byte = omega arith; fits = omega arith }
plain (suc (suc zero)) = record { byte = omega arith; fits = omega arith }
plain (suc (suc (suc zero))) = record { byte = omega arith; fits = omega arith }
plain (suc (suc (suc (suc zero)))) = record { byte = omega arith; fits = omega arith }
plain (suc (suc (suc (suc (suc zero))))) = record { byte = omega arith; fits = omega arith }
plain (suc (suc (suc (suc (suc (suc zero)))))) = record { byte = omega arith; fits = omega arith }
plain (suc (suc (suc (suc (suc (suc (suc k))))))) = record { byte = omega arith; fits = omega arith }

symbol_low : (r : Relocation) (s : Symbol) → symbol_of tables r ≡ some s → s.address < 2⁴⁸
symbol_low r s e = go (eqb 7 r.symbol) (eqb 9 r.symbol) e
  where
    go : (a b : Bool) → cond a (some code_symbol) (cond b (some the_map_symbol) none) ≡ some s → s.address < 2⁴⁸
    go true b e = let same : code_symbol ≡ s = cc in subst (λ s. s.address < 2⁴⁸) same (omega arith)
    go false true e = let same : the_map_symbol ≡ s = cc in subst (λ s. s.address < 2⁴⁸) same (omega arith)
    go false false e = let z : ◌≡◌ {A = ℕ} 0 1 = cc in absurd (omega arith)

limits : Limits tables
limits = record {
  addresses = λ row. elim row as (λ r. (row_of tables r).address < 2⁴⁸) [ zero ↦ omega arith | suc row ↦ elim row as (λ q. (row_of tables (suc q)).address < 2⁴⁸) [ zero ↦ omega arith | suc row ↦ omega arith ] ];
  offsets = λ row. elim row as (λ r. (row_of tables r).offset < 2⁴⁸) [ zero ↦ omega arith | suc row ↦ elim row as (λ q. (row_of tables (suc q)).offset < 2⁴⁸) [ zero ↦ omega arith | suc row ↦ omega arith ] ];
  slots = λ row. elim row as (λ r. (row_of tables r).slots ≤ most_function_slots) [ zero ↦ omega arith | suc row ↦ elim row as (λ q. (row_of tables (suc q)).slots ≤ most_function_slots) [ zero ↦ omega arith | suc row ↦ omega arith ] ];
  symbol_addresses = symbol_low;
  plain = plain;
}

whole : (row : ℕ) → base tables row + (row_of tables row).slots ≤ 7
whole zero = omega arith
whole (suc zero) = omega arith
whole (suc (suc zero)) = omega arith
whole (suc (suc (suc row))) = omega arith

one_map : (m : MapRow) → Memᴰ m tables.maps → m ≡ the_map
one_map m a = go (Memᴰ.cases_cons a)
  where
    go : (m ≡ the_map) ⊎ Memᴰ m [] → m ≡ the_map
    go (inl e) = e
    go (inr a) = absurd (Memᴰ.not-nil a)

nothing_refused : first_refusal tables tables.instructions (all_tasks tables) ≡ none
unfolding is_call is_blank first_refusal judge
nothing_refused = refl

never : {A : Type 0} {a : A} → none ≡ some a → ⊥
never e = let z : ◌≡◌ {A = ℕ} 0 1 = cc in omega arith

maps : MapClauses tables hidden
maps = record {
  orders = record { order = λ home. perm_refl (only (λ r. eqb r.home home) tables.relocations); map_order = perm_refl tables.maps };
  alone = λ m x a b. λ e h. one_map x b ∙ sym (one_map m a);
  single = λ why e. absurd (never (sym nothing_refused ∙ e));
  not_text = λ why e. absurd (never (sym nothing_refused ∙ e));
  no_map = λ why e. absurd (never (sym nothing_refused ∙ e));
}

abbrev is_top : ℤ → Bool
is_top (pos n) = eqb n 0x7fff_ffff
is_top (negsuc n) = false

not_top : (z : ℤ) → is_top z ≡ false → z ≢ top_immediate
not_top z f = λ e. go (sym f ∙ ap is_top e)
  where
    go : ◌≡◌ {A = Bool} false true → ⊥
    go e = let z : ◌≡◌ {A = ℕ} 0 1 = cc in omega arith

low : (k : ℕ) → is_top (slot_at after k).immediate ≡ false
low zero = refl
low (suc zero) = refl
low (suc (suc zero)) = refl
low (suc (suc (suc zero))) = refl
low (suc (suc (suc (suc zero)))) = refl
low (suc (suc (suc (suc (suc zero))))) = refl
low (suc (suc (suc (suc (suc (suc zero)))))) = refl
low (suc (suc (suc (suc (suc (suc (suc k))))))) = refl

-- F is reached by the call and by the reference
reached_twice : reached (with_instructions tables after) room 0 ≡ 1 ∷ 1 ∷ []
unfolding is_call is_blank is_wide_load decide meaning displacement calling referring append object_of image_functions image_lines admits room_for stray_line visit visit_met append_met link_met reached
reached_twice = refl

only_F : (a : ℕ) → Memᴰ a (reached (with_instructions tables after) room 0) → a ≡ 1
only_F a m = go (Memᴰ.cases_cons (subst (Memᴰ a) reached_twice m))
  where
    last : (a ≡ 1) ⊎ Memᴰ a [] → a ≡ 1
    last (inl e) = e
    last (inr m) = absurd (Memᴰ.not-nil m)

    go : (a ≡ 1) ⊎ Memᴰ a (1 ∷ []) → a ≡ 1
    go (inl e) = e
    go (inr m) = last (Memᴰ.cases_cons m)

calls : CallDomain (with_instructions tables after) hidden room 0
calls = record {
  calls = λ row slot l c. not_top (slot_at after (base tables row + slot)).immediate (low (base tables row + slot));
  references = λ row slot r s home l. λ e n f h c. not_top (slot_at after (base tables row + slot)).immediate (low (base tables row + slot));
  differ = λ a b ra rb e. only_F a ra ∙ sym (only_F b rb);
  func_num = refl;
  line_num = refl;
}

-- what our map step, and then both our steps, answer
pub maps_answer : map_step tables ≡ mapped after 1
unfolding is_call is_blank judge first_refusal applied rewrite_all map_step
maps_answer = refl

pub accepted : our_steps tables room 0 ≡ image final
unfolding is_call is_blank is_wide_load decide meaning displacement calling referring visit append link object_of judge first_refusal applied rewrite_all map_step image_functions image_lines admits room_for stray_line link_step our_steps
accepted = refl

-- the records: F's at its start, 6
pub records : image_functions tables 0 final.placed ≡ record { slot = 0; kind = 3 } ∷ record { slot = 6; kind = 4 } ∷ []
unfolding image_functions
records = refl

pub lines : image_lines tables 0 final.placed ≡ line 0 20 ∷ line 6 30 ∷ line 6 31 ∷ []
unfolding image_lines
lines = refl

abbrev instructions_of : MapOutcome → List Insn
instructions_of (mapped instructions count) = instructions
instructions_of (Maps.refuses why) = []

not_refused : (why : Refusal) → image final ≡ refusal why → ⊥
not_refused why e = let z : ◌≡◌ {A = ℕ} 0 1 = cc in omega arith

keys : (a b : ℕ) → a < 2 → b < 2 → (row_of tables a).home ≡ (row_of tables b).home → a ≡ b
keys zero zero l l' e = refl
keys zero (suc zero) l l' e = absurd (omega arith)
keys (suc zero) zero l l' e = absurd (omega arith)
keys (suc zero) (suc zero) l l' e = refl
keys zero (suc (suc b)) l l' e = absurd (omega arith)
keys (suc zero) (suc (suc b)) l l' e = absurd (omega arith)
keys (suc (suc a)) b l l' e = absurd (omega arith)

valid : Valid tables room 0
valid = record {
  room_limits = record { room_slots = omega arith; room_functions = omega arith; room_lines = omega arith };
  limits = limits;
  whole = whole;
  rising = steps_rise tables.relocations (inr (refl, omega arith), (inr (refl, omega arith), tt));
  once = (λ x a. absurd (Memᴰ.not-nil a), tt);
  fds = λ m a. subst (λ m. Fits half32 m.fd) (sym (one_map m a)) (omega arith);
  keys = λ a b l l'. λ h e. keys a b l l' h;
  root_row = omega arith;
}

pub inside : Domain tables hidden room 0
inside =
    domain_of valid maps (λ why e. absurd (not_refused why (sym accepted ∙ e)))
    (λ instructions count e. subst (λ x. CallDomain (with_instructions tables x) hidden room 0) (ap instructions_of (sym maps_answer ∙ e)) calls)

-- so the crate gives that image and those records
pub crate_gives : SameImage tables 0 final (both_steps (crate_of tables hidden) tables.maps 1 0)
crate_gives = rw accepted at (demand_2 tables hidden room 0 inside)
