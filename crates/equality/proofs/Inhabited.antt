-- The domain is not empty: document 01's root of 2 slots that calls itself is in it, and its image follows from `demand_2`.
-- Assumes nothing.
use mathlib.Core.Path.{◌≡◌, refl, sym, ◌∙◌, subst}
use mathlib.Core.Logic.{◌≢◌, ◌⊎◌, inl, inr}
use mathlib.Core.Bool.{true}
use mathlib.Core.List.Memᴰ
use mathlib.Core.List.{[], ◌∷◌, Memᴰ}
use Prim.Native.Nat.{ℕ, zero, suc, ◌+◌, ◌≤◌, ◌<◌}
use native.Mathlib.Omega.{arith}
use lib.IntN.{pos, negsuc}
use Rattle.rules.specs.Object.{Insn, is_call, is_blank, is_wide_load, decide, meaning, displacement, calling, referring}
use Rattle.rules.specs.Entries.{most_room}
use Rattle.rules.specs.Faithful.{slot_at}
use Rattle.rules.specs.Link.{visit, append, link}
use Rattle.rules.specs.Rows.{most_function_slots}
use Rattle.rules.specs.Tables.{Tables, object_of, row_of, base, insn_of}
use Rattle.rules.specs.Maps.{judge, first_refusal, applied, rewrite_all, map_step}
use Rattle.rules.specs.Records.{Room, image_functions, image_lines, admits, link_step, room_for, stray_line}
use Rattle.equality.specs.Met.{visit_met, append_met, link_met}
use Rattle.equality.specs.Domain.{2⁴⁸, Hidden, Plain, Limits, reached, done, MapClauses, CallDomain, with_instructions}
use Rattle.equality.specs.Demand2.{our_steps, Valid, Domain}
use Rattle.equality.proofs.Clauses.{domain_of}

abbrev calls_itself : Insn
calls_itself = record { opcode = 0x85; destination = 0; source = 1; offset = pos 0; immediate = negsuc 0 }

abbrev exits : Insn
exits = record { opcode = 0x95; destination = 0; source = 0; offset = pos 0; immediate = pos 0 }

abbrev tables : Tables
tables = record {
  code = 1 ∷ [];
  symbols = [];
  functions = record { home = 1; slots = 2; address = 0; offset = 0; functions = 0; lines = 0 } ∷ [];
  relocations = [];
  maps = [];
  instructions = calls_itself ∷ exits ∷ [];
  function_records = [];
  line_records = [];
}

abbrev hidden : Hidden
hidden = record { values = λ home. []; maps = []; func_nums = λ row. 0; line_nums = λ row. 0 }

abbrev room : Room
room = most_room

plain : (k : ℕ) → Plain (slot_at tables.instructions k)
plain zero = record { byte = omega arith; fits = omega arith }
plain (suc zero) = record { byte = omega arith; fits = omega arith }
plain (suc (suc k)) = record { byte = omega arith; fits = omega arith }

limits : Limits tables
limits = record {
  addresses = λ row. elim row as (λ r. (row_of tables r).address < 2⁴⁸) [ zero ↦ omega arith | suc row ↦ omega arith ];
  offsets = λ row. elim row as (λ r. (row_of tables r).offset < 2⁴⁸) [ zero ↦ omega arith | suc row ↦ omega arith ];
  slots = λ row. elim row as (λ r. (row_of tables r).slots ≤ most_function_slots) [ zero ↦ omega arith | suc row ↦ omega arith ];
  symbol_addresses = λ r s e. let z : ◌≡◌ {A = ℕ} 0 1 = cc in absurd (omega arith);
  plain = plain;
}

whole : (row : ℕ) → base tables row + (row_of tables row).slots ≤ 2
whole zero = omega arith
whole (suc zero) = omega arith
whole (suc (suc row)) = omega arith

maps : MapClauses tables hidden
unfolding first_refusal judge
maps = record {
  orders = record { order = λ home. done; map_order = done };
  alone = λ m x a. absurd (Memᴰ.not-nil a);
  single = λ why e. let z : ◌≡◌ {A = ℕ} 0 1 = cc in absurd (omega arith);
  not_text = λ why e. let z : ◌≡◌ {A = ℕ} 0 1 = cc in absurd (omega arith);
  no_map = λ why e. let z : ◌≡◌ {A = ℕ} 0 1 = cc in absurd (omega arith);
}

-- the only callee is the root, met twice
only_root : (a : ℕ) → Memᴰ a (reached tables room 0) → a ≡ 0
unfolding is_call is_blank is_wide_load decide meaning displacement calling referring append object_of image_functions image_lines admits room_for stray_line visit visit_met append_met link_met reached
only_root a m = go (Memᴰ.cases_cons m)
  where
    last : (a ≡ 0) ⊎ Memᴰ a [] → a ≡ 0
    last (inl e) = e
    last (inr m) = absurd (Memᴰ.not-nil m)

    go : (a ≡ 0) ⊎ Memᴰ a (0 ∷ []) → a ≡ 0
    go (inl e) = e
    go (inr m) = last (Memᴰ.cases_cons m)

immediate : (row slot : ℕ) → slot < (row_of tables row).slots → is_call (insn_of tables row slot) ≡ true → (insn_of tables row slot).immediate ≢ pos 0x7fff_ffff
unfolding is_call
immediate zero zero l c = λ e. let z : ◌≡◌ {A = ℕ} 0 1 = cc in omega arith
immediate zero (suc zero) l c = let z : ◌≡◌ {A = ℕ} 0 1 = cc in absurd (omega arith)
immediate zero (suc (suc slot)) l c = absurd (omega arith)
immediate (suc row) slot l c = absurd (omega arith)

calls : CallDomain tables hidden room 0
calls = record {
  calls = immediate;
  references = λ row slot r s home l e. let z : ◌≡◌ {A = ℕ} 0 1 = cc in absurd (omega arith);
  differ = λ a b ra rb e. only_root a ra ∙ sym (only_root b rb);
  func_num = refl;
  line_num = refl;
}

valid : Valid tables room 0
valid = record {
  room_limits = record { room_slots = omega arith; room_functions = omega arith; room_lines = omega arith };
  limits = limits;
  whole = whole;
  rising = tt;
  once = tt;
  fds = λ m a. absurd (Memᴰ.not-nil a);
  keys = λ a b l l'. λ h e. omega arith;
  root_row = omega arith;
}

pub inhabited : Domain tables hidden room 0
unfolding is_call is_blank is_wide_load decide meaning displacement calling referring visit append link object_of judge first_refusal applied rewrite_all map_step image_functions image_lines admits room_for stray_line link_step our_steps
inhabited =
    domain_of valid maps
    (λ why e. let z : ◌≡◌ {A = ℕ} 0 1 = cc in absurd (omega arith))
    (λ instructions count e. let same : tables.instructions ≡ instructions = cc in subst (λ x. CallDomain (with_instructions tables x) hidden room 0) same calls)
