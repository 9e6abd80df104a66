-- Each input of proofs/Inputs.antt is outside its clause: the clause, applied to it, is absurd by computation.
-- Assumes nothing.
use mathlib.Core.Path.{◌≡◌, refl, ap}
use mathlib.Core.Logic.{◌≢◌, inl, inr}
use mathlib.Core.Bool.{false}
use mathlib.Core.Option.{none, some}
use mathlib.Core.List.Memᴰ
use mathlib.Core.List.{[], ◌∷◌}
use Prim.Native.Nat.{ℕ}
use native.Mathlib.Omega.{arith}
use lib.IntN.{pos, negsuc}
use Rattle.rules.specs.Object.{is_call, is_blank, is_wide_load, decide, meaning, displacement, calling, referring}
use Rattle.rules.specs.Link.{refusal, visit, append, link}
use Rattle.rules.specs.Tables.{SymbolKind, other, text, section, object_of}
use Rattle.rules.specs.Maps.{task, judge, first_refusal, applied, rewrite_all, map_step}
use Rattle.rules.specs.Records.{image_functions, image_lines, admits, room_for, stray_line}
use Rattle.equality.specs.Met.{visit_met, append_met, link_met}
use Rattle.equality.specs.Domain.{Compared, reached}
use Rattle.equality.specs.Demand2.{our_steps, Clause, valid_tables, compared_only, one_refusable, five_not_text, five_no_map, map_alone, call_below, reference_below, callees_differ, function_count, line_count, Holds}
use Rattle.equality.proofs.Inputs.{Input, hidden_of, symbol, relocation, map_row, exits, calls, load, next, symbol_twice, six, two_refusable, five_by_text, five_with_map, not_alone, call_at_top, reference_at_top, one_address, functions_miscounted, lines_miscounted}

abbrev Outside : Clause → Input → Type 0
Outside c i = Holds c i.tables (hidden_of i) i.room i.root → ⊥

pub excluded_valid : Outside valid_tables symbol_twice
excluded_valid h = h.once.0 (map_row 5 (some 9) 6 false) (Memᴰ.head refl) 9 refl refl

pub excluded_six : Outside compared_only six
unfolding is_call is_blank judge first_refusal applied rewrite_all map_step our_steps
excluded_six h = go (h (refusal 6 0 0) refl)
  where
    go : Compared 6 → ⊥
    go (inl e) = omega arith
    go (inr (inl e)) = omega arith
    go (inr (inr (inl e))) = omega arith
    go (inr (inr (inr e))) = omega arith

pub excluded_two_refusable : Outside one_refusable two_refusable
unfolding judge first_refusal
excluded_two_refusable h =
    let same : task 0 (relocation 1 7 0 64) ≡ task 0 (relocation 1 7 4 64) =
    h (refusal 3 0 0) refl (task 0 (relocation 1 7 0 64)) (task 0 (relocation 1 7 4 64)) 3 4 (Memᴰ.head refl) (Memᴰ.tail (Memᴰ.head refl)) refl refl refl refl in
    let offsets : ◌≡◌ {A = ℕ} 0 4 = ap (λ t. t.relocation.offset) same in omega arith

pub excluded_by_text : Outside five_not_text five_by_text
unfolding is_call judge first_refusal
excluded_by_text h =
    let another : ◌≢◌ {A = SymbolKind} text text = h (refusal 5 0 0) refl (task 0 (relocation 1 9 0 64)) (symbol 9 5 0 text) 5 (Memᴰ.head refl) refl refl refl refl in
    another refl

pub excluded_with_map : Outside five_no_map five_with_map
unfolding is_call judge first_refusal
excluded_with_map h =
    h (refusal 5 0 0) refl (task 0 (relocation 1 9 0 64)) (symbol 9 5 0 other) 5 (Memᴰ.head refl) refl refl refl refl (map_row 5 (some 8) 7 false) (Memᴰ.head refl) refl

pub excluded_not_alone : Outside map_alone not_alone
excluded_not_alone h =
    let same : map_row 5 (some 8) 6 false ≡ map_row 5 none 7 false =
    h (map_row 5 none 7 false) (map_row 5 (some 8) 6 false) (Memᴰ.head refl) (Memᴰ.tail (Memᴰ.head refl)) refl refl in
    let fds : ◌≡◌ (pos 6) (pos 7) = ap (λ m. m.fd) same in let z : ◌≡◌ {A = ℕ} 6 7 = cc in omega arith

pub excluded_call : Outside call_below call_at_top
unfolding is_call judge first_refusal applied rewrite_all map_step
excluded_call h = h (calls (pos 0x7fff_ffff) ∷ exits ∷ []) 0 refl 0 0 (omega arith) refl refl

pub excluded_reference : Outside reference_below reference_at_top
unfolding is_call is_blank judge first_refusal applied rewrite_all map_step
excluded_reference h =
    h (load (pos 0x7fff_ffff) ∷ next ∷ exits ∷ []) 0 refl 0 0 (relocation 1 7 0 32) (symbol 7 1 0 section) 1 (omega arith) refl refl refl refl refl refl

pub excluded_address : Outside callees_differ one_address
unfolding is_call is_blank is_wide_load decide meaning displacement calling referring visit append link object_of judge first_refusal applied rewrite_all map_step image_functions image_lines admits room_for stray_line visit_met append_met link_met reached
excluded_address h =
    let same : ◌≡◌ {A = ℕ} 0 1 =
    h (exits ∷ exits ∷ calls (negsuc 0) ∷ calls (negsuc 0) ∷ []) 0 refl 0 1 (Memᴰ.head refl) (Memᴰ.tail (Memᴰ.head refl)) refl in omega arith

pub excluded_function_count : Outside function_count functions_miscounted
unfolding judge first_refusal applied rewrite_all map_step
excluded_function_count h = let same : ◌≡◌ {A = ℕ} 5 1 = h (exits ∷ []) 0 refl in omega arith

pub excluded_line_count : Outside line_count lines_miscounted
unfolding judge first_refusal applied rewrite_all map_step
excluded_line_count h = let same : ◌≡◌ {A = ℕ} 5 1 = h (exits ∷ []) 0 refl in omega arith
