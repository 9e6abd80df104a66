-- The map step judged against slots that are partly rewritten gives the same answers as against the slots as they were:
-- so code may first check everything, and then judge again and rewrite in place.
-- Assumes nothing.
use mathlib.Core.Path.{◌≡◌, refl, sym, ◌∙◌, ap}
use mathlib.Core.Logic.{◌≢◌, ◌⊎◌, inl, inr}
use mathlib.Core.Bool.{Bool, true, false, cond, ◌&&◌, ◌||◌}
use mathlib.Core.Option.{Option, none, some}
use mathlib.Core.List.{List, [], ◌∷◌, Memᴰ}
use Prim.Native.Nat.{ℕ, suc, ◌+◌, ◌<◌}
use native.Mathlib.Nat.{add-suc}
use native.Mathlib.Omega.{arith}
use native.Mathlib.Decide.{ℕ_discrete, dec_lt}
use lib.IntN.{ℤ, pos, ◌+ℤ◌}
use lib.Dec.{eqb, ltb}
use lib.ListN.{length}
use lib.Seq.{get_or-set_same, get_or-set_other, set_out}
use borrow.Author.Tests.{eqb-true, ltb-true}
use Rattle.rules.specs.Object.{Insn, is_zero, is_call, is_blank}
use Rattle.rules.specs.Faithful.{blank, slot_at}
use Rattle.rules.specs.Bytes.{with_immediate, with_source}
use Rattle.rules.specs.Tables.{SymbolKind, other, text, section, Symbol, MapRow, Tables, row_of, base, is_code}
use Rattle.rules.specs.Maps.{Task, Change, Verdict, skipped, refused, applies, inside, on_grid, map_for, by_data, by_map, by_kind, by_home, by_symbol, slot_in, is_wide, symbol_of, task_slot, judge, at, changed, place, rewrite, rewrite_all}
use Rattle.rules.proofs.InPlace.{rewrite_in_place}

-- a slot rewritten, and the others
pub at_other : (here k : ℕ) (f : Insn → Insn) (image : List Insn) → k ≢ here → slot_at (at here f image) k ≡ slot_at image k
at_other here k f image n = get_or-set_other image here k _ blank n

pub at_same : (here : ℕ) (f : Insn → Insn) (image : List Insn) → here < length image → slot_at (at here f image) here ≡ f (slot_at image here)
at_same here f image l = get_or-set_same image here _ blank l

-- what the rewriting of a slot keeps of that slot, it keeps of all
pub at_keeps : (P : ℕ → Insn → Type 0) (here k : ℕ) (f : Insn → Insn) (image : List Insn) → ((i : Insn) → P here i → P here (f i)) → P k (slot_at image k)
    → P k (slot_at (at here f image) k)
at_keeps P here k f image step p = go (ℕ_discrete k here)
  where
    go : Dec (k ≡ here) → P k (slot_at (at here f image) k)
    go (yes e) = rw e (inner (dec_lt here (length image)))
      where
        inner : Dec (here < length image) → P here (slot_at (at here f image) here)
        inner (yes l) = rw (at_same here f image l) (step (slot_at image here) (rw e at p))
        inner (no n) = rw (set_out image here (f (slot_at image here)) (omega arith)) (rw e at p)
    go (no n) = rw (at_other here k f image n) p

-- all that `judge` reads of another slot, or of a slot that has no wide load
pub record Like (before now : Insn) : Type 0 where
  pub opcode : now.opcode ≡ before.opcode
  pub destination : now.destination ≡ before.destination
  pub offset : now.offset ≡ before.offset
  pub source : (before.opcode ≡ 0x18) ⊎ (now.source ≡ before.source)

pub like_refl : (i : Insn) → Like i i
like_refl i = record { opcode = refl; destination = refl; offset = refl; source = inr refl }

pub like_call : {a b : Insn} → Like a b → is_call b ≡ is_call a
unfolding is_call
like_call {a} {b} l = go l.source
  where
    go : (a.opcode ≡ 0x18) ⊎ (b.source ≡ a.source) → (eqb b.opcode 0x85 && eqb b.destination 0 && eqb b.source 1 && is_zero b.offset)
        ≡ (eqb a.opcode 0x85 && eqb a.destination 0 && eqb a.source 1 && is_zero a.offset)
    go (inl wide) =
        ap (λ o. eqb o 0x85 && eqb b.destination 0 && eqb b.source 1 && is_zero b.offset) (l.opcode ∙ wide)
        ∙ sym (ap (λ o. eqb o 0x85 && eqb a.destination 0 && eqb a.source 1 && is_zero a.offset) wide)
    go (inr s) = λ i. eqb (l.opcode i) 0x85 && eqb (l.destination i) 0 && eqb (s i) 1 && is_zero (l.offset i)

like_blank : {a b : Insn} → Like a b → is_blank b ≡ is_blank a
unfolding is_blank
like_blank {a} {b} l = go l.source
  where
    go : (a.opcode ≡ 0x18) ⊎ (b.source ≡ a.source) → (eqb b.opcode 0 && eqb b.destination 0 && eqb b.source 0 && is_zero b.offset)
        ≡ (eqb a.opcode 0 && eqb a.destination 0 && eqb a.source 0 && is_zero a.offset)
    go (inl wide) =
        ap (λ o. eqb o 0 && eqb b.destination 0 && eqb b.source 0 && is_zero b.offset) (l.opcode ∙ wide)
        ∙ sym (ap (λ o. eqb o 0 && eqb a.destination 0 && eqb a.source 0 && is_zero a.offset) wide)
    go (inr s) = λ i. eqb (l.opcode i) 0 && eqb (l.destination i) 0 && eqb (s i) 0 && is_zero (l.offset i)

blank_opcode : (i : Insn) → is_blank i ≡ true → i.opcode ≡ 0
unfolding is_blank
blank_opcode i e = go (eqb i.opcode 0) refl e
  where
    go : (b : Bool) → eqb i.opcode 0 ≡ b → (b && eqb i.destination 0 && eqb i.source 0 && is_zero i.offset) ≡ true → i.opcode ≡ 0
    go true e t = eqb-true i.opcode 0 e
    go false e t = let z : ◌≡◌ {A = ℕ} 0 1 = cc in absurd (omega arith)

module _ (tables : Tables) where
  -- a relocation of the function, on the grid: only such have a slot
  pub record Live (t : Task) : Type 0 where
    pub in_bytes : inside (row_of tables t.row) t.relocation ≡ true
    pub on_the_grid : on_grid (row_of tables t.row) t.relocation ≡ true

  -- no two tasks have one slot
  abbrev pub Apart : List Task → Type 0
  Apart [] = Unit {0}
  Apart (t ∷ ts) = ((u : Task) → Memᴰ u ts → Live t → Live u → place tables t ≢ place tables u) × Apart ts

  -- a wide load, by the slots
  pub record Wide (image : List Insn) (row slot : ℕ) : Type 0 where
    pub load : (slot_at image (base tables row + slot)).opcode ≡ 0x18
    pub below : suc slot < (row_of tables row).slots
    pub next : (slot_at image (suc (base tables row + slot))).opcode ≡ 0

  pub wide_is : (image : List Insn) (row slot : ℕ) → is_wide tables image row slot ≡ true → Wide image row slot
  wide_is image row slot e =
      go (eqb (slot_in tables image row slot).opcode 0x18) (ltb (suc slot) (row_of tables row).slots) (is_blank (slot_in tables image row (suc slot))) refl refl refl e
    where
      go : (a b c : Bool) → eqb (slot_in tables image row slot).opcode 0x18 ≡ a → ltb (suc slot) (row_of tables row).slots ≡ b → is_blank (slot_in tables image row (suc slot)) ≡ c
          → (a && b && c) ≡ true → Wide image row slot
      go true true true p q r e = record {
        load = eqb-true (slot_in tables image row slot).opcode 0x18 p;
        below = ltb-true (suc slot) (row_of tables row).slots q;
        next = rw (← (add-suc (base tables row) slot)) (blank_opcode (slot_in tables image row (suc slot)) r);
      }
      go true true false p q r e = let z : ◌≡◌ {A = ℕ} 0 1 = cc in absurd (omega arith)
      go true false c p q r e = let z : ◌≡◌ {A = ℕ} 0 1 = cc in absurd (omega arith)
      go false b c p q r e = let z : ◌≡◌ {A = ℕ} 0 1 = cc in absurd (omega arith)

  -- what the answer depends on
  map_same : (m : Option MapRow) (w : Bool) (x y : ℤ) → (w ≡ true → x ≡ y) → by_map tables m w x ≡ by_map tables m w y
  map_same none w x y e = refl
  map_same (some m) true x y e = ap (by_data tables m.has_data m.fd) (e refl)
  map_same (some m) false x y e = refl

  kind_same : (k : SymbolKind) (m : Option MapRow) (w : Bool) (x y : ℤ) → (w ≡ true → x ≡ y) → by_kind tables k m w x ≡ by_kind tables k m w y
  kind_same text m w x y e = refl
  kind_same other m w x y e = map_same m w x y e
  kind_same section m w x y e = map_same m w x y e

  home_same : (o : Option ℕ) (s : Symbol) (symbol : ℕ) (i j : Insn) (w : Bool) → is_call j ≡ is_call i → (w ≡ true → j.immediate ≡ i.immediate)
      → by_home tables o s symbol j w ≡ by_home tables o s symbol i w
  home_same none s symbol i j w c e = refl
  home_same (some home) s symbol i j w c e =
      rw c (ap (cond (is_call i || is_code tables home) skipped)
      (kind_same s.kind (map_for tables symbol home) w (j.immediate +ℤ pos s.address) (i.immediate +ℤ pos s.address) (λ t. ap (λ z. z +ℤ pos s.address) (e t))))

  symbol_same : (o : Option Symbol) (symbol : ℕ) (i j : Insn) (w : Bool) → is_call j ≡ is_call i → (w ≡ true → j.immediate ≡ i.immediate)
      → by_symbol tables o symbol j w ≡ by_symbol tables o symbol i w
  symbol_same none symbol i j w c e = refl
  symbol_same (some s) symbol i j w c e = home_same s.home s symbol i j w c e

  -- the slots as they were and as they stand, with these tasks left
  pub record Kept (orig now : List Insn) (rest : List Task) : Type 0 where
    pub like : (k : ℕ) → Like (slot_at orig k) (slot_at now k)
    pub fresh : (t : Task) → Memᴰ t rest → Live t → (slot_at orig (place tables t)).opcode ≡ 0x18 → slot_at now (place tables t) ≡ slot_at orig (place tables t)

  pub kept_refl : (orig : List Insn) (ts : List Task) → Kept orig orig ts
  kept_refl orig ts = record { like = λ k. like_refl (slot_at orig k); fresh = λ t m l e. refl }

  wide_same : (orig now : List Insn) (row slot : ℕ) → ((k : ℕ) → Like (slot_at orig k) (slot_at now k)) → is_wide tables now row slot ≡ is_wide tables orig row slot
  wide_same orig now row slot like =
      λ i. eqb ((like (base tables row + slot)).opcode i) 0x18 && ltb (suc slot) (row_of tables row).slots && like_blank (like (base tables row + suc slot)) i

  pub judge_same : (orig now : List Insn) (t : Task) (rest : List Task) → Kept orig now (t ∷ rest) → judge tables now t ≡ judge tables orig t
  unfolding judge
  judge_same orig now t rest kept =
      go (inside (row_of tables t.row) t.relocation) (on_grid (row_of tables t.row) t.relocation) refl refl
    where
      answer : List Insn → Verdict
      answer image = by_symbol tables (symbol_of tables t.relocation) t.relocation.symbol (slot_in tables image t.row (task_slot tables t)) (is_wide tables image t.row (task_slot tables t))

      go : (a b : Bool) → inside (row_of tables t.row) t.relocation ≡ a → on_grid (row_of tables t.row) t.relocation ≡ b
          → cond a (cond b (answer now) (refused 4)) skipped ≡ cond a (cond b (answer orig) (refused 4)) skipped
      go true true p q =
          rw (wide_same orig now t.row (task_slot tables t) kept.like)
          (symbol_same (symbol_of tables t.relocation) t.relocation.symbol (slot_in tables orig t.row (task_slot tables t)) (slot_in tables now t.row (task_slot tables t))
          (is_wide tables orig t.row (task_slot tables t)) (like_call (kept.like (place tables t)))
          (λ w. ap (λ i. i.immediate) (kept.fresh t (Memᴰ.head refl) (record { in_bytes = p; on_the_grid = q }) (wide_is orig t.row (task_slot tables t) w).load)))
      go true false p q = refl
      go false b p q = refl

  -- an answer that applies is at a wide load of the function
  data_applies : (d : Bool) (fd x : ℤ) (w : Bool) (c : Change) → cond w (by_data tables d fd x) (refused 6) ≡ applies c → w ≡ true
  data_applies d fd x true c e = refl
  data_applies d fd x false c e = let z : ◌≡◌ {A = ℕ} 0 1 = cc in absurd (omega arith)

  map_applies : (m : Option MapRow) (w : Bool) (x : ℤ) (c : Change) → by_map tables m w x ≡ applies c → w ≡ true
  map_applies none w x c e = let z : ◌≡◌ {A = ℕ} 0 1 = cc in absurd (omega arith)
  map_applies (some m) w x c e = data_applies m.has_data m.fd x w c e

  kind_applies : (k : SymbolKind) (m : Option MapRow) (w : Bool) (x : ℤ) (c : Change) → by_kind tables k m w x ≡ applies c → w ≡ true
  kind_applies text m w x c e = let z : ◌≡◌ {A = ℕ} 0 1 = cc in absurd (omega arith)
  kind_applies other m w x c e = map_applies m w x c e
  kind_applies section m w x c e = map_applies m w x c e

  home_applies : (o : Option ℕ) (s : Symbol) (symbol : ℕ) (i : Insn) (w : Bool) (c : Change) → by_home tables o s symbol i w ≡ applies c → w ≡ true
  home_applies none s symbol i w c e = let z : ◌≡◌ {A = ℕ} 0 1 = cc in absurd (omega arith)
  home_applies (some home) s symbol i w c e = go (is_call i || is_code tables home) e
    where
      go : (b : Bool) → cond b skipped (by_kind tables s.kind (map_for tables symbol home) w (i.immediate +ℤ pos s.address)) ≡ applies c → w ≡ true
      go true e = let z : ◌≡◌ {A = ℕ} 0 1 = cc in absurd (omega arith)
      go false e = kind_applies s.kind (map_for tables symbol home) w (i.immediate +ℤ pos s.address) c e

  symbol_applies : (o : Option Symbol) (symbol : ℕ) (i : Insn) (w : Bool) (c : Change) → by_symbol tables o symbol i w ≡ applies c → w ≡ true
  symbol_applies none symbol i w c e = let z : ◌≡◌ {A = ℕ} 0 1 = cc in absurd (omega arith)
  symbol_applies (some s) symbol i w c e = home_applies s.home s symbol i w c e

  pub record Applies (image : List Insn) (t : Task) : Type 0 where
    pub live : Live t
    pub wide : Wide image t.row (task_slot tables t)

  pub applies_is : (image : List Insn) (t : Task) (c : Change) → judge tables image t ≡ applies c → Applies image t
  unfolding judge
  applies_is image t c e = go (inside (row_of tables t.row) t.relocation) (on_grid (row_of tables t.row) t.relocation) refl refl e
    where
      go : (a b : Bool) → inside (row_of tables t.row) t.relocation ≡ a → on_grid (row_of tables t.row) t.relocation ≡ b
          → cond a (cond b (by_symbol tables (symbol_of tables t.relocation) t.relocation.symbol (slot_in tables image t.row (task_slot tables t))
          (is_wide tables image t.row (task_slot tables t))) (refused 4)) skipped ≡ applies c → Applies image t
      go true true p q e = record {
        live = record { in_bytes = p; on_the_grid = q };
        wide = wide_is image t.row (task_slot tables t)
            (symbol_applies (symbol_of tables t.relocation) t.relocation.symbol (slot_in tables image t.row (task_slot tables t)) (is_wide tables image t.row (task_slot tables t)) c e);
      }
      go true false p q e = let z : ◌≡◌ {A = ℕ} 0 1 = cc in absurd (omega arith)
      go false b p q e = let z : ◌≡◌ {A = ℕ} 0 1 = cc in absurd (omega arith)

-- `changed` touches a slot and the next
pub changed_other : (here : ℕ) (fd : ℤ) (v : Option ℤ) (image : List Insn) (k : ℕ) → k ≢ here → k ≢ suc here → slot_at (changed here fd v image) k ≡ slot_at image k
changed_other here fd none image k n n' = at_other here k (with_immediate fd) (at here (with_source 1) image) n ∙ at_other here k (with_source 1) image n
changed_other here fd (some v) image k n n' =
    at_other here k (with_immediate fd) (at (suc here) (with_immediate v) (at here (with_source 2) image)) n
    ∙ at_other (suc here) k (with_immediate v) (at here (with_source 2) image) n' ∙ at_other here k (with_source 2) image n

immediate_like : (z : ℤ) (a i : Insn) → Like a i → Like a (with_immediate z i)
immediate_like z a i l = record { opcode = l.opcode; destination = l.destination; offset = l.offset; source = l.source }

source_like : (n : ℕ) (a i : Insn) → a.opcode ≡ 0x18 → Like a i → Like a (with_source n i)
source_like n a i w l = record { opcode = l.opcode; destination = l.destination; offset = l.offset; source = inl w }

changed_like : (orig : List Insn) (here : ℕ) (fd : ℤ) (v : Option ℤ) (image : List Insn) → (slot_at orig here).opcode ≡ 0x18
    → ((k : ℕ) → Like (slot_at orig k) (slot_at image k)) → (k : ℕ) → Like (slot_at orig k) (slot_at (changed here fd v image) k)
changed_like orig here fd none image w like k =
    at_keeps (λ k i. Like (slot_at orig k) i) here k (with_immediate fd) (at here (with_source 1) image) (immediate_like fd (slot_at orig here))
    (at_keeps (λ k i. Like (slot_at orig k) i) here k (with_source 1) image (λ i l. source_like 1 (slot_at orig here) i w l) (like k))
changed_like orig here fd (some v) image w like k =
    at_keeps (λ k i. Like (slot_at orig k) i) here k (with_immediate fd) (at (suc here) (with_immediate v) (at here (with_source 2) image)) (immediate_like fd (slot_at orig here))
    (at_keeps (λ k i. Like (slot_at orig k) i) (suc here) k (with_immediate v) (at here (with_source 2) image) (immediate_like v (slot_at orig (suc here)))
    (at_keeps (λ k i. Like (slot_at orig k) i) here k (with_source 2) image (λ i l. source_like 2 (slot_at orig here) i w l) (like k)))

module _ (tables : Tables) (orig : List Insn) where
  pub kept_next : (t : Task) (rest : List Task) (now : List Insn) → Apart tables (t ∷ rest) → Kept tables orig now (t ∷ rest) → (v : Verdict) → judge tables orig t ≡ v
      → Kept tables orig (rewrite tables v t now) rest
  kept_next t rest now apart kept skipped e = record { like = kept.like; fresh = λ u m l o. kept.fresh u (Memᴰ.tail m) l o }
  kept_next t rest now apart kept (refused number) e = record { like = kept.like; fresh = λ u m l o. kept.fresh u (Memᴰ.tail m) l o }
  kept_next t rest now apart kept (applies c) e =
      let a = applies_is tables orig t c e in
      record {
        like = changed_like orig (place tables t) c.fd c.value now a.wide.load kept.like;
        fresh = λ u m l o.
            changed_other (place tables t) c.fd c.value now (place tables u) (λ same. apart.0 u m a.live l (sym same))
            (λ same. clash (ap (λ k. (slot_at orig k).opcode) same) o a.wide.next) ∙ kept.fresh u (Memᴰ.tail m) l o;
      }
    where
      clash : {x y : ℕ} → x ≡ y → x ≡ 0x18 → y ≡ 0 → ⊥
      clash p q r = omega arith

  pub in_place : (ts : List Task) (now : List Insn) → Apart tables ts → Kept tables orig now ts → rewrite_in_place tables ts now ≡ rewrite_all tables orig ts now
  unfolding rewrite_in_place rewrite_all
  in_place [] now apart kept = refl
  in_place (t ∷ ts) now apart kept =
      rw (judge_same tables orig now t ts kept)
      (in_place ts (rewrite tables (judge tables orig t) t now) apart.1 (kept_next t ts now apart kept (judge tables orig t) refl))
