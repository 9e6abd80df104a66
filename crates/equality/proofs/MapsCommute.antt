-- Relocations of valid tables rewrite slots of their own, so the order in which a section's are tried makes no difference.
-- Assumes nothing.
use mathlib.Core.Path.{◌≡◌, refl, sym, ◌∙◌, ap}
use mathlib.Core.Logic.{◌≢◌, ◌⊎◌, inl, inr}
use mathlib.Core.Option.{Option, none, some}
use mathlib.Core.List.{List, [], ◌∷◌, ◌++◌, map, Memᴰ}
use Prim.Native.Nat.{ℕ, zero, suc, ◌+◌, ◌≤◌, ◌<◌}
use native.Mathlib.Omega.{arith}
use lib.IntN.{ℤ}
use lib.ListN.{length, set, length-set}
use lib.Seq.{set_comm}
use Rattle.rules.specs.Object.{Insn}
use Rattle.rules.specs.Faithful.{slot_at}
use Rattle.rules.specs.Bytes.{with_immediate, with_source}
use Rattle.rules.specs.Tables.{Relocation, Tables, row_of, base}
use Rattle.rules.specs.Maps.{Task, task, Verdict, skipped, refused, applies, task_slot, judge, tasks, at, changed, place, rewrite, rewrite_all}
use Rattle.equality.specs.Domain.{Perm, done, keep, swap, both}
use Rattle.rules.proofs.MapsInPlace.{at_other, changed_other, Live, applies_is}
use Rattle.rules.proofs.MapsApart.{live_spot, base_suc, Distinct}
use Rattle.equality.proofs.Perms.{perm_distinct}

at_comm : (p q : ℕ) (f g : Insn → Insn) (image : List Insn) → p ≢ q → at p f (at q g image) ≡ at q g (at p f image)
at_comm p q f g image n =
    ap (λ i. set (at q g image) p (f i)) (at_other q p g image n)
    ∙ set_comm image q p (g (slot_at image q)) (f (slot_at image p)) (λ e. n (sym e))
    ∙ sym (ap (λ i. set (at p f image) q (g i)) (at_other p q f image (λ e. n (sym e))))

changed_at : (here k : ℕ) (fd : ℤ) (v : Option ℤ) (g : Insn → Insn) (image : List Insn) → k ≢ here → k ≢ suc here
    → changed here fd v (at k g image) ≡ at k g (changed here fd v image)
changed_at here k fd none g image n n' =
    ap (at here (with_immediate fd)) (at_comm here k (with_source 1) g image (λ e. n (sym e)))
    ∙ at_comm here k (with_immediate fd) g (at here (with_source 1) image) (λ e. n (sym e))
changed_at here k fd (some v) g image n n' =
    ap (λ x. at here (with_immediate fd) (at (suc here) (with_immediate v) x)) (at_comm here k (with_source 2) g image (λ e. n (sym e)))
    ∙ ap (at here (with_immediate fd)) (at_comm (suc here) k (with_immediate v) g (at here (with_source 2) image) (λ e. n' (sym e)))
    ∙ at_comm here k (with_immediate fd) g (at (suc here) (with_immediate v) (at here (with_source 2) image)) (λ e. n (sym e))

changed_comm : (p q : ℕ) (a b : ℤ) (v w : Option ℤ) (image : List Insn) → p ≢ q → p ≢ suc q → q ≢ suc p
    → changed p a v (changed q b w image) ≡ changed q b w (changed p a v image)
changed_comm p q a b v none image n n₁ n₂ =
    changed_at p q a v (with_immediate b) (at q (with_source 1) image) (λ e. n (sym e)) n₂
    ∙ ap (at q (with_immediate b)) (changed_at p q a v (with_source 1) image (λ e. n (sym e)) n₂)
changed_comm p q a b v (some w) image n n₁ n₂ =
    changed_at p q a v (with_immediate b) (at (suc q) (with_immediate w) (at q (with_source 2) image)) (λ e. n (sym e)) n₂
    ∙ ap (at q (with_immediate b)) (changed_at p (suc q) a v (with_immediate w) (at q (with_source 2) image) (λ e. n₁ (sym e)) (λ e. n (omega arith)))
    ∙ ap (λ x. at q (with_immediate b) (at (suc q) (with_immediate w) x)) (changed_at p q a v (with_source 2) image (λ e. n (sym e)) n₂)

pub changed_length : (here : ℕ) (fd : ℤ) (v : Option ℤ) (image : List Insn) → length (changed here fd v image) ≡ length image
changed_length here fd none image = simp length-set
changed_length here fd (some v) image = simp length-set

module _ (tables : Tables) (orig : List Insn) where
  pub rewrite_length : (v : Verdict) (t : Task) (now : List Insn) → length (rewrite tables v t now) ≡ length now
  rewrite_length skipped t now = refl
  rewrite_length (refused number) t now = refl
  rewrite_length (applies c) t now = changed_length (place tables t) c.fd c.value now

  pub all_length : (ts : List Task) (now : List Insn) → length (rewrite_all tables orig ts now) ≡ length now
  unfolding rewrite_all
  all_length [] now = refl
  all_length (t ∷ ts) now = all_length ts (rewrite tables (judge tables orig t) t now) ∙ rewrite_length (judge tables orig t) t now

  pub all_append : (xs ys : List Task) (now : List Insn) → rewrite_all tables orig (xs ++ ys) now ≡ rewrite_all tables orig ys (rewrite_all tables orig xs now)
  unfolding rewrite_all
  all_append [] ys now = refl
  all_append (t ∷ xs) ys now = all_append xs ys (rewrite tables (judge tables orig t) t now)

  -- two that apply, at two slots
  two : (t u : Task) → (Live tables t → Live tables u → place tables t ≢ place tables u) → (v w : Verdict) → judge tables orig t ≡ v → judge tables orig u ≡ w → (now : List Insn)
      → rewrite tables w u (rewrite tables v t now) ≡ rewrite tables v t (rewrite tables w u now)
  two t u apart skipped w e f now = refl
  two t u apart (refused number) w e f now = refl
  two t u apart (applies c) skipped e f now = refl
  two t u apart (applies c) (refused number) e f now = refl
  two t u apart (applies c) (applies d) e f now =
      let a = applies_is tables orig t c e in
      let b = applies_is tables orig u d f in
      changed_comm (place tables u) (place tables t) d.fd c.fd d.value c.value now (λ same. apart a.live b.live (sym same))
      (λ same. clash (ap (λ k. (slot_at orig k).opcode) same) b.wide.load a.wide.next)
      (λ same. clash (ap (λ k. (slot_at orig k).opcode) same) a.wide.load b.wide.next)
    where
      clash : {x y : ℕ} → x ≡ y → x ≡ 0x18 → y ≡ 0 → ⊥
      clash p q r = omega arith

  offset_apart : (row : ℕ) (r q : Relocation) → r.offset ≢ q.offset → Live tables (task row r) → Live tables (task row q) → place tables (task row r) ≢ place tables (task row q)
  offset_apart row r q n live live' same =
      let a = live_spot tables (task row r) live in
      let b = live_spot tables (task row q) live' in
      n (omega arith)

  pub row_order : (row : ℕ) {xs ys : List Relocation} → Perm xs ys → Distinct xs → (now : List Insn)
      → rewrite_all tables orig (map (task row) xs) now ≡ rewrite_all tables orig (map (task row) ys) now
  unfolding rewrite_all
  row_order row done d now = refl
  row_order row (keep x p) d now = row_order row p d.1 (rewrite tables (judge tables orig (task row x)) (task row x) now)
  row_order row (swap a b zs) d now =
      ap (rewrite_all tables orig (map (task row) zs))
      (two (task row a) (task row b) (offset_apart row a b (d.0 b (Memᴰ.head refl))) (judge tables orig (task row a)) (judge tables orig (task row b)) refl refl now)
  row_order row (both p q) d now = row_order row p d now ∙ row_order row q (perm_distinct p d) now

  pub all_order : (rels rels' : ℕ → List Relocation) → ((row : ℕ) → Perm (rels row) (rels' row)) → ((row : ℕ) → Distinct (rels row)) → (from count : ℕ) (now : List Insn)
      → rewrite_all tables orig (tasks tables (λ row. map (task row) (rels row)) from count) now
      ≡ rewrite_all tables orig (tasks tables (λ row. map (task row) (rels' row)) from count) now
  all_order rels rels' p d from zero now = refl
  all_order rels rels' p d from (suc count) now =
      all_append (map (task from) (rels from)) (tasks tables (λ row. map (task row) (rels row)) (suc from) count) now
      ∙ all_order rels rels' p d (suc from) count (rewrite_all tables orig (map (task from) (rels from)) now)
      ∙ ap (rewrite_all tables orig (tasks tables (λ row. map (task row) (rels' row)) (suc from) count)) (row_order from (p from) (d from) now)
      ∙ sym (all_append (map (task from) (rels' from)) (tasks tables (λ row. map (task row) (rels' row)) (suc from) count) now)

  -- what is rewritten is a slot of the task's function
  local : (t : Task) (v : Verdict) → judge tables orig t ≡ v → (now : List Insn) (k : ℕ) → (k < base tables t.row) ⊎ (base tables (suc t.row) ≤ k)
      → slot_at (rewrite tables v t now) k ≡ slot_at now k
  local t skipped e now k o = refl
  local t (refused number) e now k o = refl
  local t (applies c) e now k o =
      let a = applies_is tables orig t c e in
      changed_other (place tables t) c.fd c.value now k (out o a.wide.below (base_suc tables t.row)) (out_next o a.wide.below (base_suc tables t.row))
    where
      out : (k < base tables t.row) ⊎ (base tables (suc t.row) ≤ k) → suc (task_slot tables t) < (row_of tables t.row).slots
          → base tables (suc t.row) ≡ base tables t.row + (row_of tables t.row).slots → k ≢ place tables t
      out (inl l) b e same = omega arith
      out (inr l) b e same = omega arith

      out_next : (k < base tables t.row) ⊎ (base tables (suc t.row) ≤ k) → suc (task_slot tables t) < (row_of tables t.row).slots
          → base tables (suc t.row) ≡ base tables t.row + (row_of tables t.row).slots → k ≢ suc (place tables t)
      out_next (inl l) b e same = omega arith
      out_next (inr l) b e same = omega arith

  pub keeps_outside : (ts : List Task) (k : ℕ) → ((t : Task) → Memᴰ t ts → (k < base tables t.row) ⊎ (base tables (suc t.row) ≤ k)) → (now : List Insn)
      → slot_at (rewrite_all tables orig ts now) k ≡ slot_at now k
  unfolding rewrite_all
  keeps_outside [] k all now = refl
  keeps_outside (t ∷ ts) k all now =
      keeps_outside ts k (λ u m. all u (Memᴰ.tail m)) (rewrite tables (judge tables orig t) t now)
      ∙ local t (judge tables orig t) refl now k (all t (Memᴰ.head refl))
