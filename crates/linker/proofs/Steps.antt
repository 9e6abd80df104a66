-- What adding, placing and visiting do to the state that the buffers hold: a lemma for each way out, which the cycle's answers cite.
-- Assumes nothing.
use mathlib.Core.Path.{◌≡◌, refl, sym, ap, subst, ◌∙◌}
use mathlib.Core.Logic.{◌≢◌}
use mathlib.Core.Bool.{Bool, true, false, cond}
use mathlib.Core.Option.{Option, none, some}
use mathlib.Core.List.{List, [], ◌∷◌}
use Prim.Native.Nat.{ℕ, zero, suc, ◌+◌, ◌*◌, ◌-◌, ◌≤◌, ◌<◌}
use native.Mathlib.Nat.{sub-zero}
use native.Mathlib.Numerals.{add-one}
use native.Mathlib.Omega.{arith}
use lib.Dec.{eqb}
use borrow.Author.Tests.{eq-eqb, ne_eqb}
use lib.ListN.{length, get_or, set}
use lib.Seq.{get_or-set_same, get_or-set_other}
use Rattle.rules.specs.declared.Refusal as told
use Rattle.std.specs.Prelude.{Result, Ok, Err, IfOk}
use Rattle.std.proofs.lemmas.Result.{IfOk-weaker}
use Rattle.rules.specs.declared.Table.TheVariants.{Functions}
use Rattle.rules.specs.Object.{Insn, Meaning, copied, call, reference, refused, meaning, calling, referring}
use Rattle.rules.specs.Bytes.{little}
use Rattle.rules.specs.Link as Link
use Rattle.rules.specs.Link.{Refusal, refusal, Outcome, linked, refuses, unfinished, and_then, start_of, extended, rewritten, unless, at_slot, visit, append}
use Rattle.rules.specs.Tables.{object_of}
use Rattle.rules.specs.Records.{admits}
use Rattle.rules.specs.Answers.{reply, refused_reply}
use Rattle.rules.specs.Rows.{most_rows, whole_rows, Offered, function_slots, summed, tables_of, most_image_slots}
use Rattle.rules.specs.Entries.{refusal_reply, Outputs, room_in}
use Rattle.rules.proofs.Passed.{good_function, few_rows}
use Rattle.rules.proofs.Reading.{rows_are}
use Rattle.rules.proofs.Lookups.{names_rows}
use Rattle.rules.proofs.Unfolds.{append_unfolds}
use Rattle.linker.specs.declared.State.{State}
use Rattle.rules.specs.Lent.{Buffers, buffers, lent_by}
use Rattle.linker.specs.Linker.{start_number, tally, unplaced, Valid, Grown, Holds, Agrees, adding, visiting, placing, Asks, Adds, Added, Placed, Visits, Visited, pointed_to}
use Rattle.linker.proofs.Pointing.{pointing, point_valid, point_holds, point_length}
use Rattle.linker.proofs.Extending.{object_slots, Room, state_more, buffers_more, more_valid, more_holds, more_lengths}

-- ---- how many rows have no start
pub grown_refl : (s : State) → Grown s s
grown_refl s = record { starts = λ row n. refl; slots = omega arith }

pub grown_trans : {a b c : State} → Grown a b → Grown b c → Grown a c
grown_trans {a} {b} {c} f g = record {
  starts = λ row n. g.starts row (λ z. n (sym (f.starts row n) ∙ z)) ∙ f.starts row n;
  slots = omega (arith, f.slots, g.slots);
}

-- to place one is one less
pub place_unplaced : (l : List ℕ) (row v : ℕ) → row < length l → get_or l row 0 ≡ 0 → v ≢ 0 → unplaced l ≡ suc (unplaced (set l row v))
unfolding unplaced
place_unplaced [] row v l e n = absurd (omega arith)
place_unplaced (x ∷ l) zero v lt e n = rw (eq-eqb x 0 e, ne_eqb v 0 n) refl
place_unplaced (x ∷ l) (suc row) v lt e n = go (eqb x 0) (place_unplaced l row v (omega arith) e n)
  where
    go : (b : Bool) → unplaced l ≡ suc (unplaced (set l row v)) → tally b (unplaced l) ≡ suc (tally b (unplaced (set l row v)))
    go true f = ap suc f
    go false f = f

-- what keeps its starts has no more without
pub keep_unplaced : (a b : List ℕ) → length a ≡ length b → ((row : ℕ) → get_or a row 0 ≢ 0 → get_or b row 0 ≡ get_or a row 0) → unplaced b ≤ unplaced a
unfolding unplaced
keep_unplaced [] [] e f = omega arith
keep_unplaced [] (y ∷ b) e f = absurd (omega arith)
keep_unplaced (x ∷ a) [] e f = absurd (omega arith)
keep_unplaced (x ∷ a) (y ∷ b) e f = go (eqb x 0) refl (keep_unplaced a b (omega arith) (λ row. f (suc row)))
  where
    either : (c : Bool) → unplaced b ≤ unplaced a → tally c (unplaced b) ≤ suc (unplaced a)
    either true l = omega arith
    either false l = omega arith

    go : (c : Bool) → eqb x 0 ≡ c → unplaced b ≤ unplaced a → tally (eqb y 0) (unplaced b) ≤ tally c (unplaced a)
    go true q l = either (eqb y 0) l
    go false q l =
        let n : x ≢ 0 = λ z. clash (sym (eq-eqb x 0 z) ∙ q) in
        let same : y ≡ x = f 0 n in
        rw (same, q) l
      where
        clash : {X : Type 0} → true ≡ false → X
        clash z = let w : ◌≡◌ {A = ℕ} 0 1 = cc in absurd (omega arith)

pub grown_unplaced : {st : State} {b : Buffers} {now : State} {b' : Buffers} → Valid st b → Valid now b' → Grown st now → unplaced now.starts ≤ unplaced st.starts
grown_unplaced {st} {b} {now} v v' g = keep_unplaced st.starts now.starts (v.long ∙ sym v'.long) g.starts

-- ---- a state without a start for the row
module _ {o : Offered} {root : ℕ} {st : State} {b : Buffers} {s : Link.State} (h : Holds o root st b s) (row : ℕ) (row_in : row < whole_rows Functions o.functions) where
  pub fresh_none : get_or st.starts row 0 ≡ 0 → start_of row s.placed ≡ none
  fresh_none e = go (start_of row s.placed) refl
    where
      go : (p : Option ℕ) → start_of row s.placed ≡ p → p ≡ none
      go none q = refl
      go (some start) q =
          let z : start ≡ 0 = sym (ap start_number q) ∙ sym (h.starts row row_in) ∙ e in
          absurd (omega (arith, h.positive row start q))

pub in_object : (o : Offered) (row : ℕ) → row < whole_rows Functions o.functions → row < (object_of (tables_of little o)).rows
unfolding object_of
in_object o row l = rw (rows_are little o) l

-- ---- adding
module _ {o : Offered} {st : State} {b : Buffers} {row : ℕ} (pre : Adds o st b row) where
  has_slot : 1 ≤ function_slots o.functions row
  has_slot = (good_function o.functions pre.asks.checked.tables.functions row pre.asks.row_in).slots_low

  pub in_array : row < length st.starts
  in_array = omega (arith, pre.asks.valid.long, few_rows Functions o.functions pre.asks.checked.tables.functions, pre.asks.row_in)

  adding_is : (root : ℕ) (s : Link.State) → Holds o root st b s → adding o (lent_by b) root row s
      ≡ unless (admits (tables_of little o) (room_in (lent_by b)) root row s)
      (visiting o (lent_by b) root row st.used.slots (function_slots o.functions row) 0 (extended (object_of (tables_of little o)) row s))
  adding_is root s h =
      append_unfolds (object_of (tables_of little o)) (names_rows (tables_of little o)) (admits (tables_of little o) (room_in (lent_by b)) root) row s
      (in_object o row pre.asks.row_in) (fresh_none h row pre.asks.row_in pre.fresh)
      ∙ ap (λ n. unless (admits (tables_of little o) (room_in (lent_by b)) root row s) (visiting o (lent_by b) root row (length s.image) n 0 (extended (object_of (tables_of little o)) row s))) (object_slots pre.asks.checked row pre.asks.row_in)
      ∙ ap (λ n. unless (admits (tables_of little o) (room_in (lent_by b)) root row s) (visiting o (lent_by b) root row n (function_slots o.functions row) 0 (extended (object_of (tables_of little o)) row s))) (sym h.slots)

  adding_by : (root : ℕ) (s : Link.State) → Holds o root st b s → (a : Option Refusal) → admits (tables_of little o) (room_in (lent_by b)) root row s ≡ a
      → adding o (lent_by b) root row s ≡ unless a (visiting o (lent_by b) root row st.used.slots (function_slots o.functions row) 0 (extended (object_of (tables_of little o)) row s))
  adding_by root s h a e =
      adding_is root s h
      ∙ ap (λ x. unless x (visiting o (lent_by b) root row st.used.slots (function_slots o.functions row) 0 (extended (object_of (tables_of little o)) row s))) e

  -- refused: nothing is written
  pub add_refused : (a : told.Refusal) (why : Refusal) → refused_reply a ≡ refusal_reply why
      → ((root : ℕ) (s : Link.State) → Holds o root st b s → admits (tables_of little o) (room_in (lent_by b)) root row s ≡ some why)
      → Added o st b row (Err a) b
  add_refused a why e refusing = record {
    gives = record {
      valid = tt;
      grown = tt;
      lengths = refl;
      agrees = λ root s h. subst (Agrees o root (Err a) b) (sym (adding_by root s h (some why) (refusing root s h))) e;
    };
    start = tt;
  }

  -- room and no stray: extended, then visited
  module _ (room : Room o row st.used b)
      (fine : (root : ℕ) (s : Link.State) → Holds o root st b s → admits (tables_of little o) (room_in (lent_by b)) root row s ≡ none) where
    pub add_visits : (first : ℕ) → first ≡ summed (function_slots o.functions) 0 row → Visits o (state_more o row st) (buffers_more o row st.used b) row st.used.slots first
    add_visits first begins = record {
      asks = record {
        checked = pre.asks.checked;
        valid = more_valid pre.asks.checked row pre.asks.row_in has_slot st b pre.asks.valid room;
        row_in = pre.asks.row_in;
      };
      fits = omega arith;
      begins = begins;
    }

    pub add_falls : unplaced (state_more o row st).starts < unplaced st.starts
    add_falls =
        let e = place_unplaced st.starts row st.used.slots in_array pre.fresh (λ z. omega (arith, pre.asks.valid.some_slot)) in
        omega arith

    first_grown : Grown st (state_more o row st)
    first_grown = record {
      starts = λ k n. get_or-set_other st.starts row k st.used.slots 0 (λ same. n (ap (λ i. get_or st.starts i 0) same ∙ pre.fresh));
      slots = omega arith;
    }

    placed_here : get_or (state_more o row st).starts row 0 ≡ st.used.slots
    placed_here = get_or-set_same st.starts row st.used.slots 0 in_array

    pub add_done : (r : Result State told.Refusal) (b' : Buffers) → Visited o (state_more o row st) (buffers_more o row st.used b) row st.used.slots r b' → Added o st b row r b'
    add_done r b' v = record {
      gives = record {
        valid = v.valid;
        grown = IfOk-weaker r _ _ (λ now. grown_trans first_grown) v.grown;
        lengths = v.lengths ∙ lens;
        agrees = λ root s h. subst (Agrees o root r b') (sym (adding_by root s h none (fine root s h)))
            (subst (λ lent. Agrees o root r b' (visiting o lent root row st.used.slots (function_slots o.functions row) 0 (extended (object_of (tables_of little o)) row s))) lens
            (v.agrees root (extended (object_of (tables_of little o)) row s)
            (more_holds pre.asks.checked row pre.asks.row_in has_slot st b pre.asks.valid room h (fresh_none h row pre.asks.row_in pre.fresh) in_array)));
      };
      start = IfOk-weaker r _ _ (λ now g. g.starts row (λ q. omega (arith, pre.asks.valid.some_slot, sym placed_here ∙ q)) ∙ placed_here) v.grown;
    }
      where
        lens : lent_by (buffers_more o row st.used b) ≡ lent_by b
        lens = more_lengths pre.asks.checked row pre.asks.row_in st.used b room

-- ---- placing
module _ {o : Offered} {st : State} {b : Buffers} {callee : ℕ} (pre : Asks o st b callee) where
  pub callee_in : callee < most_rows Functions
  callee_in = omega (arith, few_rows Functions o.functions pre.checked.tables.functions, pre.row_in)

  -- with a start already
  pub place_there : get_or st.starts callee 0 ≢ 0 → Placed o st b callee (Ok st) b
  place_there n = record {
    gives = record {
      valid = pre.valid;
      grown = grown_refl st;
      lengths = refl;
      agrees = λ root s h. go root s h (start_of callee s.placed) refl;
    };
    start = λ e. absurd (n e);
  }
    where
      go : (root : ℕ) (s : Link.State) → Holds o root st b s → (p : Option ℕ) → start_of callee s.placed ≡ p
          → Agrees o root (Ok st) b (placing o (lent_by b) root p callee s)
      go root s h none e = absurd (n (h.starts callee pre.row_in ∙ ap start_number e))
      go root s h (some start) e = h

  pub place_adds : get_or st.starts callee 0 ≡ 0 → Adds o st b callee
  place_adds e = record { asks = pre; fresh = e }

  pub place_added : get_or st.starts callee 0 ≡ 0 → (r : Result State told.Refusal) (b' : Buffers) → Added o st b callee r b' → Placed o st b callee r b'
  place_added e r b' a = record {
    gives = record {
      valid = a.gives.valid;
      grown = a.gives.grown;
      lengths = a.gives.lengths;
      agrees = λ root s h.
          subst (λ p. Agrees o root r b' (placing o (lent_by b) root p callee s)) (sym (fresh_none h callee pre.row_in e)) (a.gives.agrees root s h);
    };
    start = IfOk-weaker r _ _ (λ now z f. z) a.start;
  }

-- ---- visiting
-- the start that a slot points to, of a callee placed or just appended
abbrev start_for : Option ℕ → Link.State → ℕ
start_for (some start) s = start
start_for none s = length s.image

pointing_is : (o : Offered) (lent : Outputs) (root : ℕ) (p : Option ℕ) (callee here : ℕ) (rewrite : ℕ → Insn → Insn) (next : Link.State → Outcome) (s : Link.State)
    → Link.pointing (object_of (tables_of little o)) (adding o lent root) p callee here rewrite next s
    ≡ and_then (placing o lent root p callee s) (λ after. next (rewritten here (rewrite (start_for p s)) after))
pointing_is o lent root (some start) callee here rewrite next s = refl
pointing_is o lent root none callee here rewrite next s = refl

-- what is left to do from here gives what was asked for
pub record Left (o : Offered) (root : ℕ) (lent : Outputs) (row start slots slot : ℕ) (s₀ : Link.State) (now : State) (b : Buffers) : Type 0 where
  pub s : Link.State
  pub holds : Holds o root now b s
  pub same : visiting o lent root row start slots 0 s₀ ≡ visiting o lent root row start (slots - slot) slot s

pub record Inv (o : Offered) (st₀ : State) (b₀ : Buffers) (row start slots : ℕ) (now : State) (b : Buffers) (slot : ℕ) : Type 0 where
  pub within : slot ≤ slots
  pub valid : Valid now b
  pub grown : Grown st₀ now
  pub lengths : lent_by b ≡ lent_by b₀
  pub left : (root : ℕ) (s₀ : Link.State) → Holds o root st₀ b₀ s₀ → Left o root (lent_by b₀) row start slots slot s₀ now b

visit_turn : (o : Offered) (lent : Outputs) (root row start slots slot : ℕ) (s : Link.State) → slot < slots
    → visiting o lent root row start (slots - slot) slot s
    ≡ at_slot (object_of (tables_of little o)) (adding o lent root) (meaning (object_of (tables_of little o)) row slot) row slot (start + slot) (λ after. visiting o lent root row start (slots - (slot + 1)) (slot + 1) after) s
unfolding visit
visit_turn o lent root row start slots slot s l =
    let e : slots - slot ≡ suc (slots - (slot + 1)) = omega arith in
    rw (e, add-one slot)

visit_over : (o : Offered) (lent : Outputs) (root row start slots slot : ℕ) (s : Link.State) → slots ≤ slot → visiting o lent root row start (slots - slot) slot s ≡ linked s
unfolding visit
visit_over o lent root row start slots slot s l = let e : slots - slot ≡ 0 = omega arith in rw e

module _ {o : Offered} {st₀ : State} {b₀ : Buffers} {row start first : ℕ} (pre : Visits o st₀ b₀ row start first) where
  slots : ℕ
  slots = function_slots o.functions row

  pub visit_begins : Inv o st₀ b₀ row start (function_slots o.functions row) st₀ b₀ 0
  visit_begins = record {
    within = omega arith;
    valid = pre.asks.valid;
    grown = grown_refl st₀;
    lengths = refl;
    left = λ root s h. record { s = s; holds = h; same = rw sub-zero refl };
  }

  module _ {now : State} {b : Buffers} {slot : ℕ} (inv : Inv o st₀ b₀ row start (function_slots o.functions row) now b slot) where
    pub visit_falls : unplaced now.starts ≤ unplaced st₀.starts
    visit_falls = grown_unplaced pre.asks.valid inv.valid inv.grown

    pub visit_done : function_slots o.functions row ≤ slot → Visited o st₀ b₀ row start (Ok now) b
    visit_done l = record {
      valid = inv.valid;
      grown = inv.grown;
      lengths = inv.lengths;
      agrees = λ root s₀ h.
          let left = inv.left root s₀ h in
          subst (Agrees o root (Ok now) b)
          (sym (left.same ∙ visit_over o (lent_by b₀) root row start (function_slots o.functions row) slot left.s l)) left.holds;
    }

    module _ (turn : slot < function_slots o.functions row) where
      pub here_in : start + slot < now.used.slots
      here_in = omega (arith, pre.fits, inv.grown.slots)

      -- what the slot's meaning makes of the rest
      turned : (m : Meaning) → meaning (object_of (tables_of little o)) row slot ≡ m → (root : ℕ) (s₀ : Link.State) (h : Holds o root st₀ b₀ s₀)
          → visiting o (lent_by b₀) root row start (function_slots o.functions row) 0 s₀
          ≡ at_slot (object_of (tables_of little o)) (adding o (lent_by b₀) root) m row slot (start + slot) (λ after. visiting o (lent_by b₀) root row start (function_slots o.functions row - (slot + 1)) (slot + 1) after) (inv.left root s₀ h).s
      turned m e root s₀ h =
          (inv.left root s₀ h).same
          ∙ visit_turn o (lent_by b₀) root row start (function_slots o.functions row) slot (inv.left root s₀ h).s turn
          ∙ ap (λ x. at_slot (object_of (tables_of little o)) (adding o (lent_by b₀) root) x row slot (start + slot) (λ after. visiting o (lent_by b₀) root row start (function_slots o.functions row - (slot + 1)) (slot + 1) after) (inv.left root s₀ h).s) e

      pub visit_copied : meaning (object_of (tables_of little o)) row slot ≡ copied → Inv o st₀ b₀ row start (function_slots o.functions row) now b (slot + 1)
      visit_copied e = record {
        within = omega arith;
        valid = inv.valid;
        grown = inv.grown;
        lengths = inv.lengths;
        left = λ root s₀ h. record { s = (inv.left root s₀ h).s; holds = (inv.left root s₀ h).holds; same = turned copied e root s₀ h };
      }

      pub visit_out : (a : told.Refusal) (n : ℕ) → meaning (object_of (tables_of little o)) row slot ≡ refused n → refused_reply a ≡ reply n row slot 0
          → Visited o st₀ b₀ row start (Err a) b
      visit_out a n e is = record {
        valid = tt;
        grown = tt;
        lengths = inv.lengths;
        agrees = λ root s₀ h. subst (Agrees o root (Err a) b) (sym (turned (refused n) e root s₀ h)) is;
      }

      -- a callee, called or referred to
      module _ (reference? : Bool) (callee : ℕ) (means : meaning (object_of (tables_of little o)) row slot ≡ cond reference? (reference callee) (call callee))
          (callee_row : callee < whole_rows Functions o.functions) where
        pub visit_asks : Asks o now b callee
        visit_asks = record { checked = pre.asks.checked; valid = inv.valid; row_in = callee_row }

        rest : ℕ → Link.State → Outcome
        rest root after = visiting o (lent_by b₀) root row start (function_slots o.functions row - (slot + 1)) (slot + 1) after

        at_callee : (refers : Bool) (root : ℕ) (s : Link.State)
            → at_slot (object_of (tables_of little o)) (adding o (lent_by b₀) root) (cond refers (reference callee) (call callee)) row slot (start + slot) (rest root) s
            ≡ and_then (placing o (lent_by b₀) root (start_of callee s.placed) callee s) (λ after. rest root (rewritten (start + slot) (pointing refers (start_for (start_of callee s.placed) s) (start + slot)) after))
        at_callee true root s = pointing_is o (lent_by b₀) root (start_of callee s.placed) callee (start + slot) (λ start' i. referring i start' (start + slot)) (rest root) s
        at_callee false root s = pointing_is o (lent_by b₀) root (start_of callee s.placed) callee (start + slot) (λ start' i. calling i start' (start + slot)) (rest root) s

        pointed : (root : ℕ) (s₀ : Link.State) (h : Holds o root st₀ b₀ s₀) → let s = (inv.left root s₀ h).s in
            visiting o (lent_by b₀) root row start (function_slots o.functions row) 0 s₀
            ≡ and_then (placing o (lent_by b₀) root (start_of callee s.placed) callee s) (λ after. rest root (rewritten (start + slot) (pointing reference? (start_for (start_of callee s.placed) s) (start + slot)) after))
        unfolding rest
        pointed root s₀ h = turned (cond reference? (reference callee) (call callee)) means root s₀ h ∙ at_callee reference? root (inv.left root s₀ h).s

        agreed : (r : Result State told.Refusal) (b' : Buffers) → Placed o now b callee r b' → (root : ℕ) (s : Link.State) → Holds o root now b s
            → Agrees o root r b' (placing o (lent_by b₀) root (start_of callee s.placed) callee s)
        agreed r b' placed root s h = subst (λ lent. Agrees o root r b' (placing o lent root (start_of callee s.placed) callee s)) inv.lengths (placed.gives.agrees root s h)

        pub visit_refused : (why : told.Refusal) (b' : Buffers) → Placed o now b callee (Err why) b' → Visited o st₀ b₀ row start (Err why) b'
        visit_refused why b' placed = record {
          valid = tt;
          grown = tt;
          lengths = placed.gives.lengths ∙ inv.lengths;
          agrees = λ root s₀ h.
              let s = (inv.left root s₀ h).s in
              subst (Agrees o root (Err why) b') (sym (pointed root s₀ h)) (go root (placing o (lent_by b₀) root (start_of callee s.placed) callee s) (λ after. rest root (rewritten (start + slot) (pointing reference? (start_for (start_of callee s.placed) s) (start + slot)) after)) (agreed (Err why) b' placed root s (inv.left root s₀ h).holds));
        }
          where
            go : (root : ℕ) (out : Outcome) (next : Link.State → Outcome) → Agrees o root (Err why) b' out → Agrees o root (Err why) b' (and_then out next)
            go root (linked s') next a = absurd a
            go root (refuses it) next a = a
            go root unfinished next a = a

        module _ (later : State) (b' : Buffers) (placed : Placed o now b callee (Ok later) b') where
          -- the start that the array has now
          to : ℕ
          to = get_or later.starts callee 0

          pub to_low : get_or later.starts callee 0 < most_image_slots
          to_low = placed.gives.valid.starts callee

          pub still_in : start + slot < later.used.slots
          still_in = omega (arith, here_in, placed.gives.grown.slots)

          pub room_here : 8 * (start + slot) + 8 ≤ length b'.image
          room_here = omega (arith, still_in, placed.gives.valid.slots)

          abbrev rewritten_buffers : Buffers
          rewritten_buffers = buffers (pointed_to reference? b'.image (start + slot) (get_or later.starts callee 0)) b'.funcs b'.lines

          -- it is the one that the link step points to
          to_is : (root : ℕ) (s s' : Link.State) (p : Option ℕ) → start_of callee s.placed ≡ p → Holds o root now b s → Holds o root later b' s'
              → placing o (lent_by b₀) root p callee s ≡ linked s' → get_or later.starts callee 0 ≡ start_for p s
          to_is root s s' none e h h' out = placed.start (h.starts callee callee_row ∙ ap start_number e) ∙ h.slots
          to_is root s s' (some q) e h h' out =
              let same : s ≡ s' = cc in
              h'.starts callee callee_row ∙ ap (λ x. start_number (start_of callee x.placed)) (sym same) ∙ ap start_number e

          after_left : (root : ℕ) (s₀ : Link.State) (h : Holds o root st₀ b₀ s₀) (s : Link.State) (h₁ : Holds o root now b s) (out : Outcome)
              → placing o (lent_by b₀) root (start_of callee s.placed) callee s ≡ out → Agrees o root (Ok later) b' out
              → visiting o (lent_by b₀) root row start (function_slots o.functions row) 0 s₀
              ≡ and_then out (λ after. rest root (rewritten (start + slot) (pointing reference? (start_for (start_of callee s.placed) s) (start + slot)) after))
              → Left o root (lent_by b₀) row start (function_slots o.functions row) (slot + 1) s₀ later
              (buffers (pointed_to reference? b'.image (start + slot) (get_or later.starts callee 0)) b'.funcs b'.lines)
          unfolding rest
          after_left root s₀ h s h₁ (linked s') e h' q =
              let t = to_is root s s' (start_of callee s.placed) refl h₁ h' e in
              record {
                s = rewritten (start + slot) (pointing reference? (get_or later.starts callee 0) (start + slot)) s';
                holds = point_holds placed.gives.valid reference? (start + slot) (get_or later.starts callee 0) still_in to_low h';
                same = q ∙ ap (λ n. visiting o (lent_by b₀) root row start (function_slots o.functions row - (slot + 1)) (slot + 1) (rewritten (start + slot) (pointing reference? n (start + slot)) s')) (sym t);
              }
          after_left root s₀ h s h₁ (refuses why) e is q = absurd is
          after_left root s₀ h s h₁ unfinished e a q = absurd a

          pub visit_pointed : Inv o st₀ b₀ row start (function_slots o.functions row) later
              (buffers (pointed_to reference? b'.image (start + slot) (get_or later.starts callee 0)) b'.funcs b'.lines) (slot + 1)
          visit_pointed = record {
            within = omega arith;
            valid = point_valid placed.gives.valid reference? (start + slot) (get_or later.starts callee 0) still_in to_low;
            grown = grown_trans inv.grown placed.gives.grown;
            lengths = lens ∙ placed.gives.lengths ∙ inv.lengths;
            left = λ root s₀ h. let l = inv.left root s₀ h in
                after_left root s₀ h l.s l.holds (placing o (lent_by b₀) root (start_of callee l.s.placed) callee l.s) refl (agreed (Ok later) b' placed root l.s l.holds) (pointed root s₀ h);
          }
            where
              lens : lent_by (buffers (pointed_to reference? b'.image (start + slot) (get_or later.starts callee 0)) b'.funcs b'.lines) ≡ lent_by b'
              lens = rw (point_length b'.image (start + slot) (get_or later.starts callee 0) (8 * later.used.slots) (omega (arith, to_low)) (omega (arith, still_in, placed.gives.valid.most)) (omega (arith, still_in)) placed.gives.valid.slots reference?)
