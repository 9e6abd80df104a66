-- A test for each clause of the domain, enough for small inputs: where it passes, the clause holds.
-- Assumes nothing.
use mathlib.Core.Path.{◌≡◌, refl, sym, ◌∙◌, ap, subst}
use mathlib.Core.Logic.{◌≢◌, ◌⊎◌, inl, inr}
use mathlib.Core.Bool.{Bool, true, false, cond, not, ◌&&◌, ◌||◌}
use mathlib.Core.Option.{Option, none, some}
use mathlib.Core.List.Memᴰ
use mathlib.Core.List.{List, [], ◌∷◌, Memᴰ}
use Prim.Native.Nat.{ℕ, zero, suc, ◌+◌, ◌*◌, ◌<◌}
use native.Mathlib.Omega.{arith}
use lib.IntN.{ℤ, pos, negsuc}
use lib.Dec.{eqb, ltb, leb}
use lib.ListN.{length, get_or}
use borrow.Author.Tests.{eqb-true, ltb-true, leb-true, eq-eqb}
use Rattle.rules.specs.Object.{Insn, is_call}
use Rattle.rules.specs.Faithful.{blank, slot_at}
use Rattle.rules.specs.Link.{Refusal}
use Rattle.rules.specs.Bytes.{Fits, half32}
use Rattle.rules.specs.Tables.{SymbolKind, other, text, section, Symbol, Function, Relocation, MapRow, Tables, no_function, row_of, base, insn_of, function_records_of, lines_of, Earlier, RowsRise}
use Rattle.rules.specs.Maps as Maps
use Rattle.rules.specs.Maps.{Task, Verdict, skipped, refused, applies, has_none, is_symbol, fits32, judge, all_tasks, first_refusal, symbol_of, MapOutcome, mapped, map_step, only}
use Rattle.rules.specs.Rows.{most_image_slots, most_image_functions, most_image_lines, most_function_slots}
use Rattle.rules.specs.Records.{Room}
use Rattle.rules.proofs.Passed.{and_left, and_right}
use Rattle.equality.specs.Domain.{2⁴⁸, Limits, reached, Compared, top_immediate, CallsBelow, ReferencesBelow, CalleesDiffer, FunctionCount, LineCount, Once, Orders, Alone, OneRefusable, Fives, with_instructions}
use Rattle.equality.specs.Demand2.{Answer, image, refusal, endless, our_steps, Valid, ComparedOnly, AfterMaps, Clause, valid_tables, compared_only, one_refusable, five_not_text, five_no_map, map_alone, call_below, reference_below, callees_differ, function_count, line_count, Holds, Domain, Except}
use Rattle.equality.proofs.MapsCrate.{first_found}
use Rattle.equality.proofs.Perms.{perm_refl, only_perm}
use Rattle.equality.proofs.Valid.{whole_table}
use Rattle.equality.proofs.Inputs.{Input, hidden_of}

abbrev pub allb : {A : Type 0} → (A → Bool) → List A → Bool
allb test [] = true
allb test (x ∷ xs) = test x && allb test xs

pub all_member : {A : Type 0} (test : A → Bool) (xs : List A) → allb test xs ≡ true → (x : A) → Memᴰ x xs → test x ≡ true
all_member test [] e x m = absurd (Memᴰ.not-nil m)
all_member test (y ∷ ys) e x m = go (Memᴰ.cases_cons m) (λ m. all_member test ys (and_right (test y) (allb test ys) e) x m)
  where
    go : (x ≡ y) ⊎ Memᴰ x ys → (Memᴰ x ys → test x ≡ true) → test x ≡ true
    go (inl same) later = ap test same ∙ and_left (test y) (allb test ys) e
    go (inr m) later = later m

pub all_at : {A : Type 0} (test : A → Bool) (d : A) (xs : List A) → test d ≡ true → allb test xs ≡ true → (k : ℕ) → test (get_or xs k d) ≡ true
all_at test d [] t e k = t
all_at test d (x ∷ xs) t e zero = and_left (test x) (allb test xs) e
all_at test d (x ∷ xs) t e (suc k) = all_at test d xs t (and_right (test x) (allb test xs) e) k

never : {A : Type 0} → ◌≡◌ {A = Bool} true false → A
never e = let z : ◌≡◌ {A = ℕ} 0 1 = cc in absurd (omega arith)

pub or_right : (a b : Bool) → (a || b) ≡ true → a ≡ false → b ≡ true
or_right true b e f = absurd (never f)
or_right false b e f = e

not_both : (a : Bool) → not a ≡ true → a ≡ true → ⊥
not_both true e t = never (sym e)
not_both false e t = never (sym t)

-- the tests of a list, each by its number
abbrev itself : Bool → Bool
itself b = b

nth : (tests : List Bool) → allb itself tests ≡ true → (k : ℕ) → get_or tests k true ≡ true
nth tests e k = all_at itself true tests refl e k

fits_by : (z : ℤ) → fits32 z ≡ true → Fits half32 z
fits_by (pos n) e = ltb-true n half32 e
fits_by (negsuc n) e = ltb-true n half32 e

-- "Valid tables in our limits"
abbrev low : ℕ → Bool
low n = ltb n 2⁴⁸

abbrev plain_test : Insn → Bool
plain_test i = ltb i.opcode 256 && fits32 i.immediate

abbrev earlier_test : Relocation → Relocation → Bool
earlier_test r q = ltb r.home q.home || (eqb r.home q.home && ltb r.offset q.offset)

abbrev rising_test : List Relocation → Bool
rising_test [] = true
rising_test (r ∷ rs) = allb (earlier_test r) rs && rising_test rs

-- no symbol, or another
abbrev other_symbol : Option ℕ → MapRow → Bool
other_symbol none x = true
other_symbol (some s) x = not (is_symbol s x.symbol)

abbrev once_test : List MapRow → Bool
once_test [] = true
once_test (m ∷ ms) = allb (other_symbol m.symbol) ms && once_test ms

abbrev other_key : Function → Function → Bool
other_key f g = not (eqb f.home g.home && eqb f.address g.address)

abbrev keys_test : List Function → Bool
keys_test [] = true
keys_test (f ∷ fs) = allb (other_key f) fs && keys_test fs

abbrev valid_tests : Tables → Room → ℕ → List Bool
valid_tests tables room root =
    allb (λ f. low f.address) tables.functions
    ∷ allb (λ f. low f.offset) tables.functions
    ∷ allb (λ f. leb f.slots most_function_slots) tables.functions
    ∷ allb (λ s. low s.address) tables.symbols
    ∷ allb plain_test tables.instructions
    ∷ leb room.slots most_image_slots
    ∷ leb room.functions most_image_functions
    ∷ leb room.lines most_image_lines
    ∷ eqb (base tables (length tables.functions)) (length tables.instructions)
    ∷ rising_test tables.relocations
    ∷ once_test tables.maps
    ∷ allb (λ m. fits32 m.fd) tables.maps
    ∷ keys_test tables.functions
    ∷ ltb root (length tables.functions)
    ∷ []

earlier_by : (r q : Relocation) → earlier_test r q ≡ true → Earlier r q
earlier_by r q e = go (ltb r.home q.home) refl
  where
    go : (b : Bool) → ltb r.home q.home ≡ b → Earlier r q
    go true t = inl (ltb-true r.home q.home t)
    go false t =
        let rest = or_right (ltb r.home q.home) (eqb r.home q.home && ltb r.offset q.offset) e t in
        inr (
          eqb-true r.home q.home (and_left (eqb r.home q.home) (ltb r.offset q.offset) rest),
          ltb-true r.offset q.offset (and_right (eqb r.home q.home) (ltb r.offset q.offset) rest),
        )

rising_by : (rs : List Relocation) → rising_test rs ≡ true → RowsRise rs
rising_by [] e = tt
rising_by (r ∷ rs) e = (
  λ q m. earlier_by r q (all_member (earlier_test r) rs (and_left (allb (earlier_test r) rs) (rising_test rs) e) q m),
  rising_by rs (and_right (allb (earlier_test r) rs) (rising_test rs) e),
)

other_by : (o : Option ℕ) (x : MapRow) → other_symbol o x ≡ true → (s : ℕ) → o ≡ some s → x.symbol ≢ some s
other_by none x e s is = λ same. let z : ◌≡◌ {A = ℕ} 0 1 = cc in omega arith
other_by (some k) x e s is = λ same.
    let same_number : k ≡ s = cc in
    not_both (is_symbol k x.symbol) e (ap (is_symbol k) same ∙ eq-eqb s k (sym same_number))

once_by : (ms : List MapRow) → once_test ms ≡ true → Once ms
once_by [] e = tt
once_by (m ∷ ms) e = (
  λ x a s is. other_by m.symbol x (all_member (other_symbol m.symbol) ms (and_left (allb (other_symbol m.symbol) ms) (once_test ms) e) x a) s is,
  once_by ms (and_right (allb (other_symbol m.symbol) ms) (once_test ms) e),
)

member_at : {A : Type 0} (test : A → Bool) (d : A) (xs : List A) → allb test xs ≡ true → (k : ℕ) → k < length xs → test (get_or xs k d) ≡ true
member_at test d [] e k l = absurd (omega arith)
member_at test d (x ∷ xs) e zero l = and_left (test x) (allb test xs) e
member_at test d (x ∷ xs) e (suc k) l = member_at test d xs (and_right (test x) (allb test xs) e) k (omega arith)

both_equal : (f g : Function) → f.home ≡ g.home → f.address ≡ g.address → (eqb f.home g.home && eqb f.address g.address) ≡ true
both_equal f g h a = rw (eq-eqb f.home g.home h, eq-eqb f.address g.address a) refl

keys_by : (fs : List Function) → keys_test fs ≡ true → (a b : ℕ) → a < length fs → b < length fs
    → (get_or fs a no_function).home ≡ (get_or fs b no_function).home → (get_or fs a no_function).address ≡ (get_or fs b no_function).address → a ≡ b
keys_by [] e a b la lb h k = absurd (omega arith)
keys_by (f ∷ fs) e zero zero la lb h k = refl
keys_by (f ∷ fs) e zero (suc b) la lb h k =
    absurd (not_both (eqb f.home (get_or fs b no_function).home && eqb f.address (get_or fs b no_function).address)
    (member_at (other_key f) no_function fs (and_left (allb (other_key f) fs) (keys_test fs) e) b (omega arith)) (both_equal f (get_or fs b no_function) h k))
keys_by (f ∷ fs) e (suc a) zero la lb h k =
    absurd (not_both (eqb f.home (get_or fs a no_function).home && eqb f.address (get_or fs a no_function).address)
    (member_at (other_key f) no_function fs (and_left (allb (other_key f) fs) (keys_test fs) e) a (omega arith)) (both_equal f (get_or fs a no_function) (sym h) (sym k)))
keys_by (f ∷ fs) e (suc a) (suc b) la lb h k = ap suc (keys_by fs (and_right (allb (other_key f) fs) (keys_test fs) e) a b (omega arith) (omega arith) h k)

module _ (tables : Tables) (room : Room) (root : ℕ) (e : allb itself (valid_tests tables room root) ≡ true) where
  tested : (k : ℕ) → get_or (valid_tests tables room root) k true ≡ true
  tested = nth (valid_tests tables room root) e

  limits_by : Limits tables
  limits_by = record {
    addresses = λ row. ltb-true (row_of tables row).address 2⁴⁸ (all_at (λ f. low f.address) no_function tables.functions refl (tested 0) row);
    offsets = λ row. ltb-true (row_of tables row).offset 2⁴⁸ (all_at (λ f. low f.offset) no_function tables.functions refl (tested 1) row);
    slots = λ row. leb-true (row_of tables row).slots most_function_slots (all_at (λ f. leb f.slots most_function_slots) no_function tables.functions refl (tested 2) row);
    symbol_addresses = λ r s is.
        ltb-true s.address 2⁴⁸
        (all_member (λ s. low s.address) tables.symbols (tested 3) s (first_found (λ s. eqb s.index r.symbol) tables.symbols s is).0);
    plain = λ k.
        let t = all_at plain_test blank tables.instructions refl (tested 4) k in
        record {
          byte = ltb-true (slot_at tables.instructions k).opcode 256 (and_left (ltb (slot_at tables.instructions k).opcode 256) (fits32 (slot_at tables.instructions k).immediate) t);
          fits = fits_by (slot_at tables.instructions k).immediate (and_right (ltb (slot_at tables.instructions k).opcode 256) (fits32 (slot_at tables.instructions k).immediate) t);
        };
  }

  valid_by : Valid tables room root
  valid_by = record {
    limits = limits_by;
    room_limits = record {
      room_slots = leb-true room.slots most_image_slots (tested 5);
      room_functions = leb-true room.functions most_image_functions (tested 6);
      room_lines = leb-true room.lines most_image_lines (tested 7);
    };
    whole = whole_table tables (eqb-true (base tables (length tables.functions)) (length tables.instructions) (tested 8));
    rising = rising_by tables.relocations (tested 9);
    once = once_by tables.maps (tested 10);
    fds = λ m a. fits_by m.fd (all_member (λ m. fits32 m.fd) tables.maps (tested 11) m a);
    keys = keys_by tables.functions (tested 12);
    root_row = ltb-true root (length tables.functions) (tested 13);
  }

-- "no refusal but 3, 4, 5, 10"
abbrev compared_test : Answer → Bool
compared_test (image state) = true
compared_test (refusal why) = eqb why.number 3 || (eqb why.number 4 || (eqb why.number 5 || eqb why.number 10))
compared_test endless = true

compared_number : (n : ℕ) → (eqb n 3 || (eqb n 4 || (eqb n 5 || eqb n 10))) ≡ true → Compared n
compared_number n e = three (eqb n 3) refl e
  where
    five : (b : Bool) → eqb n 5 ≡ b → (b || eqb n 10) ≡ true → Compared n
    five true t e = inr (inr (inl (eqb-true n 5 t)))
    five false t e = inr (inr (inr (eqb-true n 10 e)))

    four : (b : Bool) → eqb n 4 ≡ b → (b || (eqb n 5 || eqb n 10)) ≡ true → Compared n
    four true t e = inr (inl (eqb-true n 4 t))
    four false t e = five (eqb n 5) refl e

    three : (b : Bool) → eqb n 3 ≡ b → (b || (eqb n 4 || (eqb n 5 || eqb n 10))) ≡ true → Compared n
    three true t e = inl (eqb-true n 3 t)
    three false t e = four (eqb n 4) refl e

compared_by : (tables : Tables) (room : Room) (root : ℕ) → compared_test (our_steps tables room root) ≡ true → ComparedOnly tables room root
compared_by tables room root e why is = compared_number why.number (ap compared_test (sym is) ∙ e)

-- the clauses on maps: none or one
abbrev few : {A : Type 0} → List A → Bool
few [] = true
few (x ∷ []) = true
few (x ∷ y ∷ xs) = false

few_same : {A : Type 0} (xs : List A) → few xs ≡ true → (x y : A) → Memᴰ x xs → Memᴰ y xs → x ≡ y
few_same [] e x y m n = absurd (Memᴰ.not-nil m)
few_same (a ∷ []) e x y m n = is x m ∙ sym (is y n)
  where
    last : (z : _) → (z ≡ a) ⊎ Memᴰ z [] → z ≡ a
    last z (inl e) = e
    last z (inr m) = absurd (Memᴰ.not-nil m)

    is : (z : _) → Memᴰ z (a ∷ []) → z ≡ a
    is z m = last z (Memᴰ.cases_cons m)
few_same (a ∷ b ∷ xs) e x y m n = absurd (never (sym e))

abbrev alone_test : List MapRow → Bool
alone_test maps = few maps || allb (λ m. not (has_none m.symbol)) maps

alone_by : (tables : Tables) → alone_test tables.maps ≡ true → Alone tables
alone_by tables e m x a b is h = go (few tables.maps) refl
  where
    go : (t : Bool) → few tables.maps ≡ t → x ≡ m
    go true t = few_same tables.maps t x m b a
    go false t =
        absurd (not_both (has_none m.symbol) (all_member (λ m. not (has_none m.symbol)) tables.maps (or_right (few tables.maps) (allb (λ m. not (has_none m.symbol)) tables.maps) e t) m a)
        (ap has_none is))

abbrev refusal_of : Tables → Option Refusal
refusal_of tables = first_refusal tables tables.instructions (all_tasks tables)

-- the tasks of the function that is refused
abbrev of_row : Option Refusal → List Task → List Task
of_row none ts = []
of_row (some why) ts = only (λ t. eqb t.row why.row) ts

abbrev refused_tasks : Tables → List Task
refused_tasks tables = of_row (refusal_of tables) (all_tasks tables)

kept : {A : Type 0} (test : A → Bool) (xs : List A) (x : A) → Memᴰ x xs → test x ≡ true → Memᴰ x (only test xs)
kept test [] x m t = m
kept test (y ∷ ys) x m t = go (test y) refl (Memᴰ.cases_cons m) (λ m. kept test ys x m t)
  where
    go : (b : Bool) → test y ≡ b → (x ≡ y) ⊎ Memᴰ x ys → (Memᴰ x ys → Memᴰ x (only test ys)) → Memᴰ x (cond b (y ∷ only test ys) (only test ys))
    go true is (inl e) later = Memᴰ.head e
    go true is (inr m) later = Memᴰ.tail (later m)
    go false is (inl e) later = absurd (never (sym t ∙ ap test e ∙ is))
    go false is (inr m) later = later m

among_refused : (tables : Tables) (why : Refusal) → refusal_of tables ≡ some why → (t : Task) → Memᴰ t (all_tasks tables) → t.row ≡ why.row → Memᴰ t (refused_tasks tables)
among_refused tables why is t m row =
    subst (λ o. Memᴰ t (of_row o (all_tasks tables))) (sym is) (kept (λ t. eqb t.row why.row) (all_tasks tables) t m (eq-eqb t.row why.row row))

single_by : (tables : Tables) → few (refused_tasks tables) ≡ true → OneRefusable tables
single_by tables e why is t u m n a b row row' j k = few_same (refused_tasks tables) e t u (among_refused tables why is t a row) (among_refused tables why is u b row')

abbrev is_five : Verdict → Bool
is_five skipped = false
is_five (refused n) = eqb n 5
is_five (applies c) = false

-- of a symbol that has a section
abbrev of_home : (ℕ → Bool) → Option ℕ → Bool
of_home test none = true
of_home test (some home) = test home

abbrev of_symbol : (Symbol → ℕ → Bool) → Option Symbol → Bool
of_symbol test none = true
of_symbol test (some s) = of_home (test s) s.home

module _ (tables : Tables) (test : Symbol → ℕ → Bool) where
  abbrev five_test : Task → Bool
  five_test t = not (is_five (judge tables tables.instructions t)) || of_symbol test (symbol_of tables t.relocation)

  abbrev fives_test : Bool
  fives_test = allb five_test (refused_tasks tables)

  fives_by : (Said : Symbol → ℕ → Type 0) → ((s : Symbol) (home : ℕ) → test s home ≡ true → Said s home) → fives_test ≡ true → Fives tables Said
  fives_by Said sound e why is t s home a row j sy h =
      sound s home
      (ap (of_home (test s)) (sym h) ∙ ap (of_symbol test) (sym sy)
      ∙ or_right (not (is_five (judge tables tables.instructions t))) (of_symbol test (symbol_of tables t.relocation)) (all_member five_test (refused_tasks tables) e t (among_refused tables why is t a row))
      (ap (λ v. not (is_five v)) j))

abbrev other_kind : SymbolKind → Bool
other_kind other = true
other_kind text = false
other_kind section = true

not_text_by : (s : Symbol) (home : ℕ) → other_kind s.kind ≡ true → s.kind ≢ text
not_text_by s home e = λ same. never (sym e ∙ ap other_kind same)

abbrev elsewhere : List MapRow → ℕ → Bool
elsewhere maps home = allb (λ m. not (eqb m.home home)) maps

no_map_by : (maps : List MapRow) (home : ℕ) → elsewhere maps home ≡ true → (m : MapRow) → Memᴰ m maps → m.home ≢ home
no_map_by maps home e m a = λ same. not_both (eqb m.home home) (all_member (λ m. not (eqb m.home home)) maps e m a) (eq-eqb m.home home same)

-- the clauses on calls, of the tables that the map step leaves
abbrev of_outcome : Tables → (Tables → Bool) → MapOutcome → Bool
of_outcome tables test (mapped instructions count) = test (with_instructions tables instructions)
of_outcome tables test (Maps.refuses why) = true

after_by : (tables : Tables) (test : Tables → Bool) (Said : Tables → Type 0) → ((t : Tables) → test t ≡ true → Said t) → of_outcome tables test (map_step tables) ≡ true → AfterMaps tables Said
after_by tables test Said sound e instructions count is = sound (with_instructions tables instructions) (ap (of_outcome tables test) (sym is) ∙ e)

abbrev is_top : ℤ → Bool
is_top (pos n) = eqb n 0x7fff_ffff
is_top (negsuc n) = false

abbrev call_test : Insn → Bool
call_test i = not (is_call i && is_top i.immediate)

abbrev calls_test : Tables → Bool
calls_test tables = allb call_test tables.instructions

calls_by : (tables : Tables) → calls_test tables ≡ true → CallsBelow tables
unfolding is_call
calls_by tables e row slot l is = λ top.
    not_both (is_call (insn_of tables row slot) && is_top (insn_of tables row slot).immediate)
    (all_at call_test blank tables.instructions refl e (base tables row + slot)) (rw (is, ap is_top top) refl)

-- no relocation has size 32, or no slot that immediate
abbrev references_test : Tables → Bool
references_test tables = allb (λ r. not (eqb r.size 32)) tables.relocations || allb (λ i. not (is_top i.immediate)) tables.instructions

references_by : (tables : Tables) → references_test tables ≡ true → ReferencesBelow tables
references_by tables e row slot r s home l at size sy h code = λ top. go (allb (λ r. not (eqb r.size 32)) tables.relocations) refl top
  where
    go : (b : Bool) → allb (λ r. not (eqb r.size 32)) tables.relocations ≡ b → (insn_of tables row slot).immediate ≡ top_immediate → ⊥
    go true t top =
        not_both (eqb r.size 32)
        (all_member (λ r. not (eqb r.size 32)) tables.relocations t r
        (first_found (λ r. eqb r.home (row_of tables row).home && eqb r.offset ((row_of tables row).offset + 8 * slot)) tables.relocations r at).0) (eq-eqb r.size 32 size)
    go false t top =
        not_both (is_top (insn_of tables row slot).immediate)
        (all_at (λ i. not (is_top i.immediate)) blank tables.instructions refl
        (or_right (allb (λ r. not (eqb r.size 32)) tables.relocations) (allb (λ i. not (is_top i.immediate)) tables.instructions) e t) (base tables row + slot))
        (ap is_top top)

module _ (tables : Tables) where
  -- the same row, or another address
  abbrev apart : ℕ → ℕ → Bool
  apart a b = eqb a b || not (eqb (row_of tables a).address (row_of tables b).address)

  abbrev differ_test : List ℕ → Bool
  differ_test rows = allb (λ a. allb (apart a) rows) rows

  differ_by : (room : Room) (root : ℕ) → differ_test (reached tables room root) ≡ true → CalleesDiffer tables room root
  differ_by room root e a b ra rb same = go (eqb a b) refl
    where
      test : apart a b ≡ true
      test = all_member (apart a) (reached tables room root) (all_member (λ a. allb (apart a) (reached tables room root)) (reached tables room root) e a ra) b rb

      go : (t : Bool) → eqb a b ≡ t → a ≡ b
      go true t = eqb-true a b t
      go false t =
          absurd (not_both (eqb (row_of tables a).address (row_of tables b).address)
          (or_right (eqb a b) (not (eqb (row_of tables a).address (row_of tables b).address)) test t) (eq-eqb (row_of tables a).address (row_of tables b).address same))

-- each clause's test, and what it gives
abbrev pub test : Clause → Input → Bool
test valid_tables i = allb itself (valid_tests i.tables i.room i.root)
test compared_only i = compared_test (our_steps i.tables i.room i.root)
test one_refusable i = few (refused_tasks i.tables)
test five_not_text i = fives_test i.tables (λ s home. other_kind s.kind)
test five_no_map i = fives_test i.tables (λ s home. elsewhere i.tables.maps home)
test map_alone i = alone_test i.tables.maps
test call_below i = of_outcome i.tables calls_test (map_step i.tables)
test reference_below i = of_outcome i.tables references_test (map_step i.tables)
test callees_differ i = of_outcome i.tables (λ t. differ_test t (reached t i.room i.root)) (map_step i.tables)
test function_count i = of_outcome i.tables (λ t. eqb i.func_num (length (function_records_of t i.root))) (map_step i.tables)
test line_count i = of_outcome i.tables (λ t. eqb i.line_num (length (lines_of t i.root))) (map_step i.tables)

pub test_holds : (i : Input) (c : Clause) → test c i ≡ true → Holds c i.tables (hidden_of i) i.room i.root
test_holds i valid_tables e = valid_by i.tables i.room i.root e
test_holds i compared_only e = compared_by i.tables i.room i.root e
test_holds i one_refusable e = single_by i.tables e
test_holds i five_not_text e = fives_by i.tables (λ s home. other_kind s.kind) (λ s home. s.kind ≢ text) not_text_by e
test_holds i five_no_map e =
    fives_by i.tables (λ s home. elsewhere i.tables.maps home) (λ s home. (m : MapRow) → Memᴰ m i.tables.maps → m.home ≢ home)
    (λ s home. no_map_by i.tables.maps home) e
test_holds i map_alone e = alone_by i.tables e
test_holds i call_below e = after_by i.tables calls_test CallsBelow calls_by e
test_holds i reference_below e = after_by i.tables references_test ReferencesBelow references_by e
test_holds i callees_differ e =
    after_by i.tables (λ t. differ_test t (reached t i.room i.root)) (λ t. CalleesDiffer t i.room i.root) (λ t. differ_by t i.room i.root) e
test_holds i function_count e =
    after_by i.tables (λ t. eqb i.func_num (length (function_records_of t i.root))) (λ t. FunctionCount t (hidden_of i) i.root)
    (λ t. eqb-true i.func_num (length (function_records_of t i.root))) e
test_holds i line_count e =
    after_by i.tables (λ t. eqb i.line_num (length (lines_of t i.root))) (λ t. LineCount t (hidden_of i) i.root)
    (λ t. eqb-true i.line_num (length (lines_of t i.root))) e

pub input_orders : (i : Input) → Orders i.tables (hidden_of i)
input_orders i = record { order = λ home. only_perm (λ r. eqb r.home home) i.reordered; map_order = perm_refl i.tables.maps }

-- the clauses by number, so that all but one are one test
abbrev clauses : List Clause
clauses = valid_tables ∷ compared_only ∷ one_refusable ∷ five_not_text ∷ five_no_map ∷ map_alone ∷ call_below ∷ reference_below ∷ callees_differ ∷ function_count ∷ line_count ∷ []

abbrev number_of : Clause → ℕ
number_of valid_tables = 0
number_of compared_only = 1
number_of one_refusable = 2
number_of five_not_text = 3
number_of five_no_map = 4
number_of map_alone = 5
number_of call_below = 6
number_of reference_below = 7
number_of callees_differ = 8
number_of function_count = 9
number_of line_count = 10

abbrev clause_at : ℕ → Clause
clause_at k = get_or clauses k valid_tables

numbered : (c : Clause) → clause_at (number_of c) ≡ c
numbered valid_tables = refl
numbered compared_only = refl
numbered one_refusable = refl
numbered five_not_text = refl
numbered five_no_map = refl
numbered map_alone = refl
numbered call_below = refl
numbered reference_below = refl
numbered callees_differ = refl
numbered function_count = refl
numbered line_count = refl

each : (passes : Clause → Bool) → allb passes clauses ≡ true → (c : Clause) → passes c ≡ true
each passes e valid_tables = member_at passes valid_tables clauses e 0 (omega arith)
each passes e compared_only = member_at passes valid_tables clauses e 1 (omega arith)
each passes e one_refusable = member_at passes valid_tables clauses e 2 (omega arith)
each passes e five_not_text = member_at passes valid_tables clauses e 3 (omega arith)
each passes e five_no_map = member_at passes valid_tables clauses e 4 (omega arith)
each passes e map_alone = member_at passes valid_tables clauses e 5 (omega arith)
each passes e call_below = member_at passes valid_tables clauses e 6 (omega arith)
each passes e reference_below = member_at passes valid_tables clauses e 7 (omega arith)
each passes e callees_differ = member_at passes valid_tables clauses e 8 (omega arith)
each passes e function_count = member_at passes valid_tables clauses e 9 (omega arith)
each passes e line_count = member_at passes valid_tables clauses e 10 (omega arith)

-- every clause but x
abbrev pub but_test : Clause → Input → Clause → Bool
but_test x i c = eqb (number_of c) (number_of x) || test c i

abbrev pub test_but : Clause → Input → Bool
test_but x i = allb (but_test x i) clauses

pub except_by : (x : Clause) (i : Input) → test_but x i ≡ true → Except x i.tables (hidden_of i) i.room i.root
except_by x i e = record { orders = input_orders i; holds = λ c another. go c another (eqb (number_of c) (number_of x)) refl }
  where
    go : (c : Clause) → c ≢ x → (b : Bool) → eqb (number_of c) (number_of x) ≡ b → Holds c i.tables (hidden_of i) i.room i.root
    go c another true t = absurd (another (sym (numbered c) ∙ ap clause_at (eqb-true (number_of c) (number_of x) t) ∙ numbered x))
    go c another false t = test_holds i c (or_right (eqb (number_of c) (number_of x)) (test c i) (each (but_test x i) e c) t)

-- every clause
abbrev pub test_all : Input → Bool
test_all i = allb (λ c. test c i) clauses

pub domain_by : (i : Input) → test_all i ≡ true → Domain i.tables (hidden_of i) i.room i.root
domain_by i e = record { orders = input_orders i; holds = λ c asked. test_holds i c (each (λ c. test c i) e c) }
