-- No clause of the readers' domain can be dropped: each input of proofs/ReaderInputs.antt is outside its clause and meets all others, and ours refuses it.
-- Assumes nothing.
use mathlib.Core.Path.{◌≡◌, refl, sym, ap, ◌∙◌}
use mathlib.Core.Logic.{◌≢◌}
use mathlib.Core.Bool.{Bool, true, false, cond, not, ◌&&◌, ◌||◌}
use mathlib.Core.List.{List, [], ◌∷◌, Memᴰ}
use Prim.Native.Nat.{ℕ, zero, suc, ◌+◌, ◌*◌, ◌%◌, ◌<◌}
use native.Mathlib.Omega.{arith}
use native.Mathlib.Nat.{add-zero, zero-add}
use lib.Dec.{eqb, leb, ltb}
use lib.ListN.{length}
use borrow.Author.Tests.{eqb-true, eq-eqb, leb-true, le-leb, ltb-true}
use Rattle.rules.specs.Bytes.{Order, byte_at, AreBytes, u32_at, padded}
use Rattle.rules.specs.Answers.{reply}
use Rattle.rules.specs.Rows.{row_size}
use Rattle.rules.specs.Readers.{Info, on_grid, is_whole, rows_of_records, Read, read, read_records}
use Rattle.rules.proofs.Passed.{and_left, and_right}
use Rattle.equality.specs.Readers.{Records, func, line, table_of, crate_reads, least_size, ReaderClause, record_size, whole_data, on_the_grid, has_room, ReaderHolds, ReaderDomain, ReaderExcept, SameRecords, EqualRecords}
use Rattle.equality.proofs.Checks.{allb, all_member, all_at, or_right}
use Rattle.equality.proofs.Readers.{grid_passes}
use Rattle.equality.proofs.ReaderInputs.{ReaderInput, inside, inputs_for}

-- ---- where each stands: a test for each clause

abbrev test : ReaderClause → Records → ReaderInput → Bool
test record_size t i = leb (least_size t) i.info.size
test whole_data t i = eqb (i.info.count * i.info.size) (length i.info.bytes)
test on_the_grid t i = on_grid i.order i.info 0 i.info.count
test has_room t i = leb (i.info.count * row_size (table_of t)) i.room

abbrev clauses : List ReaderClause
clauses = record_size ∷ whole_data ∷ on_the_grid ∷ has_room ∷ []

abbrev number_of : ReaderClause → ℕ
number_of record_size = 0
number_of whole_data = 1
number_of on_the_grid = 2
number_of has_room = 3

-- every clause but one
abbrev but_test : ReaderClause → Records → ReaderInput → ReaderClause → Bool
but_test x t i c = eqb (number_of c) (number_of x) || test c t i

abbrev is_done : Records → ReaderInput → Bool
is_done t i = eqb (read_records i.order (table_of t) i.info i.room).reply.number 0

-- inside every clause but one, outside that one, and refused by ours; the data are bytes
abbrev stands : ReaderClause → Records → ReaderInput → Bool
stands x t i = allb (but_test x t i) clauses && (allb (λ b. ltb b 256) i.info.bytes && (not (test x t i) && not (is_done t i)))

all_stand : (t : Records) (x : ReaderClause) → allb (stands x t) (inputs_for t x) ≡ true
unfolding u32_at padded is_whole read_records
all_stand func record_size = refl
all_stand func whole_data = refl
all_stand func on_the_grid = refl
all_stand func has_room = refl
all_stand line record_size = refl
all_stand line whole_data = refl
all_stand line on_the_grid = refl
all_stand line has_room = refl

-- inside every clause
abbrev stands_inside : Records → ReaderInput → Bool
stands_inside t i = allb (λ c. test c t i) clauses && allb (λ b. ltb b 256) i.info.bytes

all_inside : (t : Records) → allb (stands_inside t) (inside t) ≡ true
unfolding u32_at
all_inside func = refl
all_inside line = refl

-- ---- a clause holds where its test passes, and only there

grid_at : (order : Order) (info : Info) (k n j : ℕ) → on_grid order info k n ≡ true → j < n → u32_at order info.bytes (info.size * (k + j)) % 8 ≡ 0
grid_at order info k zero j e l = absurd (omega arith)
grid_at order info k (suc n) zero e l =
    rw (add-zero k) (eqb-true _ _ (and_left (eqb (u32_at order info.bytes (info.size * k) % 8) 0) (on_grid order info (suc k) n) e))
grid_at order info k (suc n) (suc j) e l =
    let s : k + suc j ≡ suc k + j = omega arith in
    rw s (grid_at order info (suc k) n j (and_right (eqb (u32_at order info.bytes (info.size * k) % 8) 0) (on_grid order info (suc k) n) e) (omega arith))

abbrev Stands : ReaderClause → Records → ReaderInput → Type 0
Stands c t i = ReaderHolds c t i.order i.info i.room

test_holds : (c : ReaderClause) (t : Records) (i : ReaderInput) → test c t i ≡ true → Stands c t i
test_holds record_size t i e = leb-true (least_size t) i.info.size e
test_holds whole_data t i e = eqb-true (i.info.count * i.info.size) (length i.info.bytes) e
test_holds on_the_grid t i e = λ k l. rw zero-add at (grid_at i.order i.info 0 i.info.count k e l)
test_holds has_room t i e = leb-true (i.info.count * row_size (table_of t)) i.room e

holds_test : (c : ReaderClause) (t : Records) (i : ReaderInput) → Stands c t i → test c t i ≡ true
holds_test record_size t i h = le-leb (least_size t) i.info.size h
holds_test whole_data t i h = eq-eqb (i.info.count * i.info.size) (length i.info.bytes) h
holds_test on_the_grid t i h = grid_passes i.order i.info 0 i.info.count (λ j a b. h j (omega arith))
holds_test has_room t i h = le-leb (i.info.count * row_size (table_of t)) i.room h

-- ---- ours accepts inside the domain, and nowhere else

module _ (t : Records) (order : Order) (info : Info) (room : ℕ) where
  abbrev answer : Bool → Bool → Read
  answer whole roomy =
      cond whole
      (cond roomy (read (reply 0 info.count 0 0) (padded room (rows_of_records order (table_of t) info 0 info.count))) (read (reply 11 0 0 0) (padded room [])))
      (read (reply 14 0 0 0) (padded room []))

  by : (whole roomy : Bool) → is_whole order (table_of t) info ≡ whole → leb (info.count * row_size (table_of t)) room ≡ roomy
      → (answer whole roomy).reply.number ≡ 0 → (is_whole order (table_of t) info ≡ true) × (leb (info.count * row_size (table_of t)) room ≡ true)
  by true true w r z = (w, r)
  by true false w r z = absurd (omega arith)
  by false roomy w r z = absurd (omega arith)

  passed : (read_records order (table_of t) info room).reply.number ≡ 0
      → (is_whole order (table_of t) info ≡ true) × (leb (info.count * row_size (table_of t)) room ≡ true)
  unfolding read_records
  passed z = by (is_whole order (table_of t) info) (leb (info.count * row_size (table_of t)) room) refl refl z

  sized : (r : Records) → leb (row_size (table_of r)) info.size ≡ leb (least_size r) info.size
  sized func = refl
  sized line = refl

  tests : is_whole order (table_of t) info ≡ true → leb (info.count * row_size (table_of t)) room ≡ true
      → (c : ReaderClause) → test c t (record { order = order; info = info; room = room }) ≡ true
  unfolding is_whole
  tests w r record_size = sym (sized t) ∙ and_left (leb (row_size (table_of t)) info.size) _ w
  tests w r whole_data =
      and_left (eqb (info.count * info.size) (length info.bytes)) _ (and_right (leb (row_size (table_of t)) info.size) _ w)
  tests w r on_the_grid =
      and_right (eqb (info.count * info.size) (length info.bytes)) _ (and_right (leb (row_size (table_of t)) info.size) _ w)
  tests w r has_room = r

  pub accepted_inside : AreBytes info.bytes → (read_records order (table_of t) info room).reply.number ≡ 0 → ReaderDomain t order info room
  accepted_inside are z = record {
    bytes = are;
    holds = λ c asked. test_holds c t (record { order = order; info = info; room = room }) (tests (passed z).0 (passed z).1 c);
  }

-- ---- each input

abbrev clause_at : ℕ → ReaderClause
clause_at zero = record_size
clause_at (suc zero) = whole_data
clause_at (suc (suc zero)) = on_the_grid
clause_at (suc (suc (suc n))) = has_room

numbered : (c : ReaderClause) → clause_at (number_of c) ≡ c
numbered record_size = refl
numbered whole_data = refl
numbered on_the_grid = refl
numbered has_room = refl

member : (c : ReaderClause) → Memᴰ c clauses
member record_size = Memᴰ.head refl
member whole_data = Memᴰ.tail (Memᴰ.head refl)
member on_the_grid = Memᴰ.tail (Memᴰ.tail (Memᴰ.head refl))
member has_room = Memᴰ.tail (Memᴰ.tail (Memᴰ.tail (Memᴰ.head refl)))

not_both : (b : Bool) → not b ≡ true → b ≡ true → ⊥
not_both true e t = let z : ◌≡◌ {A = ℕ} 0 1 = cc in omega arith
not_both false e t = let z : ◌≡◌ {A = ℕ} 0 1 = cc in omega arith

-- data that are bytes
are_bytes : (bytes : List ℕ) → allb (λ b. ltb b 256) bytes ≡ true → (k : ℕ) → byte_at bytes k < 256
are_bytes bytes e k = ltb-true (byte_at bytes k) 256 (all_at (λ b. ltb b 256) 0 bytes refl e k)

-- the domain is not empty
pub in_reader_domain : (t : Records) (i : ReaderInput) → Memᴰ i (inside t) → ReaderDomain t i.order i.info i.room
in_reader_domain t i among =
    let e = all_member (stands_inside t) (inside t) (all_inside t) i among in
    record {
      bytes = are_bytes i.info.bytes (and_right (allb (λ c. test c t i) clauses) (allb (λ b. ltb b 256) i.info.bytes) e);
      holds = λ c asked. test_holds c t i
          (all_member (λ c. test c t i) clauses (and_left (allb (λ c. test c t i) clauses) (allb (λ b. ltb b 256) i.info.bytes) e) c (member c));
    }

-- in the domain but for one clause, outside that one, and unequal
pub record ReaderNeeded (t : Records) (x : ReaderClause) (i : ReaderInput) : Type 0 where
  pub within : ReaderExcept x t i.order i.info i.room
  pub outside : ReaderHolds x t i.order i.info i.room → ⊥
  pub unequal : SameRecords t i.order i.room (read_records i.order (table_of t) i.info i.room) (crate_reads t i.order i.info) → ⊥

module _ (t : Records) (x : ReaderClause) (i : ReaderInput) (among : Memᴰ i (inputs_for t x)) where
  abbrev all_others : Bool
  all_others = allb (but_test x t i) clauses

  abbrev all_bytes_lem : Bool
  all_bytes_lem = allb (λ b. ltb b 256) i.info.bytes

  abbrev done : Bool
  done = is_done t i

  it_stands : stands x t i ≡ true
  it_stands = all_member (stands x t) (inputs_for t x) (all_stand t x) i among

  after_others : (all_bytes_lem && (not (test x t i) && not done)) ≡ true
  after_others = and_right all_others (all_bytes_lem && (not (test x t i) && not done)) it_stands

  after_bytes : (not (test x t i) && not done) ≡ true
  after_bytes = and_right all_bytes_lem (not (test x t i) && not done) after_others

  pub reader_needed : ReaderNeeded t x i
  reader_needed = record {
    within = record {
      bytes = are_bytes i.info.bytes (and_left all_bytes_lem (not (test x t i) && not done) after_others);
      holds = λ c another. go c another (eqb (number_of c) (number_of x)) refl;
    };
    outside = λ h. not_both (test x t i) (and_left (not (test x t i)) (not done) after_bytes) (holds_test x t i h);
    unequal = λ same. not_both done (and_right (not (test x t i)) (not done) after_bytes) (eq-eqb _ 0 (ap (λ r. r.number) same.replied));
  }
    where
      go : (c : ReaderClause) → c ≢ x → (b : Bool) → eqb (number_of c) (number_of x) ≡ b → Stands c t i
      go c another true e = absurd (another (sym (numbered c) ∙ ap clause_at (eqb-true (number_of c) (number_of x) e) ∙ numbered x))
      go c another false e =
          test_holds c t i
          (or_right (eqb (number_of c) (number_of x)) (test c t i)
          (all_member (but_test x t i) clauses
          (and_left all_others (all_bytes_lem && (not (test x t i) && not done)) it_stands) c (member c)) e)

-- demand 2 of the readers without the clause x
abbrev pub ReadersWithout : ReaderClause → Records → Type 0
ReadersWithout x = EqualRecords (λ c. c ≢ x)

by_input : (t : Records) (x : ReaderClause) (i : ReaderInput) → Memᴰ i (inputs_for t x) → ReadersWithout x t → ⊥
by_input t x i among theorem =
    let n = reader_needed t x i among in
    n.unequal (theorem i.order i.info i.room n.within)

-- ... is false, whichever it is, of function records and of line records
pub none_dropped_readers : (t : Records) (x : ReaderClause) → ReadersWithout x t → ⊥
none_dropped_readers func record_size = by_input func record_size _ (Memᴰ.head refl)
none_dropped_readers func whole_data = by_input func whole_data _ (Memᴰ.head refl)
none_dropped_readers func on_the_grid = by_input func on_the_grid _ (Memᴰ.head refl)
none_dropped_readers func has_room = by_input func has_room _ (Memᴰ.head refl)
none_dropped_readers line record_size = by_input line record_size _ (Memᴰ.head refl)
none_dropped_readers line whole_data = by_input line whole_data _ (Memᴰ.head refl)
none_dropped_readers line on_the_grid = by_input line on_the_grid _ (Memᴰ.head refl)
none_dropped_readers line has_room = by_input line has_room _ (Memᴰ.head refl)
