-- What a check refuses has a number that is not 0; and what passing gives: every table sound, the totals right, the root a row.
-- Assumes nothing.
use mathlib.Core.Path.{◌≡◌, refl, ap, ◌∙◌, subst}
use mathlib.Core.Bool.{Bool, true, false, cond}
use mathlib.Core.Option.{Option, none, some}
use mathlib.Core.List.Memᴰ
use mathlib.Core.List.{List, [], ◌∷◌, Memᴰ}
use mathlib.Core.Logic.{◌⊎◌, inl, inr, ◌≢◌}
use Prim.Native.Nat.{ℕ, ◌*◌, ◌<◌}
use native.Mathlib.Omega.{arith}
use borrow.Author.Tests.{eqb-true, ltb-true}
use lib.Dec.{eqb, ltb}
use lib.ListN.{length}
use Rattle.rules.specs.declared.Table.{Table}
use Rattle.rules.specs.declared.Table.TheVariants.{Code, Symbols, Functions, Relocations, Maps, Instructions, FuncInfo, LineInfo}
use Rattle.rules.specs.Answers.{Reply, reply}
use Rattle.rules.specs.Rows.{row_size, table_number, whole_rows, is_too_many, Offered, bytes_of, map_step_tables, link_tables, total, too_many, wrong_total, broken_in, or_broken, broken, or_else, no_root, map_step_refusal, link_refusal}
use Rattle.rules.specs.Lookups.{Checked, MapChecked, LinkChecked}

-- a refusal's number is not 0
abbrev Refuses : Option Reply → Type 0
Refuses none = Unit {0}
Refuses (some r) = r.number ≢ 0

too_many_refuses : (o : Offered) (ts : List Table) → Refuses (too_many o ts)
unfolding too_many
too_many_refuses o [] = tt
too_many_refuses o (t ∷ ts) = go (is_too_many t (bytes_of o t)) (too_many_refuses o ts)
  where
    go : (b : Bool) → Refuses (too_many o ts) → Refuses (cond b (some (reply 1 (table_number t) 0 0)) (too_many o ts))
    go true later = λ e. omega arith
    go false later = later

broken_refuses : (o : Offered) (ts : List Table) → Refuses (broken o ts)
unfolding broken
broken_refuses o [] = tt
broken_refuses o (t ∷ ts) = go (broken_in t o) (broken_refuses o ts)
  where
    go : (b : Option ℕ) → Refuses (broken o ts) → Refuses (or_broken b t (broken o ts))
    go none later = later
    go (some row) later = λ e. omega arith

root_refuses : (o : Offered) (root : ℕ) → Refuses (no_root o root)
root_refuses o root = go (ltb root (whole_rows Functions o.functions))
  where
    go : (b : Bool) → Refuses (cond b none (some (reply 13 0 0 0)))
    go true = tt
    go false = λ e. omega arith

either_refuses : (a b : Option Reply) → Refuses a → Refuses b → Refuses (or_else a b)
either_refuses none b ra rb = rb
either_refuses (some r) b ra rb = ra

map_refuses : (o : Offered) → Refuses (map_step_refusal o)
unfolding map_step_refusal
map_refuses o = either_refuses (too_many o map_step_tables) (broken o map_step_tables) (too_many_refuses o map_step_tables) (broken_refuses o map_step_tables)

link_refuses : (o : Offered) (root : ℕ) → Refuses (link_refusal o root)
unfolding link_refusal
link_refuses o root =
    either_refuses (too_many o link_tables) (or_else (broken o link_tables) (no_root o root)) (too_many_refuses o link_tables)
    (either_refuses (broken o link_tables) (no_root o root) (broken_refuses o link_tables) (root_refuses o root))

-- the number of what refuses is not 0
module _ (o : Offered) (r : Reply) where
  of_some : (x : Option Reply) → Refuses x → x ≡ some r → r.number ≢ 0
  of_some none n e = let z : ◌≡◌ {A = ℕ} 0 1 = cc in absurd (omega arith)
  of_some (some s) n e = let same : s ≡ r = cc in subst (λ (x : Reply). x.number ≢ 0) same n

  pub map_number : map_step_refusal o ≡ some r → r.number ≢ 0
  map_number e = of_some (map_step_refusal o) (map_refuses o) e

  pub link_number : (root : ℕ) → link_refusal o root ≡ some r → r.number ≢ 0
  link_number root e = of_some (link_refusal o root) (link_refuses o root) e

-- ---- what passing gives
or_none_lem : (a b : Option Reply) → or_else a b ≡ none → (a ≡ none) × (b ≡ none)
or_none_lem none b e = (refl, e)
or_none_lem (some r) b e = let z : ◌≡◌ {A = ℕ} 0 1 = cc in absurd (omega arith)

module _ (o : Offered) where
  all_few : (ts : List Table) → too_many o ts ≡ none → (t : Table) → Memᴰ t ts → is_too_many t (bytes_of o t) ≡ false
  unfolding too_many
  all_few [] e t m = absurd (Memᴰ.not-nil m)
  all_few (u ∷ ts) e t m = go (is_too_many u (bytes_of o u)) refl e (Memᴰ.cases_cons m) (λ rest. all_few ts rest t)
    where
      go : (b : Bool) → is_too_many u (bytes_of o u) ≡ b → cond b (some (reply 1 (table_number u) 0 0)) (too_many o ts) ≡ none → (t ≡ u) ⊎ Memᴰ t ts
          → (too_many o ts ≡ none → Memᴰ t ts → is_too_many t (bytes_of o t) ≡ false) → is_too_many t (bytes_of o t) ≡ false
      go true f e w later = let z : ◌≡◌ {A = ℕ} 0 1 = cc in absurd (omega arith)
      go false f e (inl same) later = ap (λ x. is_too_many x (bytes_of o x)) same ∙ f
      go false f e (inr m) later = later e m

  all_whole : (ts : List Table) → broken o ts ≡ none → (t : Table) → Memᴰ t ts → broken_in t o ≡ none
  unfolding broken
  all_whole [] e t m = absurd (Memᴰ.not-nil m)
  all_whole (u ∷ ts) e t m = go (broken_in u o) refl e (Memᴰ.cases_cons m) (λ rest. all_whole ts rest t)
    where
      go : (b : Option ℕ) → broken_in u o ≡ b → or_broken b u (broken o ts) ≡ none → (t ≡ u) ⊎ Memᴰ t ts
          → (broken o ts ≡ none → Memᴰ t ts → broken_in t o ≡ none) → broken_in t o ≡ none
      go (some row) f e w later = let z : ◌≡◌ {A = ℕ} 0 1 = cc in absurd (omega arith)
      go none f e (inl same) later = ap (λ x. broken_in x o) same ∙ f
      go none f e (inr m) later = later e m

  exact : (t : Table) → wrong_total t o ≡ none → length (bytes_of o t) ≡ row_size t * total t o.functions
  exact t e = go (eqb (length (bytes_of o t)) (row_size t * total t o.functions)) refl e
    where
      go : (b : Bool) → eqb (length (bytes_of o t)) (row_size t * total t o.functions) ≡ b → cond {A = Option ℕ} b none (some 0) ≡ none
          → length (bytes_of o t) ≡ row_size t * total t o.functions
      go true f e = eqb-true _ _ f
      go false f e = let z : ◌≡◌ {A = ℕ} 0 1 = cc in absurd (omega arith)

at0 : {x : Table} {xs : List Table} → Memᴰ x (x ∷ xs)
at0 = Memᴰ.head refl

at4 : {x a b c d : Table} {xs : List Table} → Memᴰ x (a ∷ b ∷ c ∷ d ∷ x ∷ xs)
at4 = Memᴰ.tail (Memᴰ.tail (Memᴰ.tail (Memᴰ.tail at0)))

-- tables 1 to 4 are the first given, and table 6 is among the rest
module _ (o : Offered) (rest : List Table) (few : (t : Table) → Memᴰ t (Code ∷ Symbols ∷ Functions ∷ Relocations ∷ rest) → is_too_many t (bytes_of o t) ≡ false)
    (ok : (t : Table) → Memᴰ t (Code ∷ Symbols ∷ Functions ∷ Relocations ∷ rest) → broken_in t o ≡ none) (m : Memᴰ Instructions (Code ∷ Symbols ∷ Functions ∷ Relocations ∷ rest)) where
  checked : Checked o
  unfolding broken_in
  checked = record {
    code = record { few = few Code at0; unbroken = ok Code at0 };
    symbols = record { few = few Symbols (Memᴰ.tail at0); unbroken = ok Symbols (Memᴰ.tail at0) };
    functions = record { few = few Functions (Memᴰ.tail (Memᴰ.tail at0)); unbroken = ok Functions (Memᴰ.tail (Memᴰ.tail at0)) };
    relocations = record {
      few = few Relocations (Memᴰ.tail (Memᴰ.tail (Memᴰ.tail at0)));
      unbroken = ok Relocations (Memᴰ.tail (Memᴰ.tail (Memᴰ.tail at0)));
    };
    few = few Instructions m;
    instructions = exact o Instructions (ok Instructions m);
  }

pub map_checked : (o : Offered) → map_step_refusal o ≡ none → MapChecked o
unfolding map_step_refusal broken_in
map_checked o e =
    let p = or_none_lem (too_many o map_step_tables) (broken o map_step_tables) e in
    let few = all_few o map_step_tables p.0 in
    let ok = all_whole o map_step_tables p.1 in
    record {
      tables = checked o (Maps ∷ Instructions ∷ []) few ok (Memᴰ.tail at4);
      maps = record { few = few Maps at4; unbroken = ok Maps at4 };
    }

module _ (o : Offered) (root : ℕ) (e : link_refusal o root ≡ none) where
  few_whole : (too_many o link_tables ≡ none) × (or_else (broken o link_tables) (no_root o root) ≡ none)
  unfolding link_refusal
  few_whole = or_none_lem (too_many o link_tables) (or_else (broken o link_tables) (no_root o root)) e

  whole_root : (broken o link_tables ≡ none) × (no_root o root ≡ none)
  whole_root = or_none_lem (broken o link_tables) (no_root o root) few_whole.1

  pub link_checked : LinkChecked o
  unfolding broken_in
  link_checked =
      let few = all_few o link_tables few_whole.0 in
      let ok = all_whole o link_tables whole_root.0 in
      record {
        tables = checked o (Instructions ∷ FuncInfo ∷ LineInfo ∷ []) few ok at4;
        few_functions = few FuncInfo (Memᴰ.tail at4);
        few_lines = few LineInfo (Memᴰ.tail (Memᴰ.tail at4));
        func_info = exact o FuncInfo (ok FuncInfo (Memᴰ.tail at4));
        line_info = exact o LineInfo (ok LineInfo (Memᴰ.tail (Memᴰ.tail at4)));
      }

  pub root_is_row : root < whole_rows Functions o.functions
  root_is_row = root_below (ltb root (whole_rows Functions o.functions)) refl whole_root.1
    where
      root_below : (b : Bool) → ltb root (whole_rows Functions o.functions) ≡ b → cond b none (some (reply 13 0 0 0)) ≡ none → root < whole_rows Functions o.functions
      root_below true f e = ltb-true _ _ f
      root_below false f e = let z : ◌≡◌ {A = ℕ} 0 1 = cc in absurd (omega arith)
