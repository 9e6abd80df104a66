-- The domain is its clauses, neither more nor less: what the proofs take of it, and how it is put together.
-- Assumes nothing.
use mathlib.Core.Path.{◌≡◌}
use Prim.Native.Nat.{ℕ}
use native.Mathlib.Omega.{arith}
use Rattle.rules.specs.Tables.{Tables}
use Rattle.rules.specs.Records.{Room}
use Rattle.equality.specs.Domain.{Hidden, MapClauses, CallDomain}
use Rattle.equality.specs.Demand2.{Valid, ComparedOnly, AfterMaps, Clause, valid_tables, compared_only, one_refusable, five_not_text, five_no_map, map_alone, call_below, reference_below, callees_differ, function_count, line_count, Holds, Domain, Except}

module _ {tables : Tables} {hidden : Hidden} {room : Room} {root : ℕ} where
  pub map_clauses : Domain tables hidden room root → MapClauses tables hidden
  map_clauses d = record {
    orders = d.orders;
    alone = d.holds map_alone tt;
    single = d.holds one_refusable tt;
    not_text = d.holds five_not_text tt;
    no_map = d.holds five_no_map tt;
  }

  pub call_clauses : Domain tables hidden room root → AfterMaps tables (λ after. CallDomain after hidden room root)
  call_clauses d instructions count e = record {
    calls = d.holds call_below tt instructions count e;
    references = d.holds reference_below tt instructions count e;
    differ = d.holds callees_differ tt instructions count e;
    func_num = d.holds function_count tt instructions count e;
    line_num = d.holds line_count tt instructions count e;
  }

  pub domain_of : Valid tables room root → MapClauses tables hidden → ComparedOnly tables room root → AfterMaps tables (λ after. CallDomain after hidden room root)
      → Domain tables hidden room root
  domain_of valid maps compared calls = record { orders = maps.orders; holds = λ c asked. each c }
    where
      each : (c : Clause) → Holds c tables hidden room root
      each valid_tables = valid
      each compared_only = compared
      each one_refusable = maps.single
      each five_not_text = maps.not_text
      each five_no_map = maps.no_map
      each map_alone = maps.alone
      each call_below = λ instructions count e. (calls instructions count e).calls
      each reference_below = λ instructions count e. (calls instructions count e).references
      each callees_differ = λ instructions count e. (calls instructions count e).differ
      each function_count = λ instructions count e. (calls instructions count e).func_num
      each line_count = λ instructions count e. (calls instructions count e).line_num

  -- all but one, and that one
  pub with_valid : Valid tables room root → Except valid_tables tables hidden room root → Domain tables hidden room root
  with_valid valid d = record { orders = d.orders; holds = λ c asked. each c }
    where
      each : (c : Clause) → Holds c tables hidden room root
      each valid_tables = valid
      each compared_only = d.holds compared_only (λ e. let z : ◌≡◌ {A = ℕ} 0 1 = cc in omega arith)
      each one_refusable = d.holds one_refusable (λ e. let z : ◌≡◌ {A = ℕ} 0 1 = cc in omega arith)
      each five_not_text = d.holds five_not_text (λ e. let z : ◌≡◌ {A = ℕ} 0 1 = cc in omega arith)
      each five_no_map = d.holds five_no_map (λ e. let z : ◌≡◌ {A = ℕ} 0 1 = cc in omega arith)
      each map_alone = d.holds map_alone (λ e. let z : ◌≡◌ {A = ℕ} 0 1 = cc in omega arith)
      each call_below = d.holds call_below (λ e. let z : ◌≡◌ {A = ℕ} 0 1 = cc in omega arith)
      each reference_below = d.holds reference_below (λ e. let z : ◌≡◌ {A = ℕ} 0 1 = cc in omega arith)
      each callees_differ = d.holds callees_differ (λ e. let z : ◌≡◌ {A = ℕ} 0 1 = cc in omega arith)
      each function_count = d.holds function_count (λ e. let z : ◌≡◌ {A = ℕ} 0 1 = cc in omega arith)
      each line_count = d.holds line_count (λ e. let z : ◌≡◌ {A = ℕ} 0 1 = cc in omega arith)

  pub fewer : (x : Clause) → Domain tables hidden room root → Except x tables hidden room root
  fewer x d = record { orders = d.orders; holds = λ c asked. d.holds c tt }
