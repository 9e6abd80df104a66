-- The sizes of what is shown: what passing says of the lengths.
-- Assumes nothing.
use mathlib.Core.Path.{◌≡◌, refl}
use mathlib.Core.Bool.{Bool, true, false, cond}
use mathlib.Core.Option.{none, some}
use mathlib.Core.List.{List}
use Prim.Native.Nat.{ℕ, ◌*◌, ◌/◌, ◌%◌, ◌≤◌}
use native.Mathlib.Omega.{arith}
use borrow.Author.Tests.{eqb-true, leb-true}
use lib.Dec.{eqb, leb}
use lib.ListN.{length}
use Rattle.rules.specs.declared.Table.TheVariants.{Instructions, FuncInfo, LineInfo}
use Rattle.rules.specs.Answers.{reply}
use Rattle.rules.specs.Rows.{row_size, most_image_slots, most_image_functions, most_image_lines, table_number}
use Rattle.rules.specs.Pieces.{piece_size}
use Rattle.rules.specs.Examine.{Shown, list_number, size_wrong, sizes_wrong}
use Rattle.examine.proofs.Firsts.{neither}

pub record Whole (size most : ℕ) (t : List ℕ) : Type 0 where
  pub few : length t ≤ size * most
  pub whole : length t % size ≡ 0

whole_by : (number size most : ℕ) (t : List ℕ) → size_wrong number size most t ≡ none → Whole size most t
unfolding size_wrong
whole_by number size most t e = go (leb (length t) (size * most)) (eqb (length t % size) 0) refl refl e
  where
    go : (b c : Bool) → leb (length t) (size * most) ≡ b → eqb (length t % size) 0 ≡ c
        → cond b (cond c none (some (reply 34 number (length t / size) 0))) (some (reply 33 number 0 0)) ≡ none → Whole size most t
    go true true p q e = record { few = leb-true (length t) (size * most) p; whole = eqb-true (length t % size) 0 q }
    go true false p q e = let z : ◌≡◌ {A = ℕ} 0 1 = cc in absurd (omega arith)
    go false c p q e = let z : ◌≡◌ {A = ℕ} 0 1 = cc in absurd (omega arith)

pub record Fit (s : Shown) : Type 0 where
  pub image : Whole (row_size Instructions) most_image_slots s.image
  pub funcs : Whole (row_size FuncInfo) most_image_functions s.func_info
  pub lines : Whole (row_size LineInfo) most_image_lines s.line_info
  pub pieces : Whole piece_size most_image_slots s.pieces

pub sizes_fit : (s : Shown) → sizes_wrong s ≡ none → Fit s
unfolding sizes_wrong
sizes_fit s e =
    let n₁ = neither _ _ e in
    let n₂ = neither _ _ n₁.second in
    let n₃ = neither _ _ n₂.second in record {
      image = whole_by (table_number Instructions) (row_size Instructions) most_image_slots s.image n₁.first;
      funcs = whole_by (table_number FuncInfo) (row_size FuncInfo) most_image_functions s.func_info n₂.first;
      lines = whole_by (table_number LineInfo) (row_size LineInfo) most_image_lines s.line_info n₃.first;
      pieces = whole_by list_number piece_size most_image_slots s.pieces n₃.second;
    }
