-- The records of an image grow at their end: by those of the piece that is added.
-- Assumes nothing.
use mathlib.Core.Path.{◌≡◌, refl, sym, ap, ◌∙◌}
use mathlib.Core.List.{List, [], ◌∷◌, ◌++◌, map, append_assoc, append-nil}
use Prim.Native.Nat.{ℕ, ◌*◌}
use native.Mathlib.Omega.{arith}
use lib.ListN.{length, length-append}
use Rattle.rules.specs.Faithful.{Piece, piece}
use Rattle.rules.specs.Bytes.{Order, bytes4}
use Rattle.rules.specs.Tables.{FunctionRecord, LineRecord, Tables, function_records_of, lines_of}
use Rattle.rules.specs.Records.{started_at, first_slot, rebased, added_functions, added_lines, image_functions, image_lines}
use Rattle.rules.specs.Entries.{func_info_bytes, line_info_bytes}
use Rattle.rules.proofs.Writing.{length_bytes4}

module _ (tables : Tables) (root row start : ℕ) where
  functions_more : (ps : List Piece) → added_functions tables (ps ++ (piece row start ∷ [])) ≡ added_functions tables ps ++ map (started_at start) (function_records_of tables row)
  functions_more [] = append-nil (map (started_at start) (function_records_of tables row))
  functions_more (p ∷ ps) =
      ap (λ x. map (started_at p.start) (function_records_of tables p.row) ++ x) (functions_more ps)
      ∙ sym (append_assoc (map (started_at p.start) (function_records_of tables p.row)) (added_functions tables ps) (map (started_at start) (function_records_of tables row)))

  pub image_functions_more : (ps : List Piece) → image_functions tables root (ps ++ (piece row start ∷ []))
      ≡ image_functions tables root ps ++ map (started_at start) (function_records_of tables row)
  unfolding image_functions
  image_functions_more ps =
      ap (λ x. function_records_of tables root ++ x) (functions_more ps)
      ∙ sym (append_assoc (function_records_of tables root) (added_functions tables ps) (map (started_at start) (function_records_of tables row)))

  abbrev moved : ℕ → ℕ → List LineRecord
  moved row start = map (rebased (first_slot (lines_of tables row)) start) (lines_of tables row)

  lines_more : (ps : List Piece) → added_lines tables (ps ++ (piece row start ∷ [])) ≡ added_lines tables ps ++ map (rebased (first_slot (lines_of tables row)) start) (lines_of tables row)
  lines_more [] = append-nil (moved row start)
  lines_more (p ∷ ps) =
      ap (λ x. moved p.row p.start ++ x) (lines_more ps) ∙ sym (append_assoc (moved p.row p.start) (added_lines tables ps) (moved row start))

  pub image_lines_more : (ps : List Piece) → image_lines tables root (ps ++ (piece row start ∷ []))
      ≡ image_lines tables root ps ++ map (rebased (first_slot (lines_of tables row)) start) (lines_of tables row)
  unfolding image_lines
  image_lines_more ps =
      ap (λ x. lines_of tables root ++ x) (lines_more ps) ∙ sym (append_assoc (lines_of tables root) (added_lines tables ps) (moved row start))

module _ (order : Order) where
  pub func_bytes_append : (a b : List FunctionRecord) → func_info_bytes order (a ++ b) ≡ func_info_bytes order a ++ func_info_bytes order b
  func_bytes_append [] b = refl
  func_bytes_append (r ∷ a) b =
      ap (λ x. bytes4 order r.slot ++ (bytes4 order r.kind ++ x)) (func_bytes_append a b)
      ∙ simp append_assoc

  pub line_bytes_append : (a b : List LineRecord) → line_info_bytes order (a ++ b) ≡ line_info_bytes order a ++ line_info_bytes order b
  line_bytes_append [] b = refl
  line_bytes_append (r ∷ a) b =
      ap (λ x. bytes4 order r.slot ++ (bytes4 order r.file ++ (bytes4 order r.line ++ (bytes4 order r.column ++ x)))) (line_bytes_append a b)
      ∙ simp append_assoc

  pub func_bytes_length : (rs : List FunctionRecord) → length (func_info_bytes order rs) ≡ 8 * length rs
  func_bytes_length [] = refl
  func_bytes_length (r ∷ rs) = simp (length-append, length_bytes4) (omega (arith, func_bytes_length rs))

  pub line_bytes_length : (rs : List LineRecord) → length (line_info_bytes order rs) ≡ 16 * length rs
  line_bytes_length [] = refl
  line_bytes_length (r ∷ rs) = simp (length-append, length_bytes4) (omega (arith, line_bytes_length rs))
