-- The examiner finds nothing wrong exactly where the image is accepted (document 02, W1), and its number is then 0.
-- Assumes nothing.
use mathlib.Core.Path.{◌≡◌, refl, sym, ap, ◌∙◌, subst}
use mathlib.Core.Logic.{◌↔◌, ◌≢◌}
use mathlib.Core.Option.{Option, none, some}
use mathlib.Core.List.{List, [], ◌∷◌, ◌++◌}
use Prim.Native.Nat.{ℕ, suc, ◌+◌, ◌*◌, ◌/◌, ◌≤◌, ◌<◌}
use native.Mathlib.Omega.{arith}
use lib.Dec.{leb}
use lib.ListN.{length, drop}
use Rattle.rules.specs.declared.Table.TheVariants.{Functions, Instructions, FuncInfo, LineInfo}
use Rattle.rules.specs.Object.{Object, meaning}
use Rattle.rules.specs.Faithful.{Piece, piece, slot_at, Tile, Linked}
use Rattle.rules.specs.Answers.{Reply}
use Rattle.rules.specs.Bytes.{Order, decoded}
use Rattle.rules.specs.Tables.{Tables, function_records_of, lines_of, object_of}
use Rattle.rules.specs.Records.{image_functions, image_lines}
use Rattle.rules.specs.Rows.{row_size, most_image_slots, most_image_functions, most_image_lines, whole_rows, table_number, Offered, link_refusal, tables_of}
use Rattle.rules.specs.Pieces.{piece_size, piece_at, pieces_of}
use Rattle.rules.specs.Accepted.{Sized, LinesInside, Holds, Accepted}
use Rattle.rules.specs.Examine.{Shown, Claim, claim_of, list_number, sizes_wrong, slot_wrong, first_wrong, function_wrong, line_wrong, stray_wrong, piece_functions, piece_lines, slots_wrong, wrong_in, over_wrong, pieces_wrong, claim_wrong, examine_refusal, verdict, examine_entry}
use Rattle.rules.proofs.Linking.{length_run}
use Rattle.rules.proofs.Writing.{decoded_length}
use Rattle.rules.proofs.Passed.{good_function}
use Rattle.rules.proofs.Refusing.{link_checked}
use Rattle.rules.proofs.Reading.{rows_are, row_is}
use Rattle.rules.proofs.ExamineLaws.{chain, pair, leb_is, or_none_lem, cond_none, test_none, first_none, all_same, Each, each_is, size_none}
use Rattle.rules.proofs.ExamineSlots.{root_none, tiles_none, link_none}
use Rattle.rules.proofs.ExamineRecords.{over_is, functions_then, lines_then, functions_from, lines_from, functions_added, lines_added, Inside, inside_none}
use Rattle.rules.proofs.ExamineNumbers.{examine_number}

module _ (tables : Tables) (claim : Claim) where
  -- every slot of a piece is a right link, `among` being the pieces
  abbrev LinkedIn : List Piece → Piece → Type 0
  LinkedIn among p = (slot : ℕ) → slot < (object_of tables).slots p.row
      → Linked (object_of tables) among p.row slot (p.start + slot) (slot_at claim.image (p.start + slot))

  slots_none : (k : ℕ) (p : Piece) → (slots_wrong tables claim k p ≡ none) ↔ LinkedIn claim.pieces p
  unfolding slots_wrong Linked
  slots_none k p =
      chain (first_none (λ slot. slot_wrong claim.pieces k p.row slot (p.start + slot) ((object_of tables).insn p.row slot) (slot_at claim.image (p.start + slot)) (meaning (object_of tables) p.row slot)) ((object_of tables).slots p.row))
      (all_same ((object_of tables).slots p.row) _ _ (λ slot. link_none claim.pieces k p.row slot (p.start + slot) ((object_of tables).insn p.row slot) (slot_at claim.image (p.start + slot)) (meaning (object_of tables) p.row slot)))

  over_none : (f l : ℕ) → (over_wrong tables claim f l ≡ none) ↔ ((drop f claim.functions ≡ []) × (drop l claim.lines ≡ []))
  unfolding over_wrong
  over_none f l =
      chain (cond_none (leb (length claim.functions) f) _ _)
      (pair (chain (leb_is (length claim.functions) f) (over_is claim.functions f)) (chain (chain (test_none (leb (length claim.lines) l) _) (leb_is (length claim.lines) l)) (over_is claim.lines l)))

  -- ---- piece by piece, from piece k on

  abbrev AllInside : ℕ → List Piece → Type 0
  AllInside k [] = Unit {0}
  AllInside k (p ∷ ps) = Inside tables claim k p × AllInside (suc k) ps

  all_inside : (k : ℕ) (ps : List Piece) → AllInside (suc k) ps ↔ Each (λ p. LinesInside tables p.row) ps
  all_inside k [] = (λ t. t, λ t. t)
  all_inside k (p ∷ ps) = pair (λ h. h, λ h. h) (all_inside (suc k) ps)

  abbrev Right : ℕ → ℕ → ℕ → List Piece → Type 0
  Right k f l ps =
      Each (LinkedIn claim.pieces) ps × AllInside k ps
      × (drop f claim.functions ≡ functions_from tables claim k ps) × (drop l claim.lines ≡ lines_from tables claim k ps)

  -- one piece, and then the others
  abbrev Next : ℕ → ℕ → ℕ → Piece → List Piece → Type 0
  Next k f l p ps =
      (wrong_in tables claim k f l p ≡ none) × Right (suc k) (f + length (function_records_of tables p.row)) (l + length (lines_of tables p.row)) ps

  module _ (k f l : ℕ) (p : Piece) where
    wrong_in_lem : (wrong_in tables claim k f l p ≡ none) ↔ ((slots_wrong tables claim k p ≡ none)
        × ((first_wrong (function_wrong tables claim k f p) 0 (length (function_records_of tables p.row)) ≡ none)
        × ((stray_wrong tables claim k p ≡ none) × (first_wrong (line_wrong tables claim k l p) 0 (length (lines_of tables p.row)) ≡ none))))
    unfolding wrong_in
    wrong_in_lem = chain (or_none_lem _ _) (pair (λ e. e, λ e. e) (chain (or_none_lem _ _) (pair (λ e. e, λ e. e) (or_none_lem _ _))))

    next : (ps : List Piece) → Next k f l p ps ↔ Right k f l (p ∷ ps)
    next ps = (to, from)
      where
        to : Next k f l p ps → Right k f l (p ∷ ps)
        to (w, (linked, inside, functions, lines)) =
            let h = wrong_in_lem.0 w in (
              ((slots_none k p).0 h.0, linked),
              ((inside_none tables claim k p).0 h.1.1.0, inside),
              (functions_then tables claim k f p (functions_from tables claim (suc k) ps)).0 (h.1.0, functions),
              (lines_then tables claim k l p (lines_from tables claim (suc k) ps)).0 (h.1.1.1, lines),
            )

        from : Right k f l (p ∷ ps) → Next k f l p ps
        from (linked, inside, functions, lines) =
            let f' = (functions_then tables claim k f p (functions_from tables claim (suc k) ps)).1 functions in
            let l' = (lines_then tables claim k l p (lines_from tables claim (suc k) ps)).1 lines in (
              wrong_in_lem.1 ((slots_none k p).1 linked.0, (f'.0, ((inside_none tables claim k p).1 inside.0, l'.0))),
              (linked.1, inside.1, f'.1, l'.1),
            )

  pieces_none : (k f l : ℕ) (ps : List Piece) → (pieces_wrong tables claim k f l ps ≡ none) ↔ Right k f l ps
  unfolding pieces_wrong
  pieces_none k f l [] = chain (over_none f l) (λ h. (tt, tt, h.0, h.1), λ h. (h.2, h.3))
  pieces_none k f l (p ∷ ps) =
      chain (chain (or_none_lem (wrong_in tables claim k f l p) _)
      (pair (λ e. e, λ e. e) (pieces_none (suc k) (f + length (function_records_of tables p.row)) (l + length (lines_of tables p.row)) ps)))
      (next k f l p ps)

-- ---- the claim

module _ (tables : Tables) (claim : Claim) (root : ℕ) where
  -- of the pieces claimed
  abbrev Fits : List Piece → Type 0
  Fits ps =
      (Each (λ p. p.row < (object_of tables).rows) ps × Tile (object_of tables) 0 ps (length claim.image))
      × (Each (LinkedIn tables claim ps) ps × AllInside tables claim 0 ps
      × (claim.functions ≡ functions_from tables claim 0 ps) × (claim.lines ≡ lines_from tables claim 0 ps))

  claim_none : (claim_wrong tables claim root ≡ none) ↔ (((others : List Piece) × (claim.pieces ≡ piece root 0 ∷ others)) × Fits claim.pieces)
  unfolding claim_wrong
  claim_none =
      chain (or_none_lem _ _)
      (pair (root_none root claim.pieces)
      (chain (or_none_lem _ _) (pair (tiles_none (object_of tables) (length claim.image) 0 0 claim.pieces) (pieces_none tables claim 0 0 0 claim.pieces))))

  module _ (others : List Piece) where
    functions_are : functions_from tables claim 0 (piece root 0 ∷ others) ≡ image_functions tables root others
    unfolding piece_functions image_functions
    functions_are = ap (λ x. function_records_of tables root ++ x) (functions_added tables claim 0 others)

    lines_are : lines_from tables claim 0 (piece root 0 ∷ others) ≡ image_lines tables root others
    unfolding piece_lines image_lines
    lines_are = ap (λ x. lines_of tables root ++ x) (lines_added tables claim 0 others)

    to_holds : claim.pieces ≡ piece root 0 ∷ others → Fits (piece root 0 ∷ others) → Holds tables root claim others
    to_holds e ((rows, tiled), (linked, inside, functions, lines)) = record {
      list = e;
      rows = (each_is (λ p. p.row < (object_of tables).rows) (piece root 0 ∷ others)).0 rows;
      layout = record {
        others = others;
        root_first = refl;
        tiled = tiled;
        linked = (each_is (LinkedIn tables claim (piece root 0 ∷ others)) (piece root 0 ∷ others)).0 linked;
      };
      inside = (each_is (λ p. LinesInside tables p.row) others).0 ((all_inside tables claim 0 others).0 inside.1);
      functions = functions ∙ functions_are;
      lines = lines ∙ lines_are;
    }

    of_holds : Holds tables root claim others → Fits (piece root 0 ∷ others)
    of_holds h = (
      ((each_is (λ p. p.row < (object_of tables).rows) (piece root 0 ∷ others)).1 h.rows, h.layout.tiled),
      (
        (each_is (LinkedIn tables claim (piece root 0 ∷ others)) (piece root 0 ∷ others)).1 h.layout.linked,
        (tt, (all_inside tables claim 0 others).1 ((each_is (λ p. LinesInside tables p.row) others).1 h.inside)),
        h.functions ∙ sym functions_are,
        h.lines ∙ sym lines_are,
      ),
    )

pub holds_wrong : (tables : Tables) (claim : Claim) (root : ℕ) → (claim_wrong tables claim root ≡ none) ↔ ((others : List Piece) × Holds tables root claim others)
holds_wrong tables claim root = chain (claim_none tables claim root) (to, from)
  where
    to : ((others : List Piece) × (claim.pieces ≡ piece root 0 ∷ others)) × Fits tables claim root claim.pieces → (others : List Piece) × Holds tables root claim others
    to ((others, e), fits) = (others, to_holds tables claim root others e (subst (Fits tables claim root) e fits))

    from : (others : List Piece) × Holds tables root claim others → ((others : List Piece) × (claim.pieces ≡ piece root 0 ∷ others)) × Fits tables claim root claim.pieces
    from (others, h) = ((others, h.list), subst (Fits tables claim root) (sym h.list) (of_holds tables claim root others h))

-- ---- the whole

-- a list that tiles has no more pieces than slots, where every function has one
tile_long : (object : Object) (ps : List Piece) (from to : ℕ) → Each (λ p. 1 ≤ object.slots p.row) ps → Tile object from ps to → from + length ps ≤ to
tile_long object [] from to h t = omega arith
tile_long object (p ∷ ps) from to h t = omega (arith, h.0, tile_long object ps (from + object.slots p.row) to h.1 t.1)

module _ (order : Order) (o : Offered) (root : ℕ) (s : Shown) where
  sizes_none : (sizes_wrong s ≡ none) ↔ (Sized (row_size Instructions) most_image_slots s.image × (Sized (row_size FuncInfo) most_image_functions s.func_info
      × (Sized (row_size LineInfo) most_image_lines s.line_info × Sized piece_size most_image_slots s.pieces)))
  unfolding sizes_wrong
  sizes_none =
      chain (or_none_lem _ _)
      (pair (size_none (table_number Instructions) (row_size Instructions) most_image_slots s.image) (chain (or_none_lem _ _)
      (pair (size_none (table_number FuncInfo) (row_size FuncInfo) most_image_functions s.func_info) (chain (or_none_lem _ _)
      (pair (size_none (table_number LineInfo) (row_size LineInfo) most_image_lines s.line_info) (size_none list_number piece_size most_image_slots s.pieces))))))

  all_none : (examine_refusal order o root s ≡ none) ↔ ((link_refusal o root ≡ none) × ((sizes_wrong s ≡ none) × (claim_wrong (tables_of order o) (claim_of order s) root ≡ none)))
  unfolding examine_refusal
  all_none = chain (or_none_lem _ _) (pair (λ e. e, λ e. e) (or_none_lem _ _))

  -- a row of table 3 has a slot
  has_slot : link_refusal o root ≡ none → (row : ℕ) → row < (object_of (tables_of order o)).rows → 1 ≤ (object_of (tables_of order o)).slots row
  unfolding object_of
  has_slot e row l =
      let inside : row < whole_rows Functions o.functions = omega (arith, rows_are order o) in
      let good = good_function o.functions (link_checked o root e).tables.functions row inside in
      rw (row_is order o row inside) good.slots_low

  list_few : Accepted order o root s → length s.pieces ≤ piece_size * most_image_slots
  unfolding claim_of pieces_of
  list_few a =
      let ps = piece root 0 ∷ a.others in
      let rows = (each_is (λ p. 1 ≤ (object_of (tables_of order o)).slots p.row) ps).1 (λ p m. has_slot a.tables p.row (a.holds.rows p m)) in
      let long = tile_long (object_of (tables_of order o)) ps 0 (length (decoded order s.image)) rows a.holds.layout.tiled in
      let many : length s.pieces / piece_size ≡ length ps = sym (length_run (piece_at s.pieces) 0 (length s.pieces / piece_size)) ∙ ap length a.holds.list in
      omega (arith, long, many, decoded_length order s.image, a.image_size.few, a.list_whole)

  pub examined_means : (examine_refusal order o root s ≡ none) ↔ Accepted order o root s
  examined_means = chain all_none (to, from)
    where
      to : (link_refusal o root ≡ none) × ((sizes_wrong s ≡ none) × (claim_wrong (tables_of order o) (claim_of order s) root ≡ none)) → Accepted order o root s
      to (e, (sizes, claim)) =
          let h = sizes_none.0 sizes in
          let c = (holds_wrong (tables_of order o) (claim_of order s) root).0 claim in
          record {
            tables = e;
            image_size = h.0;
            functions_size = h.1.0;
            lines_size = h.1.1.0;
            list_whole = h.1.1.1.whole;
            others = c.0;
            holds = c.1;
          }

      from : Accepted order o root s → (link_refusal o root ≡ none) × ((sizes_wrong s ≡ none) × (claim_wrong (tables_of order o) (claim_of order s) root ≡ none))
      from a = (
        a.tables,
        (
          sizes_none.1 (a.image_size, (a.functions_size, (a.lines_size, record { whole = a.list_whole; few = list_few a }))),
          (holds_wrong (tables_of order o) (claim_of order s) root).1 (a.others, a.holds),
        ),
      )

  said : (x : Option Reply) → ((r : Reply) → x ≡ some r → r.number ≢ 0) → ((verdict (length s.pieces / piece_size) x).number ≡ 0) ↔ (x ≡ none)
  said none n = (λ e. refl, λ e. refl)
  said (some r) n = (λ e. absurd (n r refl e), λ e. let z : ◌≡◌ {A = ℕ} 0 1 = cc in absurd (omega arith))

  pub yes_is_zero : ((examine_entry order o root s).number ≡ 0) ↔ (examine_refusal order o root s ≡ none)
  unfolding examine_entry
  yes_is_zero = said (examine_refusal order o root s) (examine_number order o root s)

  pub yes_means : ((examine_entry order o root s).number ≡ 0) ↔ Accepted order o root s
  yes_means = chain yes_is_zero examined_means
