-- From checked tables and a list that tiles to each piece, and from each piece to the whole.
-- Assumes nothing.
use mathlib.Core.Path.{◌≡◌, refl, sym, ap, subst, ◌∙◌}
use mathlib.Core.Option.{Option, none, some}
use mathlib.Core.List.{List, []}
use Prim.Native.Nat.{ℕ, suc, ◌+◌, ◌-◌, ◌*◌, ◌/◌, ◌≤◌, ◌<◌}
use native.Mathlib.Numerals.{add-one}
use native.Mathlib.Omega.{arith}
use lib.ListN.{length}
use Rattle.rules.specs.declared.Table.TheVariants.{Functions, Instructions, FuncInfo, LineInfo}
use Rattle.rules.specs.Object.{meaning}
use Rattle.rules.specs.Bytes.{little, decoded}
use Rattle.rules.specs.Faithful.{piece, slot_at}
use Rattle.rules.specs.Link.{run}
use Rattle.rules.specs.Answers.{Reply}
use Rattle.rules.specs.Tables.{function_records_of, lines_of, object_of}
use Rattle.rules.specs.Rows.{row_size, most_rows, most_image_slots, whole_rows, summed, Offered, link_offer, tables_of, or_else, link_refusal, function_slots, function_func_info, function_line_info}
use Rattle.rules.specs.Lookups.{LinkChecked}
use Rattle.rules.specs.Pieces.{piece_size, piece_row, piece_start, piece_at, pieces_of}
use Rattle.rules.specs.Examine.{Shown, shown, claim_of, slot_wrong, slots_wrong, first_wrong, function_wrong, stray_wrong, wrong_in, over_wrong, pieces_wrong, root_wrong, tiles_wrong, claim_wrong, sizes_wrong, examine_refusal, verdict, examine_entry}
use Rattle.rules.specs.Examine as examine
use Rattle.rules.proofs.Passed.{few_rows}
use Rattle.rules.proofs.Writing.{decoded_length}
use Rattle.rules.proofs.Refusing.{link_checked}
use Rattle.resolve.proofs.Laws.{only_code, meaning_alike, checked_alike}
use Rattle.merge.specs.declared.Used.{Used}
use Rattle.merge.specs.Merge.{Sums, Parts, PartBegins}
use Rattle.merge.proofs.Rooms.{sums}
use Rattle.merge.proofs.Checked.{checked_parts}
use Rattle.pieces.specs.Tiling.{functions_only, listed, Tileable}
use Rattle.pieces.proofs.Tiling.{Tiled, tiled, tiles_alike}
use Rattle.examine.specs.Compared.{Visits}
use Rattle.examine.specs.Recorded.{records_wrong, Recorded}
use Rattle.examine.specs.Examined.{Sized, Listed, Pieced}
use Rattle.examine.proofs.Firsts.{neither, or_first, or_second, alike}
use Rattle.examine.proofs.Sizing.{Fit, sizes_fit}
use Rattle.examine.proofs.Recording.{func_count, line_count, funcs_alike, lines_alike, stray_alike, funcs_stand, lines_stand}

-- ---- a piece of a list that tiles
module _ {o : Offered} {s : Shown} (list : Listed o s) where
  pub fits : Fit s
  fits = sizes_fit s list.sizes.sized

  pub tiles : Tiled o.functions s.pieces (length s.image / 8)
  tiles =
      subst (Tiled o.functions s.pieces) (decoded_length little s.image)
      (tiled o s.pieces (length (decoded little s.image)) list.sizes.checked.tables.functions list.tiles)

-- the parts of a piece's judgement
module _ (o : Offered) (s : Shown) (k funcs lines row start : ℕ) where
  abbrev slots_part : Option Reply
  slots_part = slots_wrong (tables_of little o) (claim_of little s) k (piece row start)

  abbrev funcs_part : Option Reply
  funcs_part = first_wrong (function_wrong (tables_of little o) (claim_of little s) k funcs (piece row start)) 0 (length (function_records_of (tables_of little o) row))

  abbrev stray_part : Option Reply
  stray_part = stray_wrong (tables_of little o) (claim_of little s) k (piece row start)

  abbrev lines_part : Option Reply
  lines_part = first_wrong (examine.line_wrong (tables_of little o) (claim_of little s) k lines (piece row start)) 0 (length (lines_of (tables_of little o) row))

  parts_are : wrong_in (tables_of little o) (claim_of little s) k funcs lines (piece row start) ≡ or_else slots_part (or_else funcs_part (or_else stray_part lines_part))
  unfolding wrong_in
  parts_are = refl

  record Right : Type 0 where
    funcs_right : first_wrong (function_wrong (tables_of little o) (claim_of little s) k funcs (piece row start)) 0 (length (function_records_of (tables_of little o) row)) ≡ none
    lines_right : first_wrong (examine.line_wrong (tables_of little o) (claim_of little s) k lines (piece row start)) 0 (length (lines_of (tables_of little o) row)) ≡ none

  all_right : wrong_in (tables_of little o) (claim_of little s) k funcs lines (piece row start) ≡ none → Right
  all_right e =
      let n₁ = neither slots_part (or_else funcs_part (or_else stray_part lines_part)) (sym parts_are ∙ e) in
      let n₂ = neither funcs_part (or_else stray_part lines_part) n₁.second in
      let n₃ = neither stray_part lines_part n₂.second in
      record { funcs_right = n₂.first; lines_right = n₃.second }

module _ {o : Offered} {s : Shown} {k funcs lines : ℕ} (p : Pieced o s k funcs lines) where
  checked : LinkChecked o
  checked = p.list.sizes.checked

  pub few_pieces : k < most_image_slots
  few_pieces = omega (arith, p.is_piece, (fits p.list).pieces.few)

  module _ {row : ℕ} (is : row ≡ piece_row s.pieces k) where
    pub row_in : row < whole_rows Functions o.functions
    row_in = rw is ((tiles p.list).rows k p.is_piece)

    parts : Parts o row
    parts = checked_parts o row checked row_in

    pub row_sums : Sums o.functions row
    row_sums = sums o row parts

    row_low : row < most_rows Functions
    row_low = omega (arith, row_in, few_rows Functions o.functions checked.tables.functions)

    module _ {start : ℕ} (at : start ≡ piece_start s.pieces k) where
      inside : start + function_slots o.functions row ≤ length s.image / 8
      inside = rw (is, at) ((tiles p.list).inside k p.is_piece)

      pub visits : {first : ℕ} → first ≡ summed (function_slots o.functions) 0 row → Visits (only_code o) s.image s.pieces row start first
      visits e = record {
        tables = checked_alike o checked.tables;
        row_inside = row_in;
        first_is = e;
        inside = omega (arith, inside);
        low = omega (arith, inside, (fits p.list).image.few);
        rise = (tiles p.list).rise;
      }

      module _ {part : Used} (begins : PartBegins o.functions row part) where
        pub recorded : Recorded o.functions o.func_info o.line_info row start part funcs lines
        recorded = record {
          is_row = row_in;
          few_rows = row_low;
          begins = begins;
          funcs_inside = omega (arith, parts.funcs_inside, begins.funcs_are);
          lines_inside = omega (arith, parts.lines_inside, begins.lines_are);
          few_funcs = parts.few_funcs;
          few_lines = parts.few_lines;
          ends = omega (arith, inside, (fits p.list).image.few);
          funcs_low = omega (arith, p.funcs_low, (fits p.list).funcs.few);
          lines_low = omega (arith, p.lines_low, (fits p.list).lines.few);
        }

        -- the slots say the same with fewer tables
        slots_alike : slots_wrong (tables_of little o) (claim_of little s) k (piece row start)
            ≡ slots_wrong (tables_of little (only_code o)) (claim_of little (shown s.image [] [] s.pieces)) k (piece row start)
        unfolding slots_wrong claim_of object_of tables_of
        slots_alike =
            alike
            (λ slot. slot_wrong (pieces_of s.pieces) k row slot (start + slot) ((object_of (tables_of little o)).insn row slot) (slot_at (decoded little s.image) (start + slot)) (meaning (object_of (tables_of little o)) row slot))
            (λ slot. slot_wrong (pieces_of s.pieces) k row slot (start + slot) ((object_of (tables_of little o)).insn row slot) (slot_at (decoded little s.image) (start + slot)) (meaning (object_of (tables_of little (only_code o))) row slot))
            0 ((object_of (tables_of little o)).slots row)
            (λ slot l h. ap (slot_wrong (pieces_of s.pieces) k row slot (start + slot) ((object_of (tables_of little o)).insn row slot) (slot_at (decoded little s.image) (start + slot))) (meaning_alike o row slot))

        records_alike : or_else (funcs_part o s k funcs lines row start) (or_else (stray_part o s k funcs lines row start) (lines_part o s k funcs lines row start))
            ≡ records_wrong o.functions o.func_info o.line_info s.func_info s.line_info k row start part funcs lines
        unfolding records_wrong
        records_alike =
            let r = recorded in
            rw (
              funcs_alike o s row start row_in part.funcs begins.funcs_are r.funcs_inside k funcs,
              stray_alike o s row start row_in part.lines begins.lines_are r.lines_inside k,
              lines_alike o s row start row_in part.lines begins.lines_are r.lines_inside k lines,
            )

        wrong_here : wrong_in (tables_of little o) (claim_of little s) k funcs lines (piece row start)
            ≡ or_else (slots_wrong (tables_of little (only_code o)) (claim_of little (shown s.image [] [] s.pieces)) k (piece row start))
            (records_wrong o.functions o.func_info o.line_info s.func_info s.line_info k row start part funcs lines)
        wrong_here =
            parts_are o s k funcs lines row start
            ∙ ap (λ x. or_else x (or_else (funcs_part o s k funcs lines row start) (or_else (stray_part o s k funcs lines row start) (lines_part o s k funcs lines row start)))) slots_alike
            ∙ ap (or_else (slots_wrong (tables_of little (only_code o)) (claim_of little (shown s.image [] [] s.pieces)) k (piece row start))) records_alike

        wrong_is : wrong_in (tables_of little o) (claim_of little s) k funcs lines (piece_at s.pieces k)
            ≡ or_else (slots_wrong (tables_of little (only_code o)) (claim_of little (shown s.image [] [] s.pieces)) k (piece row start))
            (records_wrong o.functions o.func_info o.line_info s.func_info s.line_info k row start part funcs lines)
        wrong_is = ap (λ x. wrong_in (tables_of little o) (claim_of little s) k funcs lines (piece x (piece_start s.pieces k))) (sym is) ∙ ap (λ x. wrong_in (tables_of little o) (claim_of little s) k funcs lines (piece row x)) (sym at) ∙ wrong_here

        -- the slots' part as the code has it
        module _ {x : Option Reply} (said : x ≡ slots_wrong (tables_of little (only_code o)) (claim_of little (shown s.image [] [] s.pieces)) k (piece row start)) where
          pub slots_wrong_lem : {r : Reply} → x ≡ some r → wrong_in (tables_of little o) (claim_of little s) k funcs lines (piece_at s.pieces k) ≡ some r
          slots_wrong_lem e = wrong_is ∙ or_first (records_wrong o.functions o.func_info o.line_info s.func_info s.line_info k row start part funcs lines) (sym said ∙ e)

          pub slots_right : x ≡ none → wrong_in (tables_of little o) (claim_of little s) k funcs lines (piece_at s.pieces k)
              ≡ records_wrong o.functions o.func_info o.line_info s.func_info s.line_info k row start part funcs lines
          slots_right e = wrong_is ∙ or_second (records_wrong o.functions o.func_info o.line_info s.func_info s.line_info k row start part funcs lines) (sym said ∙ e)

    -- ---- a piece with nothing wrong: its records stand in the image
    funcs_many : length (function_records_of (tables_of little o) row) ≡ function_func_info o.functions row
    funcs_many = func_count o s row 0 row_in (summed (function_func_info o.functions) 0 row) refl parts.funcs_inside

    lines_many : length (lines_of (tables_of little o) row) ≡ function_line_info o.functions row
    lines_many = line_count o s row 0 row_in (summed (function_line_info o.functions) 0 row) refl parts.lines_inside

    module _ (right : wrong_in (tables_of little o) (claim_of little s) k funcs lines (piece_at s.pieces k) ≡ none) where
      rights : Right o s k funcs lines row (piece_start s.pieces k)
      rights = all_right o s k funcs lines row (piece_start s.pieces k) (rw is right)

      pub funcs_next : funcs + function_func_info o.functions row ≤ whole_rows FuncInfo s.func_info
      funcs_next =
          rw funcs_many at (funcs_stand (tables_of little o) s k funcs row (piece_start s.pieces k) (length (function_records_of (tables_of little o) row)) p.funcs_low rights.funcs_right)

      pub lines_next : lines + function_line_info o.functions row ≤ whole_rows LineInfo s.line_info
      lines_next =
          rw lines_many at (lines_stand (tables_of little o) s k lines row (piece_start s.pieces k) (length (lines_of (tables_of little o) row)) p.lines_low rights.lines_right)

-- ---- piece by piece
module _ (o : Offered) (s : Shown) where
  -- from piece k on
  abbrev pub Left : ℕ → ℕ → ℕ → Option Reply
  Left k funcs lines = pieces_wrong (tables_of little o) (claim_of little s) k funcs lines (run (piece_at s.pieces) k (listed s.pieces - k))

  pub pieces_start : pieces_wrong (tables_of little o) (claim_of little s) 0 0 0 (pieces_of s.pieces) ≡ Left 0 0 0
  unfolding pieces_of
  pieces_start =
      let e : listed s.pieces ≡ listed s.pieces - 0 = omega arith in
      ap (λ n. pieces_wrong (tables_of little o) (claim_of little s) 0 0 0 (run (piece_at s.pieces) 0 n)) e

  module _ (k funcs lines : ℕ) where
    abbrev wrong : Option Reply
    wrong = wrong_in (tables_of little o) (claim_of little s) k funcs lines (piece_at s.pieces k)

    abbrev after : Option Reply
    after =
        pieces_wrong (tables_of little o) (claim_of little s) (suc k) (funcs + length (function_records_of (tables_of little o) (piece_row s.pieces k)))
        (lines + length (lines_of (tables_of little o) (piece_row s.pieces k))) (run (piece_at s.pieces) (suc k) (listed s.pieces - (k + 1)))

    opened : k < listed s.pieces → Left k funcs lines ≡ or_else wrong after
    unfolding pieces_wrong
    opened l =
        let e : listed s.pieces - k ≡ suc (listed s.pieces - (k + 1)) = omega arith in
        ap (λ n. pieces_wrong (tables_of little o) (claim_of little s) k funcs lines (run (piece_at s.pieces) k n)) e

    piece_wrong_lem : {r : Reply} → k < listed s.pieces → wrong_in (tables_of little o) (claim_of little s) k funcs lines (piece_at s.pieces k) ≡ some r → Left k funcs lines ≡ some r
    piece_wrong_lem l e = opened l ∙ or_first after e

    -- the answer, where the code says that of the piece
    pub refused_here : {x : Option Reply} {r : Reply} → pieces_wrong (tables_of little o) (claim_of little s) 0 0 0 (pieces_of s.pieces) ≡ Left k funcs lines → k < listed s.pieces
        → x ≡ wrong_in (tables_of little o) (claim_of little s) k funcs lines (piece_at s.pieces k) → x ≡ some r
        → x ≡ pieces_wrong (tables_of little o) (claim_of little s) 0 0 0 (pieces_of s.pieces)
    refused_here same l said e = e ∙ sym (same ∙ piece_wrong_lem l (sym said ∙ e))

    pub piece_right : Pieced o s k funcs lines → wrong_in (tables_of little o) (claim_of little s) k funcs lines (piece_at s.pieces k) ≡ none
        → Left k funcs lines ≡ Left (k + 1) (funcs + function_func_info o.functions (piece_row s.pieces k)) (lines + function_line_info o.functions (piece_row s.pieces k))
    piece_right p e =
        opened p.is_piece ∙ or_second after e
        ∙ ap (λ n. pieces_wrong (tables_of little o) (claim_of little s) (suc k) (funcs + n) (lines + length (lines_of (tables_of little o) (piece_row s.pieces k))) (run (piece_at s.pieces) (suc k) (listed s.pieces - (k + 1)))) (funcs_many p refl)
        ∙ ap (λ n. pieces_wrong (tables_of little o) (claim_of little s) (suc k) (funcs + function_func_info o.functions (piece_row s.pieces k)) (lines + n) (run (piece_at s.pieces) (suc k) (listed s.pieces - (k + 1)))) (lines_many p refl)
        ∙ ap (λ m. pieces_wrong (tables_of little o) (claim_of little s) m (funcs + function_func_info o.functions (piece_row s.pieces k)) (lines + function_line_info o.functions (piece_row s.pieces k)) (run (piece_at s.pieces) m (listed s.pieces - (k + 1)))) (sym (add-one k))

    pub pieces_end : listed s.pieces ≤ k
        → Left k funcs lines ≡ over_wrong (tables_of little (link_offer [] [] [] [] [] [] [])) (claim_of little (shown [] s.func_info s.line_info [])) funcs lines
    unfolding pieces_wrong over_wrong claim_of
    pieces_end l =
        let e : listed s.pieces - k ≡ 0 = omega arith in
        ap (λ n. pieces_wrong (tables_of little o) (claim_of little s) k funcs lines (run (piece_at s.pieces) k n)) e

-- ---- the claim
module _ (o : Offered) (s : Shown) (root : ℕ) where
  abbrev pub root_part : Option Reply
  root_part = root_wrong root (pieces_of s.pieces)

  abbrev pub tiles_part : Option Reply
  tiles_part = tiles_wrong (functions_only o.functions) (length s.image / 8) 0 0 (pieces_of s.pieces)

  abbrev pub pieces_part : Option Reply
  pieces_part = pieces_wrong (tables_of little o) (claim_of little s) 0 0 0 (pieces_of s.pieces)

  pub claim_parts : claim_wrong (tables_of little o) (claim_of little s) root ≡ or_else root_part (or_else tiles_part pieces_part)
  unfolding claim_wrong claim_of
  claim_parts =
      ap (λ n. or_else root_part (or_else (tiles_wrong (object_of (tables_of little o)) n 0 0 (pieces_of s.pieces)) pieces_part)) (decoded_length little s.image)
      ∙ ap (λ x. or_else root_part (or_else x pieces_part)) (sym (tiles_alike o (length s.image / 8) 0 0 (pieces_of s.pieces)))

module _ {o : Offered} {s : Shown} (z : Sized o s) where
  pub tileable : Tileable o.functions s.pieces
  tileable = record { table = z.checked.tables.functions; few = (sizes_fit s z.sized).pieces.few }

  pub image_few : length s.image ≤ row_size Instructions * most_image_slots
  image_few = (sizes_fit s z.sized).image.few

  pub listed_so : tiles_wrong (functions_only o.functions) (length s.image / 8) 0 0 (pieces_of s.pieces) ≡ none → Listed o s
  listed_so t =
      record {
        sizes = z;
        tiles =
            ap (λ n. tiles_wrong (object_of (tables_of little o)) n 0 0 (pieces_of s.pieces)) (decoded_length little s.image)
            ∙ sym (tiles_alike o (length s.image / 8) 0 0 (pieces_of s.pieces)) ∙ t;
      }

-- the end of the image as the code holds it
pub end_at : (functions pieces : List ℕ) {end n : ℕ} → end ≡ n → {x : Option Reply} → x ≡ tiles_wrong (functions_only functions) end 0 0 (pieces_of pieces)
    → tiles_wrong (functions_only functions) n 0 0 (pieces_of pieces) ≡ x
end_at functions pieces e said = ap (λ m. tiles_wrong (functions_only functions) m 0 0 (pieces_of pieces)) (sym e) ∙ sym said

-- ---- the whole
module _ (o : Offered) (root : ℕ) (s : Shown) (passed : link_refusal o root ≡ none) (fits_all : sizes_wrong s ≡ none) where
  pub sized : Sized o s
  sized = record { checked = link_checked o root passed; sized = fits_all }

  pub pieces_few : length s.pieces ≤ piece_size * most_image_slots
  pieces_few = (sizes_fit s fits_all).pieces.few
