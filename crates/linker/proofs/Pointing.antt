-- A slot rewritten in the buffer is that slot rewritten in the state that the buffer holds, and no other.
-- Assumes nothing.
use mathlib.Core.Path.{◌≡◌, sym, ap, ◌∙◌}
use mathlib.Core.Bool.{Bool, true, false}
use mathlib.Core.List.{List, [], ◌∷◌}
use Prim.Native.Nat.{ℕ, ◌+◌, ◌*◌, ◌-◌, ◌≤◌, ◌<◌}
use native.Mathlib.Omega.{arith}
use lib.ListN.{length, take, drop, replicate, set, length-set}
use lib.Seq.{length-take-le, get_or-take}
use Rattle.rules.specs.Object.{Insn, displacement, calling, referring}
use Rattle.rules.specs.Faithful.{slot_at}
use Rattle.rules.specs.Bytes.{little, byte_at, bytes4, unsigned, half32, registers, destination_of, splice, decoded, immediate_stored, source_stored}
use Rattle.rules.specs.Link as Link
use Rattle.rules.specs.Link.{rewritten}
use Rattle.rules.specs.Rows.{Offered, most_image_slots}
use Rattle.rules.proofs.Splices.{splice_within, splice_rest}
use Rattle.rules.proofs.Writing.{length_bytes4, bytes_kept, source_kept, displacement_fits, calling_stored, referring_stored}
use Rattle.linker.specs.declared.State.{State}
use Rattle.rules.specs.Lent.{Buffers, buffers}
use Rattle.linker.specs.Linker.{Valid, Holds, pointed_to}

abbrev pub pointing : Bool → ℕ → ℕ → Insn → Insn
pointing false start here i = calling i start here
pointing true start here i = referring i start here

module _ (image : List ℕ) (here start n : ℕ) (l : start < half32) (l' : here < half32) (inside : 8 * here + 8 ≤ n) (fits : n ≤ length image) where
  imm_length : length (bytes4 little (unsigned half32 (displacement start here))) ≡ 4
  imm_length = length_bytes4 little (unsigned half32 (displacement start here))

  imm_take : (x : List ℕ) → n ≤ length x → take n (immediate_stored little x here (displacement start here)) ≡ immediate_stored little (take n x) here (displacement start here)
  unfolding immediate_stored
  imm_take x m = splice_within x (8 * here + 4) (bytes4 little (unsigned half32 (displacement start here))) n (omega (arith, imm_length)) m

  imm_rest : (x : List ℕ) → n ≤ length x → drop n (immediate_stored little x here (displacement start here)) ≡ drop n x
  unfolding immediate_stored
  imm_rest x m = splice_rest x (8 * here + 4) (bytes4 little (unsigned half32 (displacement start here))) n (omega (arith, imm_length)) (omega (arith, imm_length))

  source_take : take n (source_stored little 4 image here) ≡ source_stored little 4 (take n image) here
  unfolding source_stored
  source_take =
      splice_within image (8 * here + 1) (registers little 4 (destination_of little (byte_at image (8 * here + 1))) ∷ []) n (omega arith) fits
      ∙ ap (λ byte. splice (take n image) (8 * here + 1) (registers little 4 (destination_of little byte) ∷ [])) (sym (get_or-take n image (8 * here + 1) 0 (omega arith)))

  source_rest : drop n (source_stored little 4 image here) ≡ drop n image
  unfolding source_stored
  source_rest = splice_rest image (8 * here + 1) (registers little 4 (destination_of little (byte_at image (8 * here + 1))) ∷ []) n (omega arith) (omega arith)

  source_long : n ≤ length (source_stored little 4 image here)
  source_long = omega (arith, source_kept little 4 (omega arith) image here (omega arith))

  pub point_take : (reference : Bool) → take n (pointed_to reference image here start) ≡ pointed_to reference (take n image) here start
  point_take false = imm_take image fits
  point_take true =
      imm_take (source_stored little 4 image here) source_long
      ∙ ap (λ x. immediate_stored little x here (displacement start here)) source_take

  pub point_rest : (reference : Bool) → drop n (pointed_to reference image here start) ≡ drop n image
  point_rest false = imm_rest image fits
  point_rest true = imm_rest (source_stored little 4 image here) source_long ∙ source_rest

  pub point_length : (reference : Bool) → length (pointed_to reference image here start) ≡ length image
  point_length false = bytes_kept little image here (displacement start here) (displacement_fits start here l l') (omega arith)
  point_length true =
      bytes_kept little (source_stored little 4 image here) here (displacement start here) (displacement_fits start here l l') (omega (arith, source_long))
      ∙ source_kept little 4 (omega arith) image here (omega arith)

point_decoded : (reference : Bool) (bytes : List ℕ) (here start : ℕ) → start < half32 → here < half32 → 8 * here + 8 ≤ length bytes
    → decoded little (pointed_to reference bytes here start) ≡ set (decoded little bytes) here (pointing reference start here (slot_at (decoded little bytes) here))
point_decoded false bytes here start l l' inside = calling_stored little bytes start here l l' inside
point_decoded true bytes here start l l' inside = referring_stored little bytes start here l l' inside

module _ {st : State} {b : Buffers} (valid : Valid st b) (reference : Bool) (here start : ℕ)
    (in_image : here < st.used.slots) (low : start < most_image_slots) where
  small : start < half32
  small = omega arith

  here_small : here < half32
  here_small = omega (arith, valid.most)

  inside : 8 * here + 8 ≤ 8 * st.used.slots
  inside = omega arith

  pub point_valid : Valid st (buffers (pointed_to reference b.image here start) b.funcs b.lines)
  point_valid =
      let long = point_length b.image here start (8 * st.used.slots) small here_small inside valid.slots reference in
      record {
        long = valid.long;
        some_slot = valid.some_slot;
        most = valid.most;
        slots = omega (arith, valid.slots, long);
        funcs = valid.funcs;
        lines = valid.lines;
        most_funcs = valid.most_funcs;
        most_lines = valid.most_lines;
        starts = valid.starts;
        image_rest = point_rest b.image here start (8 * st.used.slots) small here_small inside valid.slots reference
            ∙ valid.image_rest ∙ ap (λ n. replicate (n - 8 * st.used.slots) 0) (sym long);
        funcs_rest = valid.funcs_rest;
        lines_rest = valid.lines_rest;
      }

  pub point_holds : {o : Offered} {root : ℕ} {s : Link.State} → Holds o root st b s
      → Holds o root st (buffers (pointed_to reference b.image here start) b.funcs b.lines) (rewritten here (pointing reference start here) s)
  point_holds {o} {root} {s} h = record {
    slots = h.slots ∙ sym (length-set s.image here (pointing reference start here (slot_at s.image here)));
    image =
        ap (decoded little) (point_take b.image here start (8 * st.used.slots) small here_small inside valid.slots reference)
        ∙ point_decoded reference (take (8 * st.used.slots) b.image) here start small here_small (omega (arith, length-take-le (8 * st.used.slots) b.image valid.slots))
        ∙ ap (λ x. set x here (pointing reference start here (slot_at x here))) h.image;
    funcs_count = h.funcs_count;
    funcs = h.funcs;
    lines_count = h.lines_count;
    lines = h.lines;
    starts = h.starts;
    positive = h.positive;
  }
