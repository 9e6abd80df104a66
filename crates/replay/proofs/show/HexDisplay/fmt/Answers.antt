-- A byte more, and its two digits.
use Rattle.std.proofs.Common.{rules, ◌≡◌, ℕ, ◌+◌, ◌-◌, ◌<◌, ◌^◌, ◌/◌, ◌%◌, false, List, [], ◌∷◌, ◌++◌, length, take, get_or, ap, sym, ◌∙◌}
use Rattle.std.specs.Fmt.{padded_integral, format_spec, digits, digit_glyph}
use Rattle.std.proofs.lemmas.Fmt.{hex_byte}
use Rattle.std.proofs.lemmas.Grind.{put_two}
use Rattle.std.proofs.lemmas.List.{take_more, flat_map_more}
use Rattle.replay.specs.Shown.{hex_digits}
use Rattle.replay.proofs.show.HexDisplay.fmt.Goals as goal

hex_more : (xs : List ℕ) (i : ℕ) → i < length xs → get_or xs i 0 < 256
    → hex_digits (take i xs) ++ padded_integral (format_spec 32 0 4 2 (2 ^ 64 - 1)) false [] (digits 16 false (get_or xs i 0)) ≡ hex_digits (take (i + 1) xs)
hex_more xs i lt small =
    ap (λ (ds : List ℕ). hex_digits (take i xs) ++ ds) (hex_byte false (get_or xs i 0) small)
    ∙ flat_map_more (λ (b : ℕ). digit_glyph false (b / 16) ∷ digit_glyph false (b % 16) ∷ []) [] (take i xs) (get_or xs i 0)
    ∙ ap hex_digits (sym (take_more xs i 0 lt))

pub loop-b-preserved : goal.loop-b-preserved
loop-b-preserved g c p = put_two _ _ _ _ _ _ _ (c.loop-b.invariant p) (search rules) (hex_more c.args.self.now.0.now c.loop-b.b-index (search rules) (search rules))
