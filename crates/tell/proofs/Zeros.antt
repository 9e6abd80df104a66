-- The zeros behind a line's words: a byte more takes the first of them. Assumes nothing.
use Rattle.std.proofs.Common.{◌≡◌, sym, ap, ◌∙◌, List, ℕ, ◌+◌, ◌-◌, arith, drop, set, replicate, drop-drop, drop-set-lt}
use Rattle.std.proofs.lemmas.List.{drop-replicate}
use Rattle.tell.specs.Lines.{line_room, zeros_behind}

fewer : (n m : ℕ) → n - 1 ≡ m → drop {A = ℕ} 1 (replicate n 0) ≡ replicate m 0
fewer n m e = drop-replicate 1 n 0 ∙ ap (λ (k : ℕ). replicate k 0) e

pub one_fewer : (bytes : List ℕ) (used b : ℕ) → drop used bytes ≡ zeros_behind used → drop (used + 1) (set bytes used b) ≡ zeros_behind (used + 1)
one_fewer bytes used b z =
    drop-set-lt (used + 1) bytes used b (omega arith)
    ∙ sym (drop-drop 1 used bytes)
    ∙ ap (drop 1) z
    ∙ fewer (line_room - used) (line_room - (used + 1)) (omega arith)
