-- The byte stands after the words, or there is no room for it. Assumes nothing.
use Rattle.std.proofs.Common.{◌≡◌, sym, ap, ◌∙◌, List, [], ◌∷◌, ◌++◌, ℕ, ◌+◌, ◌≤◌, ◌<◌, arith, length, take, set, add-one, length-set, length-take-le}
use Rattle.std.proofs.Math.Seq.{take-suc-set}
use Rattle.tell.specs.Lines.{line_room, added}
use Rattle.tell.proofs.Added.{one, full}
use Rattle.tell.proofs.Zeros.{one_fewer}
use Rattle.tell.proofs.lines.Words.push.Goals as goal

there : (bytes w : List ℕ) (used b : ℕ) → length bytes ≡ line_room → used < line_room → take used bytes ≡ w
    → take (used + 1) (set bytes used b) ≡ added (b ∷ []) w
there bytes w used b e h v =
    let n : length w ≡ used = ap length (sym v) ∙ length-take-le used bytes (omega arith) in
    ap (λ (k : ℕ). take k (set bytes used b)) (add-one used)
    ∙ take-suc-set bytes used b (omega arith)
    ∙ ap (λ (s : List ℕ). s ++ b ∷ []) v
    ∙ one b w (omega arith)

no_room : (bytes w : List ℕ) (used b : ℕ) → length bytes ≡ line_room → used ≤ line_room → line_room ≤ used → take used bytes ≡ w
    → w ≡ added (b ∷ []) w
no_room bytes w used b e h l v =
    let n : length w ≡ used = ap length (sym v) ∙ length-take-le used bytes (omega arith) in
    full (b ∷ []) w (omega arith)

pub returns-then-self-lt-LINE : goal.returns-then-self-lt-LINE
returns-then-self-lt-LINE c = there _ _ _ _ c.self.told c.if-self-lt-LINE.true c.self.view_is

pub returns-else-self-lt-LINE : goal.returns-else-self-lt-LINE
returns-else-self-lt-LINE c = no_room _ _ _ _ c.self.told c.self.invariant.0 c.if-self-lt-LINE.false c.self.view_is

pub invariant_of-self : goal.invariant_of-self
invariant_of-self c = (omega (arith, c.if-self-lt-LINE.true), length-set _ _ _ ∙ c.self.told, one_fewer _ _ _ c.self.invariant.2)
