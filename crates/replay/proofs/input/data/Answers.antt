-- The part after the tables, where the file has it.
use borrow.Author.Tests.{le-leb, lt-leb}
use Rattle.std.proofs.Common.{◌≡◌, Bool, ℕ, List, [], ◌+◌, ◌-◌, ◌≤◌, ◌<◌, length, take, drop, Option, Some, None, Bor, refl, sym, ap, ◌∙◌, arith}
use mathlib.Core.Logic.{⊎_elim}
use Rattle.std.specs.Option.{unwrap_or}
use Rattle.std.specs.List.{slice_range}
use Rattle.std.specs.Slice.{IsGetRangeResult}
use Rattle.std.proofs.lemmas.List.{take-take}
use Rattle.tell.specs.Files.{start_of}
use Rattle.replay.specs.Input.{pick_data, data_in}
use Rattle.replay.proofs.input.data.Goals as goal

too_few : (file : List ℕ) (s n : ℕ) → s ≡ start_of file 8 → length file < s + n → [] ≡ data_in file n
unfolding data_in
too_few file s n e h =
    sym (ap (λ (t : Bool). pick_data t (take n (drop (start_of file 8) file))) (lt-leb (start_of file 8 + n) (length file) (omega (arith, e))))

there : (file : List ℕ) (s n : ℕ) → s ≡ start_of file 8 → s + n ≤ length file → take n (drop s file) ≡ data_in file n
unfolding data_in
there file s n e h =
    ap (λ (k : ℕ). take n (drop k file)) e
    ∙ sym (ap (λ (t : Bool). pick_data t (take n (drop (start_of file 8) file))) (le-leb (start_of file 8 + n) (length file) (omega (arith, e))))

-- of what stands from s on the first n, or nothing
front : (file rest : List ℕ) (s n : ℕ) (r : Option (Bor (List ℕ))) (d : Bor (List ℕ)) → s ≡ start_of file 8 → rest ≡ slice_range file s (length file)
    → length rest + s ≡ length file → d.now ≡ [] → IsGetRangeResult rest 0 n r → (unwrap_or r d).now ≡ data_in file n
front file rest s n None d e is long empty h = empty ∙ too_few file s n e (⊎_elim (λ (p : n < 0). omega (arith, p)) (λ (p : length rest < n). omega (arith, p, long)) h.0)
front file rest s n (Some x) d e is long empty h =
    let zero_off : n - 0 ≡ n = omega arith in
    h.0.2
    ∙ ap (λ (k : ℕ). take k rest) zero_off
    ∙ ap (λ (k : List ℕ). take n k) is
    ∙ take-take n (length file - s) (drop s file) (omega (arith, h.0.1, long))
    ∙ there file s n e (omega (arith, h.0.1, long))

pub returns-in_default : goal.returns-in_default
returns-in_default c =
    too_few c.args.file.now c.start_of.result c.args.n c.start_of.ensures.0
    (⊎_elim (λ (p : length c.args.file.now < c.start_of.result). omega (arith, p)) (λ (p : length c.args.file.now < length c.args.file.now). omega (arith, p)) c.in_default.ensures.lookup.0)

pub returns : goal.returns
returns c =
    ap (λ (b : Bor (List ℕ)). b.now) c.unwrap_or.ensures
    ∙ front c.args.file.now c.in-Some.rest.now c.start_of.result c.args.n c.get-2.result _ c.start_of.ensures.0 c.in-Some.ensures.lookup.0.2 c.in-Some.ensures.lookup.0.3 refl c.get-2.ensures.lookup
