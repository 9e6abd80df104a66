-- Only the part that was lent on can have changed.
use borrow.Rule.Slice.PartMut.{mid_of, put_mid, take_put, drop_put, mid_len, same_len_mid}
use Rattle.std.proofs.Common.{◌≡◌, ℕ, List, ◌+◌, ◌-◌, ◌≤◌, length, ◌∙◌, arith}
use Rattle.std.specs.Prelude.{Result}
use Rattle.clerk.specs.declared.reading.Lack.{Lack}
use Rattle.clerk.specs.Filled.{Filled}
use Rattle.clerk.proofs.reading.fill.Goals as goal

put_back : (at n : ℕ) (xs ys : List ℕ) (r : Result (Unit {0}) Lack) → at + n ≤ length xs → length ys ≡ length (mid_of at (at + n - at) xs)
    → Filled at n xs (put_mid at (at + n - at) xs ys) r
put_back at n xs ys r h e = record {
  refused = λ less. absurd (omega arith);
  taken = λ _. h;
  front = take_put at (at + n - at) xs ys (omega arith);
  rest = drop_put at (at + n) xs ys (omega arith) h (e ∙ mid_len at (at + n) xs h);
  sized = same_len_mid at (at + n - at) xs ys e;
}

pub returns : goal.returns
returns g c = put_back _ _ _ _ _ (omega (arith, c.if-at-buf.false, c.if-n-buf.false)) c.read_all.ensures
