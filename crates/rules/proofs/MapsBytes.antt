-- The map step's rewriting on bytes, in either byte order: source register, next immediate, last the fd, is `changed` of the decoded slots.
-- Assumes nothing.
use mathlib.Core.Path.{◌≡◌, ◌∙◌, ap}
use mathlib.Core.Option.{none, some}
use mathlib.Core.List.{List}
use Prim.Native.Nat.{ℕ, suc, ◌+◌, ◌*◌, ◌≤◌}
use native.Mathlib.Omega.{arith}
use lib.IntN.{ℤ}
use lib.ListN.{length}
use Rattle.rules.specs.Bytes.{Order, Fits, half32, decoded, immediate_stored, source_stored, with_immediate}
use Rattle.rules.specs.Maps.{at, changed}
use Rattle.rules.proofs.Writing.{stored_decoded, bytes_kept, source_decoded, source_kept}

module _ (order : Order) (bytes : List ℕ) (here : ℕ) (fd : ℤ) (fd_fits : Fits half32 fd) where
  -- no data
  pub changed_stored : 8 * here + 8 ≤ length bytes
      → decoded order (immediate_stored order (source_stored order 1 bytes here) here fd) ≡ changed here fd none (decoded order bytes)
  changed_stored inside =
      stored_decoded order (source_stored order 1 bytes here) here fd fd_fits (rw (source_kept order 1 (omega arith) bytes here inside) inside)
      ∙ ap (at here (with_immediate fd)) (source_decoded order 1 (omega arith) bytes here inside)

  -- with data
  pub value_stored : (value : ℤ) → Fits half32 value → 8 * suc here + 8 ≤ length bytes
      → decoded order (immediate_stored order (immediate_stored order (source_stored order 2 bytes here) (suc here) value) here fd) ≡ changed here fd (some value) (decoded order bytes)
  value_stored value value_fits inside =
      let source : length (source_stored order 2 bytes here) ≡ length bytes = source_kept order 2 (omega arith) bytes here (omega arith) in
      let next : length (immediate_stored order (source_stored order 2 bytes here) (suc here) value) ≡ length (source_stored order 2 bytes here) =
      bytes_kept order (source_stored order 2 bytes here) (suc here) value value_fits (omega arith) in
      stored_decoded order (immediate_stored order (source_stored order 2 bytes here) (suc here) value) here fd fd_fits (omega arith)
      ∙ ap (at here (with_immediate fd)) (stored_decoded order (source_stored order 2 bytes here) (suc here) value value_fits (omega arith))
      ∙ ap (λ x. at here (with_immediate fd) (at (suc here) (with_immediate value) x)) (source_decoded order 2 (omega arith) bytes here (omega arith))
