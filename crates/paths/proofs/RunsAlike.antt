-- Both walks of what `link` accepted: with equally many frames and the same answers their runs come to the same, at every limit.
-- Assumes nothing.
use mathlib.Core.Path.{◌≡◌}
use mathlib.Core.Bool.{Bool}
use mathlib.Core.List.{List, ◌∷◌}
use Prim.Native.Nat.{ℕ}
use Rattle.std.specs.Prelude.{Result}
use Rattle.rules.specs.declared.Places.{Places}
use Rattle.rules.specs.declared.Refusal.{Refusal}
use Rattle.rules.specs.Faithful.{piece}
use Rattle.rules.specs.Walk.{source_walk, image_walk}
use Rattle.rules.specs.Together.{SamePlace}
use Rattle.rules.specs.Bytes.{little, decoded, AreBytes}
use Rattle.rules.specs.Answers.{reply_of}
use Rattle.rules.specs.Tables.{object_of}
use Rattle.rules.specs.Rows.{Offered, tables_of}
use Rattle.rules.specs.Entries.{link_entry}
use Rattle.rules.specs.Demand3.{used_image}
use Rattle.rules.specs.Lent.{Buffers, lent_by}
use Rattle.linker.specs.Linker.{Outcomes}
use Rattle.linker.proofs.Kept.{said, link_keeps_path}
use Rattle.walk.specs.Runs.{ran}
use Rattle.walk.specs.Alike.{Alike}
use Rattle.walk.proofs.Alike.{paths_alike}

module _ (o : Offered) (root : ℕ) (b b' : Buffers) (a : Result Places Refusal) (out : Outcomes b' a (link_entry little o root (lent_by b))) (are : AreBytes o.instructions) (ok : (reply_of a).number ≡ 0) where
  pub linked_runs_alike : (answers : List Bool) (room given limit : ℕ)
      → Alike (SamePlace (piece root 0 ∷ (link_keeps_path o root b b' a out are ok).others)) (ran room given (source_walk (object_of (tables_of little o)) root answers) limit)
      (ran room given (image_walk (decoded little (used_image (said a b'))) answers) limit)
  linked_runs_alike = paths_alike (object_of (tables_of little o)) root (decoded little (used_image (said a b'))) (piece root 0 ∷ (link_keeps_path o root b b' a out are ok).others) (link_keeps_path o root b b' a out are ok).kept.path
