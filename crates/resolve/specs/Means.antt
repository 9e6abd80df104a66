-- The answers of the code as the definitions' own.
-- Assumes nothing.
use Rattle.std.specs.Prelude.{◌≡◌, cond, List, [], ℕ}
use Rattle.std.proofs.Math.Option.{Option, none, some}
use Rattle.rules.specs.declared.Refusal.{Refusal}
use Rattle.std.specs.Prelude as prelude
use Rattle.rules.specs.Object as object
use Rattle.rules.specs.Bytes.{little}
use Rattle.rules.specs.Answers.{reply, refused_reply}
use Rattle.rules.specs.Tables.{Tables}
use Rattle.rules.specs.Rows.{map_step_offer, tables_of}
use Rattle.resolve.specs.declared.Unnamed.{Unnamed}
use Rattle.resolve.specs.declared.Unnamed.TheVariants.{Missing, UnknownSymbol, UnknownForm}
use Rattle.resolve.specs.declared.Pointer.{Pointer}

abbrev pub named_of : prelude.Result (prelude.Option ℕ) Unnamed → object.Named
named_of (prelude.Ok prelude.None) = object.nothing
named_of (prelude.Ok (prelude.Some row)) = object.function row
named_of (prelude.Err Missing) = object.missing 10
named_of (prelude.Err UnknownSymbol) = object.unclear 3
named_of (prelude.Err UnknownForm) = object.unclear 8

-- a refusal that is the one of a slot, at its places
pub record Refuses (row slot : ℕ) (r : Refusal) (m : object.Meaning) : Type 0 where
  pub refusal : m ≡ object.refused (refused_reply r).number
  pub places : refused_reply r ≡ reply (refused_reply r).number row slot 0

-- of the slot of a row, against its meaning: a reference is `true`
abbrev pub Means : ℕ → ℕ → prelude.Result (prelude.Option Pointer) Refusal → object.Meaning → Type 0
Means row slot (prelude.Ok prelude.None) m = m ≡ object.copied
Means row slot (prelude.Ok (prelude.Some p)) m = m ≡ cond p.reference (object.reference p.callee) (object.call p.callee)
Means row slot (prelude.Err r) m = Refuses row slot r m

abbrev pub option_of : (prelude.Option ℕ) → Option ℕ
option_of prelude.None = none
option_of (prelude.Some k) = some k

-- the tables that a symbol's target is looked up in, read: 1 and 3
abbrev pub targets : List ℕ → List ℕ → Tables
targets code functions = tables_of little (map_step_offer code [] functions [] [] [])
