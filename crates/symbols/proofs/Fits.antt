-- A row that someone holds has seven bytes of padding.
-- Assumes nothing.
use mathlib.Core.Path.{◌≡◌}
use mathlib.Core.List.{List}
use mir.Val.{Val}
use lib.ListN.{length}
use denote.Laws.{Is}
use denote.Struct.Laws as LL
use Rattle.symbols.specs.declared.Symbol.{Symbol}
use Rattle.symbols.specs.contracts.Symbol as T
use Rattle.symbols.proofs.Symbol.TheLaws as T'

pub padding_seven : (s : Symbol) (vs : List Val) → Is T.the_row s vs → length s.padding ≡ 7
padding_seven s vs p = (LL.owed T.the_type T'.the_laws s vs p).1.1.1.1.0.1.0.1
