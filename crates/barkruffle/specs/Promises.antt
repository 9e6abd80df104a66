-- What an entry for C promises: the number returned, and what every lent buffer holds after it.
-- Assumes nothing.
use Rattle.std.specs.Prelude.{◌≡◌, Bool, cond, List, ℕ, ◌*◌, take, drop}
use Rattle.rules.specs.declared.Table.{Table}
use Rattle.rules.specs.Bytes.{little}
use Rattle.rules.specs.Entries.{MapResult, LinkResult, PiecesResult}
use Rattle.rules.specs.Readers.{Info, Read, has_record, record_part}
use Rattle.rules.specs.Lent.{Buffers}
use Rattle.answers.specs.Told.{Told}

pub record LinkTold (before after : List ℕ) (b : Buffers) (result : ℕ) (link : LinkResult) : Type 0 where
  pub told : Told before after result link.reply
  pub image : b.image ≡ link.image
  pub funcs : b.funcs ≡ link.func_info
  pub lines : b.lines ≡ link.line_info

-- the list's buffer too
pub record ListTold (before after : List ℕ) (b : Buffers) (list : List ℕ) (result : ℕ) (entry : PiecesResult) : Type 0 where
  pub link : LinkTold before after b result entry.link
  pub pieces : list ≡ entry.pieces

pub record MapTold (before after table6 : List ℕ) (result : ℕ) (map : MapResult) : Type 0 where
  pub told : Told before after result map.reply
  pub instructions : table6 ≡ map.instructions

pub record ReadTold (before after output : List ℕ) (result : ℕ) (rows : Read) : Type 0 where
  pub told : Told before after result rows.reply
  pub out : output ≡ rows.out

-- a start and a length for record k, both 0 where there is none
pub record Placed (there : Bool) (size k start len : ℕ) : Type 0 where
  pub starts : start ≡ cond there (size * k) 0
  pub lasts : len ≡ cond there size 0

-- record k where it stands in the caller's data
pub record Stands (table : Table) (info : Info) (k start len : ℕ) : Type 0 where
  pub placed : Placed (has_record little table info k) info.size k start len
  pub part : take len (drop start info.bytes) ≡ record_part little table info k
