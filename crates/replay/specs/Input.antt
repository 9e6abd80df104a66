-- A case as it stands in the input.
-- Assumes nothing.
use Rattle.std.specs.Prelude.{Bool, true, false, List, [], ℕ, ◌+◌, ◌*◌, leb, length, take, drop}
use Rattle.std.specs.Prelude.{◌≡◌, ◌≢◌, ◌≤◌, Result, MatchResult}
use Rattle.rules.specs.Bytes.{little, u32_at}
use Rattle.tell.specs.Files.{start_of}
use Rattle.info.specs.declared.RecordKind.TheVariants.{Functions, Lines}
use Rattle.replay.specs.declared.input.Kind.{Kind}
use Rattle.replay.specs.declared.input.Kind.TheVariants.{Link, MapStep, Records, Record}
use Rattle.replay.specs.declared.input.UnknownKind.{UnknownKind}
use Rattle.replay.specs.declared.input.TheConstants.{MARK, IMAGE, FUNCS, LINES, PLACE_BYTES}

-- word i of a header
abbrev pub word_at : List ℕ → ℕ → ℕ
word_at header i = u32_at little header (4 * i)

abbrev pub pick_data : Bool → List ℕ → List ℕ
pick_data true a = a
pick_data false a = []

-- the n bytes after the tables of a held file, none where it has fewer
unfoldable pub data_in : List ℕ → ℕ → List ℕ
data_in file n = pick_data (leb (start_of file 8 + n) (length file)) (take n (drop (start_of file 8) file))

-- the kinds' numbers
abbrev pub code_of : Kind → ℕ
code_of Link = 1
code_of MapStep = 2
code_of (Records Functions) = 3
code_of (Records Lines) = 4
code_of (Record Functions) = 5
code_of (Record Lines) = 6

-- the kind that a number is, or that it is none
abbrev pub Decodes : ℕ → Result Kind UnknownKind → Type 0
Decodes n r = MatchResult r (λ kind. code_of kind ≡ n) (λ e. (e.0 ≡ n) × ((kind : Kind) → code_of kind ≢ n))

-- the most bytes that a case may ask for where its first output goes
abbrev pub most_out : Kind → ℕ
most_out Link = IMAGE
most_out MapStep = LINES
most_out (Records i) = LINES
most_out (Record i) = LINES

-- the outputs that a header asks for are no longer than a case may have them
pub record HasRoom (kind : Kind) (header : List ℕ) : Type 0 where
  pub out : word_at header 14 ≤ most_out kind
  pub func_info : word_at header 15 ≤ FUNCS
  pub line_info : word_at header 16 ≤ LINES
  pub places : word_at header 17 ≤ PLACE_BYTES

-- a header begins with the mark, then has its kind's number, and its outputs fit
pub record IsHeader (kind : Kind) (header : List ℕ) : Type 0 where
  pub mark : word_at header 0 ≡ MARK
  pub named : code_of kind ≡ word_at header 1
  pub room : HasRoom kind header
