-- An object with its tables read: what the link step and the walks see of it. No bytes, no byte order, no lookups.
-- Assumes nothing.
use Rattle.std.specs.Prelude.{Bool, true, false, ◌&&◌, ℕ, suc, ℤ, pos, negsuc, ◌-ℤ◌, ltb, eqb}

-- one slot, decoded
pub record Insn : Type 0 where
  pub opcode : ℕ
  pub destination : ℕ
  pub source : ℕ
  pub offset : ℤ
  pub immediate : ℤ

abbrev pub is_zero : ℤ → Bool
is_zero (pos n) = eqb n 0
is_zero (negsuc n) = false

-- "A call is opcode 85 hex, register byte 10 hex, offset 0, any immediate" (RFC 9669, section 4.3.2: source register 1)
unfoldable pub is_call : Insn → Bool
is_call i = eqb i.opcode 0x85 && eqb i.destination 0 && eqb i.source 1 && is_zero i.offset

-- the first four bytes are 0
unfoldable pub is_blank : Insn → Bool
is_blank i = eqb i.opcode 0 && eqb i.destination 0 && eqb i.source 0 && is_zero i.offset

-- what a slot's relocation, or a call without one, names by section and address
pub data Named : Type 0 where
  nothing : Named
  -- the function of that row
  function : ℕ → Named
  -- a place where no function starts: the refusal's number
  missing : ℕ → Named
  -- no place at all: the refusal's number
  unclear : ℕ → Named

-- rows and slots count from 0; slots within their function
pub record Object : Type 0 where
  pub rows : ℕ
  pub slots : ℕ → ℕ
  pub insn : ℕ → ℕ → Insn
  pub named : ℕ → ℕ → Named

-- "A wide load is opcode 18 hex with a next slot in the same function whose first four bytes are 0" (RFC 9669, sections 3.2 and 5.4):
-- the slot of that number, of a function that has so many
abbrev pub is_wide_in : (ℕ → Insn) → ℕ → ℕ → Bool
is_wide_in insn slots slot = eqb (insn slot).opcode 0x18 && ltb (suc slot) slots && is_blank (insn (suc slot))

unfoldable pub is_wide_load : Object → ℕ → ℕ → Bool
is_wide_load object row slot = is_wide_in (object.insn row) (object.slots row) slot

-- what the link step makes of a slot
pub data Meaning : Type 0 where
  copied : Meaning
  call : ℕ → Meaning
  reference : ℕ → Meaning
  refused : ℕ → Meaning

-- of a slot that is a call or not, a wide load or not, and what it names. What names nothing: "9 on a call, else copied".
-- "Then 6 if neither call nor wide load": after 3 and 8, which leave no place at all, and before 10, which says that nothing starts there
unfoldable pub decide : Bool → Bool → Named → Meaning
decide true wide nothing = refused 9
decide true wide (function row) = call row
decide true wide (missing number) = refused number
decide true wide (unclear number) = refused number
decide false true nothing = copied
decide false true (function row) = reference row
decide false true (missing number) = refused number
decide false true (unclear number) = refused number
decide false false nothing = copied
decide false false (function row) = refused 6
decide false false (missing number) = refused 6
decide false false (unclear number) = refused number

unfoldable pub meaning : Object → ℕ → ℕ → Meaning
meaning object row slot = decide (is_call (object.insn row slot)) (is_wide_load object row slot) (object.named row slot)

-- "Immediate = callee start − slot in image − 1"
unfoldable pub displacement : ℕ → ℕ → ℤ
displacement start here = pos start -ℤ pos here -ℤ pos 1

-- the slot that stands at `here` in the image, for a function that starts at `start`. "A wide load also gets source register 4"
unfoldable pub calling : Insn → ℕ → ℕ → Insn
calling i start here = record {
  opcode = i.opcode;
  destination = i.destination;
  source = i.source;
  offset = i.offset;
  immediate = displacement start here;
}

unfoldable pub referring : Insn → ℕ → ℕ → Insn
referring i start here = record {
  opcode = i.opcode;
  destination = i.destination;
  source = 4;
  offset = i.offset;
  immediate = displacement start here;
}
