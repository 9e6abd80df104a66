-- Numbers in bytes, and a slot's eight bytes as fields and back (RFC 9669, section 3.1), in either byte order.
-- A place past the end of the bytes reads as 0.
-- Assumes nothing.
use Rattle.std.specs.Prelude.{cond, List, [], ◌∷◌, ◌++◌, ℕ, suc, ◌+◌, ◌*◌, ◌-◌, ◌/◌, ◌%◌, ◌<◌, ℤ, pos, negsuc, ltb, length, get_or, take, drop, replicate}
use Rattle.rules.specs.Object.{Insn}
use Rattle.rules.specs.Link.{run}

pub data Order : Type 0 where
  little big : Order

-- ---- numbers

abbrev pub number2 : Order → ℕ → ℕ → ℕ
number2 little a b = a + 256 * b
number2 big a b = b + 256 * a

abbrev pub number4 : Order → ℕ → ℕ → ℕ → ℕ → ℕ
number4 little a b c d = a + 256 * (b + 256 * (c + 256 * d))
number4 big a b c d = d + 256 * (c + 256 * (b + 256 * a))

abbrev pub number8 : Order → ℕ → ℕ → ℕ
number8 little low high = low + 0x1_0000_0000 * high
number8 big high low = low + 0x1_0000_0000 * high

abbrev pub byte_at : List ℕ → ℕ → ℕ
byte_at bytes at = get_or bytes at 0

-- every number of them is a byte
abbrev pub AreBytes : List ℕ → Type 0
AreBytes bytes = (k : ℕ) → byte_at bytes k < 256

-- a u16, a u32, a u64 from the place `at` on
unfoldable pub u16_at : Order → List ℕ → ℕ → ℕ
u16_at order bytes at = number2 order (byte_at bytes at) (byte_at bytes (at + 1))

unfoldable pub u32_at : Order → List ℕ → ℕ → ℕ
u32_at order bytes at = number4 order (byte_at bytes at) (byte_at bytes (at + 1)) (byte_at bytes (at + 2)) (byte_at bytes (at + 3))

unfoldable pub u64_at : Order → List ℕ → ℕ → ℕ
u64_at order bytes at = number8 order (u32_at order bytes at) (u32_at order bytes (at + 4))

-- the bytes of a u16 and of a u32
abbrev pub bytes2 : Order → ℕ → List ℕ
bytes2 little n = n % 256 ∷ n / 256 ∷ []
bytes2 big n = n / 256 ∷ n % 256 ∷ []

abbrev pub bytes4 : Order → ℕ → List ℕ
bytes4 little n = n % 256 ∷ n / 256 % 256 ∷ n / 65536 % 256 ∷ n / 16777216 ∷ []
bytes4 big n = n / 16777216 ∷ n / 65536 % 256 ∷ n / 256 % 256 ∷ n % 256 ∷ []

-- two's complement (RFC 9669, section 2.1), of numbers below half + half
unfoldable pub signed : ℕ → ℕ → ℤ
signed half n = cond (ltb n half) (pos n) (negsuc (half + half - suc n))

unfoldable pub unsigned : ℕ → ℤ → ℕ
unsigned half (pos n) = n
unsigned half (negsuc n) = half + half - suc n

-- from −half to half − 1
abbrev pub Fits : ℕ → ℤ → Type 0
Fits half (pos n) = n < half
Fits half (negsuc n) = n < half

abbrev pub half16 : ℕ
half16 = 0x8000

abbrev pub half32 : ℕ
half32 = 0x8000_0000

-- ---- "Opcode byte; register byte with source in the high four bits, destination in the low; offset i16; immediate i32"
-- (RFC 9669, section 3.1; on a big-endian host the two registers change places)

abbrev pub source_of : Order → ℕ → ℕ
source_of little byte = byte / 16
source_of big byte = byte % 16

abbrev pub destination_of : Order → ℕ → ℕ
destination_of little byte = byte % 16
destination_of big byte = byte / 16

abbrev pub registers : Order → ℕ → ℕ → ℕ
registers little source destination = destination + 16 * source
registers big source destination = source + 16 * destination

unfoldable pub decode : Order → List ℕ → ℕ → Insn
decode order bytes at = record {
  opcode = byte_at bytes at;
  destination = destination_of order (byte_at bytes (at + 1));
  source = source_of order (byte_at bytes (at + 1));
  offset = signed half16 (u16_at order bytes (at + 2));
  immediate = signed half32 (u32_at order bytes (at + 4));
}

unfoldable pub encode : Order → Insn → List ℕ
encode order i =
    i.opcode ∷ registers order i.source i.destination
    ∷ (bytes2 order (unsigned half16 i.offset) ++ bytes4 order (unsigned half32 i.immediate))

abbrev pub slot_size : ℕ
slot_size = 8

-- the slot of that number
abbrev pub slot_in : Order → List ℕ → ℕ → Insn
slot_in order bytes slot = decode order bytes (slot_size * slot)

-- the whole slots of some bytes, and the bytes of some slots
unfoldable pub decoded : Order → List ℕ → List Insn
decoded order bytes = run (λ slot. slot_in order bytes slot) 0 (length bytes / slot_size)

unfoldable pub encoded : Order → List Insn → List ℕ
encoded order [] = []
encoded order (i ∷ is) = encode order i ++ encoded order is

-- ---- what a write leaves

-- `vs` in the place of what stood from the place `at` on
unfoldable pub splice : List ℕ → ℕ → List ℕ → List ℕ
splice bytes at vs = take at bytes ++ vs ++ drop (at + length vs) bytes

-- zero after the first n bytes
unfoldable pub zero_after : ℕ → List ℕ → List ℕ
zero_after n bytes = take n bytes ++ replicate (length bytes - n) 0

-- a buffer of n bytes that holds these and zero after them
unfoldable pub padded : ℕ → List ℕ → List ℕ
padded n bytes = bytes ++ replicate (n - length bytes) 0

-- an immediate in place
abbrev pub with_immediate : ℤ → Insn → Insn
with_immediate z i = record { opcode = i.opcode; destination = i.destination; source = i.source; offset = i.offset; immediate = z }

unfoldable pub immediate_stored : Order → List ℕ → ℕ → ℤ → List ℕ
immediate_stored order bytes slot z = splice bytes (slot_size * slot + 4) (bytes4 order (unsigned half32 z))

-- a source register in place: the register byte with the destination kept
abbrev pub with_source : ℕ → Insn → Insn
with_source source i = record { opcode = i.opcode; destination = i.destination; source = source; offset = i.offset; immediate = i.immediate }

unfoldable pub source_stored : Order → ℕ → List ℕ → ℕ → List ℕ
source_stored order source bytes slot =
    splice bytes (slot_size * slot + 1) (registers order source (destination_of order (byte_at bytes (slot_size * slot + 1))) ∷ [])
