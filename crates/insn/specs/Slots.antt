-- Slots and byte offsets.
-- Assumes nothing.
use Rattle.std.specs.Prelude.{ℕ, ◌*◌, ◌/◌}
use Rattle.rules.specs.Bytes.{slot_size}

-- the byte offset of a slot's first byte
abbrev pub offset_of : ℕ → ℕ
offset_of slot = slot_size * slot

-- the slot in which a byte offset lies
abbrev pub slot_of : ℕ → ℕ
slot_of offset = offset / slot_size
