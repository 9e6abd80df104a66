-- bark's own sizes, as its promises name them (src/room.rt has them for code).
-- Assumes nothing.
use Rattle.std.specs.Prelude.{ℕ}

-- "own buffers within 64 KiB": what one of them, and all of them, may have at most
abbrev pub own_most : ℕ
own_most = 65536

-- a tables file as it is held, and table 6 beside it
abbrev pub file_room : ℕ
file_room = 25888

abbrev pub instructions_room : ℕ
instructions_room = 12288
