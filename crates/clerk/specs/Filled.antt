-- What is taken of a file. Which bytes come, and whether as many come as are asked for, only the system says.
-- Assumes nothing.
use Rattle.std.specs.Prelude.{◌≡◌, Bool, true, false, Result, Ok, Err, List, [], ◌∷◌, ℕ, ◌+◌, ◌<◌, ◌≤◌, length, get_or, take, drop}
use Rattle.rules.specs.declared.Table.{Table}
use Rattle.tell.specs.Files.{place_of}
use Rattle.clerk.specs.declared.reading.Lack.{Lack}
use Rattle.clerk.specs.declared.reading.Lack.TheVariants.{Less, NoRoom}
use Rattle.clerk.specs.declared.reading.Lack.TheVariants.{Failed as Lack-as-Failed}
use Rattle.clerk.specs.declared.reading.Unread.{Unread}
use Rattle.clerk.specs.declared.reading.Unread.TheVariants.{Failed, Short, Large}

-- a buffer before and after n bytes were asked for from the place `at` on
pub record Filled (at n : ℕ) (before after : List ℕ) (r : Result (Unit {0}) Lack) : Type 0 where
  pub refused : length before < at + n → (after ≡ before) × (r ≡ Err NoRoom)
  pub taken : r ≡ Ok tt → at + n ≤ length before
  pub front : take at after ≡ take at before
  pub rest : drop (at + n) after ≡ drop (at + n) before
  pub sized : length after ≡ length before

-- the bytes that a table may have: what bark has room for (tell, src/room.rt), or what a length can say
abbrev pub most_of : Bool → Table → ℕ
most_of true table = get_or (256 ∷ 6144 ∷ 2048 ∷ 6144 ∷ 1024 ∷ 12288 ∷ 2048 ∷ 8192 ∷ []) (place_of table) 0
most_of false table = 0xFFFF_FFFF

-- what is said of a table that is not had
abbrev pub unread_of : Lack → ℕ → ℕ → ℕ → Unread
unread_of Less table needs holds = Short table
unread_of (Lack-as-Failed why) table needs holds = Failed why
unread_of NoRoom table needs holds = Large table needs holds
