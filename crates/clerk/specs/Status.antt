-- What a function that reads, writes or speaks ends with. Which of the two it is, only the system says.
-- Assumes nothing.
use Rattle.std.specs.Prelude.{Bool, true, false, cond, Result, Ok, Err, ℕ, eqb}
use Rattle.tell.specs.declared.words.Told.{Told}
use Rattle.clerk.specs.declared.reading.Unread.{Unread}
use Rattle.clerk.specs.declared.reading.Unread.TheVariants.{NoLengths, Failed, Short, Large, GoesOn, NotClosed}
use Rattle.clerk.specs.declared.status.Stop.{Stop}
use Rattle.clerk.specs.declared.status.Stop.TheVariants.{Refused, Usage, NoInput, NoOutput}

-- the process's exit status
abbrev pub stop_status : Stop → ℕ
stop_status Refused = 1
stop_status Usage = 2
stop_status NoInput = 3
stop_status NoOutput = 4

abbrev pub status_in : Result (Unit {0}) Stop → ℕ
status_in (Ok done) = 0
status_in (Err stop) = stop_status stop

-- one of two
abbrev pub either : ℕ → ℕ → ℕ → Bool
either a b r = cond (eqb r a) true (eqb r b)

-- what a told answer stands for, 0 done or yes and 1 refused or no
abbrev pub status_of : Told → ℕ
status_of told = cond (eqb told.number 0) 0 1

-- what a file stands for, 0 had whole and 3 not
abbrev pub read_status : Result (Unit {0}) Unread → ℕ
read_status (Ok whole) = 0
read_status (Err why) = 3

-- what the end of a file can be: there and closed, more to come, or a call that failed
abbrev pub is_end_of : Unread → Bool
is_end_of NoLengths = false
is_end_of (Failed why) = true
is_end_of (Short table) = false
is_end_of (Large table needs holds) = false
is_end_of GoesOn = true
is_end_of NotClosed = true

abbrev pub is_end : Result (Unit {0}) Unread → Bool
is_end (Ok whole) = true
is_end (Err why) = is_end_of why
