-- What the tool is asked for, by its first argument.
-- Assumes nothing.
use Rattle.std.specs.Prelude.{Bool, true, false, ◌||◌, Option, None, Some, List, [], ◌∷◌, ℕ}
use Rattle.std.specs.Str.{bytes_eq}
use Rattle.tell.specs.declared.commands.Command.{Command}
use Rattle.tell.specs.declared.commands.Command.TheVariants.{Link, Examine, Help}

abbrev pub pick_command : Bool → Command → Option Command → Option Command
pick_command true a b = Some a
pick_command false a b = b

-- "help", "--help", "-h"
abbrev pub is_help : List ℕ → Bool
is_help word =
    bytes_eq word (104 ∷ 101 ∷ 108 ∷ 112 ∷ [])
    || bytes_eq word (45 ∷ 45 ∷ 104 ∷ 101 ∷ 108 ∷ 112 ∷ [])
    || bytes_eq word (45 ∷ 104 ∷ [])

-- "link", "examine", or one of those
unfoldable pub command_in : List ℕ → Option Command
command_in word =
    pick_command (bytes_eq word (108 ∷ 105 ∷ 110 ∷ 107 ∷ [])) Link
    (pick_command (bytes_eq word (101 ∷ 120 ∷ 97 ∷ 109 ∷ 105 ∷ 110 ∷ 101 ∷ [])) Examine
    (pick_command (is_help word) Help None))
