-- What telling an answer leaves: the number returned, and the place buffer before and after.
-- Assumes nothing.
use Rattle.std.specs.Prelude.{◌≡◌, List, ℕ, length}
use Rattle.rules.specs.Answers.{Reply, places_in}

-- "They return the number and write the place numbers"
pub record Told (before after : List ℕ) (result : ℕ) (reply : Reply) : Type 0 where
  pub number : result ≡ reply.number
  pub places : after ≡ places_in (length before) reply.places
