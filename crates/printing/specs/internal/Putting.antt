-- What the functions that put bytes into a buffer promise and ask.
use Rattle.std.specs.Prelude.{ℕ, ◌+◌, ◌≡◌, List, length}
use Rattle.std.proofs.lemmas.List.Edits.{sets}
use Rattle.tables.specs.Limits.{max_bound}

-- Bytes that are put at an offset are stored from there on, and the answer is the offset after them.
pub record Puts (before : List ℕ) (at : ℕ) (bytes : List ℕ) (answer : ℕ) (afterwards : List ℕ) : Type 0 where
  pub answered : answer ≡ at + length bytes
  pub stored : afterwards ≡ sets before at bytes

-- No number that is put is larger than a bound of a load line may be, so each has at most seven digits.
abbrev pub max_printed : ℕ
max_printed = max_bound
