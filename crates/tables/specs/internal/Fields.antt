-- Fields of rows, as code reads them.
use Rattle.std.specs.Prelude.{ℕ, ◌<◌, ◌≡◌}

-- What a function answers for a field of a row, and how small it is.
pub record Field (bound field answer : ℕ) : Type 0 where
  pub is : answer ≡ field
  pub small : answer < bound
