-- Values that a claim or a model may not have, and marks that a book may not have.
use Rattle.std.specs.Prelude.{ℕ, Bool, not, List}
use Rattle.wellfounded.specs.Literals.{is_held, value_at}

-- An atom whose entry is neither 0 nor 1.
unfoldable pub not_held : List ℕ → ℕ → Bool
not_held values atom = not (is_held (value_at values atom))
