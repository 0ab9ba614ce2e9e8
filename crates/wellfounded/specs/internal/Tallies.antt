-- How often numbers stand at the front of a list.
use Rattle.std.specs.Prelude.{ℕ, List, eqb, get_or}
use Rattle.wellfounded.specs.Lists.{count}

-- How often a number stands among the first n of a list.
unfoldable pub tally : List ℕ → ℕ → ℕ → ℕ
tally xs n x = count n (λ i. eqb (get_or xs i 0) x)
