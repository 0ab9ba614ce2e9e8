-- What the functions promise that store entries and read lists of parts.
use Rattle.std.specs.Prelude.{ℕ, ◌≤◌, ◌≡◌, Bool, true, cond, List, [], ◌∷◌, length, set, Option}
use Rattle.wellfounded.specs.Lists.{all}
use Rattle.format.specs.Parse.{Reading, Holds}
use Rattle.judging.specs.Judging.{max_bytes}
use Rattle.numerals.specs.internal.Offsets.{answered}
use Rattle.lists.specs.declared.Parts.{Parts}

-- An entry is stored where it has a place and fits the table's numbers; nothing else is written.
module _ {A : Type 0} where
  unfoldable pub stored : Bool → List A → ℕ → A → List A
  stored small table place entry = cond small (set table place entry) table

-- Parts that were listed: how many, whether all are within their limits, and whether they stand as their form asks (atoms rise, pairs have a
-- level for each group); with the offset after them.
module _ {A : Type 0} where
  unfoldable pub parts_of : (A → Bool) → (List A → Bool) → List A → Parts
  parts_of within ordered xs = record { count = length xs; within = all within xs; ordered = ordered xs }

  abbrev pub listed : List ℕ → (A → Bool) → (List A → Bool) → Reading (List A) → Option (Parts × ℕ)
  listed text within ordered reading = answered (parts_of within ordered) text reading

-- A place in a text that is short enough to be read.
pub record Inside (text : List ℕ) (at : ℕ) : Type 0 where
  pub reached : at ≤ length text
  pub short : length text ≤ max_bytes

-- What was written for parts that were listed, where all are within their limits.
module _ {A : Type 0} where
  abbrev pub Laid : (A → Bool) → Reading (List A) → (List A → Type 0) → Type 0
  Laid within reading written = Holds (λ xs rest. all within xs ≡ true → written xs) reading

-- What a function promises that reads a list of parts: its answer, and what it has written.
pub record Lists {A : Type 0} (text : List ℕ) (within : A → Bool) (ordered : List A → Bool) (reading : Reading (List A)) (answer : Option (Parts × ℕ))
    (written : List A → Type 0) : Type 0 where
  pub answered : answer ≡ listed text within ordered reading
  pub laid : Laid within reading written

-- The atoms that a form names, marked one by one.
unfoldable pub marked : List ℕ → List ℕ → List ℕ
marked [] table = table
marked (atom ∷ atoms) table = marked atoms (set table atom 1)
