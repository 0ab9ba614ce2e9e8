-- What the scans of a load line's terms rely on and answer.
use Rattle.std.specs.Prelude.{ℕ, ◌+◌, ◌≤◌, ◌<◌, ◌≡◌, List, ℤ, nat_abs, length, get_or}
use Rattle.wellfounded.specs.Literals.{atom_of}
use Rattle.tables.specs.Limits.{max_terms}

-- No 16-bit number of minutes counts more tenths.
abbrev pub most_tenths : ℕ
most_tenths = 5461

-- What a function answers for the count of one term, and that it is small.
pub record SmallCount (count answer : ℤ) : Type 0 where
  pub is : answer ≡ count
  pub small : nat_abs answer ≤ most_tenths

-- What a scan of the terms of one row relies on; they begin at start and are size many.
pub record TermsScannable (load_literals : List ℕ) (minutes : List ℤ) (start size atoms : ℕ) : Type 0 where
  pub within : start + size ≤ length load_literals
  pub known : (place : ℕ) → place < length load_literals → atom_of (get_or load_literals place 0) < atoms
  pub paired : length minutes ≡ length load_literals
  pub few : size ≤ max_terms
