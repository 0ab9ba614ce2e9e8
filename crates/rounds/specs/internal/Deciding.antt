-- The decisions of a round: which atoms it decides, and their values and levels afterwards.
use Rattle.std.specs.Prelude.{ℕ, ◌≤◌, ◌≡◌, Bool, not, cond, ◌&&◌, ◌||◌, List, length, get_or, set}
use Rattle.wellfounded.specs.Lists.{any_below, count, tabulate}
use Rattle.wellfounded.specs.Literals.{is_held, value_at}
use Rattle.tables.specs.internal.Marks.{is_marked}

-- An undecided atom is decided in this round if it fires or is not founded.
unfoldable pub decides : List ℕ → List ℕ → List ℕ → ℕ → Bool
decides state firing founded atom = not (is_held (value_at state atom)) && (is_marked firing atom || not (is_marked founded atom))

-- An undecided atom becomes true that is marked as one that occurs negated.
unfoldable pub negated_becomes_true : List ℕ → List ℕ → List ℕ → ℕ → Bool
negated_becomes_true state firing negated atom = not (is_held (value_at state atom)) && is_marked firing atom && is_marked negated atom

-- The value and the level of an atom after the round, and those of all atoms.
abbrev pub decided_value : List ℕ → List ℕ → List ℕ → ℕ → ℕ
decided_value state firing founded atom =
    cond (is_held (value_at state atom)) (value_at state atom)
    (cond (is_marked firing atom) 1 (cond (is_marked founded atom) (value_at state atom) 0))

abbrev pub decided_level : ℕ → List ℕ → List ℕ → List ℕ → List ℕ → ℕ → ℕ
decided_level level state firing founded levels atom = cond (decides state firing founded atom) level (get_or levels atom 0)

unfoldable pub decided_values : List ℕ → List ℕ → List ℕ → List ℕ
decided_values state firing founded = tabulate (length state) (decided_value state firing founded)

unfoldable pub decided_levels : ℕ → List ℕ → List ℕ → List ℕ → List ℕ → List ℕ
decided_levels level state firing founded levels = tabulate (length levels) (decided_level level state firing founded levels)

-- What a round changes: how many atoms it decides, and whether one of them becomes true that occurs negated.
pub record Changes (state firing founded negated : List ℕ) (decided : ℕ) (renewed : Bool) : Type 0 where
  pub many : decided ≡ count (length state) (decides state firing founded)
  pub again : renewed ≡ any_below (length state) (negated_becomes_true state firing negated)

-- What the decisions of a round need of their slices to stay within them.
pub record Decidable (founded negated firing state levels : List ℕ) : Type 0 where
  pub founded_room : length state ≤ length founded
  pub negated_room : length state ≤ length negated
  pub firing_room : length state ≤ length firing
  pub levels_long : length levels ≡ length state

-- One atom decided, or left as it is: what that changes, and what values and levels hold afterwards.
pub record AtomDecided
    (level : ℕ) (founded negated firing state levels : List ℕ) (atom decided : ℕ) (renewed : Bool) (state' levels' : List ℕ) : Type 0 where
  pub many : decided ≡ cond (decides state firing founded atom) 1 0
  pub again : renewed ≡ negated_becomes_true state firing negated atom
  pub value : state' ≡ set state atom (decided_value state firing founded atom)
  pub stage : levels' ≡ set levels atom (decided_level level state firing founded levels atom)

-- The decisions of a round, in the same way.
pub record RoundDecided
    (level : ℕ) (founded negated firing state levels : List ℕ) (decided : ℕ) (renewed : Bool) (state' levels' : List ℕ) : Type 0 where
  pub changes : Changes state firing founded negated decided renewed
  pub values : state' ≡ decided_values state firing founded
  pub stages : levels' ≡ decided_levels level state firing founded levels
