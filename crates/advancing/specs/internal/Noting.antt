-- What a round does beside following the index: it makes unfounded atoms false, and notes the level of the atoms that it decided.
use Rattle.std.specs.Prelude.{ℕ, ◌+◌, ◌*◌, ◌≤◌, ◌<◌, ◌≡◌, Bool, true, false, not, cond, List, ltb, length, get_or}
use Rattle.wellfounded.specs.Literals.{is_true, value_at}
use Rattle.wellfounded.specs.internal.Tallies.{tally}
use Rattle.tables.specs.internal.Marks.{is_marked}
use Rattle.propagation.specs.internal.Queues.{decide_as, undecided, Queued}

-- Marks for all atoms that have values, and a queue with room for the undecided ones.
pub record Unfoundable (founded values queue : List ℕ) (end : ℕ) : Type 0 where
  pub marks : length values ≤ length founded
  pub small : length values ≤ 65535
  pub room : end + undecided values ≤ length queue

-- Every undecided atom that is not marked as founded was made false and queued.
pub record UnfoundedDecided (founded values queue : List ℕ) (end : ℕ) (values' queue' : List ℕ) (end' : ℕ) : Type 0 where
  pub decides : values' ≡ decide_as 0 (λ atom. not (is_marked founded atom)) values
  pub queued : Queued values queue end values' queue' end'

-- A part of a queue whose atoms have a value, a level and starts of both literals.
pub record Notable (queue : List ℕ) (from end : ℕ) (values starts levels : List ℕ) : Type 0 where
  pub low : from ≤ end
  pub high : end ≤ length queue
  pub known : (i : ℕ) → i < end → get_or queue i 0 < length values
  pub levels_long : length levels ≡ length values
  pub starts_long : length starts ≡ 2 * length values + 1
  pub small : length values ≤ 65535

-- The atoms of the part have the level, and the others that which they had. If nothing is due, then no true atom of the part has an entry under
-- its negated literal.
pub record Noted (queue : List ℕ) (from end level : ℕ) (values starts levels levels' : List ℕ) (due : Bool) : Type 0 where
  pub long : length levels' ≡ length levels
  pub gives :
      (atom : ℕ) → atom < length levels →
      get_or levels' atom 0 ≡ cond (ltb (tally queue from atom) (tally queue end atom)) level (get_or levels atom 0)
  pub quiet :
      due ≡ false → (i : ℕ) → from ≤ i → i < end → is_true (value_at values (get_or queue i 0)) ≡ true →
      get_or starts (2 * get_or queue i 0 + 1) 0 ≡ get_or starts (2 * get_or queue i 0 + 2) 0
