-- What rows lack to begin with, counted from a table that says of each literal whether it is lacking.
use Rattle.std.specs.Prelude.{ℕ, ◌+◌, ◌*◌, ◌≤◌, ◌<◌, ◌≡◌, Bool, not, cond, ◌&&◌, List, eqb, length, get_or, set}
use Rattle.wellfounded.specs.Lists.{sum_below}
use Rattle.wellfounded.specs.Literals.{is_true, is_false, is_held, value_at, atom_of, is_negated}
use Rattle.tables.specs.Rows.{rule_count, rule_head, rule_start, rule_size}
use Rattle.propagation.specs.internal.Queues.{decide_as, undecided, Queued, Pushes}
use Rattle.propagation.specs.internal.Counts.{ready_by}

-- A literal is lacking if it is not true. Where atoms are founded, a negated one is lacking only if it is false.
unfoldable pub is_lacking : Bool → List ℕ → ℕ → Bool
is_lacking founding state literal =
    cond (is_negated literal)
    (cond founding (is_true (value_at state (atom_of literal))) (not (is_false (value_at state (atom_of literal)))))
    (not (is_true (value_at state (atom_of literal))))

-- A table that tells it, with 1 for a lacking literal and 0 for another.
pub record TellsLacking (founding : Bool) (values table : List ℕ) : Type 0 where
  pub room : 2 * length values ≤ length table
  pub tells : (literal : ℕ) → literal < 2 * length values → get_or table literal 0 ≡ cond (is_lacking founding values literal) 1 0

-- How many literals of a row's body are lacking by the table.
unfoldable pub lacking_in : List ℕ → List ℕ → List ℕ → ℕ → ℕ
lacking_in rules literals table row = sum_below (rule_size rules row) (λ place. get_or table (get_or literals (rule_start rules row + place) 0) 0)

-- Literals of which each stands in such a table.
pub record Summable (literals : List ℕ) (size : ℕ) (table : List ℕ) : Type 0 where
  pub within : size ≤ length literals
  pub few : size < 65536
  pub known : (place : ℕ) → place < length literals → get_or literals place 0 < length table
  pub ones : (place : ℕ) → place < length literals → get_or table (get_or literals place 0) 0 ≤ 1

-- Rows that can be counted by a table, with room for a count each and for a queue.
pub record Startable (rules literals table counts values queue : List ℕ) (end : ℕ) : Type 0 where
  pub heads : (row : ℕ) → row < rule_count rules → rule_head rules row < length values
  pub within : (row : ℕ) → row < rule_count rules → rule_start rules row + rule_size rules row ≤ length literals
  pub known : (place : ℕ) → place < length literals → get_or literals place 0 < length table
  pub ones : (place : ℕ) → place < length literals → get_or table (get_or literals place 0) 0 ≤ 1
  pub many : rule_count rules ≤ length counts
  pub small : length values ≤ 65535
  pub room : end + undecided values ≤ length queue

-- A row is counted, and its undecided head, if it lacks nothing, was made true and queued.
pub record RowCounted (rules literals table counts values queue : List ℕ) (end row : ℕ) (counts' values' queue' : List ℕ) (end' : ℕ) : Type 0 where
  pub counted : counts' ≡ set counts row (lacking_in rules literals table row)
  pub pushed :
      Pushes (eqb (lacking_in rules literals table row) 0 && not (is_held (value_at values (rule_head rules row)))) 1 (rule_head rules row)
      values queue end values' queue' end'

-- All rows are counted, and every undecided head of a row that lacks nothing was made true and queued.
pub record Started (rules literals table counts values queue counts' values' queue' : List ℕ) (end' : ℕ) : Type 0 where
  pub many : length counts' ≡ length counts
  pub counted : (row : ℕ) → row < rule_count rules → get_or counts' row 0 ≡ lacking_in rules literals table row
  pub decides : values' ≡ decide_as 1 (ready_by rules counts') values
  pub queued : Queued values queue 0 values' queue' end'
