-- A count for each rule row of what it lacks. A row that lacks nothing makes its head true.
use Rattle.std.specs.Prelude.{ℕ, ◌+◌, ◌*◌, ◌-◌, ◌≤◌, ◌<◌, ◌≡◌, Bool, true, cond, ◌&&◌, List, eqb, length, get_or}
use Rattle.wellfounded.specs.Lists.{any_below, sum_below}
use Rattle.wellfounded.specs.Literals.{is_false, is_held, value_at}
use Rattle.wellfounded.specs.internal.Tallies.{tally}
use Rattle.tables.specs.Rows.{rule_count, rule_head}
use Rattle.propagation.specs.internal.Queues.{decide_as, undecided, Queued}

-- One of the first n rows has the atom as its head and lacks nothing.
unfoldable pub is_ready : List ℕ → ℕ → (ℕ → ℕ) → ℕ → Bool
is_ready rules n lacks atom = any_below n (λ row. eqb (rule_head rules row) atom && eqb (lacks row) 0)

-- The same by the counts of all rows.
unfoldable pub ready_by : List ℕ → List ℕ → ℕ → Bool
ready_by rules counts = is_ready rules (rule_count rules) (λ row. get_or counts row 0)

-- No undecided atom is head of a row that lacks nothing.
unfoldable pub Settled : List ℕ → List ℕ → List ℕ → Type 0
Settled rules counts values =
    (row : ℕ) → row < rule_count rules → get_or counts row 0 ≡ 0 → is_held (value_at values (rule_head rules row)) ≡ true

-- Counts have fallen, and every undecided head of a row that lacks nothing now was made true and queued.
pub record Propagated (rules counts values queue : List ℕ) (end : ℕ) (counts' values' queue' : List ℕ) (end' : ℕ) : Type 0 where
  pub many : length counts' ≡ length counts
  pub fewer : (row : ℕ) → get_or counts' row 0 ≤ get_or counts row 0
  pub decides : values' ≡ decide_as 1 (ready_by rules counts') values
  pub queued : Queued values queue end values' queue' end'

-- What is so at each step: heads have values, rows have counts, the queue has room, and no undecided head has a row that lacks nothing.
pub record Steady (rules counts values queue : List ℕ) (end : ℕ) : Type 0 where
  pub heads : (row : ℕ) → row < rule_count rules → rule_head rules row < length values
  pub many : rule_count rules ≤ length counts
  pub small : length values ≤ 65535
  pub room : end + undecided values ≤ length queue
  pub settled : Settled rules counts values

-- A row's count has been lowered by one.
pub record RowLowered (rules counts values queue : List ℕ) (end row : ℕ) (counts' values' queue' : List ℕ) (end' : ℕ) : Type 0 where
  pub done : Propagated rules counts values queue end counts' values' queue' end'
  pub lost : (r : ℕ) → get_or counts' r 0 + cond (eqb row r) 1 0 ≡ get_or counts r 0

-- Entries from one place to another that can be gone through: each is a row, and no row stands there more often than it counts.
pub record EntriesFit (rules entries counts : List ℕ) (first last : ℕ) : Type 0 where
  pub low : first ≤ last
  pub high : last ≤ length entries
  pub rows : (i : ℕ) → i < length entries → get_or entries i 0 < rule_count rules
  pub enough : (row : ℕ) → row < rule_count rules → tally entries last row ≤ get_or counts row 0 + tally entries first row

-- The counts of the rows there have been lowered, as often as each stands there.
pub record RowsLowered
    (rules entries counts values queue : List ℕ) (end first last : ℕ) (counts' values' queue' : List ℕ) (end' : ℕ) : Type 0 where
  pub done : Propagated rules counts values queue end counts' values' queue' end'
  pub lost : (row : ℕ) → get_or counts' row 0 + tally entries last row ≡ get_or counts row 0 + tally entries first row

-- Starts and entries that lead from each literal of so many atoms to rows, as an index of the rules does.
pub record Leads (rules starts entries : List ℕ) (atoms : ℕ) : Type 0 where
  pub starts_long : length starts ≡ 2 * atoms + 1
  pub rises : (literal : ℕ) → literal < 2 * atoms → get_or starts literal 0 ≤ get_or starts (literal + 1) 0
  pub within : (literal : ℕ) → literal ≤ 2 * atoms → get_or starts literal 0 ≤ length entries
  pub rows : (i : ℕ) → i < length entries → get_or entries i 0 < rule_count rules

-- How often a row stands among a literal's entries.
unfoldable pub times_under : List ℕ → List ℕ → ℕ → ℕ → ℕ
times_under starts entries literal row = tally entries (get_or starts (literal + 1) 0) row - tally entries (get_or starts literal 0) row

-- The literal of a decided atom that is true.
unfoldable pub true_literal : List ℕ → ℕ → ℕ
true_literal values atom = 2 * atom + cond (is_false (value_at values atom)) 1 0

-- What a row loses by the first n atoms of a queue: one for each time that it stands among the entries of their true literals.
unfoldable pub taken : List ℕ → List ℕ → List ℕ → List ℕ → ℕ → ℕ → ℕ
taken starts entries values queue n row = sum_below n (λ i. times_under starts entries (true_literal values (get_or queue i 0)) row)

-- A part of a queue that can be propagated, from its place `from` on up to its end.
pub record Propagatable (rules starts entries counts values queue : List ℕ) (from end : ℕ) : Type 0 where
  pub steady : Steady rules counts values queue end
  pub leads : Leads rules starts entries (length values)
  pub low : from ≤ end
  pub known : (i : ℕ) → i < end → (get_or queue i 0 < length values) × (is_held (value_at values (get_or queue i 0)) ≡ true)
  pub enough :
      (row : ℕ) → row < rule_count rules →
      taken starts entries values queue end row ≤ get_or counts row 0 + taken starts entries values queue from row

-- It has been propagated up to a place: behind the queue's end stand the heads that became true by that.
pub record PartPropagated
    (rules starts entries counts values queue : List ℕ) (from to end : ℕ) (counts' values' queue' : List ℕ) (end' : ℕ) : Type 0 where
  pub done : Propagated rules counts values queue end counts' values' queue' end'
  pub lost :
      (row : ℕ) → row < rule_count rules →
      get_or counts' row 0 + taken starts entries values queue to row ≡ get_or counts row 0 + taken starts entries values queue from row
