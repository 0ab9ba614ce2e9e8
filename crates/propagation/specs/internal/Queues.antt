-- Atoms that are decided one after the other, and queued in this order.
use Rattle.std.specs.Prelude.{ℕ, ◌+◌, ◌≤◌, ◌<◌, ◌≡◌, Bool, not, cond, ◌&&◌, List, length, get_or, set}
use Rattle.wellfounded.specs.Lists.{count, tabulate}
use Rattle.wellfounded.specs.Literals.{is_held, value_at}
use Rattle.wellfounded.specs.internal.Tallies.{tally}

-- The state with every undecided atom that passes the test decided, all with the same value.
unfoldable pub decide_as : ℕ → (ℕ → Bool) → List ℕ → List ℕ
decide_as value passes state =
    tabulate (length state) (λ atom. cond (is_held (value_at state atom)) (value_at state atom) (cond (passes atom) value (value_at state atom)))

-- The atom is decided in the later state and was not before.
unfoldable pub newly : List ℕ → List ℕ → ℕ → Bool
newly before later atom = not (is_held (value_at before atom)) && is_held (value_at later atom)

-- How many atoms of a state are undecided.
unfoldable pub undecided : List ℕ → ℕ
undecided state = count (length state) (λ atom. not (is_held (value_at state atom)))

-- From one state to a later one the queue has grown by exactly the atoms that were decided, each of them once. What stood in it stands there
-- still, and it has room for the atoms that are left.
pub record Queued (values queue : List ℕ) (end : ℕ) (values' queue' : List ℕ) (end' : ℕ) : Type 0 where
  pub long : length queue' ≡ length queue
  pub ends : end ≤ end'
  pub before : (i : ℕ) → i < end → get_or queue' i 0 ≡ get_or queue i 0
  pub exactly : (atom : ℕ) → tally queue' end' atom ≡ tally queue end atom + cond (newly values values' atom) 1 0
  pub room : end' + undecided values' ≡ end + undecided values

-- An atom that can be decided: it has a value, and the queue has room.
pub record Pushable (atom : ℕ) (values queue : List ℕ) (end : ℕ) : Type 0 where
  pub below : atom < length values
  pub small : length values ≤ 65535
  pub room : end + undecided values ≤ length queue

-- The atom is decided and queued, or nothing happens.
pub record Pushes (now : Bool) (value atom : ℕ) (values queue : List ℕ) (end : ℕ) (values' queue' : List ℕ) (end' : ℕ) : Type 0 where
  pub put : values' ≡ cond now (set values atom value) values
  pub entry : queue' ≡ cond now (set queue end atom) queue
  pub next : end' ≡ cond now (end + 1) end
