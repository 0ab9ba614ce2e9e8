-- Rounds that follow the index: from one stage of a definition to the next, in place, with a queue of the atoms that they decide.
use Rattle.std.specs.Prelude.{ℕ, suc, ◌+◌, ◌*◌, ◌≤◌, ◌<◌, ◌≡◌, Bool, true, false, not, cond, ◌&&◌, List, length, get_or}
use Rattle.wellfounded.specs.Literals.{is_held, value_at}
use Rattle.wellfounded.specs.Definitions.{Definition}
use Rattle.wellfounded.specs.Unfounded.{member, largest}
use Rattle.wellfounded.specs.Stages.{stage, Setting}
use Rattle.wellfounded.specs.internal.Progress.{levels_after}
use Rattle.wellfounded.specs.internal.Tallies.{tally}
use Rattle.tables.specs.Limits.{max_atoms, max_rule_rows}
use Rattle.tables.specs.Rows.{rule_count}
use Rattle.tables.specs.internal.Definitions.{HasRows}
use Rattle.tables.specs.internal.Scans.{RulesScannable}
use Rattle.tables.specs.internal.Marks.{is_marked}
use Rattle.sorting.specs.Sorted.{starts_of, rows_by_key}
use Rattle.indexing.specs.Index.{by_literal}
use Rattle.propagation.specs.internal.Queues.{decide_as, newly, undecided, Queued}
use Rattle.propagation.specs.internal.Counts.{ready_by}
use Rattle.advancing.specs.Waiting.{waiting}

-- What the rounds are lent does not change: the rules of the definition in rows, their index, and a setting with 0 or 1 for each open atom.
pub record LendsIndex (d : Definition) (rules literals starts entries setting : List ℕ) : Type 0 where
  pub few : d.size ≤ max_atoms
  pub few_rows : rule_count rules ≤ max_rule_rows
  pub has_rows : HasRows d rules literals
  pub rows : RulesScannable rules literals d.size
  pub given : Setting d setting
  pub starts_are : starts ≡ starts_of (by_literal rules literals) (2 * d.size)
  pub entries_are : entries ≡ rows_by_key (by_literal rules literals) (2 * d.size)

-- A stage at which atoms can be founded, with marks for all of them.
pub record FoundReady (d : Definition) (rules literals starts entries setting : List ℕ) (k : ℕ) (values marks : List ℕ) : Type 0 where
  pub lends : LendsIndex d rules literals starts entries setting
  pub at_values : values ≡ stage d setting k
  pub long : length marks ≡ d.size

-- Marks tell who is founded among the undecided atoms of a state.
pub record TellsFounded (d : Definition) (state marks : List ℕ) : Type 0 where
  pub room : length marks ≡ d.size
  pub tells : (atom : ℕ) → atom < d.size → is_held (value_at state atom) ≡ false → is_marked marks atom ≡ not (member (largest d state) atom)

-- No undecided atom of a state is unfounded.
abbrev pub AllFounded : Definition → List ℕ → Type 0
AllFounded d state = (atom : ℕ) → is_held (value_at state atom) ≡ false → member (largest d state) atom ≡ false

-- What marks or their absence say at a stage: where founding is due they tell, and else all undecided atoms are founded.
pub record KnowsFounded (d : Definition) (state : List ℕ) (due : Bool) (marks : List ℕ) : Type 0 where
  pub anew : due ≡ true → TellsFounded d state marks
  pub quiet : due ≡ false → AllFounded d state

-- Atoms may be made false: those that are not marked, if founding is due.
pub record FalsifiedIfDue (due : Bool) (founded values queue : List ℕ) (end : ℕ) (values' queue' : List ℕ) (end' : ℕ) : Type 0 where
  pub decides : values' ≡ decide_as 0 (λ atom. due && not (is_marked founded atom)) values
  pub queued : Queued values queue end values' queue' end'

-- The atoms that fire at stage k are true and queued from `from` on; the counts tell what rows wait for at stage k.
pub record Fired
    (d : Definition) (rules literals setting : List ℕ) (k from end : ℕ) (counts values levels queue : List ℕ) : Type 0 where
  pub counts_long : length counts ≡ rule_count rules
  pub waits : (row : ℕ) → row < rule_count rules → get_or counts row 0 ≡ waiting rules literals (stage d setting k) row
  pub at_values : values ≡ decide_as 1 (ready_by rules counts) (stage d setting k)
  pub at_levels : levels ≡ levels_after d setting k
  pub queue_long : length queue ≡ d.size
  pub low : from ≤ end
  pub past : (atom : ℕ) → tally queue from atom ≡ cond (newly (stage d setting 0) (stage d setting k) atom) 1 0
  pub queued : (atom : ℕ) → tally queue end atom ≡ cond (newly (stage d setting 0) values atom) 1 0
  pub room : end + undecided values ≡ undecided (stage d setting 0)
  pub moves : (j : ℕ) → j < k → stage d setting (suc j) ≡ stage d setting j → ⊥

-- The rounds stand at stage k + 1, whose new atoms are queued from `from` on, with their levels; the counts still tell what rows wait for
-- at stage k, and every round up to it has changed something.
pub record AtFront
    (d : Definition) (rules literals setting : List ℕ) (k from end : ℕ) (due : Bool) (counts values levels queue : List ℕ) : Type 0 where
  pub counts_long : length counts ≡ rule_count rules
  pub waits : (row : ℕ) → row < rule_count rules → get_or counts row 0 ≡ waiting rules literals (stage d setting k) row
  pub at_values : values ≡ stage d setting (suc k)
  pub at_levels : levels ≡ levels_after d setting (suc k)
  pub queue_long : length queue ≡ d.size
  pub low : from ≤ end
  pub past : (atom : ℕ) → tally queue from atom ≡ cond (newly (stage d setting 0) (stage d setting k) atom) 1 0
  pub queued : (atom : ℕ) → tally queue end atom ≡ cond (newly (stage d setting 0) (stage d setting (suc k)) atom) 1 0
  pub room : end + undecided (stage d setting (suc k)) ≡ undecided (stage d setting 0)
  pub quiet : due ≡ false → AllFounded d (stage d setting (suc k))
  pub moves : (j : ℕ) → j < k → stage d setting (suc j) ≡ stage d setting j → ⊥

-- A round can be closed: the atoms that fire at stage k are true, and it is known who is founded there.
pub record Closes
    (d : Definition) (rules literals starts entries setting : List ℕ) (k : ℕ) (due : Bool) (from end level : ℕ)
    (founded counts values levels queue : List ℕ) : Type 0 where
  pub lends : LendsIndex d rules literals starts entries setting
  pub founded_long : length founded ≡ d.size
  pub knows : KnowsFounded d (stage d setting k) due founded
  pub fired : Fired d rules literals setting k from end counts values levels queue
  pub at_level : suc k ≡ level

-- Atoms can be founded at stage k, or all undecided ones are.
pub record FoundsIf (d : Definition) (rules literals starts entries setting : List ℕ) (k : ℕ) (due : Bool) (values founded : List ℕ) : Type 0 where
  pub ready : FoundReady d rules literals starts entries setting k values founded
  pub quiet : due ≡ false → AllFounded d (stage d setting k)

-- A further round can be made: the last one has decided something.
pub record Advances
    (d : Definition) (rules literals starts entries setting : List ℕ) (k level from end : ℕ) (due : Bool) (counts founded values levels queue : List ℕ)
    : Type 0 where
  pub lends : LendsIndex d rules literals starts entries setting
  pub founded_long : length founded ≡ d.size
  pub at : AtFront d rules literals setting k from end due counts values levels queue
  pub some : from < end
  pub at_level : suc (suc k) ≡ level
