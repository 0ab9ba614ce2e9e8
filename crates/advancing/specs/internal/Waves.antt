-- Founded atoms that are found through the index, wave by wave: each wave leads from the atoms of the last one to those that they found.
use Rattle.std.specs.Prelude.{ℕ, ◌+◌, ◌≤◌, ◌≡◌, cond, List, length}
use Rattle.wellfounded.specs.Definitions.{Definition}
use Rattle.wellfounded.specs.Stages.{stage}
use Rattle.wellfounded.specs.internal.Tallies.{tally}
use Rattle.tables.specs.Rows.{rule_count}
use Rattle.propagation.specs.internal.Queues.{decide_as, newly, undecided}
use Rattle.propagation.specs.internal.Counts.{ready_by}
use Rattle.advancing.specs.internal.Founding.{CountsLacking, GoodMarks}
use Rattle.advancing.specs.internal.Fronts.{LendsIndex}

-- Between two waves, `earlier` are the marks before the last one. The counts tell what rows lack by these, and the heads of rows that lack
-- nothing are marked since. Up to `from` the queue has the atoms that were marked then, up to `behind` those that are marked now.
pub record AtWave
    (d : Definition) (rules literals setting : List ℕ) (k from behind : ℕ) (counts marks queue : List ℕ) : Type 0 where
  pub earlier : List ℕ
  pub good : GoodMarks d (stage d setting k) earlier
  pub lacks : CountsLacking rules literals (stage d setting k) earlier counts
  pub decides : marks ≡ decide_as 1 (ready_by rules counts) earlier
  pub counts_long : rule_count rules ≤ length counts
  pub low : from ≤ behind
  pub past : (atom : ℕ) → tally queue from atom ≡ cond (newly (stage d setting k) earlier atom) 1 0
  pub queued : (atom : ℕ) → tally queue behind atom ≡ cond (newly (stage d setting k) marks atom) 1 0
  pub room : behind + undecided marks ≤ length queue

-- The first wave stands in the queue up to `end`.
pub record WavesReady
    (d : Definition) (rules literals starts entries setting : List ℕ) (k end : ℕ) (counts marks queue : List ℕ) : Type 0 where
  pub lends : LendsIndex d rules literals starts entries setting
  pub first : AtWave d rules literals setting k 0 end counts marks queue
