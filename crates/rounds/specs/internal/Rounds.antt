-- Rounds: from one stage of a definition to the next, in place, until nothing changes.
use Rattle.std.specs.Prelude.{ℕ, suc, ◌≤◌, ◌<◌, ◌≡◌, Bool, true, false, List, length, replicate}
use Rattle.wellfounded.specs.Definitions.{Definition, is_defined}
use Rattle.wellfounded.specs.Stages.{stage, closure, well_founded_model, stages_of}
use Rattle.wellfounded.specs.internal.Progress.{levels_after}
use Rattle.tables.specs.Limits.{max_atoms}
use Rattle.tables.specs.internal.Definitions.{HasRows}
use Rattle.tables.specs.internal.Scans.{RulesScannable}
use Rattle.tables.specs.internal.Marks.{is_marked, mark_where}
use Rattle.founding.specs.internal.Founding.{Founded}
use Rattle.rounds.specs.internal.Starting.{occurs_negated}

-- What the rounds are lent does not change: the rules of the definition in rows, and marks that tell who is defined.
pub record Lends (d : Definition) (rules literals defined setting : List ℕ) : Type 0 where
  pub few : d.size ≤ max_atoms
  pub long : length setting ≡ d.size
  pub has_rows : HasRows d rules literals
  pub rows : RulesScannable rules literals d.size
  pub room : length defined ≡ max_atoms
  pub tells : (atom : ℕ) → atom < d.size → is_marked defined atom ≡ is_defined d atom

-- What the evaluation of a sound book is handed: besides these, slices with an entry for each atom.
pub record StagesReady (d : Definition) (rules literals defined setting values levels work : List ℕ) : Type 0 where
  pub lends : Lends d rules literals defined setting
  pub values_long : length values ≡ length setting
  pub levels_long : length levels ≡ length setting
  pub work_long : length work ≡ length setting

-- The rounds stand at stage k: the slices hold that stage and its levels, the marks tell who is founded and who occurs negated,
-- and every round so far has changed something.
pub record AtStage
    (d : Definition) (rules literals setting : List ℕ) (k : ℕ) (defined negated founded values levels work : List ℕ) : Type 0 where
  pub lends : Lends d rules literals defined setting
  pub negated_tells : negated ≡ mark_where (occurs_negated literals) (replicate max_atoms 0)
  pub founded_room : length founded ≡ max_atoms
  pub founded_tells : Founded d (stage d setting k) founded
  pub at_values : values ≡ stage d setting k
  pub at_levels : levels ≡ levels_after d setting k
  pub at_work : work ≡ replicate d.size 0
  pub moves : (j : ℕ) → j < k → stage d setting (suc j) ≡ stage d setting j → ⊥

-- What a round needs of its slices to stay within them.
pub record RoundFits (rules literals defined negated founded values levels work : List ℕ) : Type 0 where
  pub rows : RulesScannable rules literals (length values)
  pub defined_room : length defined ≡ length founded
  pub negated_room : length values ≤ length negated
  pub founded_room : length values ≤ length founded
  pub levels_long : length levels ≡ length values
  pub work_long : length work ≡ length values

-- A round that changed something has come to the next stage; one that did not has shown that the stage is the last.
pub record RoundDone
    (d : Definition) (rules literals setting : List ℕ) (k : ℕ) (defined negated founded values levels work : List ℕ) (again : Bool)
    : Type 0 where
  pub next : again ≡ true → AtStage d rules literals setting (suc k) defined negated founded values levels work
  pub last :
      again ≡ false →
      AtStage d rules literals setting k defined negated founded values levels work × (stage d setting (suc k) ≡ stage d setting k)

-- All rounds are done.
pub record RoundsDone (d : Definition) (setting values levels work : List ℕ) (rounds : ℕ) : Type 0 where
  pub model : values ≡ well_founded_model d setting
  pub stages : levels ≡ stages_of d setting
  pub cleared : work ≡ replicate (length setting) 0
  pub many : rounds ≡ closure d setting
