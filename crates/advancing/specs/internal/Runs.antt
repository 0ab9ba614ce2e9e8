-- All rounds that follow the index, from stage 0 to the first that decides nothing.
use Rattle.std.specs.Prelude.{ℕ, ◌≤◌, ◌≡◌, Bool, List, length}
use Rattle.wellfounded.specs.Definitions.{Definition}
use Rattle.wellfounded.specs.Stages.{stage}
use Rattle.wellfounded.specs.internal.Progress.{levels_after}
use Rattle.tables.specs.Rows.{rule_count}
use Rattle.advancing.specs.internal.Fronts.{LendsIndex, AtFront}

-- The slices stand at stage 0, with nothing counted and nothing queued.
pub record AtStart (d : Definition) (rules literals starts entries setting counts values levels queue : List ℕ) : Type 0 where
  pub lends : LendsIndex d rules literals starts entries setting
  pub setting_long : length setting ≡ d.size
  pub counts_long : length counts ≡ rule_count rules
  pub at_values : values ≡ stage d setting 0
  pub at_levels : levels ≡ levels_after d setting 0
  pub queue_long : length queue ≡ d.size

-- Rounds stand somewhere, with marks for all atoms.
pub record Runs
    (d : Definition) (rules literals starts entries setting : List ℕ) (k from end : ℕ) (due : Bool) (counts founded values levels queue : List ℕ)
    : Type 0 where
  pub lends : LendsIndex d rules literals starts entries setting
  pub founded_long : length founded ≡ d.size
  pub at : AtFront d rules literals setting k from end due counts values levels queue

-- The last round has decided nothing.
pub record RunDone (d : Definition) (rules literals setting counts values levels queue : List ℕ) (rounds : ℕ) : Type 0 where
  pub from : ℕ
  pub end : ℕ
  pub due : Bool
  pub done : end ≤ from
  pub at : AtFront d rules literals setting rounds from end due counts values levels queue
