-- What the rounds that follow the index are lent, and what they promise.
use Rattle.std.specs.Prelude.{ℕ, ◌*◌, ◌≤◌, ◌≡◌, List, length}
use Rattle.wellfounded.specs.Definitions.{Definition}
use Rattle.wellfounded.specs.Stages.{well_founded_model, Setting}
use Rattle.tables.specs.Limits.{max_rule_rows}
use Rattle.tables.specs.Rows.{rule_count}
use Rattle.sorting.specs.Sorted.{starts_of, rows_by_key}
use Rattle.indexing.specs.Index.{by_literal}
use Rattle.rounds.specs.internal.Rounds.{StagesReady, RoundsDone}
use Rattle.advancing.specs.Waiting.{waiting_counts}

-- What the plain rounds are lent, a setting with 0 or 1 for each open atom, the index of the rules, and a count for each row.
pub record AdvanceReady (d : Definition) (rules literals defined setting values levels work starts entries counts : List ℕ) : Type 0 where
  pub stages : StagesReady d rules literals defined setting values levels work
  pub given : Setting d setting
  pub few_rows : rule_count rules ≤ max_rule_rows
  pub starts_are : starts ≡ starts_of (by_literal rules literals) (2 * d.size)
  pub entries_are : entries ≡ rows_by_key (by_literal rules literals) (2 * d.size)
  pub counts_long : length counts ≡ rule_count rules

-- All rounds are done, and each row's count is what it waits for in the model.
pub record AdvanceDone (d : Definition) (rules literals setting values levels work counts : List ℕ) (rounds : ℕ) : Type 0 where
  pub done : RoundsDone d setting values levels work rounds
  pub waits : counts ≡ waiting_counts rules literals (well_founded_model d setting)
