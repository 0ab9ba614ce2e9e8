-- What is known of every group once no level has a fault.
-- Assumes nothing.
use Prim.Native.Nat.{ℕ, ◌<◌}
use mathlib.Core.Path.{◌≡◌, refl}
use mathlib.Core.List.{List}
use lib.ListN.{length}
use Rattle.wellfounded.specs.Lists.{tabulate}
use Rattle.wellfounded.specs.Definitions.{Definition}
use Rattle.wellfounded.proofs.Lists.{member_tabulate}
use Rattle.tables.specs.Faults.{accepted}
use Rattle.tables.specs.Faults.{Test, first_fault}
use Rattle.tables.specs.Rows.{definition_of}
use Rattle.tables.specs.Sound.{group_levels}
use Rattle.tables.proofs.Faults.{accepted_absent, absent_nothing}
use Rattle.tables.proofs.RowLaws.{group_rows}
use Rattle.checker.specs.Check.{level_test}
use Rattle.checker.specs.internal.Scans.{HeadsLevelled, GroupsLevelled, GroupsRanged}
use Rattle.checker.proofs.LevelReads.{levels_ranged}
use Rattle.checker.proofs.Supported.{heads_levelled}
use Rattle.checker.proofs.DefinedMarks.{part_long}

module _ (rules literals marks values levels : List ℕ) (groups : ℕ) (all : GroupsLevelled rules literals groups values levels) where
  -- The definitions of the groups, and their tests of levels.
  abbrev definitions : ℕ → Definition
  definitions group = definition_of (length values) rules literals marks group

  abbrev pub level_turns : ℕ → Test
  level_turns group = level_test (definitions group) (group_levels (length values) levels group)

  pub groups_ranged : first_fault (tabulate groups level_turns) ≡ accepted → GroupsRanged definitions rules literals groups values levels
  unfolding level_test definition_of
  groups_ranged none =
      record {
        each = λ group l. record {
          has_rows = group_rows (length values) rules literals marks group;
          ranged = levels_ranged refl (part_long (length values) groups levels group l all.long) (absent_nothing (level_turns group) (accepted_absent (tabulate groups level_turns) none (level_turns group) (member_tabulate groups level_turns group l)));
        };
      }

  -- So a head of a group has a level of 1 or more there.
  pub groups_heads :
      first_fault (tabulate groups level_turns) ≡ accepted → (group : ℕ) → group < groups →
      HeadsLevelled rules literals group values (group_levels (length values) levels group)
  groups_heads none group l = heads_levelled ((groups_ranged none).each group l) all.few all.rows
