-- `checker::levels::level_fault` meets its contract: no group passed has a level out of range.
use Prim.Native.Nat.{ℕ, ◌≤◌}
use mathlib.Core.List.{List}
use lib.ListN.{length}
use Rattle.tables.specs.Rows.{definition_of}
use Rattle.tables.specs.Sound.{group_levels}
use Rattle.tables.proofs.Faults.{Turned}
use Rattle.checker.specs.Check.{level_test}
use Rattle.checker.proofs.levels.level_fault.Given as goal

abbrev pub invariant-loop-group : goal.invariant-loop-group
invariant-loop-group l = (l.group ≤ l.groups) × ((literals : List ℕ) →
    Turned (λ g. level_test (definition_of (length l.marks) l.rules literals l.marks g) (group_levels (length l.marks) l.levels g)) l.groups l.group)
