-- `checker::support::support_fault` meets its contract: no group passed has a true atom without support.
use Prim.Native.Nat.{ℕ, ◌≤◌}
use lib.ListN.{length}
use Rattle.wellfounded.specs.Definitions.{Definition}
use Rattle.tables.specs.Sound.{group_levels}
use Rattle.tables.proofs.Faults.{Turned}
use Rattle.checker.specs.Check.{support_test}
use Rattle.checker.specs.internal.Scans.{GroupsRanged}
use Rattle.checker.proofs.support.support_fault.Given as goal

abbrev pub invariant-loop-group : goal.invariant-loop-group
invariant-loop-group l = (l.group ≤ l.groups) × ((d : ℕ → Definition) → GroupsRanged d l.rules l.literals l.groups l.values l.levels →
    Turned (λ g. support_test (d g) l.values (group_levels (length l.values) l.levels g)) l.groups l.group)
