-- `checker::blocking::blocking_fault` meets its contract: no group passed has a row without a blocking literal.
use Prim.Native.Nat.{ℕ, ◌≤◌}
use lib.ListN.{length}
use Rattle.wellfounded.specs.Definitions.{Definition}
use Rattle.tables.specs.Sound.{group_levels}
use Rattle.tables.proofs.Faults.{Turned}
use Rattle.checker.specs.Check.{blocking_test}
use Rattle.checker.specs.internal.Scans.{GroupsRanged}
use Rattle.checker.proofs.blocking.blocking_fault.Given as goal

abbrev pub invariant-loop-group : goal.invariant-loop-group
invariant-loop-group l = (l.group ≤ l.groups) × ((d : ℕ → Definition) → GroupsRanged d l.rules l.literals l.groups l.values l.levels →
    Turned (λ g. blocking_test (d g) l.rules l.literals g l.values (group_levels (length l.values) l.levels g)) l.groups l.group)
