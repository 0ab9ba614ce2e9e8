-- `checker::support::mark_supported` meets its contract: the marks are those of the entry with the atoms that the rows passed support put on.
use Prim.Native.Nat.{◌≤◌}
use mathlib.Core.Bool.{◌&&◌}
use lib.Dec.{eqb}
use Rattle.tables.specs.Rows.{rule_head}
use Rattle.tables.proofs.MarkLaws.{Marked}
use Rattle.checker.specs.internal.Scans.{supports_row}
use Rattle.checker.proofs.support.mark_supported.Given as goal

abbrev pub invariant-loop-row : goal.invariant-loop-row
invariant-loop-row l = (l.row ≤ l.row-end) ×
    Marked (λ r atom. eqb (rule_head l.rules r) atom && supports_row l.rules l.literals l.group l.values l.levels r) l.initial.supported l.row l.supported
