-- `tables::marks::mark_heads` meets its contract: the marks are those of the entry with the heads of the group's rows among those passed put on.
use Prim.Native.Nat.{◌≤◌}
use mathlib.Core.Bool.{◌&&◌}
use lib.Dec.{eqb}
use Rattle.tables.specs.Rows.{rule_head, in_group}
use Rattle.tables.proofs.MarkLaws.{Marked}
use Rattle.tables.proofs.marks.mark_heads.Given as goal

abbrev pub invariant-loop-row : goal.invariant-loop-row
invariant-loop-row l = (l.row ≤ l.row-end) × Marked (λ r atom. eqb (rule_head l.rules r) atom && in_group l.rules l.group r) l.initial.marks l.row l.marks
