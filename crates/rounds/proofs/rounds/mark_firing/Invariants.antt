-- `rounds::rounds::mark_firing` meets its contract: the marks are those of the entry with the atoms that the rows passed make true put on.
use mathlib.Core.Bool.{◌&&◌}
use lib.Dec.{eqb}
use Rattle.tables.specs.Rows.{rule_head}
use Rattle.tables.proofs.MarkLaws.{Marked}
use Rattle.rounds.specs.internal.Firing.{row_fires}
use Rattle.rounds.proofs.rounds.mark_firing.Given as goal

abbrev pub invariant-loop-row : goal.invariant-loop-row
invariant-loop-row l = Marked (λ r atom. eqb (rule_head l.rules r) atom && row_fires l.rules l.literals l.values r) l.initial.firing l.row l.firing
