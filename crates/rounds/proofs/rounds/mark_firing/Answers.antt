-- `rounds::rounds::mark_firing` meets its contract: the marks are those of the entry with the atoms that the rows passed make true put on.
use native.Mathlib.Omega.{arith}
use Rattle.tables.proofs.MarkLaws.{marked_start, marked_end, marked_look}
use Rattle.rounds.specs.internal.Firing.{fires_by}
use Rattle.rounds.proofs.rounds.mark_firing.Goals as goal

pub loop-row-init : goal.loop-row-init
loop-row-init c = marked_start _ _

pub loop-row-preserved : goal.loop-row-preserved
loop-row-preserved c = rw c.fire_row.ensures (marked_look _ _ _ _ _ c.loop-row.invariant)

pub returns : goal.returns
unfolding fires_by
returns c = marked_end _ _ _ _ _ (omega arith) c.loop-row.invariant
