-- `tables::marks::mark_declared` meets its contract: the marks are copied in group 0, and else nothing is.
use native.Mathlib.Omega.{arith}
use Rattle.tables.proofs.MarkLaws.{declared_copied, declared_left}
use Rattle.tables.proofs.marks.mark_declared.Goals as goal

pub returns-then-group-eq0 : goal.returns-then-group-eq0
returns-then-group-eq0 c = declared_copied _ (omega arith) c.copy_marks.ensures c.requires.marks_in_bounds

pub returns-else-group-eq0 : goal.returns-else-group-eq0
returns-else-group-eq0 c = declared_left _ (λ zero. omega arith) c.requires.unmarked
