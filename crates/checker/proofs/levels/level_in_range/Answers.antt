-- `checker::levels::level_in_range` meets its contract: each branch's test is a part of `level_fits`.
use borrow.Author.Tests.{le-leb, lt-leb, eq-eqb, ne_eqb}
use Rattle.wellfounded.specs.Levels.{level_at}
use Rattle.tables.specs.internal.Marks.{is_marked}
use Rattle.checker.specs.internal.Scans.{level_fits}
use Rattle.checker.proofs.levels.level_in_range.Goals as goal

pub returns-then-level-ge1 : goal.returns-then-level-ge1
unfolding is_marked level_at level_fits
returns-then-level-ge1 c = rw (eq-eqb _ _ c.if-defined-atom-eq1.true, le-leb 1 _ c.if-level-ge1.true)

pub returns-else-level-ge1 : goal.returns-else-level-ge1
unfolding is_marked level_at level_fits
returns-else-level-ge1 c = rw (eq-eqb _ _ c.if-defined-atom-eq1.true, lt-leb 1 _ c.if-level-ge1.false)

pub returns-else-defined-atom-eq1 : goal.returns-else-defined-atom-eq1
unfolding is_marked level_at level_fits
returns-else-defined-atom-eq1 c = rw (ne_eqb _ _ c.if-defined-atom-eq1.false)
