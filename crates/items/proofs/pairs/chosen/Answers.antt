-- `items::pairs::chosen` meets its contract: one comparison tells which of two levels is answered.
use borrow.Author.Tests.{eq-eqb, ne_eqb}
use Rattle.items.proofs.pairs.chosen.Goals as goal

pub returns-then-group-wanted : goal.returns-then-group-wanted
returns-then-group-wanted c = rw (eq-eqb _ _ c.if-group-wanted.true)

pub returns-else-group-wanted : goal.returns-else-group-wanted
returns-else-group-wanted c = rw (ne_eqb _ _ c.if-group-wanted.false)
