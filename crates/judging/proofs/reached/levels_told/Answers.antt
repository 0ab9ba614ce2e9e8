-- `judging::reached::levels_told` meets its contract: a level for each atom in each group.
use borrow.Author.Rules.{rules}
use Rattle.judging.specs.States.{groups_reached}
use Rattle.judging.proofs.reached.levels_told.Goals as goal

pub overflow_mul-result : goal.overflow_mul-result
unfolding groups_reached
overflow_mul-result c = rw c.groups_reached.ensures (search rules)
