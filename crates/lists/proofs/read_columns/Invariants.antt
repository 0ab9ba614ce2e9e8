-- `lists::read_columns` meets its contract: the columns of the groups so far stand one behind the other.
use lib.ListN.{drop}
use Rattle.format.specs.Parse.{parts, read_pair}
use Rattle.judging.specs.Judging.{pair_within}
use Rattle.lists.specs.internal.Lists.{Laid}
use Rattle.lists.proofs.PairLaws.{columns_laid}
use Rattle.lists.proofs.read_columns.Given as goal

abbrev pub invariant-loop-group : goal.invariant-loop-group
invariant-loop-group l = Laid pair_within (parts read_pair (drop l.at l.text)) (columns_laid l.group l.size l.initial.levels l.levels)
