-- `judging::reached::between` meets its contract: both tests.
use borrow.Author.Rules.{rules}
use Rattle.judging.specs.Judging.{between}
use Rattle.judging.proofs.reached.between.Goals as goal

pub returns : goal.returns
unfolding between
returns c = search rules
