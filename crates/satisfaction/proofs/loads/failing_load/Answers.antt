-- `satisfaction::loads::failing_load` meets its contract: a row fails where its load line does not hold.
use borrow.Author.Rules.{rules}
use Rattle.satisfaction.specs.Satisfied.{failing_load}
use Rattle.satisfaction.proofs.loads.failing_load.Goals as goal

pub returns : goal.returns
unfolding failing_load
returns c = rw (← c.load_count.ensures) (c.lowest.ensures _ (λ place told l met. search rules))
