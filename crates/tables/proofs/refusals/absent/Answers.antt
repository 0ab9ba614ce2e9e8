-- `tables::refusals::absent` meets its contract.
use Rattle.tables.specs.Faults.{refused_or}
use Rattle.tables.proofs.refusals.absent.Goals as goal

pub returns-in-Some : goal.returns-in-Some
unfolding refused_or
returns-in-Some c = rw (c.in-Some.is)

pub returns-in-None : goal.returns-in-None
unfolding refused_or
returns-in-None c = rw (c.in-None.is)
