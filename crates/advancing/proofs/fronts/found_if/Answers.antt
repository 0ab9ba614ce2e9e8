-- `advancing::fronts::found_if` meets its contract.
use Rattle.advancing.proofs.FrontLaws.{knows_anew, knows_quiet}
use Rattle.advancing.proofs.fronts.found_if.Goals as goal

pub returns-then-due : goal.returns-then-due
returns-then-due c = λ d setting k so. knows_anew so c.if-due.true (c.found.ensures d setting k so.ready)

pub returns-else-due : goal.returns-else-due
returns-else-due c = λ d setting k so. knows_quiet so c.if-due.false
