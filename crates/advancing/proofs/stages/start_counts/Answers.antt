-- `advancing::stages::start_counts` meets its contract: rows are counted by a table of the literals that are not true.
use Rattle.advancing.proofs.RunLaws.{start_tabled, start_fits, start_fired}
use Rattle.advancing.proofs.stages.start_counts.Goals as goal

pub lack_literals-requires : goal.lack_literals-requires
lack_literals-requires c = start_tabled c.requires.5

pub count_lacks-requires : goal.count_lacks-requires
count_lacks-requires c = start_fits c.requires.5 c.lack_literals.ensures

pub returns : goal.returns
returns c = λ d starts entries setting levels at. start_fired at c.lack_literals.ensures c.count_lacks.ensures
