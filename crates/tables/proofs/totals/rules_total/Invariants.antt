-- `tables::totals::rules_total` meets its contract: the sizes of the rows passed are in the total.
use Rattle.tables.specs.Rows.{rule_size}
use Rattle.tables.proofs.TotalLaws.{Summing}
use Rattle.tables.proofs.totals.rules_total.Given as goal

abbrev pub invariant-loop-row : goal.invariant-loop-row
invariant-loop-row l = Summing (rule_size l.rules) 65536 l.row-end l.row l.total
