-- `writing::totals::clauses_total` meets its contract: the sizes of the rows passed are in the total.
use Rattle.tables.specs.Rows.{clause_size}
use Rattle.tables.proofs.TotalLaws.{Summing}
use Rattle.writing.proofs.totals.clauses_total.Given as goal

abbrev pub invariant-loop-row : goal.invariant-loop-row
invariant-loop-row l = Summing (clause_size l.clauses) 65536 l.row-end l.row l.total
