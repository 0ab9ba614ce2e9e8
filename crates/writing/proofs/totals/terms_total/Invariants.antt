-- `writing::totals::terms_total` meets its contract: the sizes of the rows passed are in the total.
use Rattle.tables.specs.Loads.{load_size}
use Rattle.tables.proofs.TotalLaws.{Summing}
use Rattle.writing.proofs.totals.terms_total.Given as goal

abbrev pub invariant-loop-row : goal.invariant-loop-row
invariant-loop-row l = Summing (load_size l.loads) 2147483648 l.row-end l.row l.total
