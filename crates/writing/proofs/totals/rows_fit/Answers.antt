-- `writing::totals::rows_fit` meets its contract: its tests are those of the definition.
use Rattle.writing.specs.Writing.{literals_by_row, terms_by_row, rows_fit}
use Rattle.writing.proofs.totals.rows_fit.Goals as goal

pub returns : goal.returns
unfolding literals_by_row rows_fit terms_by_row
returns c = rw (c.rules_total.ensures.0, c.clauses_total.ensures.0, c.terms_total.ensures)
