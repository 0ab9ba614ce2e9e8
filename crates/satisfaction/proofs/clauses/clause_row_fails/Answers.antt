-- `satisfaction::clauses::clause_row_fails` meets its contract, field by field.
use Rattle.tables.specs.Rows.{clause_at}
use Rattle.satisfaction.specs.Satisfied.{failing_clause}
use Rattle.satisfaction.proofs.clauses.clause_row_fails.Goals as goal

pub clause_holds-requires : goal.clause_holds-requires
clause_holds-requires c = rw (c.clause_start-start.ensures.is, c.clause_size-size.ensures.is) (record { within = c.requires.clauses_scannable.within _ c.requires.row_bound; known = c.requires.clauses_scannable.known })

pub returns : goal.returns
unfolding clause_at failing_clause
returns c = rw (c.clause_holds.ensures, c.clause_start-start.ensures.is, c.clause_size-size.ensures.is)
