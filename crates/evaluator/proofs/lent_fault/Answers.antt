-- `evaluator::lent_fault` meets its contract: each step that accepts leaves the verdict to those after.
use Rattle.tables.specs.Sound.{Tables, lent}
use Rattle.evaluator.proofs.LentFault.{tables_refuse, sizes_refuse, count_refuses, marks_decide}
use Rattle.evaluator.proofs.lent_fault.Goals as goal

pub returns-in_err-table_fault : goal.returns-in_err-table_fault
returns-in_err-table_fault c = λ slices fits.
    let given : Tables =
    lent c.args.atoms c.args.rules.now c.args.literals.now c.args.clauses.now c.args.loads.now c.args.load_literals.now c.args.minutes.now c.args.marks.now in
    tables_refuse given slices (c.table_fault.ensures _) c.in_err-table_fault.was c.from_residual.ensures.1

pub returns-in_err-require : goal.returns-in_err-require
returns-in_err-require c = λ slices fits.
    let given : Tables =
    lent c.args.atoms c.args.rules.now c.args.literals.now c.args.clauses.now c.args.loads.now c.args.load_literals.now c.args.minutes.now c.args.marks.now in
    sizes_refuse given slices (c.table_fault.ensures _) c.in_ok-table_fault.was fits c.require.ensures c.in_err-require.was
    c.from_residual-in_err-require.ensures.1

pub returns-in_err-require-2 : goal.returns-in_err-require-2
unfolding lent
returns-in_err-require-2 c = λ slices fits.
    let given : Tables =
    lent c.args.atoms c.args.rules.now c.args.literals.now c.args.clauses.now c.args.loads.now c.args.load_literals.now c.args.minutes.now c.args.marks.now in
    count_refuses given slices (c.table_fault.ensures _) c.in_ok-table_fault.was fits c.require.ensures c.in_ok-require.was
    c.require-2.ensures c.in_err-require-2.was c.from_residual-in_err-require-2.ensures.1

pub returns : goal.returns
unfolding lent
returns c = λ slices fits.
    let given : Tables =
    lent c.args.atoms c.args.rules.now c.args.literals.now c.args.clauses.now c.args.loads.now c.args.load_literals.now c.args.minutes.now c.args.marks.now in
    marks_decide given slices (c.table_fault.ensures _) c.in_ok-table_fault.was fits c.require.ensures c.in_ok-require.was
    c.require-2.ensures c.in_ok-require-2.was c.not_held_atom.ensures c.absent.ensures
