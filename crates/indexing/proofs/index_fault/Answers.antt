-- `indexing::index_fault` meets its contract: tables without a fault leave the verdict to the marks, and these to the lengths of the slices.
use mathlib.Core.Path.{sym, ◌∙◌}
use native.Mathlib.Omega.{arith}
use Rattle.tables.specs.Sound.{Tables, lent, table_tests}
use Rattle.tables.proofs.Faults.{accepted_absent}
use Rattle.tables.proofs.SoundTables.{sound_sizes}
use Rattle.indexing.proofs.IndexLaws.{tables_refuse, count_refuses, first_decides}
use Rattle.indexing.proofs.index_fault.Goals as goal

pub returns-in_err-table_fault : goal.returns-in_err-table_fault
returns-in_err-table_fault c =
    let given : Tables =
    lent c.args.atoms c.args.rules.now c.args.literals.now c.args.clauses.now c.args.loads.now c.args.load_literals.now c.args.minutes.now c.args.marks.now in
    tables_refuse given _ _ (c.table_fault.ensures _) c.in_err-table_fault.was c.from_residual.ensures.1

pub returns-in_err-require : goal.returns-in_err-require
unfolding lent
returns-in_err-require c =
    let given : Tables =
    lent c.args.atoms c.args.rules.now c.args.literals.now c.args.clauses.now c.args.loads.now c.args.load_literals.now c.args.minutes.now c.args.marks.now in
    count_refuses given _ _ (c.table_fault.ensures _) c.in_ok-table_fault.was c.require.ensures c.in_err-require.was c.from_residual-in_err-require.ensures.1

pub index_fits-fit-requires : goal.index_fits-fit-requires
unfolding lent
index_fits-fit-requires c =
    let given : Tables =
    lent c.args.atoms c.args.rules.now c.args.literals.now c.args.clauses.now c.args.loads.now c.args.load_literals.now c.args.minutes.now c.args.marks.now in
    let sizes = sound_sizes given (accepted_absent (table_tests given) (sym (c.table_fault.ensures _) ∙ c.in_ok-table_fault.was)) in
    (sizes.few_atoms, omega (arith, sizes.few_rules))

pub returns : goal.returns
unfolding lent
returns c =
    let given : Tables =
    lent c.args.atoms c.args.rules.now c.args.literals.now c.args.clauses.now c.args.loads.now c.args.load_literals.now c.args.minutes.now c.args.marks.now in
    first_decides given _ _ (c.table_fault.ensures _) c.in_ok-table_fault.was c.require.ensures c.in_ok-require.was c.not_held_atom.ensures
    c.index_fits-fit.ensures c.first_refusal.ensures
