-- `indexed::indexed_fault` meets its contract: what is lent without a fault leaves the verdict to the lengths of the index.
use Rattle.tables.specs.Sound.{Tables, lent}
use Rattle.indexed.proofs.IndexedLaws.{lent_refuses, small, lengths_decide}
use Rattle.indexed.proofs.indexed_fault.Goals as goal

pub returns-in_err-lent_fault : goal.returns-in_err-lent_fault
unfolding lent
returns-in_err-lent_fault c =
    let given : Tables =
    lent c.args.atoms c.args.rules.now c.args.literals.now c.args.clauses.now c.args.loads.now c.args.load_literals.now c.args.minutes.now c.args.marks.now in
    lent_refuses given c.args.setting c.args.values c.args.levels c.args.work c.args.starts c.args.entries c.args.counts
    (c.lent_fault.ensures _ (rw c.rule_count-rows.ensures at c.slices_fit-fit.ensures)) c.in_err-lent_fault.was c.from_residual.ensures.1

pub index_fits-requires : goal.index_fits-requires
unfolding lent
index_fits-requires c =
    let given : Tables =
    lent c.args.atoms c.args.rules.now c.args.literals.now c.args.clauses.now c.args.loads.now c.args.load_literals.now c.args.minutes.now c.args.marks.now in
    small given c.args.setting c.args.values c.args.levels c.args.work c.args.starts c.args.entries c.args.counts
    (c.lent_fault.ensures _ (rw c.rule_count-rows.ensures at c.slices_fit-fit.ensures)) c.in_ok-lent_fault.was

pub returns : goal.returns
unfolding lent
returns c =
    let given : Tables =
    lent c.args.atoms c.args.rules.now c.args.literals.now c.args.clauses.now c.args.loads.now c.args.load_literals.now c.args.minutes.now c.args.marks.now in
    lengths_decide given c.args.setting c.args.values c.args.levels c.args.work c.args.starts c.args.entries c.args.counts
    (c.lent_fault.ensures _ (rw c.rule_count-rows.ensures at c.slices_fit-fit.ensures)) c.in_ok-lent_fault.was c.index_fits.ensures c.require.ensures
