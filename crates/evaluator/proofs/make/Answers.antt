-- `evaluator::make` meets its contract: a fault of what is lent or a bad setting stops it with nothing written; otherwise the stages are made.
use Rattle.tables.specs.Limits.{max_atoms}
use Rattle.tables.specs.Sound.{Tables, lent, book_of}
use Rattle.tables.proofs.MarkLaws.{fresh_unmarked}
use Rattle.evaluator.proofs.Evaluating.{lent_stops, heads_fit, marks_fit, setting_fits, stages_ready, setting_stops, makes}
use Rattle.evaluator.proofs.make.Goals as goal

pub returns-in_err-lent_fault : goal.returns-in_err-lent_fault
unfolding lent
returns-in_err-lent_fault c =
    let given : Tables =
    lent c.args.atoms c.args.rules.now c.args.literals.now c.args.clauses.now c.args.loads.now c.args.load_literals.now c.args.minutes.now c.args.marks.now in
    lent_stops given _ _ _ _ (c.lent_fault.ensures _ c.lengths_fit-fit.ensures) _ c.in_err-lent_fault.was c.from_residual.ensures.1

pub mark_defined-requires : goal.mark_defined-requires
unfolding lent
mark_defined-requires c =
    let given : Tables =
    lent c.args.atoms c.args.rules.now c.args.literals.now c.args.clauses.now c.args.loads.now c.args.load_literals.now c.args.minutes.now c.args.marks.now in
    let is = c.lent_fault.ensures _ c.lengths_fit-fit.ensures in
    let passed = c.in_ok-lent_fault.was in
    record {
      by_index = heads_fit given c.args.open_values.now c.args.values.now c.args.levels.now c.args.work.now is passed;
      marks_in_bounds = marks_fit given c.args.open_values.now c.args.values.now c.args.levels.now c.args.work.now is passed;
      unmarked = fresh_unmarked max_atoms;
    }

pub bad_setting-requires : goal.bad_setting-requires
unfolding lent
bad_setting-requires c =
    let given : Tables =
    lent c.args.atoms c.args.rules.now c.args.literals.now c.args.clauses.now c.args.loads.now c.args.load_literals.now c.args.minutes.now c.args.marks.now in
    setting_fits given c.args.open_values.now c.args.values.now c.args.levels.now c.args.work.now (c.lent_fault.ensures _ c.lengths_fit-fit.ensures)
    c.in_ok-lent_fault.was c.mark_defined.ensures

pub returns-in_err-absent : goal.returns-in_err-absent
unfolding lent
returns-in_err-absent c =
    let given : Tables =
    lent c.args.atoms c.args.rules.now c.args.literals.now c.args.clauses.now c.args.loads.now c.args.load_literals.now c.args.minutes.now c.args.marks.now in
    setting_stops given _ _ _ _ (c.lent_fault.ensures _ c.lengths_fit-fit.ensures) c.in_ok-lent_fault.was c.mark_defined.ensures
    c.bad_setting.ensures c.absent.ensures _ c.in_err-absent.was c.from_residual-in_err-absent.ensures.1

pub evaluate_stages-rounds-requires : goal.evaluate_stages-rounds-requires
unfolding lent
evaluate_stages-rounds-requires c =
    let given : Tables =
    lent c.args.atoms c.args.rules.now c.args.literals.now c.args.clauses.now c.args.loads.now c.args.load_literals.now c.args.minutes.now c.args.marks.now in
    (book_of given, stages_ready given _ _ _ _ (c.lent_fault.ensures _ c.lengths_fit-fit.ensures) c.in_ok-lent_fault.was c.mark_defined.ensures)

pub returns : goal.returns
unfolding lent
returns c =
    let given : Tables =
    lent c.args.atoms c.args.rules.now c.args.literals.now c.args.clauses.now c.args.loads.now c.args.load_literals.now c.args.minutes.now c.args.marks.now in
    let is = c.lent_fault.ensures _ c.lengths_fit-fit.ensures in
    let passed = c.in_ok-lent_fault.was in
    let marked = c.mark_defined.ensures in
    makes given _ _ _ _ is passed marked c.bad_setting.ensures c.absent.ensures c.in_ok-absent.was
    (c.evaluate_stages-rounds.ensures _ (stages_ready given _ _ _ _ is passed marked))
