-- `evaluator::evaluate` meets its contract: what is refused leaves the slices alone, and a model that is made is judged.
use Rattle.tables.specs.Sound.{Tables, lent}
use Rattle.evaluator.proofs.Evaluating.{stop_answer, model_clauses, model_loads, made_answer}
use Rattle.evaluator.proofs.evaluate.Goals as goal

pub model_fault-verdict-requires : goal.model_fault-verdict-requires
unfolding lent
model_fault-verdict-requires c =
    record { clauses_scannable = model_clauses _ _ _ _ _ _ _ _ _ c.make-made.ensures c.in-Ok.is; loads_scannable = model_loads _ _ _ _ _ _ _ _ _ c.make-made.ensures c.in-Ok.is }

pub returns-in-Ok : goal.returns-in-Ok
unfolding lent
returns-in-Ok c =
    let given : Tables =
    lent c.args.atoms c.args.rules.now c.args.literals.now c.args.clauses.now c.args.loads.now c.args.load_literals.now c.args.minutes.now c.args.marks.now in
    made_answer given _ _ _ _ _ _ _ _ c.make-made.ensures c.in-Ok.is c.model_fault-verdict.ensures

pub returns-in-Err : goal.returns-in-Err
returns-in-Err c = stop_answer _ _ _ _ _ _ _ _ _ c.make-made.ensures c.in-Err.is
