-- `indexed::evaluate_indexed` meets its contract: what is refused leaves all slices alone, and a model that is made is judged.
use Rattle.tables.specs.Sound.{Tables, lent}
use Rattle.indexed.specs.EvaluateIndexed.{IndexedSlices}
use Rattle.indexed.proofs.IndexedLaws.{stopped_answer, model_clauses, model_loads, made_answer}
use Rattle.indexed.proofs.evaluate_indexed.Goals as goal

pub model_fault-verdict-requires : goal.model_fault-verdict-requires
unfolding lent
model_fault-verdict-requires c =
    record {
      clauses_scannable = model_clauses _ _ _ _ _ _ _ _ _ c.make-made.ensures c.in-Ok.is;
      loads_scannable = model_loads _ _ _ _ _ _ _ _ _ c.make-made.ensures c.in-Ok.is;
    }

pub returns-in-Ok : goal.returns-in-Ok
unfolding lent
returns-in-Ok c =
    let given : Tables =
    lent c.args.atoms c.args.rules.now c.args.literals.now c.args.clauses.now c.args.loads.now c.args.load_literals.now c.args.minutes.now c.args.marks.now in
    let slices : IndexedSlices =
    record {
      setting = c.args.open_values.now;
      values = c.args.values.now;
      levels = c.args.levels.now;
      work = c.args.work.now;
      starts = c.args.starts.now;
      entries = c.args.entries.now;
      counts = c.args.counts.now;
    } in
    made_answer given slices _ _ _ _ _ _ _ c.make-made.ensures c.in-Ok.is c.model_fault-verdict.ensures

pub returns-in-Err : goal.returns-in-Err
returns-in-Err c = stopped_answer _ _ _ _ _ _ _ _ _ c.make-made.ensures c.in-Err.is
