-- `indexed::make` meets its contract: what is refused before the setting or for it stops it with nothing written; otherwise the index is built and the
-- rounds follow it to the end.
use Prim.Native.Nat.{◌*◌}
use Rattle.tables.specs.Limits.{max_atoms}
use Rattle.tables.specs.Sound.{Tables, lent, book_of}
use Rattle.tables.proofs.MarkLaws.{fresh_unmarked}
use Rattle.indexed.specs.EvaluateIndexed.{IndexedSlices}
use Rattle.indexed.proofs.IndexedLaws.{early_stops, heads_fit, marks_fit, buildable, setting_fits, setting_stops, advance_ready, makes}
use Rattle.indexed.proofs.make.Goals as goal

pub returns-in_err-indexed_fault : goal.returns-in_err-indexed_fault
unfolding lent
returns-in_err-indexed_fault c =
    let given : Tables =
    lent c.args.atoms c.args.rules.now c.args.literals.now c.args.clauses.now c.args.loads.now c.args.load_literals.now c.args.minutes.now c.args.marks.now in
    let slices : IndexedSlices =
    record {
      setting = c.args.open_values.now;
      values = c.args.values.now;
      levels = c.args.levels.now;
      work = c.args.work.now;
      starts = c.args.starts.now;
      entries = c.args.entries.now;
      counts = c.args.counts.now;
    } in
    early_stops given slices c.indexed_fault.ensures _ c.in_err-indexed_fault.was c.from_residual.ensures.1

pub mark_defined-requires : goal.mark_defined-requires
unfolding lent
mark_defined-requires c =
    let given : Tables =
    lent c.args.atoms c.args.rules.now c.args.literals.now c.args.clauses.now c.args.loads.now c.args.load_literals.now c.args.minutes.now c.args.marks.now in
    let slices : IndexedSlices =
    record {
      setting = c.args.open_values.now;
      values = c.args.values.now;
      levels = c.args.levels.now;
      work = c.args.work.now;
      starts = c.args.starts.now;
      entries = c.args.entries.now;
      counts = c.args.counts.now;
    } in
    record {
      by_index = heads_fit given slices c.indexed_fault.ensures c.in_ok-indexed_fault.was;
      marks_in_bounds = marks_fit given slices c.indexed_fault.ensures c.in_ok-indexed_fault.was;
      unmarked = fresh_unmarked max_atoms;
    }

pub bad_setting-requires : goal.bad_setting-requires
unfolding lent
bad_setting-requires c =
    let given : Tables =
    lent c.args.atoms c.args.rules.now c.args.literals.now c.args.clauses.now c.args.loads.now c.args.load_literals.now c.args.minutes.now c.args.marks.now in
    let slices : IndexedSlices =
    record {
      setting = c.args.open_values.now;
      values = c.args.values.now;
      levels = c.args.levels.now;
      work = c.args.work.now;
      starts = c.args.starts.now;
      entries = c.args.entries.now;
      counts = c.args.counts.now;
    } in
    setting_fits given slices c.indexed_fault.ensures c.in_ok-indexed_fault.was c.mark_defined.ensures

pub returns-in_err-absent : goal.returns-in_err-absent
unfolding lent
returns-in_err-absent c =
    let given : Tables =
    lent c.args.atoms c.args.rules.now c.args.literals.now c.args.clauses.now c.args.loads.now c.args.load_literals.now c.args.minutes.now c.args.marks.now in
    let slices : IndexedSlices =
    record {
      setting = c.args.open_values.now;
      values = c.args.values.now;
      levels = c.args.levels.now;
      work = c.args.work.now;
      starts = c.args.starts.now;
      entries = c.args.entries.now;
      counts = c.args.counts.now;
    } in
    setting_stops given slices c.indexed_fault.ensures c.in_ok-indexed_fault.was c.mark_defined.ensures c.bad_setting.ensures c.absent.ensures
    _ c.in_err-absent.was c.from_residual-in_err-absent.ensures.1

pub build-requires : goal.build-requires
unfolding lent
build-requires c =
    let given : Tables =
    lent c.args.atoms c.args.rules.now c.args.literals.now c.args.clauses.now c.args.loads.now c.args.load_literals.now c.args.minutes.now c.args.marks.now in
    let slices : IndexedSlices =
    record {
      setting = c.args.open_values.now;
      values = c.args.values.now;
      levels = c.args.levels.now;
      work = c.args.work.now;
      starts = c.args.starts.now;
      entries = c.args.entries.now;
      counts = c.args.counts.now;
    } in
    (2 * c.args.atoms, buildable given slices c.indexed_fault.ensures c.in_ok-indexed_fault.was)

pub advance_stages-rounds-requires : goal.advance_stages-rounds-requires
unfolding lent
advance_stages-rounds-requires c =
    let given : Tables =
    lent c.args.atoms c.args.rules.now c.args.literals.now c.args.clauses.now c.args.loads.now c.args.load_literals.now c.args.minutes.now c.args.marks.now in
    let slices : IndexedSlices =
    record {
      setting = c.args.open_values.now;
      values = c.args.values.now;
      levels = c.args.levels.now;
      work = c.args.work.now;
      starts = c.args.starts.now;
      entries = c.args.entries.now;
      counts = c.args.counts.now;
    } in
    let is = c.indexed_fault.ensures in
    let passed = c.in_ok-indexed_fault.was in (
      book_of given,
      advance_ready given slices is passed c.mark_defined.ensures c.bad_setting.ensures c.absent.ensures c.in_ok-absent.was
          (c.build.ensures _ (buildable given slices is passed)),
    )

pub returns : goal.returns
unfolding lent
returns c =
    let given : Tables =
    lent c.args.atoms c.args.rules.now c.args.literals.now c.args.clauses.now c.args.loads.now c.args.load_literals.now c.args.minutes.now c.args.marks.now in
    let slices : IndexedSlices =
    record {
      setting = c.args.open_values.now;
      values = c.args.values.now;
      levels = c.args.levels.now;
      work = c.args.work.now;
      starts = c.args.starts.now;
      entries = c.args.entries.now;
      counts = c.args.counts.now;
    } in
    let is = c.indexed_fault.ensures in
    let passed = c.in_ok-indexed_fault.was in
    let built = c.build.ensures _ (buildable given slices is passed) in
    let marked = c.mark_defined.ensures in
    makes given slices is passed marked c.bad_setting.ensures c.absent.ensures c.in_ok-absent.was built
    (c.advance_stages-rounds.ensures _ (advance_ready given slices is passed marked c.bad_setting.ensures c.absent.ensures c.in_ok-absent.was built))
