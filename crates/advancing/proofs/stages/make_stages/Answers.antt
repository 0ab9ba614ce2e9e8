-- `advancing::stages::make_stages` meets its contract: stage 0 is founded and counted, its round closed, and the others follow.
use Prim.Native.Nat.{ℕ}
use mathlib.Core.Path.{◌∙◌}
use mathlib.Core.Bool.{true}
use mathlib.Core.List.{List}
use Rattle.wellfounded.specs.Definitions.{Definition}
use Rattle.advancing.specs.internal.Fronts.{Closes}
use Rattle.advancing.specs.internal.Runs.{AtStart, Runs}
use Rattle.advancing.proofs.RunLaws.{start_founds, start_closes, start_runs, run_clears}
use Rattle.advancing.proofs.stages.make_stages.Goals as goal

pub found-requires : goal.found-requires
found-requires c = (_, _, _, start_founds c.requires.2 c.requires.3)

pub start_counts-end-requires : goal.start_counts-end-requires
start_counts-end-requires c = (_, _, _, _, _, c.requires.2)

pub close-front-requires : goal.close-front-requires
close-front-requires c =
    let closes : (d : Definition) (setting : List ℕ) → AtStart d c.args.rules.now c.args.literals.now c.args.starts.now c.args.entries.now setting c.args.counts.now c.args.values.now c.args.levels.now c.args.queue.now → Closes d c.args.rules.now c.args.literals.now c.args.starts.now c.args.entries.now setting 0 true 0 c.start_counts-end.result 1 c.found.new.marks c.start_counts-end.new.counts c.start_counts-end.new.values c.args.levels.now c.start_counts-end.new.queue =
    λ d setting at. start_closes at.lends (c.found.ensures d setting 0 (start_founds at c.requires.3)) (c.start_counts-end.ensures d _ _ setting _ at) in
    (_, _, _, _, _, _, _, closes c.requires.0 c.requires.1 c.requires.2)

pub run-rounds-requires : goal.run-rounds-requires
run-rounds-requires c =
    let closes : (d : Definition) (setting : List ℕ) → AtStart d c.args.rules.now c.args.literals.now c.args.starts.now c.args.entries.now setting c.args.counts.now c.args.values.now c.args.levels.now c.args.queue.now → Closes d c.args.rules.now c.args.literals.now c.args.starts.now c.args.entries.now setting 0 true 0 c.start_counts-end.result 1 c.found.new.marks c.start_counts-end.new.counts c.start_counts-end.new.values c.args.levels.now c.start_counts-end.new.queue =
    λ d setting at. start_closes at.lends (c.found.ensures d setting 0 (start_founds at c.requires.3)) (c.start_counts-end.ensures d _ _ setting _ at) in
    let runs : (d : Definition) (setting : List ℕ) → AtStart d c.args.rules.now c.args.literals.now c.args.starts.now c.args.entries.now setting c.args.counts.now c.args.values.now c.args.levels.now c.args.queue.now → Runs d c.args.rules.now c.args.literals.now c.args.starts.now c.args.entries.now setting 0 c.close-front.result.from c.close-front.result.end c.close-front.result.due c.start_counts-end.new.counts c.found.new.marks c.close-front.new.values c.close-front.new.levels c.close-front.new.queue =
    λ d setting at. let closed = closes d setting at in
    start_runs closed (c.close-front.ensures d _ _ _ setting _ 0 closed) in
    (_, _, runs c.requires.0 c.requires.1 c.requires.2)

pub shape_of-counts : goal.shape_of-counts
shape_of-counts c = c.run-rounds.auto.counts ∙ c.start_counts-end.auto.counts

pub shape_of-founded : goal.shape_of-founded
shape_of-founded c = c.run-rounds.auto.founded ∙ c.found.auto.marks

pub shape_of-values : goal.shape_of-values
shape_of-values c = c.run-rounds.auto.values ∙ c.close-front.auto.values ∙ c.start_counts-end.auto.values

pub shape_of-queue : goal.shape_of-queue
shape_of-queue c = c.clear.auto.entries ∙ c.run-rounds.auto.queue ∙ c.close-front.auto.queue ∙ c.start_counts-end.auto.queue

pub returns : goal.returns
returns c =
    let closes : (d : Definition) (setting : List ℕ) → AtStart d c.args.rules.now c.args.literals.now c.args.starts.now c.args.entries.now setting c.args.counts.now c.args.values.now c.args.levels.now c.args.queue.now → Closes d c.args.rules.now c.args.literals.now c.args.starts.now c.args.entries.now setting 0 true 0 c.start_counts-end.result 1 c.found.new.marks c.start_counts-end.new.counts c.start_counts-end.new.values c.args.levels.now c.start_counts-end.new.queue =
    λ d setting at. start_closes at.lends (c.found.ensures d setting 0 (start_founds at c.requires.3)) (c.start_counts-end.ensures d _ _ setting _ at) in
    let runs : (d : Definition) (setting : List ℕ) → AtStart d c.args.rules.now c.args.literals.now c.args.starts.now c.args.entries.now setting c.args.counts.now c.args.values.now c.args.levels.now c.args.queue.now → Runs d c.args.rules.now c.args.literals.now c.args.starts.now c.args.entries.now setting 0 c.close-front.result.from c.close-front.result.end c.close-front.result.due c.start_counts-end.new.counts c.found.new.marks c.close-front.new.values c.close-front.new.levels c.close-front.new.queue =
    λ d setting at. let closed = closes d setting at in
    start_runs closed (c.close-front.ensures d _ _ _ setting _ 0 closed) in
    λ d setting at. run_clears at (c.run-rounds.ensures d setting (runs d setting at)) c.clear.ensures
