-- `advancing::stages::run` meets its contract: each round but the last has decided something, so they are no more than the atoms.
use Prim.Native.Nat.{ℕ, ◌+◌}
use mathlib.Core.Path.{refl, ◌∙◌}
use mathlib.Core.List.{List}
use native.Mathlib.Omega.{arith}
use Rattle.wellfounded.specs.Definitions.{Definition}
use Rattle.advancing.specs.internal.Runs.{Runs}
use Rattle.advancing.proofs.RunLaws.{run_bound, run_next, run_turn, run_end}
use Rattle.advancing.proofs.stages.run.Goals as goal

pub loop-from-init : goal.loop-from-init
loop-from-init c = (refl, refl, refl, refl, refl, λ d setting r. r)

pub overflow_add-rounds : goal.overflow_add-rounds
overflow_add-rounds c = omega (arith, run_bound (c.loop-from.invariant.5 c.requires.0 c.requires.1 c.requires.2))

pub overflow_add-rounds-in-loop-from : goal.overflow_add-rounds-in-loop-from
overflow_add-rounds-in-loop-from c = omega (arith, run_bound (c.loop-from.invariant.5 c.requires.0 c.requires.1 c.requires.2))

pub overflow_cast-rounds : goal.overflow_cast-rounds
overflow_cast-rounds c = omega (arith, run_bound (c.loop-from.invariant.5 c.requires.0 c.requires.1 c.requires.2))

pub advance-front-requires : goal.advance-front-requires
advance-front-requires c = (_, _, _, run_next (c.loop-from.invariant.5 c.requires.0 c.requires.1 c.requires.2) c.loop-from-test.true)

pub loop-from-smaller : goal.loop-from-smaller
loop-from-smaller c =
    let turned : (d : Definition) (setting : List ℕ) → Runs d c.args.rules.now c.args.literals.now c.args.starts.now c.args.entries.now setting 0 c.args.first c.args.last c.args.renewed c.args.counts.now c.args.founded.now c.args.values.now c.args.levels.now c.args.queue.now → Runs d c.args.rules.now c.args.literals.now c.args.starts.now c.args.entries.now setting (c.loop-from.rounds + 1) c.advance-front.result.from c.advance-front.result.end c.advance-front.result.due c.advance-front.new.counts c.advance-front.new.founded c.advance-front.new.values c.advance-front.new.levels c.advance-front.new.queue =
    λ d setting r. let now = c.loop-from.invariant.5 d setting r in
    run_turn now c.advance-front.auto.founded (c.advance-front.ensures d setting _ (run_next now c.loop-from-test.true)) in
    omega (arith, run_bound (turned c.requires.0 c.requires.1 c.requires.2))

pub loop-from-preserved : goal.loop-from-preserved
loop-from-preserved c =
    let turned : (d : Definition) (setting : List ℕ) → Runs d c.args.rules.now c.args.literals.now c.args.starts.now c.args.entries.now setting 0 c.args.first c.args.last c.args.renewed c.args.counts.now c.args.founded.now c.args.values.now c.args.levels.now c.args.queue.now → Runs d c.args.rules.now c.args.literals.now c.args.starts.now c.args.entries.now setting (c.loop-from.rounds + 1) c.advance-front.result.from c.advance-front.result.end c.advance-front.result.due c.advance-front.new.counts c.advance-front.new.founded c.advance-front.new.values c.advance-front.new.levels c.advance-front.new.queue =
    λ d setting r. let now = c.loop-from.invariant.5 d setting r in
    run_turn now c.advance-front.auto.founded (c.advance-front.ensures d setting _ (run_next now c.loop-from-test.true)) in
    let inv = c.loop-from.invariant in (c.advance-front.auto.counts ∙ inv.0, c.advance-front.auto.founded ∙ inv.1, c.advance-front.auto.values ∙ inv.2, c.advance-front.auto.levels ∙ inv.3, c.advance-front.auto.queue ∙ inv.4, λ d setting r. turned d setting r)

pub shape_of-counts : goal.shape_of-counts
shape_of-counts c = c.loop-from.invariant.0

pub shape_of-founded : goal.shape_of-founded
shape_of-founded c = c.loop-from.invariant.1

pub shape_of-values : goal.shape_of-values
shape_of-values c = c.loop-from.invariant.2

pub shape_of-levels : goal.shape_of-levels
shape_of-levels c = c.loop-from.invariant.3

pub shape_of-queue : goal.shape_of-queue
shape_of-queue c = c.loop-from.invariant.4

pub returns : goal.returns
returns c = λ d setting r. run_end (c.loop-from.invariant.5 d setting r) c.loop-from-test.false
