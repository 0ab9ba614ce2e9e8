-- `rounds::stages::evaluate_stages` meets its contract: at the loop's head the slices hold the stage after so many rounds, each of which
-- has changed something, so these are no more than the atoms; the first round that changes nothing shows the closure.
use mathlib.Core.Path.{refl, sym, ◌∙◌}
use native.Mathlib.Numerals.{add-one}
use native.Mathlib.Omega.{arith}
use borrow.Author.Rules.{rules}
use Rattle.wellfounded.specs.Definitions.{Definition}
use Rattle.rounds.specs.internal.Rounds.{RoundDone, Lends}
use Rattle.rounds.proofs.RoundStep.{at_fits, at_bound, at_small, stages_start, stages_turn, stages_end}
use Rattle.rounds.proofs.stages.evaluate_stages.Goals as goal

pub start_values-requires : goal.start_values-requires
start_values-requires c = (omega (arith, c.requires.1.lends.few, c.requires.1.lends.long, c.requires.1.lends.room), c.requires.1.values_long)

pub mark_negated-requires : goal.mark_negated-requires
mark_negated-requires c = λ place l.
    let known = c.requires.1.lends.rows.known place l in
    omega (arith, c.requires.1.lends.few)

pub mark_founded-requires : goal.mark_founded-requires
mark_founded-requires c = let lends = c.requires.1.lends in
    let long = c.start_values.auto.values ∙ c.requires.1.values_long ∙ lends.long in
    record { markable = record { rows = rw long lends.rows; room = rw long lends.few }; founded_len = sym lends.room }

pub loop-negated-init : goal.loop-negated-init
loop-negated-init c = (
  refl,
  refl,
  refl,
  λ d lends.
      stages_start c.requires.1 lends c.start_values.ensures c.clear.ensures c.clear-2.ensures c.mark_negated.ensures
      c.mark_founded.auto.founded c.mark_founded.ensures,
)

pub overflow_add-rounds : goal.overflow_add-rounds
overflow_add-rounds c = omega (arith, at_small (c.loop-negated.invariant.3 c.requires.0 c.requires.1.lends))

pub overflow_cast-rounds : goal.overflow_cast-rounds
overflow_cast-rounds c = omega (arith, at_small (c.loop-negated.invariant.3 c.requires.0 c.requires.1.lends))

pub slice_bounds-round-end-in-loop-negated : goal.slice_bounds-round-end-in-loop-negated
slice_bounds-round-end-in-loop-negated c = search (rules, c.loop-negated.invariant.3 c.requires.0 c.requires.1.lends)

pub round-requires : goal.round-requires
round-requires c = at_fits (c.loop-negated.invariant.3 c.requires.0 c.requires.1.lends)

pub overflow_add-rounds-in-loop-negated : goal.overflow_add-rounds-in-loop-negated
overflow_add-rounds-in-loop-negated c = omega (arith, at_small (c.loop-negated.invariant.3 c.requires.0 c.requires.1.lends))

pub loop-negated-smaller : goal.loop-negated-smaller
loop-negated-smaller c =
    let done : let negated = c.mark_negated.new.marks in (d : Definition) → Lends d c.args.rules.now c.args.literals.now c.args.defined.now c.args.setting.now → RoundDone d c.args.rules.now c.args.literals.now c.args.setting.now c.loop-negated.rounds c.args.defined.now negated c.round.new.founded c.round.new.values c.round.new.levels c.round.new.work c.round.result =
    λ d lends. c.round.ensures d _ _ (c.loop-negated.invariant.3 d lends) (sym (add-one _)) in
    let next = at_bound (stages_turn (done c.requires.0 c.requires.1.lends) c.loop-negated-test.true) in
    omega arith

pub loop-negated-preserved : goal.loop-negated-preserved
loop-negated-preserved c =
    let done : let negated = c.mark_negated.new.marks in (d : Definition) → Lends d c.args.rules.now c.args.literals.now c.args.defined.now c.args.setting.now → RoundDone d c.args.rules.now c.args.literals.now c.args.setting.now c.loop-negated.rounds c.args.defined.now negated c.round.new.founded c.round.new.values c.round.new.levels c.round.new.work c.round.result =
    λ d lends. c.round.ensures d _ _ (c.loop-negated.invariant.3 d lends) (sym (add-one _)) in
    let inv = c.loop-negated.invariant in
    (c.round.auto.values ∙ inv.0, c.round.auto.levels ∙ inv.1, c.round.auto.work ∙ inv.2, λ d lends. stages_turn (done d lends) c.loop-negated-test.true)

pub shape_of-values : goal.shape_of-values
shape_of-values c = c.round.auto.values ∙ c.loop-negated.invariant.0 ∙ c.start_values.auto.values

pub shape_of-levels : goal.shape_of-levels
shape_of-levels c = c.round.auto.levels ∙ c.loop-negated.invariant.1 ∙ c.clear.auto.entries

pub shape_of-work : goal.shape_of-work
shape_of-work c = c.round.auto.work ∙ c.loop-negated.invariant.2 ∙ c.clear-2.auto.entries

pub returns : goal.returns
returns c =
    let done : let negated = c.mark_negated.new.marks in (d : Definition) → Lends d c.args.rules.now c.args.literals.now c.args.defined.now c.args.setting.now → RoundDone d c.args.rules.now c.args.literals.now c.args.setting.now c.loop-negated.rounds c.args.defined.now negated c.round.new.founded c.round.new.values c.round.new.levels c.round.new.work c.round.result =
    λ d lends. c.round.ensures d _ _ (c.loop-negated.invariant.3 d lends) (sym (add-one _)) in
    λ d ready. stages_end (done d ready.lends) c.loop-negated-test.false
