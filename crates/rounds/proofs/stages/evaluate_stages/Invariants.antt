-- `rounds::stages::evaluate_stages` meets its contract: at the loop's head the slices hold the stage after so many rounds, each of which
-- has changed something, so these are no more than the atoms; the first round that changes nothing shows the closure.
use Prim.Native.Nat.{◌-◌}
use mathlib.Core.Path.{◌≡◌}
use lib.ListN.{length}
use Rattle.wellfounded.specs.Definitions.{Definition}
use Rattle.rounds.specs.internal.Rounds.{AtStage, Lends}
use Rattle.rounds.proofs.stages.evaluate_stages.Given as goal

abbrev pub invariant-loop-negated : goal.invariant-loop-negated
invariant-loop-negated l = (length l.values ≡ length l.initial.values) × (length l.levels ≡ length l.initial.levels) × (length l.work ≡ length l.initial.work)
    × ((d : Definition) → Lends d l.rules l.literals l.defined l.setting → AtStage d l.rules l.literals l.setting l.rounds l.defined l.negated l.founded l.values l.levels l.work)

abbrev pub decreases-loop-negated : goal.decreases-loop-negated
decreases-loop-negated l = length l.setting - l.rounds
