-- `advancing::stages::run` meets its contract: each round but the last has decided something, so they are no more than the atoms.
use Prim.Native.Nat.{ℕ, ◌-◌}
use mathlib.Core.Path.{◌≡◌}
use mathlib.Core.List.{List}
use lib.ListN.{length}
use Rattle.wellfounded.specs.Definitions.{Definition}
use Rattle.tables.specs.Limits.{max_atoms}
use Rattle.advancing.specs.internal.Runs.{Runs}
use Rattle.advancing.proofs.stages.run.Given as goal

abbrev pub invariant-loop-from : goal.invariant-loop-from
invariant-loop-from l = (length l.counts ≡ length l.initial.counts) × (length l.founded ≡ length l.initial.founded) × (length l.values ≡ length l.initial.values) × (length l.levels ≡ length l.initial.levels)
    × (length l.queue ≡ length l.initial.queue)
    × ((d : Definition) (setting : List ℕ) → Runs d l.rules l.literals l.starts l.entries setting 0 l.first l.last l.renewed l.initial.counts l.initial.founded l.initial.values l.initial.levels l.initial.queue →
    Runs d l.rules l.literals l.starts l.entries setting l.rounds l.from l.end l.due l.counts l.founded l.values l.levels l.queue)

abbrev pub decreases-loop-from : goal.decreases-loop-from
decreases-loop-from l = max_atoms - l.rounds
