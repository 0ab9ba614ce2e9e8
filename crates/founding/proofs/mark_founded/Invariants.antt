-- `founding::mark_founded` meets its contract: further passes lead to the founded atoms, and a pass that marks none is there.
-- The measure is what the last pass marked and what is still unmarked, which is what was unmarked before that pass.
use Prim.Native.Nat.{◌+◌}
use mathlib.Core.Path.{◌≡◌}
use lib.ListN.{length}
use Rattle.founding.specs.internal.Founding.{unmarked}
use Rattle.founding.proofs.FoundingLaws.{Founding, found_from}
use Rattle.founding.proofs.mark_founded.Given as goal

abbrev pub invariant-loop-marked : goal.invariant-loop-marked
invariant-loop-marked l = (length l.founded ≡ length l.initial.founded) × Founding l.rules l.literals l.values (found_from l.rules l.literals l.values l.initial.founded) l.founded l.marked

abbrev pub decreases-loop-marked : goal.decreases-loop-marked
decreases-loop-marked l = l.marked + unmarked l.founded
