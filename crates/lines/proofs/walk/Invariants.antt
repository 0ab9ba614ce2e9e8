-- `lines::walk` meets its contract: at each line the rest of the text is judged as the whole is, and storing its forms stores all.
use Prim.Native.Nat.{◌-◌}
use lib.ListN.{length}
use Rattle.forms.specs.Contents.{lent_tables}
use Rattle.lines.proofs.WalkLaws.{Underway}
use Rattle.lines.proofs.walk.Given as goal

abbrev pub invariant-loop-at : goal.invariant-loop-at
invariant-loop-at l = Underway l.text l.space (lent_tables l.initial.rules l.initial.literals l.initial.clauses l.initial.loads l.initial.load_literals l.initial.minutes l.initial.marks l.initial.values l.initial.levels) l.reached l.at
    (lent_tables l.rules l.literals l.clauses l.loads l.load_literals l.minutes l.marks l.values l.levels)

abbrev pub decreases-loop-at : goal.decreases-loop-at
decreases-loop-at l = length l.text - l.at
