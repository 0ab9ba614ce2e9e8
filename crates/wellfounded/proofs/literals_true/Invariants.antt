-- `wellfounded::literals_true` meets its contract: the literals from the loop's index on are all true where the whole body is.
use lib.ListN.{length}
use Rattle.wellfounded.specs.Literals.{literal_true}
use Rattle.wellfounded.proofs.Scan.{Scanned}
use Rattle.wellfounded.proofs.literals_true.Given as goal

abbrev pub invariant-loop-literal : goal.invariant-loop-literal
invariant-loop-literal l = Scanned (literal_true l.values) l.literal-items (length l.literal-items) l.literal-index
