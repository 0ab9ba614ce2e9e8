-- `checker::support::literals_support` meets its contract: the literals from the loop's index on all support the atom where the whole body does.
use lib.ListN.{length}
use Rattle.wellfounded.proofs.Scan.{Scanned}
use Rattle.checker.specs.internal.Scans.{supports_below}
use Rattle.checker.proofs.support.literals_support.Given as goal

abbrev pub invariant-loop-literal : goal.invariant-loop-literal
invariant-loop-literal l = Scanned (supports_below l.values l.levels l.level) l.literal-items (length l.literal-items) l.literal-index
