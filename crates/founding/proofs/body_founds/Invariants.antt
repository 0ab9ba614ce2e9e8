-- `founding::body_founds` meets its contract: what the literals from the loop's index on make of the test is what the whole body does.
use lib.ListN.{length}
use Rattle.wellfounded.proofs.Scan.{Scanned}
use Rattle.founding.specs.internal.Founding.{founds}
use Rattle.founding.proofs.body_founds.Given as goal

abbrev pub invariant-loop-literal : goal.invariant-loop-literal
invariant-loop-literal l = Scanned (founds l.values l.founded) l.literal-items (length l.literal-items) l.literal-index
