-- `satisfaction::clauses::some_literal_true` meets its contract: some literal from the loop's index on is true exactly where one of the clause is.
use lib.ListN.{length}
use Rattle.wellfounded.specs.Literals.{literal_true}
use Rattle.wellfounded.proofs.Scan.{Sought}
use Rattle.satisfaction.proofs.clauses.some_literal_true.Given as goal

abbrev pub invariant-loop-literal : goal.invariant-loop-literal
invariant-loop-literal l = Sought (literal_true l.values) l.literal-items (length l.literal-items) l.literal-index
