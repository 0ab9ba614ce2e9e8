-- `satisfaction::clauses::clause_holds` meets its contract: a clause at `start` is one at the beginning of the part that is scanned.
use mathlib.Core.Path.{◌∙◌, ap}
use Rattle.satisfaction.specs.Satisfied.{clause_holds}
use Rattle.wellfounded.proofs.Scan.{part_scannable, part_body}
use Rattle.satisfaction.proofs.clauses.clause_holds.Goals as goal

pub some_literal_true-requires : goal.some_literal_true-requires
some_literal_true-requires c = part_scannable c.requires

pub returns : goal.returns
returns c = c.some_literal_true.ensures ∙ ap (clause_holds _) (part_body _ _ _)
