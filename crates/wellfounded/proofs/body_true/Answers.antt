-- `wellfounded::body_true` meets its contract: a body at `start` is one at the beginning of the part that is scanned.
use mathlib.Core.Path.{◌∙◌, ap}
use Rattle.wellfounded.specs.Literals.{body_true}
use Rattle.wellfounded.proofs.Scan.{part_scannable, part_body}
use Rattle.wellfounded.proofs.body_true.Goals as goal

pub literals_true-requires : goal.literals_true-requires
literals_true-requires c = part_scannable c.requires

pub returns : goal.returns
returns c = c.literals_true.ensures ∙ ap (body_true _) (part_body _ _ _)
