-- `checker::support::body_supports` meets its contract: a body at `start` is one at the beginning of the part that is scanned.
use mathlib.Core.Path.{◌∙◌, ap}
use Rattle.wellfounded.specs.Lists.{all}
use Rattle.wellfounded.proofs.Scan.{part_scannable, part_body}
use Rattle.checker.proofs.support.body_supports.Goals as goal

pub literals_support-requires : goal.literals_support-requires
literals_support-requires c = (part_scannable c.requires.0, c.requires.1)

pub returns : goal.returns
returns c = c.literals_support.ensures ∙ ap (all _) (part_body _ _ _)
