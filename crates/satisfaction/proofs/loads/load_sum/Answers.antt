-- `satisfaction::loads::load_sum` meets its contract: the terms at `start` are those at the beginning of the parts that are scanned.
use mathlib.Core.Path.{◌∙◌, ap}
use mir.Syntax.{w32}
use mir.Facts.{to_z-of_z}
use Rattle.satisfaction.specs.Satisfied.{load_sum}
use Rattle.satisfaction.proofs.LoadLaws.{terms_part, part_terms}
use Rattle.satisfaction.proofs.loads.load_sum.Goals as goal

pub terms_sum-requires : goal.terms_sum-requires
terms_sum-requires c = terms_part c.requires

pub returns : goal.returns
returns c = to_z-of_z {w = w32} {z = c.terms_sum.result} (record { sfits = c.terms_sum.type_inv })
    ∙ c.terms_sum.ensures
    ∙ ap (load_sum _) (part_terms _ _ _ _)
