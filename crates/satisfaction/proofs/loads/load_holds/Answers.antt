-- `satisfaction::loads::load_holds` meets its contract: the row's sum, from its start and of its size, is tried against its bounds.
use mathlib.Core.Path.{◌≡◌, ◌∙◌}
use mir.Syntax.{w32}
use mir.Val.{to_z, of_z}
use mir.Facts.{to_z-of_z}
use Rattle.satisfaction.specs.Satisfied.{load_sum}
use Rattle.tables.specs.Loads.{load_start, load_size, terms_at}
use Rattle.satisfaction.proofs.LoadLaws.{row_scannable, row_holds}
use Rattle.satisfaction.proofs.loads.load_holds.Goals as goal

pub load_sum-sum-requires : goal.load_sum-sum-requires
load_sum-sum-requires c = rw (c.load_start-start.ensures.is, c.load_size-size.ensures.is) (row_scannable _ c.requires.0 c.requires.1)

pub returns : goal.returns
returns c =
    let sum_is : to_z w32 (of_z w32 c.load_sum-sum.result) ≡ load_sum c.args.values.now (terms_at c.args.load_literals.now c.args.minutes.now (load_start c.args.loads.now c.args.row) (load_size c.args.loads.now c.args.row)) =
    to_z-of_z {w = w32} {z = c.load_sum-sum.result} (record { sfits = c.load_sum-sum.type_inv })
    ∙ rw (c.load_start-start.ensures.is, c.load_size-size.ensures.is) at c.load_sum-sum.ensures in
    c.within_bounds.ensures ∙ row_holds _ _ _ _ _ (sum_is)
