-- `founding::mark_founded` meets its contract: further passes lead to the founded atoms, and a pass that marks none is there.
-- The measure is what the last pass marked and what is still unmarked, which is what was unmarked before that pass.
use mathlib.Core.Path.{◌∙◌}
use native.Mathlib.Omega.{arith}
use Rattle.founding.proofs.FoundingLaws.{found_from_lem, founding_start, founding_turn, founding_end}
use Rattle.founding.proofs.mark_founded.Goals as goal

pub found_start-requires : goal.found_start-requires
found_start-requires c = (c.requires.markable.room, c.requires.founded_len)

pub loop-marked-init : goal.loop-marked-init
loop-marked-init c = (omega arith, founding_start _)

pub found_pass-marked-requires : goal.found_pass-marked-requires
found_pass-marked-requires c = record { rows = c.requires.markable.rows; room = omega (arith, c.requires.markable.room, c.found_start.auto.founded) }

pub loop-marked-smaller : goal.loop-marked-smaller
loop-marked-smaller c = omega (arith, c.found_pass-marked.ensures.fewer)

pub loop-marked-preserved : goal.loop-marked-preserved
loop-marked-preserved c = let inv = c.loop-marked.invariant in
    (c.found_pass-marked.auto.founded ∙ inv.0, founding_turn c.found_pass-marked.ensures inv.1)

pub shape_of-founded : goal.shape_of-founded
shape_of-founded c = c.loop-marked.invariant.0 ∙ c.found_start.auto.founded

pub returns : goal.returns
returns c = founding_end (omega arith) c.loop-marked.invariant.1
    ∙ found_from_lem _ _ _ _ _ _ c.found_start.auto.founded c.found_start.ensures
