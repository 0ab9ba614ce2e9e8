-- `writing::parts::LevelsParts::put` meets its contract: the level stands behind the space.
use native.Mathlib.Omega.{arith}
use Rattle.printing.proofs.PutLaws.{puts_then}
use Rattle.writing.specs.internal.Parts.{level_part}
use Rattle.writing.proofs.parts.LevelsParts.put.Goals as goal

pub put-begun-requires : goal.put-begun-requires
unfolding level_part
put-begun-requires c = omega (arith, c.requires.room)

pub put_decimal-requires : goal.put_decimal-requires
unfolding level_part
put_decimal-requires c = (omega arith, omega (arith, c.requires.room, c.put-begun.ensures.answered))

pub returns : goal.returns
unfolding level_part
returns c = puts_then c.put-begun.ensures c.put_decimal.ensures
