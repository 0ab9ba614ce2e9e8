-- `writing::parts::LevelsParts::length` meets its contract: the level, and a byte before it.
use native.Mathlib.Omega.{arith}
use Rattle.writing.specs.internal.Parts.{level_part}
use Rattle.writing.proofs.parts.LevelsParts.length.Goals as goal

pub returns : goal.returns
unfolding level_part
returns c = record { is = omega (arith, c.width.ensures.0); few = omega (arith, c.width.ensures.1) }
