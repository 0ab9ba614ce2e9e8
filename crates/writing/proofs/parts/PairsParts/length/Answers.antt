-- `writing::parts::PairsParts::length` meets its contract: the value, the levels, and three bytes around them.
use native.Mathlib.Omega.{arith}
use lib.ListN.{length}
use Rattle.writing.proofs.PartLaws.{pair_length}
use Rattle.writing.proofs.parts.PairsParts.length.Goals as goal

pub returns : goal.returns
returns c =
    let pairs = c.args.self.now in
    record {
      is =
          omega (
            arith,
            pair_length (length pairs.values.now) pairs.groups pairs.values.now pairs.levels.now c.args.atom,
            c.width.ensures.0,
            c.each_length.ensures.is,
          );
      few = omega (arith, c.requires.few, c.width.ensures.1, c.each_length.ensures.few);
    }
