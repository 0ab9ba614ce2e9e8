-- `writing::parts::PairsParts::put` meets its contract: the parts of the pair stand one behind the other.
use native.Mathlib.Omega.{arith}
use lib.ListN.{length}
use Rattle.writing.proofs.PartLaws.{pair_length, puts_pair}
use Rattle.writing.proofs.parts.PairsParts.put.Goals as goal

pub put-opened-requires : goal.put-opened-requires
put-opened-requires c =
    let pairs = c.args.self.now in
    omega (arith, c.requires.room, pair_length (length pairs.values.now) pairs.groups pairs.values.now pairs.levels.now c.args.atom)

pub put_decimal-valued-requires : goal.put_decimal-valued-requires
put_decimal-valued-requires c =
    let pairs = c.args.self.now in (
      omega arith,
      omega (
        arith,
        c.requires.room,
        pair_length (length pairs.values.now) pairs.groups pairs.values.now pairs.levels.now c.args.atom,
        c.put-opened.ensures.answered,
      ),
    )

pub put_each-levelled-requires-clause-room : goal.put_each-levelled-requires-clause-room
put_each-levelled-requires-clause-room c =
    let pairs = c.args.self.now in
    omega (
      arith,
      c.requires.room,
      pair_length (length pairs.values.now) pairs.groups pairs.values.now pairs.levels.now c.args.atom,
      c.put-opened.ensures.answered,
      c.put_decimal-valued.ensures.answered,
    )

pub put-requires : goal.put-requires
put-requires c =
    let pairs = c.args.self.now in
    omega (
      arith,
      c.requires.room,
      pair_length (length pairs.values.now) pairs.groups pairs.values.now pairs.levels.now c.args.atom,
      c.put-opened.ensures.answered,
      c.put_decimal-valued.ensures.answered,
      c.put_each-levelled.ensures.answered,
    )

pub returns : goal.returns
returns c = puts_pair _ _ _ _ _ c.put-opened.ensures c.put_decimal-valued.ensures c.put_each-levelled.ensures c.put.ensures
