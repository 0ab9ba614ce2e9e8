-- `writing::parts::put_literal` meets its contract: the atom behind a space, or `(not A)` by its parts.
use native.Mathlib.Omega.{arith}
use Rattle.writing.proofs.PartLaws.{even_length, odd_length, puts_even, puts_odd}
use Rattle.writing.proofs.parts.put_literal.Goals as goal

pub put_decimal-requires : goal.put_decimal-requires
put_decimal-requires c = (omega (arith, c.ranges.literal), omega (arith, even_length c.args.literal c.if-literal-eq0.true, c.put-begun.ensures.answered))

pub returns-then-literal-eq0 : goal.returns-then-literal-eq0
returns-then-literal-eq0 c = puts_even _ c.if-literal-eq0.true c.put-begun.ensures c.put_decimal.ensures

pub put-opened-requires : goal.put-opened-requires
put-opened-requires c = omega (arith, odd_length c.args.literal c.if-literal-eq0.false)

pub put_decimal-named-requires : goal.put_decimal-named-requires
put_decimal-named-requires c = (omega (arith, c.ranges.literal), omega (arith, odd_length c.args.literal c.if-literal-eq0.false, c.put-opened.ensures.answered))

pub put-requires : goal.put-requires
put-requires c = omega (arith, odd_length c.args.literal c.if-literal-eq0.false, c.put-opened.ensures.answered, c.put_decimal-named.ensures.answered)

pub returns : goal.returns
returns c = puts_odd _ c.if-literal-eq0.false c.put-opened.ensures c.put_decimal-named.ensures c.put.ensures
