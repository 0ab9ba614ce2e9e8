-- `writing::lengths::defined_length` meets its contract: where the marked atoms have no bytes there are none.
use Rattle.writing.proofs.LengthLaws.{defined_counts, defined_empty}
use Rattle.writing.proofs.lengths.defined_length.Goals as goal

pub returns-then-named-eq0 : goal.returns-then-named-eq0
returns-then-named-eq0 c = defined_empty c.args.marks.now _ c.each_length-named.ensures.is c.if-named-eq0.true

pub returns : goal.returns
returns c = defined_counts c.args.marks.now _ c.requires c.each_length-named.ensures c.if-named-eq0.false
