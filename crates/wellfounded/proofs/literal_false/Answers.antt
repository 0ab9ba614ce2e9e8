-- `wellfounded::literal_false` meets its contract: each branch's test is a side of `false_read`.
use Rattle.wellfounded.proofs.Literals.{false_read}
use Rattle.wellfounded.proofs.literal_false.Goals as goal

pub returns-then-is_negated : goal.returns-then-is_negated
returns-then-is_negated c = rw (
  c.atom_of.ensures,
  false_read _ _ c.requires,
  ← c.is_negated.ensures,
  c.if-is_negated.true,
)

pub returns-else-is_negated : goal.returns-else-is_negated
returns-else-is_negated c = rw (
  c.atom_of.ensures,
  false_read _ _ c.requires,
  ← c.is_negated.ensures,
  c.if-is_negated.false,
)
