-- `writing::book::put_atoms` meets its contract: word, number and end of the line stand one behind the other.
use native.Mathlib.Omega.{arith}
use Rattle.writing.proofs.TextLaws.{parts_length, puts_parts, atoms_parts}
use Rattle.writing.proofs.book.put_atoms.Goals as goal

pub put-begun-requires : goal.put-begun-requires
put-begun-requires c = omega (arith, parts_length (atoms_parts c.args.atoms))

pub put_decimal-numbered-requires : goal.put_decimal-numbered-requires
put_decimal-numbered-requires c = omega (arith, parts_length (atoms_parts c.args.atoms))

pub put-requires : goal.put-requires
put-requires c = omega (arith, parts_length (atoms_parts c.args.atoms))

pub returns : goal.returns
returns c = puts_parts (atoms_parts _) c.put-begun.ensures c.put_decimal-numbered.ensures c.put.ensures
