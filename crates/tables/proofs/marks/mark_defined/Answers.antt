-- `tables::marks::mark_defined` meets its contract: heads are marked beside the declared atoms.
use native.Mathlib.Omega.{arith}
use Rattle.tables.proofs.MarkLaws.{defined_marks}
use Rattle.tables.proofs.marks.mark_defined.Goals as goal

pub mark_heads-requires : goal.mark_heads-requires
mark_heads-requires c = λ row l.
    let long = c.mark_declared.ensures.long in
    omega (arith, long, c.requires.by_index row l)

pub returns : goal.returns
returns c = defined_marks _ c.mark_declared.ensures c.mark_heads.ensures
    c.requires.marks_in_bounds
