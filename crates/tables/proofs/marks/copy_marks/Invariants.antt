-- `tables::marks::copy_marks` meets its contract: the atoms passed have the marks that are copied.
use lib.ListN.{get_or}
use Rattle.wellfounded.proofs.InPlace.{Written}
use Rattle.tables.proofs.marks.copy_marks.Given as goal

abbrev pub invariant-loop-atom : goal.invariant-loop-atom
invariant-loop-atom l = Written (λ k. get_or l.marks k 0) l.initial.defined l.atom l.defined
