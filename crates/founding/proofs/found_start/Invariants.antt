-- `founding::found_start` meets its contract: the marks below `atom` are those to begin with.
use Rattle.wellfounded.proofs.InPlace.{Written}
use Rattle.founding.proofs.FoundingLaws.{start_mark}
use Rattle.founding.proofs.found_start.Given as goal

abbrev pub invariant-loop-atom : goal.invariant-loop-atom
invariant-loop-atom l = Written (start_mark l.defined l.values) l.initial.founded l.atom l.founded
