-- `founding::found_start` meets its contract: the marks below `atom` are those to begin with.
use native.Mathlib.Omega.{arith}
use Rattle.founding.specs.internal.Founding.{found_start}
use Rattle.wellfounded.proofs.InPlace.{written_end}
use Rattle.founding.proofs.found_start.Goals as goal

pub returns : goal.returns
unfolding found_start
returns c = written_end (omega arith) c.loop-atom.invariant
