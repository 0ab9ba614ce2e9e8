-- `advancing::levels::note_levels` meets its contract: before each atom of the part those before it have their level.
use Prim.Native.Nat.{◌+◌}
use Rattle.advancing.specs.internal.Noting.{Noted}
use Rattle.advancing.proofs.levels.note_levels.Given as goal

abbrev pub invariant-loop-atom : goal.invariant-loop-atom
invariant-loop-atom l = Noted l.queue l.from (l.from + l.atom-index) l.level l.values l.starts l.initial.levels l.levels l.due
