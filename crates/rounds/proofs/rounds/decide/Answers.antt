-- `rounds::rounds::decide` meets its contract: what is decided of the atoms passed is that of the definitions, the others are as they were.
use native.Mathlib.Omega.{arith}
use Rattle.wellfounded.proofs.Lists.{count_le}
use Rattle.rounds.specs.internal.Deciding.{decides}
use Rattle.rounds.proofs.RoundLaws.{atom_small, deciding_start, deciding_turn, deciding_end}
use Rattle.rounds.proofs.rounds.decide.Goals as goal

pub loop-atom-init : goal.loop-atom-init
loop-atom-init c = deciding_start c.requires

pub overflow_add-decided : goal.overflow_add-decided
overflow_add-decided c = omega (arith, c.loop-atom.invariant.many, count_le c.loop-atom.atom (decides c.args.values.now c.args.firing.now c.args.founded.now), atom_small c.decide_atom-changed.ensures)

pub loop-atom-preserved : goal.loop-atom-preserved
loop-atom-preserved c = deciding_turn c.requires (omega arith) c.decide_atom-changed.ensures c.loop-atom.invariant

pub returns : goal.returns
returns c = deciding_end c.requires (omega arith) c.loop-atom.invariant
