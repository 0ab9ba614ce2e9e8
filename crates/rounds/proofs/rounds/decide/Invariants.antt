-- `rounds::rounds::decide` meets its contract: what is decided of the atoms passed is that of the definitions, the others are as they were.
use Rattle.rounds.proofs.RoundLaws.{Deciding}
use Rattle.rounds.proofs.rounds.decide.Given as goal

abbrev pub invariant-loop-atom : goal.invariant-loop-atom
invariant-loop-atom l = Deciding l.level l.founded l.negated l.firing l.initial.values l.initial.levels l.decided l.renewed l.values l.levels l.atom
