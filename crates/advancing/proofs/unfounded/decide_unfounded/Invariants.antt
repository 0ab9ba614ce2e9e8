-- `advancing::unfounded::decide_unfounded` meets its contract: before each atom the unfounded ones below it have been made false and queued.
use Rattle.advancing.proofs.NotingLaws.{BelowDecided}
use Rattle.advancing.proofs.unfounded.decide_unfounded.Given as goal

abbrev pub invariant-loop-atom : goal.invariant-loop-atom
invariant-loop-atom l = BelowDecided l.founded l.initial.values l.initial.queue l.end l.atom l.values l.queue l.behind
