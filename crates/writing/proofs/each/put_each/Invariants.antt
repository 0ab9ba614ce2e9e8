-- `writing::each::put_each` meets its contract: the parts passed are in the text.
use Rattle.printing.proofs.Joining.{Joined}
use Rattle.writing.proofs.each.put_each.Given as goal

abbrev pub invariant-loop-place : goal.invariant-loop-place
invariant-loop-place g l = Joined l.initial.text l.at (g.P.Parts.part l.parts) l.place l.next l.text
