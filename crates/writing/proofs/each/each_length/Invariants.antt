-- `writing::each::each_length` meets its contract: the parts passed are in the total.
use Rattle.writing.proofs.LengthLaws.{Adding}
use Rattle.writing.proofs.each.each_length.Given as goal

abbrev pub invariant-loop-place : goal.invariant-loop-place
invariant-loop-place g l = Adding (g.P.Parts.part l.parts) g.P.Parts.most l.place l.total
