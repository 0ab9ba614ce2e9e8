-- `satisfaction::loads::terms_sum` meets its contract: the sum so far and the terms from `place` on come to the sum of the row.
use Rattle.satisfaction.proofs.LoadLaws.{Summed}
use Rattle.satisfaction.proofs.loads.terms_sum.Given as goal

abbrev pub invariant-loop-place : goal.invariant-loop-place
invariant-loop-place l = Summed l.values l.load_literals l.minutes l.size l.place l.sum
