-- `propagation::counts::true_literal` meets its contract.
use Rattle.propagation.proofs.CountLaws.{literal_negated, literal_positive}
use Rattle.propagation.proofs.counts.true_literal.Goals as goal

pub returns-then-values-atom-eq0 : goal.returns-then-values-atom-eq0
returns-then-values-atom-eq0 c = literal_negated _ _ c.requires.0 c.if-values-atom-eq0.true

pub returns-else-values-atom-eq0 : goal.returns-else-values-atom-eq0
returns-else-values-atom-eq0 c = literal_positive _ _ c.requires.0 c.if-values-atom-eq0.false
