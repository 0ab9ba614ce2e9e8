-- `propagation::queues::push` meets its contract: an atom that is decided is left alone, another gets its value and its place in the queue.
use Rattle.propagation.proofs.QueueLaws.{pushes_none, pushes_fits, pushes_put}
use Rattle.propagation.proofs.queues.push.Goals as goal

pub returns-then-values-atom-lt2 : goal.returns-then-values-atom-lt2
returns-then-values-atom-lt2 c = pushes_none _ _ _ _ c.requires _ c.if-values-atom-lt2.true

pub bounds-queue-end : goal.bounds-queue-end
bounds-queue-end c = pushes_fits _ _ _ _ c.requires c.if-values-atom-lt2.false

pub returns : goal.returns
returns c = pushes_put _ _ _ _ c.requires c.if-values-atom-lt2.false _
