-- `lines::ended` meets its contract: each way out is a case of the definition.
use borrow.Author.Rules.{rules}
use Rattle.lines.specs.internal.Walks.{ended_at}
use Rattle.lines.proofs.ended.Goals as goal

pub returns-then-lt : goal.returns-then-lt
unfolding ended_at
returns-then-lt c = search rules

pub returns : goal.returns
unfolding ended_at
returns c = search rules
