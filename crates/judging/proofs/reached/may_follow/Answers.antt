-- `judging::reached::may_follow` meets its contract: each kind has its own phases.
use borrow.Author.Rules.{rules}
use Rattle.judging.specs.Judging.{may_follow}
use Rattle.judging.proofs.reached.may_follow.Goals as goal

pub returns-in-Atoms : goal.returns-in-Atoms
unfolding may_follow
returns-in-Atoms c = rw c.in-Atoms.is (search rules)

pub returns-in-Rule : goal.returns-in-Rule
unfolding may_follow
returns-in-Rule c = rw c.in-Rule.is c.between.ensures

pub returns-in-Clause : goal.returns-in-Clause
unfolding may_follow
returns-in-Clause c = rw c.in-Clause.is c.between-in-Clause.ensures

pub returns-in-Load : goal.returns-in-Load
unfolding may_follow
returns-in-Load c = rw c.in-Load.is c.between-in-Load.ensures

pub returns-in-Open : goal.returns-in-Open
unfolding may_follow
returns-in-Open c = rw c.in-Open.is c.between-in-Open.ensures

pub returns-in-Claim : goal.returns-in-Claim
unfolding may_follow
returns-in-Claim c = rw c.in-Claim.is c.between-in-Claim.ensures

pub returns-in-Defined : goal.returns-in-Defined
unfolding may_follow
returns-in-Defined c = rw c.in-Defined.is (search rules)
