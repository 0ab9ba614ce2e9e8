-- `advancing::unfounded::decide_if_unfounded` meets its contract: a marked atom is left alone, another is decided.
use Rattle.advancing.proofs.NotingLaws.{unfounded_none, unfounded_put}
use Rattle.advancing.proofs.unfounded.decide_if_unfounded.Goals as goal

pub returns-then-founded-atom-eq1 : goal.returns-then-founded-atom-eq1
returns-then-founded-atom-eq1 c = unfounded_none _ _ _ _ _ c.if-founded-atom-eq1.true

pub returns : goal.returns
returns c = unfounded_put _ _ _ _ _ c.if-founded-atom-eq1.false c.push.ensures
