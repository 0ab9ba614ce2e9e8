-- `lists::stores::clear` meets its contract: the front is filled with 0, and the rest stays.
use Rattle.lists.proofs.StoreLaws.{cleared_lem}
use Rattle.lists.proofs.stores.clear.Goals as goal

pub returns : goal.returns
returns c = cleared_lem _ _ c.min-end.ensures (c.fill.ensures.after (λ y e. e))
