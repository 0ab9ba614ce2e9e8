-- `lists::stores::store_rule` meets its contract: three stores in turn make the row.
use Rattle.lists.proofs.StoreLaws.{rule_row_lem}
use Rattle.lists.proofs.stores.store_rule.Goals as goal

pub returns : goal.returns
returns c = λ small.
    rule_row_lem _ _ _ _ _ _ _ _ c.store.ensures c.store-2.ensures c.store-3.ensures small c.requires.1 c.requires.2
