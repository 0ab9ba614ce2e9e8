-- `lists::stores::store_clause` meets its contract: two stores in turn make the row.
use Rattle.lists.proofs.StoreLaws.{clause_row_lem}
use Rattle.lists.proofs.stores.store_clause.Goals as goal

pub returns : goal.returns
returns c = clause_row_lem _ _ _ _ _ _ c.store.ensures c.store-2.ensures c.requires.1 c.requires.2
