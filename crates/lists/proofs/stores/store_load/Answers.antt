-- `lists::stores::store_load` meets its contract: four stores in turn make the row.
use Rattle.lists.proofs.StoreLaws.{load_row_lem}
use Rattle.lists.proofs.stores.store_load.Goals as goal

pub returns : goal.returns
returns c = load_row_lem c.args.loads.now _ _ _ _ _ _ _ c.put.ensures c.put-2.ensures c.put-3.ensures c.put-4.ensures
    c.ranges.low c.ranges.high c.requires.1 c.requires.2
