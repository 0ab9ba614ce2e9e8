-- `tables::load_rows::is_index` meets its contract: what is not negative is at least 0.
use lib.IntN.{pos}
use lib.ListN.{get_or}
use Rattle.tables.proofs.RowFaults.{index_test_lem}
use Rattle.tables.proofs.load_rows.is_index.Goals as goal

pub returns : goal.returns
returns c = let a = c.args in index_test_lem (get_or a.loads.now a.place (pos 0)) c.result-1.given
