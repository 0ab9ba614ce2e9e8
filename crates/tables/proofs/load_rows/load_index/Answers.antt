-- `tables::load_rows::load_index` meets its contract: an entry that is not negative is its own magnitude.
use lib.IntN.{pos}
use lib.ListN.{get_or}
use native.Mathlib.Omega.{arith}
use Rattle.tables.proofs.RowFaults.{index_read}
use Rattle.tables.proofs.load_rows.load_index.Goals as goal

pub returns : goal.returns
returns c = let a = c.args in
    rw c.unwrap_or.ensures (index_read (get_or a.loads.now a.place (pos 0)) _ (omega arith) c.try_from.ensures)
