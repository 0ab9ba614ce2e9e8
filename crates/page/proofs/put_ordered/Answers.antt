-- `page::put_ordered` meets its contract: the atoms are put in order, then their lines.
use Rattle.page.proofs.OrderingLaws.{ordered_lines}
use Rattle.page.proofs.put_ordered.Goals as goal

pub put_lines-requires : goal.put_lines-requires
put_lines-requires c =
    let ready = ordered_lines c.requires.keys_fit c.args.at c.order_atoms.ensures c.requires.slots_in_bounds in
    record { listable = ready.0; atoms_in_bounds = ready.1 }

pub returns : goal.returns
returns c = rw c.order_atoms.ensures at c.put_lines.ensures
