-- `tables::row_faults::bad_literal` meets its contract: the highest literal is an atom's, so that each is; or the search tells.
use Rattle.std.proofs.lemmas.Iterator.{YieldsList-from_slice}
use Rattle.std.proofs.lemmas.Iterator.Consumers.{YieldsList-from_copied, max_from_yields_List}
use Rattle.std.proofs.lemmas.Iterator.Adapters.{option_map_id}
use mathlib.Core.Path.{sym, ◌∙◌}
use Rattle.tables.proofs.RowFaults.{none_beyond}
use Rattle.tables.proofs.row_faults.bad_literal.Goals as goal

pub returns-then-atom_of-atoms : goal.returns-then-atom_of-atoms
returns-then-atom_of-atoms c = let literals = c.args.literals.now in
    let is = sym (option_map_id _) ∙ max_from_yields_List c.copied.result _ c.max.ensures.ran (YieldsList-from_copied (YieldsList-from_slice literals cc)) in
    sym (none_beyond _ literals _ is (rw (c.atom_of.ensures, c.unwrap_or-highest.ensures) at c.if-atom_of-atoms.true))
