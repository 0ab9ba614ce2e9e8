-- `tables::values::not_held_atom` meets its contract: the highest entry is 0 or 1, so that each is; or the search tells.
use Rattle.std.proofs.lemmas.Iterator.{YieldsList-from_slice}
use Rattle.std.proofs.lemmas.Iterator.Consumers.{YieldsList-from_copied, max_from_yields_List}
use Rattle.std.proofs.lemmas.Iterator.Adapters.{option_map_id}
use Rattle.std.proofs.Common.{rules}
use mathlib.Core.Path.{sym, ◌∙◌}
use Rattle.tables.proofs.MarkLaws.{not_held_at}
use Rattle.tables.proofs.RowFaults.{none_unheld}
use Rattle.tables.proofs.values.not_held_atom.Goals as goal

pub returns-then-highest-le1 : goal.returns-then-highest-le1
returns-then-highest-le1 c = let entries = c.args.entries.now in
    let is = sym (option_map_id _) ∙ max_from_yields_List c.copied.result _ c.max.ensures.ran (YieldsList-from_copied (YieldsList-from_slice entries cc)) in
    sym (none_unheld entries _ is (rw c.unwrap_or-highest.ensures at c.if-highest-le1.true))

pub returns : goal.returns
returns c = c.lowest.ensures _ (λ place told l met. search rules ∙ sym (not_held_at c.args.entries.now place l))
