-- `page::put_lines` meets its contract: the lines of the atoms passed are on the page.
use native.Mathlib.Omega.{arith}
use Rattle.printing.proofs.Joining.{joined_start, joined_more, joined_fits, joined_end}
use Rattle.page.proofs.Listing.{lines_placed}
use Rattle.page.proofs.put_lines.Goals as goal

pub loop-atom-init : goal.loop-atom-init
loop-atom-init c = joined_start _ _ _

pub put_atom-next-requires-clause-level_in_bounds : goal.put_atom-next-requires-clause-level_in_bounds
put_atom-next-requires-clause-level_in_bounds c =
    joined_fits _ _ _ _ _ _ _ c.loop-atom-test.true (rw (lines_placed c.args.values.now c.args.levels.now c.args.atoms.now) at c.requires.atoms_in_bounds) c.loop-atom.invariant

pub loop-atom-preserved : goal.loop-atom-preserved
loop-atom-preserved c = joined_more _ _ c.loop-atom.invariant c.put_atom-next.ensures

pub returns : goal.returns
returns c = rw (lines_placed c.args.values.now c.args.levels.now c.args.atoms.now) (joined_end _ _ _ _ _ _ _ (omega arith) (omega arith) c.loop-atom.invariant)
