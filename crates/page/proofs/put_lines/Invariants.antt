-- `page::put_lines` meets its contract: the lines of the atoms passed are on the page.
use Rattle.printing.proofs.Joining.{Joined}
use Rattle.page.proofs.Listing.{line_at}
use Rattle.page.proofs.put_lines.Given as goal

abbrev pub invariant-loop-atom : goal.invariant-loop-atom
invariant-loop-atom l = Joined l.initial.page l.at (line_at l.values l.levels l.atoms) l.atom-index l.next l.page
