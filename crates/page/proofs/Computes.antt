-- The definitions of this crate, and of those below it, that a sample computes through: `unfolding computes` opens them all.
-- Assumes nothing.
use Rattle.sorting.proofs.Computes.{computes as sorting-computes}
use Rattle.printing.proofs.Computes.{computes as printing-computes}
use Rattle.page.specs.Pages.{verdict_line, made_line, atom_line, priority_of, page_key, by_page_key, atoms_in_order, lines_of, atom_lines}
use Rattle.page.specs.Pages.{page_of}

unfoldable opens_pages : Unit {0}
unfolding verdict_line made_line atom_line priority_of page_key by_page_key atoms_in_order lines_of atom_lines page_of
opens_pages = tt

unfoldable pub computes : Unit {0}
unfolding sorting-computes printing-computes opens_pages
computes = tt
