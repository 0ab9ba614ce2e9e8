-- `forms::atom_bound` meets its contract: before an atoms line the bound is that of the largest book.
use borrow.Author.Rules.{rules}
use Rattle.judging.specs.Judging.{atom_bound}
use Rattle.forms.proofs.atom_bound.Goals as goal

pub returns-then-eq : goal.returns-then-eq
unfolding atom_bound
returns-then-eq c = search rules

pub returns-else-eq : goal.returns-else-eq
unfolding atom_bound
returns-else-eq c = search rules
