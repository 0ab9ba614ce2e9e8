-- The definitions of this crate, and of those below it, that a sample computes through: `unfolding computes` opens them all.
-- Assumes nothing.
use Rattle.items.proofs.Computes.{computes as items-computes}
use Rattle.judging.proofs.Computes.{computes as judging-computes}
use Rattle.forms.specs.Entries.{literals_in, terms_in, rule_row, clause_row, load_row, ones_at, marks_given, state_values, state_levels, entries_of}
use Rattle.forms.specs.Entries.{given_anew, joined_by, joined, entries_from, book_entries}
use Rattle.forms.specs.Contents.{over}

unfoldable opens_entries : Unit {0}
unfolding literals_in terms_in rule_row clause_row load_row ones_at marks_given state_values state_levels entries_of given_anew joined_by joined entries_from book_entries over
opens_entries = tt

unfoldable pub computes : Unit {0}
unfolding items-computes judging-computes opens_entries
computes = tt
