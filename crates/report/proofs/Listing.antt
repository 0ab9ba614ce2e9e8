-- What the report of a text lists: every atom once and in order, and no other list is that. So a report is told by its lines alone.
-- Assumes nothing.
use mathlib.Core.Path.{◌≡◌}
use mathlib.Core.Bool.{true, false}
use mathlib.Core.List.{List, ◌++◌}
use Prim.Native.Nat.{ℕ}
use Rattle.evaluator.specs.Evaluate.{is_made}
use Rattle.outcome.specs.Outcomes.{outcome_of}
use Rattle.outcome.proofs.Bounds.{outcome_bounded, levels_within_rounds}
use Rattle.page.specs.Pages.{verdict_line, made_line, atoms_in_order, lines_of, atom_lines, page_of}
use Rattle.page.specs.Order.{PageOrder}
use Rattle.page.proofs.Order.{page_order, page_only}
use Rattle.report.specs.Reports.{prints_atoms, outcome_page, report_of}

module _ (text : List ℕ) where
  -- The atoms whose lines a report has, if it has any.
  abbrev pub listed_atoms : List ℕ
  listed_atoms = atoms_in_order (outcome_of text).values (outcome_of text).levels (outcome_of text).rounds

  pub report_order : PageOrder (outcome_of text).values (outcome_of text).levels listed_atoms
  report_order =
      page_order (outcome_of text).values (outcome_of text).levels (outcome_of text).rounds (outcome_bounded text).values (levels_within_rounds text)

  pub report_only : {atoms : List ℕ} → PageOrder (outcome_of text).values (outcome_of text).levels atoms → atoms ≡ listed_atoms
  report_only o = page_only (outcome_of text).rounds (outcome_bounded text).values (levels_within_rounds text) o

  -- A report with atoms is the line of the rounds, a line for each atom in the page's order, and the verdict's line;
  pub report_lists :
      (atoms : List ℕ) → prints_atoms (outcome_of text).state (is_made (outcome_of text).verdict) ≡ true →
      PageOrder (outcome_of text).values (outcome_of text).levels atoms →
      report_of text ≡
      made_line (outcome_of text).rounds ++ (lines_of (outcome_of text).values (outcome_of text).levels atoms ++ verdict_line (outcome_of text).verdict)
  unfolding report_of outcome_page page_of atom_lines
  report_lists atoms t o = rw (t, report_only o)

  -- any other is the verdict's line alone.
  pub report_alone :
      prints_atoms (outcome_of text).state (is_made (outcome_of text).verdict) ≡ false → report_of text ≡ verdict_line (outcome_of text).verdict
  unfolding report_of outcome_page page_of
  report_alone f = rw f
