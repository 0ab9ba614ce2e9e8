-- The definitions of this crate, and of those below it, that a sample computes through: `unfolding computes` opens them all.
-- Assumes nothing.
use Rattle.outcome.proofs.Computes.{computes as outcome-computes}
use Rattle.page.proofs.Computes.{computes as page-computes}
use Rattle.report.specs.Reports.{is_open_state, prints_atoms, outcome_page, report_of}

unfoldable opens_reports : Unit {0}
unfolding is_open_state prints_atoms outcome_page report_of
opens_reports = tt

unfoldable pub computes : Unit {0}
unfolding outcome-computes page-computes opens_reports
computes = tt
