-- `report::report` meets its contract: the page of the text's outcome, in a page that holds every report.
use mathlib.Core.Path.{ap₂}
use mathlib.Core.Bool.{Bool, true, ◌&&◌}
use borrow.Author.Rules.{rules}
use Rattle.report.proofs.ReportLaws.{report_short, atoms_within, printable, report_written}
use Rattle.report.proofs.report.Goals as goal

pub returns-then-page-lt-PAGE_SIZE : goal.returns-then-page-lt-PAGE_SIZE
returns-then-page-lt-PAGE_SIZE c = report_short _ _ c.if-page-lt-PAGE_SIZE.true

pub slice_bounds-put_page-end : goal.slice_bounds-put_page-end
slice_bounds-put_page-end c = let few = atoms_within _ _ _ c.outcome_of-outcome.ensures in
    let long = c.outcome_of-outcome.auto.values in
    search rules

pub slice_bounds-put_page-end-2 : goal.slice_bounds-put_page-end-2
slice_bounds-put_page-end-2 c = let few = atoms_within _ _ _ c.outcome_of-outcome.ensures in
    let long = c.outcome_of-outcome.auto.levels in
    search rules

pub put_page-requires-clause-printable : goal.put_page-requires-clause-printable
put_page-requires-clause-printable c = (printable _ _ _ c.outcome_of-outcome.ensures true _ c.if-page-lt-PAGE_SIZE.false).0

pub put_page-requires-clause-verdict_bound : goal.put_page-requires-clause-verdict_bound
put_page-requires-clause-verdict_bound c = (printable _ _ _ c.outcome_of-outcome.ensures _ _ c.if-page-lt-PAGE_SIZE.false).1

pub returns : goal.returns
returns c = report_written _ _ _ c.outcome_of-outcome.ensures c.if-page-lt-PAGE_SIZE.false
    (ap₂ (λ (a b : Bool). a && b) c.is_open.ensures c.is_made.ensures) c.put_page.ensures
