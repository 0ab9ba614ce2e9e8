-- `samples::pages::show_page` meets its contract: a report is no longer than the page.
use borrow.Author.Rules.{rules}
use Rattle.report.proofs.ReportLaws.{report_fits}
use Rattle.samples.proofs.pages.show_page.Goals as goal

pub slice_bounds-write_all-end : goal.slice_bounds-write_all-end
slice_bounds-write_all-end g c = let short = report_fits c.report-printed.ensures in
    let long = c.report-printed.auto.page in
    search rules
