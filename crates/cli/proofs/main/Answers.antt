-- `cli::main` touches only what it has: a report is no longer than the page.
use Rattle.std.proofs.Common.{rules}
use Rattle.report.proofs.ReportLaws.{report_fits}
use Rattle.cli.proofs.main.Goals as goal

pub slice_bounds-write_all-end : goal.slice_bounds-write_all-end
slice_bounds-write_all-end c =
    let short = report_fits c.report-printed.ensures in
    let long = c.report-printed.auto.page in
    search rules
