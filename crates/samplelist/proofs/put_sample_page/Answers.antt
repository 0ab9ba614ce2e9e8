-- `samplelist::put_sample_page` meets its contract: the text is the sample's, and so is its report.
use native.Mathlib.Omega.{arith}
use Rattle.samplelist.proofs.SampleLaws.{text_short, text_front, page_front}
use Rattle.samplelist.proofs.put_sample_page.Goals as goal

pub slice_bounds-report-end : goal.slice_bounds-report-end
slice_bounds-report-end c = omega (arith, text_short c.args.sample, c.put_text-length.ensures.answered)

pub returns : goal.returns
returns c = page_front _ c.requires.0 c.requires.1 (text_front _ (omega arith) c.put_text-length.ensures) c.report.ensures
