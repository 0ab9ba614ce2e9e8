-- `roundtrips::rewrite` meets its contract: the contracts of the writer and the reader, and the round trip.
use mathlib.Core.Path.{refl, ap}
use Rattle.writing.specs.Writing.{length_in}
use Rattle.roundtrips.proofs.Written.{written_within}
use Rattle.roundtrips.proofs.Rewriting.{rewrite_refused, rewrite_read}
use Rattle.roundtrips.proofs.rewrite.Goals as goal

pub returns-in-Err : goal.returns-in-Err
returns-in-Err c = rewrite_refused _ _ _ refl c.write-written.ensures c.in-Err.is c.answer_of.ensures

pub slice_bounds-read-end : goal.slice_bounds-read-end
slice_bounds-read-end c = rw c.write-written.auto.text (rw (ap length_in c.in-Ok.is) at (written_within c.write-written.ensures))

pub returns : goal.returns
returns c = rewrite_read _ _ _ refl c.write-written.ensures c.in-Ok.is
    c.slice_known-6-1.given c.slice_known-7-1.given
    c.read.ensures
