-- `samplelist::put_book_a` meets its contract: the book, and the state form behind it.
use native.Mathlib.Omega.{arith}
use Rattle.printing.proofs.PutLaws.{puts_then, puts_length}
use Rattle.samplelist.specs.Samples.{book_a, bytes}
use Rattle.samplelist.proofs.put_book_a.Goals as goal

pub put-after_book-requires : goal.put-after_book-requires
unfolding book_a bytes
put-after_book-requires c = omega (arith, c.requires)

pub put-requires : goal.put-requires
unfolding book_a bytes
put-requires c = omega (arith, c.requires, c.put-after_book.ensures.answered, puts_length c.put-after_book.ensures)

pub returns : goal.returns
unfolding book_a bytes
returns c = puts_then c.put-after_book.ensures c.put.ensures
